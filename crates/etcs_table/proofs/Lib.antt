pub mod LoopLemmas
pub mod NameLemmas
pub mod ListLemmas
pub mod GroupLemmas
pub mod CountLemmas
pub mod FaultLemmas
pub mod RowLemmas
pub mod TextLemmas

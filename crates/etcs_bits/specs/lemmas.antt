-- Lemmas that definitions of this crate need. They state nothing that a contract names.
pub mod NumberLemmas
pub mod LaidLemmas
pub mod CombinedLemmas
pub mod RowLemmas
pub mod ChoiceLemmas
pub mod CutLemmas
pub mod VariableLemmas

pub mod MachineLemmas
pub mod RunLemmas
pub mod QuoteLemmas

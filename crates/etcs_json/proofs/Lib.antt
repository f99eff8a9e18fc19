pub mod ReadLemmas
pub mod KeyedLemmas
pub mod SumLemmas
pub mod AuthorityWidth
pub mod LawLemmas
pub mod FitLemmas

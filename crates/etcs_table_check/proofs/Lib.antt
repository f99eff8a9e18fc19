pub mod ReadLemmas
pub mod FoldLemmas
pub mod ShapeLemmas
pub mod CountLemmas
pub mod VerdictLemmas
pub mod LineLemmas

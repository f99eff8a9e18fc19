pub mod EndLemmas
pub mod FollowLemmas
pub mod ItemLemmas
pub mod ListLemmas
pub mod WholeLemmas
pub mod WrittenLemmas

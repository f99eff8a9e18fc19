pub mod WayLemmas
pub mod BuiltLemmas
pub mod ShortLemmas
pub mod RawLemmas
pub mod TrackLemmas
pub mod GrowthLemmas

pub mod TableLemmas
pub mod SoundLemmas

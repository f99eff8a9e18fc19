-- Lemmas that definitions of this crate need. They state nothing that a contract names.
pub mod EntryLemmas
pub mod BodyLemmas
pub mod AppendLemmas
pub mod SortedLemmas

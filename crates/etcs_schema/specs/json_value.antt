-- Read-only JSON values: the data that the trees of texts represent.
pub mod Texts

pub mod Machine
pub mod Rows
pub mod LineEnd
pub mod Fields
pub mod Reader

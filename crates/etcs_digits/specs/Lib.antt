pub mod Hexadecimal
pub mod JsonLineWriter
pub mod lemmas

-- Bits as numbers, and bits in bytes.
pub mod Number
pub mod Packed

pub mod DigitLemmas
mod HexadecimalLemmas
mod BlockLemmas
mod DecimalLemmas
mod LaneLemmas
mod JsonLineWriterLemmas

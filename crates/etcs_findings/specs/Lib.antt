pub mod Members
pub mod Writing
pub mod Findings
pub mod Refusals
pub mod Answer
pub mod Laws

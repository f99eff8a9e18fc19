pub mod Answer
pub mod Fault
pub mod Records
pub mod Findings

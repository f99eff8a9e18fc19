pub mod Refusals
pub mod Shape
pub mod Line
pub mod FindingRows
pub mod Verdict
pub mod ReportText
pub mod RefusalText
pub mod Laws

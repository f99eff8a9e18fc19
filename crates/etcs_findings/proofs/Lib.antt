pub mod MemberLemmas
pub mod WritingLemmas
pub mod RefusalLemmas
pub mod FindingLemmas
pub mod AnswerLemmas
pub mod VerdictLemmas

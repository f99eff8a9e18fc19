pub mod TelegramLemmas
pub mod FillLemmas
pub mod TextLemmas
pub mod LawLemmas
pub mod ReasonLemmas

pub mod Sizes
pub mod Header
pub mod Record
pub mod Telegram
pub mod Meaning
pub mod Text
pub mod TextMeaning
pub mod Laws

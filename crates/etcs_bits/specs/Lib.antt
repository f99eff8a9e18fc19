pub mod bits
pub mod layout
pub mod variables
pub mod Laws
pub mod lemmas

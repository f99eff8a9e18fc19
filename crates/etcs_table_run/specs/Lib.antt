pub mod TableOutput
pub mod Laws

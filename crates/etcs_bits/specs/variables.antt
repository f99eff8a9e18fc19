-- The variables of telegrams and packets, and records of a few of them.
pub mod VariableValues
pub mod Variables
pub mod VariableFormats
pub mod Identity
pub mod Level
pub mod Train3

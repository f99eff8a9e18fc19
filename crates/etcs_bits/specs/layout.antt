-- Records of variables: their rows, spellings, faults, reading, and how layouts are made of others.
pub mod Rows
pub mod Fields
pub mod Fault
pub mod FaultWords
pub mod Reading
pub mod Results
pub mod Cut
pub mod Found
pub mod Values
pub mod Combined
pub mod Growth
pub mod Laid
pub mod Struct
pub mod Choice
pub mod Format

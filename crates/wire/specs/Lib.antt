-- In reading order: numbers in bytes; what is asked; computed cases.
pub mod Bytes
pub mod Asked
pub mod Cases

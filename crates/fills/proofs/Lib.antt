pub mod Parity
pub mod Numbers

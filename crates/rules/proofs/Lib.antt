pub mod Exclude
pub mod KeepLaws
pub mod Numbers

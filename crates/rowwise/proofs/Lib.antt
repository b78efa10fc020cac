pub mod Compared
pub mod Ends

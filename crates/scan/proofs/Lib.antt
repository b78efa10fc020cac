pub mod Entries
pub mod Adding
pub mod Walking
pub mod Holding
pub mod Node

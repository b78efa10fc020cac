-- The lent lists, and what a run ends with.
pub mod Lent

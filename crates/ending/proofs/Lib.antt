-- How a run ends.
pub mod Endings

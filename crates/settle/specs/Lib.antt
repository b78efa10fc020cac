-- In reading order: what every list of a run keeps; what a look and what follows it come to.
pub mod Kept
pub mod Step

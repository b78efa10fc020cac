-- The outcome of a run as numbers and lists; a pair as numbers.
pub mod Overlay
pub mod Crossing

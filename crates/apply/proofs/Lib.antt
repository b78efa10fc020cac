-- In reading order: marks in order; the runs of the marks of each segment; the list from its back; each answer.
pub mod Derived
pub mod Ordered
pub mod Runs
pub mod Back
pub mod Answered

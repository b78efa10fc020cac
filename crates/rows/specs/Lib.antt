-- In reading order: what sorted rows are; what callers know of them.
pub mod Sorted

-- In reading order: rows without the least count; the rows that a loop turns; what sorting and merging leave; a list cleared behind its rows.
pub mod Least
pub mod Turning
pub mod Joins
pub mod Behind

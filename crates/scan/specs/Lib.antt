-- In reading order: the sums on both sides of an edge; the scan list, and what is read off it; why it is enough to look at it.
pub mod Masks
pub mod Scan
pub mod Live

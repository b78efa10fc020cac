-- In reading order: one short digit; a share, by halves of words.
pub mod Short
pub mod Halves

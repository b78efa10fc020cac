-- In reading order: the steps to the middle point, and its three ways.
pub mod Steps
pub mod Ways
pub mod Boxes

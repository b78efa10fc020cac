pub mod Orientation

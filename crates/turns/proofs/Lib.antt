-- The derived comparison of orientations.
pub mod Derived

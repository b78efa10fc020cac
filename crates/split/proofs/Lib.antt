-- Tidying.
pub mod Derived
pub mod Tidying
pub mod LookLaws
pub mod NoEndLaws

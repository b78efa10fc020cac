pub mod Order
pub mod Node
pub mod Sweeping
pub mod FillLaws
pub mod Filling

-- In reading order: what a product and a quotient are; what the nearest quotient is, and how large.
pub mod Limbs
pub mod Nearest

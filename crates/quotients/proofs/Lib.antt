-- In reading order: one digit of a long division; long division by a raised divisor; rounding.
pub mod Guess
pub mod Long
pub mod Rounding

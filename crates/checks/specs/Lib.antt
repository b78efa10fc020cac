-- In reading order: the checks and their order; the same in the words of the table; what an input without a fault has.
pub mod Checks
pub mod Exactly
pub mod Accepted

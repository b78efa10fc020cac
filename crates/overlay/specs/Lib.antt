-- In reading order: the numbers of the answers; the looks 7 to 10; the whole outcome.
pub mod Numbers
pub mod Looks
pub mod Outcome
pub mod Table
pub mod Cases

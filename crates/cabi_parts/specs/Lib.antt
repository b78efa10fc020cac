-- How many rows and marks an answer has.
pub mod Parts

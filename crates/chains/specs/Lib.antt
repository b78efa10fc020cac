-- In reading order: what the steps of splitting a segment render; how many pieces there are.
pub mod Steps
pub mod Number

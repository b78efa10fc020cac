-- In reading order: the net count so far; a list is open where some end of it is uneven.
pub mod Tally
pub mod Ends

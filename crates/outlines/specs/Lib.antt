-- In reading order: an open outline; the net count by which the code finds one.
pub mod Open
pub mod Net

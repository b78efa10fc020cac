-- A side on a line.
pub mod OnLine

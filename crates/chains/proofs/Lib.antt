-- In reading order: the points of marks, by columns and by parts; pieces and where they are written.
pub mod Points
pub mod Pieces

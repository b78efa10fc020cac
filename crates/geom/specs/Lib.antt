-- In reading order: points and segments on the grid; a segment as a row of six numbers; points off the grid. Then the laws: the order
-- of points is total, each test decides its sentence, turning twice is nothing, and what the grid bounds.
pub mod Plane
pub mod Rows
pub mod Off
pub mod Order
pub mod Tests
pub mod Turned
pub mod Limits

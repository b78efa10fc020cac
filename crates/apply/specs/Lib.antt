-- In reading order: what splitting answers and leaves, and that in numbers; where the marks of a segment start.
pub mod Answer
pub mod Said
pub mod Start

-- In reading order: how two segments cross, and that in document 01's numbers; a middle crossing, what the sides say; what comes of a pair.
pub mod Cross
pub mod Said
pub mod Middle
pub mod Sides
pub mod Outcome

-- In reading order: the middle point and the distances; a middle crossing and the steps to its point; the point in both boxes; its sizes.
pub mod Point
pub mod Middle
pub mod Sizes

-- In reading order: the rows of a view; two rows of a flat list; its rows put in order.
pub mod View
pub mod Two
pub mod Ordered

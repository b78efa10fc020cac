-- In reading order: tests and the order of points, said with T; segments that are apart; the order of points, scaled; the laws of turns;
-- the weights of a point on a segment; apart segments meet only at ends of both; means and the crossing; what the four signs make of a pair;
-- touching and crossing; apart, exactly if all common points are ends of both; no mark, exactly if apart; no mark at an end of what it marks;
-- rounding; the two quotients; the middle point in both boxes; dot products; examples.
pub mod Decide
pub mod Order
pub mod Apart
pub mod Scaled
pub mod Turns
pub mod Weights
pub mod Mean
pub mod Meeting
pub mod Pierce
pub mod Exactly
pub mod Unmarked
pub mod NoEnd
pub mod Round
pub mod Quotients
pub mod Crossing
pub mod Dot
pub mod Examples

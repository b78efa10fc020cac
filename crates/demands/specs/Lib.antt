-- In reading order: the chain of lists that a run makes, and that a run settles exactly if no refusal stands in its way; which number it answers, by the table;
-- that each list is balanced; that each is forward and in order, because marks tidied are different (`distinct_Apart` of whole), none is an end of the segment it
-- names (Clear), and so the points of a chain differ (Once) and the pieces run (Pieces); that each list has room in the work list (Lengths); that the last is
-- settled; what answer 0 says of the outcome, the bytes, and edges by their places. Theorems has the three demands in one place.
pub mod Chain
pub mod Exactly
pub mod Refusals
pub mod Even
pub mod Clear
pub mod Once
pub mod Pieces
pub mod Ordered
pub mod Settled
pub mod Answer
pub mod Bytes
pub mod Places
pub mod Theorems

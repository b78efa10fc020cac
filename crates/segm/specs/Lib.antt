-- In reading order: a segment turned to run forward, and the order of a list; merging; balance.
-- Then the laws: of the order, of what merging answers and gives, of what turning forward gives, and of the test of balance.
pub mod Forward
pub mod Merge
pub mod Balance
pub mod Order
pub mod MergeLaws
pub mod ForwardLaws
pub mod BalanceLaws

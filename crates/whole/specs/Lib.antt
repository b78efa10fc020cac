-- In reading order. Whole numbers: their order (Order), identities (Ring), both at once (Compare), signs of products (Sign), tests (Test, Decide), widths (Fit).
-- Lists: sums (Sum), orders (Total), sorting (Sorting, Lex), swaps (Swap). Rows in a flat list: of k numbers (Rows), and as records (Kind, KindLaws, KindSort),
-- read from locals (Words), appended (Append, AppendLaws), passed over in place (Pass, PassLaws), without repeats (Distinct, DistinctLaws).
-- Examples has each tool on a goal of the kind it is for: begin there.
pub mod Order
pub mod Ring
pub mod Compare
pub mod Sign
pub mod Test
pub mod Decide
pub mod Fit
pub mod Sum
pub mod Total
pub mod Sorting
pub mod Lex
pub mod Swap
pub mod Rows
pub mod Words
pub mod Kind
pub mod KindLaws
pub mod KindSort
pub mod Append
pub mod AppendLaws
pub mod Pass
pub mod PassLaws
pub mod Distinct

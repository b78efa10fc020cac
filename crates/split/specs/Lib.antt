-- In reading order: the marks of a look, none of them at an end, and none exactly if apart; what a look answers; marks tidied; both in numbers; splitting.
pub mod Marks
pub mod Look
pub mod NoEnd
pub mod Unmarked
pub mod LookLaws
pub mod Looked
pub mod Tidied
pub mod Said
pub mod Chain

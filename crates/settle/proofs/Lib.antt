-- In reading order: what each step keeps of the list; the marks of a look are in order; joining; splitting; a look; the looks within the budget.
pub mod Sound
pub mod Order
pub mod Joining
pub mod Cutting
pub mod Looking
pub mod Budget

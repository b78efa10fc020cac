-- A second answer that fits the promise is the first.
pub mod Only

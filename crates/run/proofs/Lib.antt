-- How a run starts.
pub mod Starting

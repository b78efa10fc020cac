pub mod NoRule

pub mod Still
pub mod Run
pub mod MergeLaws

-- In reading order: what the sweep is held to; the sweep over nodes.
pub mod Fill
pub mod Sweep

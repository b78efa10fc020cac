pub mod Under
pub mod Height

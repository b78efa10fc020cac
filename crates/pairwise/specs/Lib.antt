-- What the mark list holds after a look.
pub mod Listed

-- In reading order: the overlay rules and what they keep; their laws.
pub mod Keep
pub mod KeepLaws

-- In reading order: text put into a list, and its laws; an answer as text, and laws of it; computed cases.
pub mod Put
pub mod PutLaws
pub mod Text
pub mod Cases

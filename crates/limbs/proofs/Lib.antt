-- Halves of words and their products, and what settles two words and a quotient with its rest.
pub mod Words

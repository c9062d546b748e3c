-- Guides of a search: what is told of their answers.
pub mod Guiding

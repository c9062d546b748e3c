pub mod Elements
pub mod Names
pub mod Tables
pub mod Lawful

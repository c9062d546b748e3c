pub mod Diagnostics
pub mod Puttings
pub mod Readings
pub mod Writings

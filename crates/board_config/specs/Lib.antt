pub use Rattle.list_checks.specs.First
-- Faults: why a text is no board
pub mod Faults
-- Values: what a TOML value is read as
pub mod Values
-- Limits: the ranges of values
pub mod Limits
-- Keys: the value or fault of each key, and their order
pub mod Keys
-- Board: the board of a text, and what holds of every board
pub mod Board
-- Groups: what groups of keys hold
pub mod Groups

-- Plain: programmes and choices as plain lists and numbers
pub mod Plain
-- Bounds: the bounds of a programme, so that no sum passes 128 bits
pub mod Bounds
-- Views: the plain programme, side and choice of those in code
pub mod Views
-- Programme: gain, load, feasible, energy
pub mod Programme
-- Rows: the rows of both sides, capacities and weights
pub mod Rows
-- Sums: sums over the numbers below a bound
pub mod Sums
-- Laws: what is claimed of programmes and their rows
pub mod Laws

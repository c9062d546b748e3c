-- Naming: which function of a program a name stands for, and in which one an address lies
-- Named: the functions of a program in a map by the names for which they stand
-- Listing: the regions that a board lists by the names of their functions
-- Flow: blocks by their numbers: their functions, and where control goes behind them
-- Reaching: the regions that a program has where its board lists none: each root is a function that the driver calls, and a function belongs to the one root that leads to it
-- Borders: by which blocks control may enter a region, and which of them cannot be entered
-- Faults: why a board gives a program no regions, and what a result tells of it
-- Regions: the regions of a program, as a table by blocks
-- Listed: the regions of functions as the lists of a board are read
-- Rows: tables by functions: truth values, and the functions behind each function
-- Made: regions by functions, from which those of blocks are made
-- Propagation: how what is known of the roots that lead to a function spreads along the steps between functions
pub use Rattle.code_blocks.specs.Blocks
pub use Rattle.code_blocks.specs.Numbers
pub use Rattle.board_config.specs.Board
pub mod Naming
pub mod Named
pub mod Listing
pub mod Flow
pub mod Reaching
pub mod Borders
pub mod Faults
pub mod Regions
pub mod Listed
pub mod Rows
pub mod Made
pub mod Propagation

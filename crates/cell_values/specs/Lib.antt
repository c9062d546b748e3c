-- Values that may be addresses without a place, cells of memory and a store of them, and the words for which they stand.
pub use Rattle.rv32im.specs.Acts
pub mod Objects
pub mod Operations
pub mod Comparisons
pub mod Cells
pub mod Marks
pub mod Laws
pub use Rattle.cell_values.specs.Objects
pub use Rattle.cell_values.specs.Operations
pub use Rattle.cell_values.specs.Cells
pub use Rattle.cell_values.specs.Laws as CellLaws
pub mod Origins
pub mod Stands
pub mod WordLaws
pub mod Entries
pub mod Rows
pub mod Stored

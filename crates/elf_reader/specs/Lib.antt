pub use Rattle.list_checks.specs.First
pub use Rattle.rv32im.specs.Words
pub use Rattle.rv32im.specs.Memory
pub use Rattle.list_checks.specs.Tests
-- Layout: where the fields of records stand
pub mod Layout
-- Sections: what a section header says of its section
pub mod Sections
-- Names: the index of a string table
pub mod Names
-- File: what a view must be, and a view without borrows
pub mod File
-- HeaderChecks: the checks of the ELF header
pub mod HeaderChecks
-- ProgramHeaderChecks: the checks of program headers and segments
pub mod ProgramHeaderChecks
-- SectionChecks: the checks of section headers and names
pub mod SectionChecks
-- SymbolChecks: the checks of the symbol table
pub mod SymbolChecks
-- RelocationChecks: the checks of relocations
pub mod RelocationChecks
-- HeaderTables: the headers of either table inside the file
pub mod HeaderTables
-- SectionPasses: what is checked of each section header by itself
pub mod SectionPasses
-- Faults: the checks in their order
pub mod Faults
-- Placed: sections of a file without a fault
pub mod Placed
-- SymbolTables: the symbol table of such a file
pub mod SymbolTables
-- Loadable: segments of such a file
pub mod Loadable
-- Image: the memory of the segments
pub mod Image
-- Loaded: which sections are loaded
pub mod Loaded

pub use Rattle.list_checks.specs.First
pub use Rattle.rv32im.specs.Words
pub use Rattle.elf_reader.specs.File
pub use Rattle.elf_reader.specs.Loadable
-- Runs: bytes at addresses, as maps and runs
pub mod Runs
-- Records: records, and the lines that hold them
pub mod Records
-- Text: the text of a file
pub mod Text
-- Reading: what a text spells, and its first fault
pub mod Reading
-- Difference: where two maps of bytes differ
pub mod Difference
-- Laws: what is claimed of texts
pub mod Laws

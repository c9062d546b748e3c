pub use Rattle.elf_reader.specs.File
pub use Rattle.elf_reader.specs.Loaded
-- Marks: which sections are loaded, one by one
pub mod Marks
-- Code: the code of a program, and its memory as words
pub mod Code
-- Records: symbols and relocations by their numbers
pub mod Records
-- Read: views that come from reading a file
pub mod Read
pub use Rattle.loaded_file.specs.Records
-- Ranges: the ranges of objects
pub mod Ranges
-- ByteRanges: lists of byte ranges, and what they hold
pub mod ByteRanges
-- Reaches: sections by start, each with the furthest end up to it
pub mod Reaches
-- Listed: sorted lists of values of places
pub mod Listed
-- Contents: where contents of sections begin and end in the file
pub mod Contents

pub use Rattle.elf_reader.specs.File
pub use Rattle.elf_reader.specs.Loaded
pub use Rattle.elf_reader.specs.Faults
-- Pieces: numbers, tables of names and padding, byte by byte
pub mod Pieces
-- Changes: bytes that are changed where they stand
pub mod Changes
-- Parts: what is written: words, moved symbols, a segment
pub mod Parts
-- Written: the bytes of a file that is written
pub mod Written
-- Fits: changes inside a file
pub mod Fits
-- Conditions: what may be written
pub mod Conditions
-- View: what a reader finds
pub mod View
-- Images: what its segments load
pub mod Images
-- Laws: what is claimed of each byte, and of reading them
pub mod Laws

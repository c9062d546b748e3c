pub use Rattle.elf_reader.specs.Layout
pub use Rattle.elf_reader.specs.Sections
pub use Rattle.elf_reader.specs.File
pub use Rattle.elf_writer.specs.Pieces
-- Plan: what a file is asked to hold
pub mod Plan
-- Built: the file of a plan
pub mod Built
-- Planned: planned sections without their vectors
pub mod Planned
-- Readable: the view of a file of a plan
pub mod Readable
-- Workload: the generated program
pub mod Workload
-- Kernels: its kernels
pub mod Kernels
-- Parts: its symbols
pub mod Parts

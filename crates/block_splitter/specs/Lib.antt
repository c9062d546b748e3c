pub use Rattle.rv32im.specs.Sequences
pub use Rattle.code_blocks.specs.Leads
pub use Rattle.dataflow.specs.Tables
pub mod Forms
pub mod Pieces
pub mod Copies
pub mod Copying
pub mod Facts

-- Byte memories, a list and pages, and where they have room.
pub use Rattle.rv32im.specs.Words
pub use Rattle.rv32im.specs.Memory
pub mod Room
pub mod Entries
pub mod Pages

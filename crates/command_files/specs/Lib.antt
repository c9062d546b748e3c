-- Named files that are read and written, one after the other, and fault lines that are put.
pub use Rattle.printed_lines.specs.Texts
pub mod Diagnostic
pub mod Reading
pub mod Writing

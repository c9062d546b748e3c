pub mod MapText
pub mod MapFile

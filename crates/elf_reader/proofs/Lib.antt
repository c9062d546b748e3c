pub mod CheckLemmas
pub mod LoadedLemmas
pub mod NameLemmas
pub mod Overlaps
pub mod RelocationLemmas
pub mod SectionLemmas
pub mod SegmentLemmas
pub mod SymbolLemmas

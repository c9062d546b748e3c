pub mod WordLists
pub mod DigitLemmas
pub mod LineLemmas
pub mod NameLemmas
pub mod StepLemmas
pub mod SpellLemmas
pub mod LawLemmas

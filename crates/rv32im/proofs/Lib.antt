pub mod Bytes
pub mod Quotients
pub mod Sets
pub mod Effects
pub mod Meaning
pub mod WordLemmas
pub mod SequenceLemmas

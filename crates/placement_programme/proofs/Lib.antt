pub mod Answering
pub mod AscendLemmas
pub mod SumLemmas
pub mod WeightLemmas
pub mod FitLemmas
pub mod TakeLemmas
pub mod RowLemmas
pub mod NumberLemmas

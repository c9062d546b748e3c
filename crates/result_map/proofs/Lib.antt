pub mod RowLemmas
pub mod MapLemmas

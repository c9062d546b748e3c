pub mod FunctionLemmas
pub mod BlockLemmas
pub mod NameLemmas
pub mod ListingLemmas
pub mod PropagationLemmas
pub mod MarkLemmas
pub mod OrderLemmas
pub mod FormLemmas

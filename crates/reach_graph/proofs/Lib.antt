pub mod ListLemmas
pub mod MarkLemmas
pub mod QueueLemmas
pub mod PropagationLemmas

pub mod FirstLemmas
pub mod TestLemmas
pub mod StepLemmas
pub mod SortedLemmas
pub mod SumLemmas

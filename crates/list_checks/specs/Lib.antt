-- First: the first check that fails, in an order
pub mod First
-- Tests: some place passes, all do, ranges overlap
pub mod Tests
-- Sorted: searches in sorted lists
pub mod Sorted

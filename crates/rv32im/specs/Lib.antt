-- Words: sums, signs, halves and bytes of 32-bit words
pub mod Words
-- Memory: the byte at each address, and bytes, halfwords and words put there
pub mod Memory
-- Fields: the fields of an instruction word
pub mod Fields
-- Table: which word means which instruction, and which fields a word can hold
pub mod Table
-- Acts: what an instruction does to a hart, and which bytes and registers it touches
pub mod Acts
-- RegSet: a set of registers as the bits of a word
pub mod RegSet
-- Operations: which operations are alike
pub mod Operations
-- Sequences: short sequences of instructions, and the words of a list
pub mod Sequences

-- Words: what a word of code does to the flow of control (RISC-V Unprivileged ISA, "Control Transfer Instructions")
-- Meanings: which words mean an instruction, as a test (RISC-V Unprivileged ISA, "RV32/64G Instruction Set Listings": RV32I, Zifencei and RV32M)
-- Leaders: where basic blocks begin
-- Early: how a list of leaders is made
-- Flow: which leaders a pass over the words of code adds
-- Pairs: how call pairs are found, and what rests on them
-- PairLeaders: which leaders a pass over the call pairs adds
-- AllLeaders: the leaders of a program, and its call pairs, as lists
-- Laws: what holds of all leaders, and of the test for a meaning
-- Ends: how a block ends, found by walking through its words
-- Functions: the functions of a program's code: of those that overlap, the first and largest
-- Blocks: what the blocks of a program's code are
-- Edges: where control goes behind a block
-- Kept: the functions of a program as keys in their order, and the list of those that are kept
-- Numbers: the numbers of blocks, and to which of them direct edges lead
-- Steps: how a block ends behind one of its units, and what a walk through a block finds
-- Leads: the units of blocks, and the edges between blocks, by their numbers
pub use Rattle.elf_reader.specs.Loaded
pub use Rattle.loaded_file.specs.Code
pub use Rattle.loaded_file.specs.Records
pub use Rattle.loaded_file.specs.Read
pub use Rattle.list_checks.specs.First
pub use Rattle.rv32im.specs.Table
pub mod Words
pub mod Meanings
pub mod Leaders
pub mod Early
pub mod Flow
pub mod Pairs
pub mod PairLeaders
pub mod AllLeaders
pub mod Laws
pub mod Ends
pub mod Functions
pub mod Blocks
pub mod Edges
pub mod Kept
pub mod Numbers
pub mod Steps
pub mod Leads

-- Rewritable: which relocations lead to an object, and which of them tell all that is to be known of how its address is made, so that it can be made anew for another place
-- Marks: which relocations of a view are of a rewritable kind, one by one
-- Lists: the sorted lists of a view by which each relocation is compared with all symbols and all others
-- Fixed: which objects stay where they are: a definition for each rule
-- Names: the board's list of names as a set, and the rule of the list for any set of names
-- Disjoint: lists of ranges that share no byte, marks beside them, and places in them
-- Meant: what a relocation means, and which give a site by themselves
-- Aliases: into which addresses and sections relocations alias
-- Shares: which relocations give a site of any object, and by which of them an object has a site at a word with another one
-- CodeRanges: the code of a program as ranges of addresses, in the order of the sections
-- Sites: where the addresses of the objects that may move are made, and which memory is theirs or anyone's
-- LayoutFaults: the checks of a program's layout on a board, each with the fault that it tells, and their order
-- Graphs: what the graph of a file and a board is
-- Gathered: how the parts of a graph are gathered, a relocation or a symbol at a time
-- Lookups: what is looked up in a graph by an address
-- Laws: what holds of the objects that may move, in every view, or in that of a file in which no check fails
-- Spans: spans of addresses, and what two lists of them leave
-- SpanBounds: the first addresses of spans and those behind them, as sorted lists
-- Kinds: fixed memory in two parts: what is mapped, and what of it changes
pub use Rattle.elf_reader.specs.Loaded
pub use Rattle.loaded_file.specs.Code
pub use Rattle.loaded_file.specs.Records
pub use Rattle.loaded_file.specs.Ranges
pub use Rattle.loaded_file.specs.ByteRanges
pub mod Rewritable
pub mod Marks
pub mod Lists
pub mod Fixed
pub mod Names
pub mod Disjoint
pub mod Meant
pub mod Aliases
pub mod Shares
pub mod CodeRanges
pub mod Sites
pub mod LayoutFaults
pub mod Graphs
pub mod Gathered
pub mod Lookups
pub mod Laws
pub mod Spans
pub mod SpanBounds
pub mod Kinds

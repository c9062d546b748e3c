-- Live: at which units of a program a register is live: some path of units uses it before it is defined
-- Summaries: what the units of a block do together with a register
-- BackEdges: the graph along which liveness spreads, against the flow of control: node `b` is the beginning of block `b`, and behind the blocks one more node stands for every jump to an address in a register
-- Marks: words of marks, of which bit `k` is register `k`
-- Tables: what a table of live registers tells
-- Points: which registers may hold an address of an object at a unit of the code, and which objects' addresses may stand in memory: the least relations that the rules below close
-- Overlaid: which objects may be overlaid: each stands in the scratchpad while one region of the code is current, and at home while another one is
-- Flows: where what a register holds may go until a block ends, by the units that are left
-- Exposed: registers that are asked for where blocks begin, and the objects whose addresses may come to one of them, or to memory
-- Transfers: against the flow of control over the units of a block: from the places behind them to the registers before them, and the objects whose addresses they make there
-- Spreading: what is known while registers spread against the flow of control: from the beginning of a block to the places at the ends of those that lead there, and from there to the registers at their beginning
pub use Rattle.rv32im.specs.Acts
pub use Rattle.rv32im.specs.RegSet
pub use Rattle.code_blocks.specs.Edges
pub use Rattle.code_blocks.specs.Numbers
pub use Rattle.reach_graph.specs.Reaching
pub use Rattle.object_graph.specs.Lookups
pub mod Live
pub mod Summaries
pub mod BackEdges
pub mod Marks
pub mod Tables
pub mod Points
pub mod Overlaid
pub mod Flows
pub mod Exposed
pub mod Transfers
pub mod Spreading

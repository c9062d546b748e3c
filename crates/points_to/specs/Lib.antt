-- Rows: sets of places, and tables that tell for each register to which places the units of a block lead from it
-- Nodes: the graph along whose edges addresses go: its nodes are registers at the beginning and at the end of blocks, registers on the way to any indirect leader, memory, what is loaded from it, and the objects
-- Tables: what is kept of the marks that reach the nodes of a program's graph, and what a table tells
pub use Rattle.reach_graph.specs.Reaching
pub use Rattle.rv32im.specs.Acts
pub use Rattle.object_graph.specs.Lookups
pub use Rattle.code_blocks.specs.Edges
pub use Rattle.code_blocks.specs.Numbers
pub use Rattle.dataflow.specs.Points
pub use Rattle.dataflow.specs.Flows
pub mod Rows
pub mod Nodes
pub mod Tables

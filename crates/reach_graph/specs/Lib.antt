-- Reaching: which marks come to which nodes, as the least relation
pub mod Reaching
-- Queues: the nodes that wait, each once
pub mod Queues
-- Propagation: what is known while marks spread along edges
pub mod Propagation

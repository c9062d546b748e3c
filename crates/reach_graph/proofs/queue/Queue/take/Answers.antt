use Rattle.std.proofs.Common.{rules, arith}
use Rattle.reach_graph.proofs.QueueLemmas.{taken_some}
use Rattle.reach_graph.proofs.queue.Queue.take.Goals as goal

pub index_mut-requires : goal.index_mut-requires
index_mut-requires c =
    let taken = taken_some c.args.self.now.waiting.items c.pop.new.self.items c.args.self.now.waits.items c.in-Some.node c.requires (search rules) in
    let below = taken.0 in
    omega (arith, below, c.args.self.now.waits.ok)

pub returns-in-Some : goal.returns-in-Some
returns-in-Some c =
    taken_some c.args.self.now.waiting.items c.pop.new.self.items c.args.self.now.waits.items c.in-Some.node c.requires (search rules)

use Rattle.reach_graph.proofs.QueueLemmas.{added_new}
use Rattle.reach_graph.proofs.queue.Queue.add.Goals as goal

pub returns-in_ok-push : goal.returns-in_ok-push
returns-in_ok-push c =
    rw c.in_ok-push.ensures.items (added_new c.args.node c.args.self.now.waiting.items c.args.self.now.waits.items c.requires)

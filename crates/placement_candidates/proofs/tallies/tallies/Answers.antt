use Rattle.placement_candidates.proofs.TallyLemmas.{one_tally}
use Rattle.placement_candidates.proofs.tallies.tallies.Goals as goal

pub loop-k-preserved : goal.loop-k-preserved
loop-k-preserved c =
    one_tally c.args.m.now c.loop-k.k c.loop-k.made.items c.push.new.self.items c.index-m-k.result c.tally.result c.loop-k-test.true c.in_ok-push.ensures.items c.loop-k.invariant c.tally.ensures

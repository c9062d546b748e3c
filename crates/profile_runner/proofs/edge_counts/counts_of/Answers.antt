use Rattle.std.proofs.Common.{◌<◌, length, arith}
use Rattle.profile_runner.proofs.ManyLemmas.{spread_more}
use Rattle.profile_runner.proofs.edge_counts.counts_of.Goals as goal

pub loop-k-preserved : goal.loop-k-preserved
loop-k-preserved c =
    let below : c.loop-k.k < length c.args.row.now = omega arith in
    spread_more c.args.row.now c.loop-k.k c.edge_in-edge.result c.loop-k.counts.entries c.insert.new.self.entries c.requires below c.edge_in-edge.ensures c.loop-k.invariant c.in_ok-insert.ensures.entries

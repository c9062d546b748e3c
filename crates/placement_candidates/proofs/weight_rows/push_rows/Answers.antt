use Rattle.std.proofs.Common.{◌++◌}
use Rattle.placement_programme.specs.Rows.{in_rows}
use Rattle.placement_candidates.proofs.RowLemmas.{one_row}
use Rattle.placement_candidates.proofs.weight_rows.push_rows.Goals as goal

pub loop-k-preserved : goal.loop-k-preserved
loop-k-preserved c =
    one_row c.loop-k.weights.items c.push.new.self.items (c.args.weights.now.items ++ in_rows c.args.first c.args.count c.args.value) c.args.first c.args.count c.loop-k.k c.args.value c.loop-k-test.true c.in_ok-push.ensures.items c.loop-k.invariant

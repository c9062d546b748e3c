use Rattle.std.proofs.Common.{◌+◌, length, get_or, refl, arith}
use Rattle.placement_programme.proofs.AscendLemmas.{row_below}
use Rattle.certificate_checker.specs.RowWise.{plain_rows}
use Rattle.certificate_checker.proofs.RowWiseLemmas.{entered_more}
use Rattle.certificate_checker.proofs.row_wise.push_weights.Goals as goal

pub push_weight-requires : goal.push_weight-requires
push_weight-requires c =
    let below = row_below 0 (length c.args.rows.now) c.args.weights.now c.loop-entry.entry-index (0, 0) c.requires c.loop-entry-test.true in
    let same = c.loop-entry.auto.rows in
    omega (arith, below, same)

pub loop-entry-preserved : goal.loop-entry-preserved
loop-entry-preserved c =
    let ws = c.args.weights.now in
    let i = c.loop-entry.entry-index in
    entered_more c.args.number ws (plain_rows c.args.rows.now) (plain_rows c.loop-entry.rows) (plain_rows c.push_weight.new.rows) i (i + 1) (0, 0) (get_or ws i (0, 0)) (omega arith) c.loop-entry-test.true refl c.loop-entry.invariant c.in_ok-push_weight.ensures

use Rattle.std.proofs.Common.{sym, arith}
use Rattle.placement_programme.proofs.WeightLemmas.{weight_found, weight_none}
use Rattle.placement_programme.proofs.rows.value_in.Goals as goal
use Rattle.placement_programme.proofs.rows.value_in.Goals.{else-place-entries-via-then-place-entries+else-entries-place, else-place-entries-via-else-place-entries}

pub returns-then-entries-place : goal.returns-then-entries-place
returns-then-entries-place c =
    sym (weight_found 0 c.requires.0 c.args.entries.now c.count_before-place.result c.args.row (0, 0) c.requires.1 c.if-place-entries.true c.if-entries-place.true)

pub returns-else-place-entries : goal.returns-else-place-entries
returns-else-place-entries c =
    sym (weight_none c.requires.0 c.args.entries.now c.count_before-place.result c.args.row c.requires.1 c.count_before-place.ensures.before c.count_before-place.ensures.behind
    (elim c.else-place-entries.branch [
      | else-place-entries-via-then-place-entries+else-entries-place w ↦ λ within. w.if-entries-place.false
      | else-place-entries-via-else-place-entries w ↦ λ within. absurd (omega (arith, within, w.if-place-entries.false))
    ]))

use Rattle.std.proofs.Common.{inl, inr, ◌*◌, map, length, arith}
use Rattle.std.proofs.lemmas.Bool.{cases_lt}
use Rattle.placement_programme.specs.Plain.{plain_var}
use Rattle.placement_programme.specs.Programme.{load_in}
use Rattle.placement_programme.proofs.FitLemmas.{in_part}
use Rattle.placement_programme.proofs.fitting.all_hold.Goals as goal

pub part_holds-requires-clause-weights : goal.part_holds-requires-clause-weights
part_holds-requires-clause-weights c = (length c.args.rows.now, c.requires.weights)

pub loop-part-preserved : goal.loop-part-preserved
loop-part-preserved c row before inside =
    elim (cases_lt row (c.loop-part.part * 4096)) [
      | inl earlier ↦ c.loop-part.invariant row earlier inside
      | inr here ↦
          in_part (load_in (map plain_var c.args.vars.now) c.args.take.now) c.args.rows.now (c.loop-part.part * 4096) c.min-high.result row (omega (arith, c.min-high.ensures))
          (c.part_holds.ensures.0 c.if-not-part_holds.false) here (omega (arith, c.min-high.ensures, before, inside))
    ]

use Rattle.relink_core.specs.UnitSets.{Gains, Upto, HomeForms}
use Rattle.relink_core.proofs.unit_forms.push_homes.Given as goal

abbrev pub invariant-loop-b : goal.invariant-loop-b
invariant-loop-b l = Gains (Upto l.b (HomeForms l.code l.homes)) l.fn.units.items l.units.items

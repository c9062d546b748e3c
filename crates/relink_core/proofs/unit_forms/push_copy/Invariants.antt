use Rattle.relink_core.specs.Copies.{copied_in}
use Rattle.relink_core.specs.UnitSets.{Gains, Upto, HeldForms}
use Rattle.relink_core.proofs.unit_forms.push_copy.Given as goal

abbrev pub invariant-loop-b : goal.invariant-loop-b
invariant-loop-b l = Gains (Upto l.b (HeldForms (copied_in l.source l.copy) l.region)) l.fn.units.items l.units.items

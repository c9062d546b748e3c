use Rattle.relink_core.specs.UnitSets.{Gains, Upto, CopyForms}
use Rattle.relink_core.proofs.unit_forms.push_copies.Given as goal

abbrev pub invariant-loop-n : goal.invariant-loop-n
invariant-loop-n l = Gains (Upto l.n (CopyForms l.source l.copies l.regions)) l.fn.units.items l.units.items

use Rattle.std.specs.Prelude.{map}
use Rattle.patch_code.specs.StubPlans.{serving_stub}
use Rattle.relink_core.specs.UnitSets.{Gains, Upto, StubForms}
use Rattle.relink_core.proofs.unit_forms.push_stubs.Given as goal

abbrev pub invariant-loop-k : goal.invariant-loop-k
invariant-loop-k l = Gains (Upto l.k (StubForms (map serving_stub l.stubs) l.places)) l.fn.units.items l.units.items

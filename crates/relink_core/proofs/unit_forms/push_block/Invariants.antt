use Rattle.relink_core.specs.UnitSets.{Gains, Upto, HomeForm}
use Rattle.relink_core.proofs.unit_forms.push_block.Given as goal

abbrev pub invariant-loop-k : goal.invariant-loop-k
invariant-loop-k l = Gains (Upto l.k (HomeForm l.block.units.items l.padded)) l.fn.units.items l.units.items

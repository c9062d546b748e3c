use Rattle.std.proofs.Common.{◌≡◌}
use Rattle.energy_model.specs.Copied.{pending, values}
use Rattle.energy_model.proofs.blocks.all_pending.Given as goal

abbrev pub invariant-loop-b : goal.invariant-loop-b
invariant-loop-b l = l.pending.items ≡ values (pending l.code l.profile) l.b

use Rattle.std.specs.Prelude.{IsTrue}
use Rattle.flat_machine.specs.Mapping.{all_mapped}
use Rattle.flat_machine.proofs.mapping.has_each.Given as goal

-- the addresses so far are mapped
abbrev pub invariant-loop-i : goal.invariant-loop-i
invariant-loop-i l = IsTrue (all_mapped l.map l.at l.i)

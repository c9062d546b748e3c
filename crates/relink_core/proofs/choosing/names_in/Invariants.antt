use Rattle.std.proofs.Common.{◌≡◌, map, take}
use Rattle.placement_programme.specs.Plain.{plain_var}
use Rattle.relink_core.specs.Names.{names_taken}
use Rattle.relink_core.proofs.choosing.names_in.Given as goal

abbrev pub invariant-loop-number : goal.invariant-loop-number
invariant-loop-number l = l.names.items ≡ names_taken (map plain_var l.vars) (take l.number-index l.take)

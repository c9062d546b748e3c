use Rattle.std.proofs.Common.{◌≡◌, map, take}
use Rattle.placement_programme.specs.Plain.{plain_var}
use Rattle.relocator.specs.Slots.{items_in}
use Rattle.relocator.proofs.items.items_in.Given as goal

abbrev pub invariant-loop-number : goal.invariant-loop-number
invariant-loop-number l = l.items.items ≡ items_in (map plain_var l.vars) (take l.number-index l.take)

use Rattle.std.proofs.Common.{◌≡◌, take}
use Rattle.object_machine.proofs.preparing.widened.Given as goal

-- the addresses so far
abbrev pub invariant-loop-address : goal.invariant-loop-address
invariant-loop-address l = l.wide.items ≡ take l.address-index l.addresses

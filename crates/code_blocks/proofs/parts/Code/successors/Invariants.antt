use Rattle.std.proofs.Common.{◌≡◌, ◌≤◌, length, take}
use Rattle.code_blocks.specs.Numbers.{AreNumbersAt}
use Rattle.code_blocks.proofs.parts.Code.successors.Given as goal

abbrev pub invariant-loop-address : goal.invariant-loop-address
invariant-loop-address l =
    AreNumbersAt l.self (take l.address-index l.address-items) l.numbers.items
    × (length l.numbers.items ≤ l.address-index)
    × (l.numbers.capacity ≡ 2)

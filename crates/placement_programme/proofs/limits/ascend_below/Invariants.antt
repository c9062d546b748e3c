use Rattle.std.proofs.Common.{◌↔◌, drop}
use Rattle.placement_programme.specs.Bounds.{AscendWithin}
use Rattle.placement_programme.proofs.limits.ascend_below.Given as goal

abbrev pub invariant-loop-number : goal.invariant-loop-number
invariant-loop-number l =
    AscendWithin 0 l.count l.numbers ↔ AscendWithin l.least l.count (drop l.number-index l.numbers)

use Rattle.std.proofs.Common.{◌≡◌, false, take}
use Rattle.std.specs.List.{All}
use Rattle.list_checks.specs.Tests.{ranges_overlap}
use Rattle.listings.proofs.writing.is_clear.Given as goal

abbrev pub invariant-loop-segment : goal.invariant-loop-segment
invariant-loop-segment l = All (λ s. ranges_overlap s.vaddr s.memsz l.base l.size ≡ false) (take l.segment-index l.segments)

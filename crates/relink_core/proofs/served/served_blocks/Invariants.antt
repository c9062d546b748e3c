use Rattle.std.proofs.Common.{◌≡◌}
use Rattle.list_checks.specs.Sorted.{collected}
use Rattle.relink_core.specs.StubBlocks.{needs_stub}
use Rattle.relink_core.proofs.served.served_blocks.Given as goal

abbrev pub invariant-loop-b : goal.invariant-loop-b
invariant-loop-b l = l.served.items ≡ collected (needs_stub l.source.code.now l.regions l.copies) (λ b. b) l.b

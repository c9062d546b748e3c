use Rattle.std.proofs.Common.{◌≡◌, length}
use Rattle.dataflow.specs.Spreading.{AreFirst}
use Rattle.dataflow.proofs.exposing.asked_exposure.Given as goal

abbrev pub invariant-loop-block : goal.invariant-loop-block
invariant-loop-block l =
    record { size : length l.before.items ≡ l.block; first : AreFirst l.code l.graph.sites.items l.asked l.block l.before.items }

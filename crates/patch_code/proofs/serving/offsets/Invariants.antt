use Rattle.std.proofs.Common.{◌≡◌, ◌+◌, ◌++◌, drop}
use Rattle.patch_code.specs.Serving.{serving_bytes, places_from}
use Rattle.patch_code.specs.StubPlans.{serving_stubs}
use Rattle.patch_code.proofs.serving.offsets.Given as goal

abbrev pub invariant-loop-stub : goal.invariant-loop-stub
invariant-loop-stub l =
    (l.offsets.items ++ places_from l.at (serving_stubs (drop l.stub-index l.ordered)) ≡ places_from 0 (serving_stubs l.ordered))
    × (l.at + serving_bytes (serving_stubs (drop l.stub-index l.ordered)) ≡ serving_bytes (serving_stubs l.ordered))

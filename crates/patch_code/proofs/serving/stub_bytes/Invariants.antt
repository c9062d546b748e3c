use Rattle.std.proofs.Common.{◌≡◌, ◌+◌, map, drop}
use Rattle.patch_code.specs.Serving.{serving_bytes}
use Rattle.patch_code.specs.StubPlans.{serving_stub}
use Rattle.patch_code.proofs.serving.stub_bytes.Given as goal

abbrev pub invariant-loop-stub : goal.invariant-loop-stub
invariant-loop-stub l =
    l.bytes + serving_bytes (map serving_stub (drop l.stub-index l.stubs)) ≡ serving_bytes (map serving_stub l.stubs)

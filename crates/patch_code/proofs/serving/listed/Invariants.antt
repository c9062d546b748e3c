use Rattle.std.proofs.Common.{◌≡◌, ◌++◌, map, drop}
use Rattle.patch_code.specs.StubPlans.{serving_stub, serving_stubs}
use Rattle.patch_code.proofs.serving.listed.Given as goal

abbrev pub invariant-loop-stub : goal.invariant-loop-stub
invariant-loop-stub l =
    serving_stubs l.all.items ++ map serving_stub (drop l.stub-index l.stubs) ≡ map serving_stub l.stubs

use Rattle.std.proofs.Common.{◌≡◌, ◌+◌, ◌++◌, map, drop}
use Rattle.patch_code.specs.Serving.{served_before}
use Rattle.patch_code.specs.StubPlans.{serving_stub, serving_stubs}
use Rattle.patch_code.proofs.serving.stub_places.Given as goal

abbrev pub invariant-loop-stub : goal.invariant-loop-stub
invariant-loop-stub l =
    l.places.items ++ map (λ stub. l.fn.first + served_before stub.home (serving_stubs l.ordered)) (map serving_stub (drop l.stub-index l.stubs)) ≡ map (λ stub. l.fn.first + served_before stub.home (serving_stubs l.ordered)) (map serving_stub l.stubs)

use Rattle.std.proofs.Common.{◌≡◌, ℕ, ◌+◌, ◌*◌, List, map, ◌∙◌, ap, arith}
use Rattle.std.specs.Prelude.{Vec}
use Rattle.std.specs.declared.alloc.Global.{Global}
use Rattle.patch_code.specs.declared.stub_plan.Stub.{Stub}
use Rattle.patch_code.specs.Start.{start_bytes}
use Rattle.patch_code.specs.Serving.{serving_bytes}
use Rattle.patch_code.specs.Layout.{image_bytes}
use Rattle.patch_code.specs.StubPlans.{start_of, serving_stub, words_of}
use Rattle.patch_code.proofs.WordLemmas.{bytes_are}
use Rattle.patch_code.proofs.part_sizes.sizes.Goals as goal

pub overflow_cast-result : goal.overflow_cast-result
overflow_cast-result c = omega (arith, bytes_are (start_of c.args.plan.now), c.requires.small, c.len.ensures)

pub overflow_mul-result : goal.overflow_mul-result
overflow_mul-result c = omega (arith, bytes_are (start_of c.args.plan.now), c.requires.small, c.len.ensures)

pub overflow_add-result : goal.overflow_add-result
overflow_add-result c =
    omega (arith, bytes_are (start_of c.args.plan.now), c.requires.small, c.len.ensures, c.fence_words.ensures)

pub overflow_add-result-2 : goal.overflow_add-result-2
overflow_add-result-2 c =
    omega (arith, bytes_are (start_of c.args.plan.now), c.requires.small, c.len.ensures, c.fence_words.ensures)

pub returns : goal.returns
returns c =
    let start : 44 * c.len.result + 4 * c.fence_words.result + 20 ≡ start_bytes (start_of c.args.plan.now) =
    omega (arith, bytes_are (start_of c.args.plan.now), c.len.ensures, c.fence_words.ensures) in
    let stubs = c.stub_bytes.ensures ∙ ap (λ (xs : List Stub). serving_bytes (map serving_stub xs)) c.deref.ensures.value in
    let routine = c.routine_bytes.ensures in
    let images = c.image_bytes.ensures ∙ ap (λ (vs : List (Vec ℕ Global)). image_bytes (map words_of vs)) c.deref-2.ensures.value in
    λ t. record { start = start t; stubs = stubs t; routine = routine t; images = images t }

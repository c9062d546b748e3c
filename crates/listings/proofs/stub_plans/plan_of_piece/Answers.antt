use Rattle.std.proofs.Common.{◌≡◌, ℕ, List, [], ◌∷◌, map, length, false, sym, ◌∙◌, ap, subst}
use Rattle.patch_code.specs.Layout.{CanStand}
use Rattle.patch_code.specs.StubPlans.{code_plan, plain_stub, words_of}
use Rattle.listings.proofs.Examples.{piece, piece_stands}
use Rattle.listings.proofs.stub_plans.plan_of_piece.Goals as goal

pub returns-clause-can : goal.returns-clause-can
returns-clause-can c =
    let jobs = c.in_ok-start.ensures.items ∙ ap (λ job. job ∷ []) c.piece_job.ensures in
    let stubs = c.in_ok-stubs.ensures.items in
    let images = c.in_ok-images.ensures.items in
    let whole : code_plan c.plan_of.result ≡ piece c.in_ok-image.image.items =
    c.plan_of.ensures.parts
    ∙ (λ t. record {
      start = record { base = 589824; entry = 65536; fence_i = false; jobs = jobs t };
      stubs = map plain_stub (stubs t);
      images = map words_of (images t);
    }) in
    subst CanStand (sym whole) (piece_stands c.in_ok-image.image.items (ap (λ (xs : List ℕ). length xs) c.in_ok-image.ensures.items))

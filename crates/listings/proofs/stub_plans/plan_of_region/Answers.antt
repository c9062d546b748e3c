use Rattle.std.proofs.Common.{◌≡◌, ℕ, List, [], ◌∷◌, map, length, false, sym, ◌∙◌, ap, subst}
use Rattle.patch_code.specs.declared.job.CopyJob.{CopyJob}
use Rattle.patch_code.specs.declared.stub_plan.Stub.{Stub}
use Rattle.patch_code.specs.Overlay.{OverlayPlan, CanHold}
use Rattle.patch_code.specs.StubPlans.{serving_stub, words_of}
use Rattle.listings.proofs.RegionPlans.{start_with, plan_with}
use Rattle.listings.proofs.RegionExample.{region_plan, region_stands}
use Rattle.listings.proofs.stub_plans.plan_of_region.Goals as goal

pub returns-clause-can : goal.returns-clause-can
returns-clause-can c =
    let stubs = ap (λ (xs : List Stub). map serving_stub xs) c.in_ok-stubs.ensures.items ∙ ap (λ stub. stub ∷ []) c.region_stub.ensures in
    let jobs = c.in_ok-jobs.ensures.items ∙ ap (λ job. job ∷ []) c.enter_job.ensures in
    let enter = c.in_ok-enter.ensures.jobs ∙ ap (λ (xs : List CopyJob). xs ∷ []) jobs in
    let leave = c.in_ok-leave.ensures.jobs ∙ ap (λ (xs : List CopyJob). xs ∷ []) c.new.ensures.items in
    let kept_leave = c.in_ok-kept_leave.ensures.jobs ∙ ap (λ (xs : List CopyJob). xs ∷ []) c.new-2.ensures.items in
    let kept_enter = c.in_ok-kept_enter.ensures.jobs ∙ ap (λ (xs : List CopyJob). xs ∷ []) c.new-3.ensures.items in
    let whole : ◌≡◌ {A = OverlayPlan} _ (region_plan c.in_ok-image.image.items) =
    λ t. plan_with (start_with false (c.new-4.ensures.items t)) false 1 (stubs t) (leave t) (enter t) (kept_leave t) (kept_enter t) (map words_of (c.in_ok-images.ensures.items t)) in
    subst CanHold (sym whole) (region_stands c.in_ok-image.image.items (ap (λ (xs : List ℕ). length xs) c.in_ok-image.ensures.items))

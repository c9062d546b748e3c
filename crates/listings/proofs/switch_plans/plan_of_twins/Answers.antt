use Rattle.std.proofs.Common.{◌≡◌, List, [], ◌∷◌, map, true, sym, ◌∙◌, ap, subst}
use Rattle.patch_code.specs.declared.stub_plan.Stub.{Stub}
use Rattle.patch_code.specs.Overlay.{OverlayPlan, CanHold}
use Rattle.patch_code.specs.StubPlans.{serving_stub, words_of}
use Rattle.listings.proofs.RegionPlans.{start_with, plan_with}
use Rattle.listings.proofs.SwitchPlans.{twins, twins_stand}
use Rattle.listings.proofs.switch_plans.plan_of_twins.Goals as goal

pub returns-clause-can : goal.returns-clause-can
returns-clause-can c =
    let stubs =
    ap (λ (xs : List Stub). map serving_stub xs) c.in_ok-stubs.ensures.items
    ∙ (λ t. c.stub-first.ensures t ∷ c.stub-second.ensures t ∷ c.stub-third.ensures t ∷ []) in
    let third_home = c.in_ok-third_home.ensures.items ∙ (λ t. c.job.ensures t ∷ []) in
    let third_in = c.in_ok-third_in.ensures.items ∙ (λ t. c.job-2.ensures t ∷ []) in
    let leave = c.in_ok-leave.ensures.jobs ∙ (λ t. c.in_ok-table_home.ensures t ∷ c.new.ensures.items t ∷ third_home t ∷ []) in
    let enter = c.in_ok-enter.ensures.jobs ∙ (λ t. c.in_ok-table_in.ensures t ∷ c.in_ok-code_in.ensures t ∷ third_in t ∷ []) in
    let kept_leave = c.in_ok-kept_leave.ensures.jobs ∙ (λ t. (c.job-3.ensures t ∷ []) ∷ (c.job-3.ensures t ∷ []) ∷ [] ∷ []) in
    let kept_enter = c.in_ok-kept_enter.ensures.jobs ∙ (λ t. (c.job-4.ensures t ∷ []) ∷ (c.job-4.ensures t ∷ []) ∷ [] ∷ []) in
    let whole : ◌≡◌ {A = OverlayPlan} _ twins =
    λ t. plan_with (start_with true (c.new-2.ensures.items t)) true 3 (stubs t) (leave t) (enter t) (kept_leave t) (kept_enter t) (map words_of (c.new-3.ensures.items t)) in
    subst CanHold (sym whole) twins_stand

-- A plan with a region meets the conditions of its code: a stub by x5 that jumps to the copy of its entry, and a job that
-- brings the copy's two words in.
use Rattle.std.proofs.Common.{◌≡◌, inl, inr, ℕ, zero, suc, ◌<◌, false, List, [], ◌∷◌, length, refl, arith}
use Rattle.std.specs.Prelude.{All}
use Rattle.std.proofs.lemmas.List.{length-append}
use Rattle.std.proofs.lemmas.List.Elements.{All-nil, All-cons}
use Rattle.patch_code.specs.declared.job.CopyJob.{CopyJob}
use Rattle.patch_code.specs.Jobs.{copying, IsJob}
use Rattle.patch_code.specs.Switching.{routine}
use Rattle.patch_code.specs.Start.{Spares}
use Rattle.patch_code.specs.Serving.{ServingStub, jumps_to}
use Rattle.patch_code.specs.Overlay.{OverlayPlan, CanServe, CanMove, CanChange, CanHold, SparesWords}
use Rattle.listings.proofs.RegionPlans.{start_with, starts_with, plan_with, serves, changes}

abbrev pub enter_job : CopyJob
enter_job = record { from = 590092; to = 16777216; bytes = 8 }

abbrev pub checked_stub : ServingStub
checked_stub = record { home = 65568; temp = 5; region = 1; body = jumps_to 16777216 }

abbrev pub region_plan : List ℕ → OverlayPlan
region_plan words =
    plan_with (start_with false []) false 1 (checked_stub ∷ []) ([] ∷ []) ((enter_job ∷ []) ∷ []) ([] ∷ []) ([] ∷ []) (words ∷ [])

module _ (words : List ℕ) (two : length words ≡ 2) where
  moves : CanMove (region_plan words) enter_job
  unfolding copying routine
  moves =
      let all = length-append words [] in
      record {
        is = record { some = omega arith; source = omega arith; target = omega arith; disjoint = inl (omega arith) };
        control = inr (omega arith);
        code = inr (omega (arith, all, two));
        source = inr (omega arith);
      }

  nothing : All (CanMove (region_plan words)) []
  nothing = All-nil (CanMove (region_plan words))

  all_change : (i : ℕ) → i < 1 → CanChange (region_plan words) i
  all_change zero below =
      changes (region_plan words) 0 nothing (All-cons (CanMove (region_plan words)) enter_job [] moves nothing) (nothing, nothing) (omega arith) (omega arith)
  all_change (suc i) below = absurd (omega (arith, below))

  first_serves : CanServe (region_plan words) checked_stub
  first_serves =
      serves (region_plan words) checked_stub (omega arith) (omega arith) (omega arith) (refl, omega arith) (omega arith, refl)

  pub region_stands : CanHold (region_plan words)
  unfolding copying routine
  region_stands =
      let all = length-append words [] in
      record {
        start = starts_with false [] (All-nil IsJob) (All-nil (Spares (start_with false []))) (omega arith) (omega arith, refl);
        few = omega arith;
        stubs = All-cons (CanServe (region_plan words)) checked_stub [] first_serves (All-nil (CanServe (region_plan words)));
        apart = λ i j d before below. absurd (omega (arith, before, below));
        jobs = all_change;
        spared = All-nil (SparesWords (region_plan words));
        ends = omega (arith, all, two);
      }

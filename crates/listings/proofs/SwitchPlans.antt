-- Plans that switch between regions meet the conditions of their code. Their jobs copy between main memory below the patch
-- range and the scratchpad above it.
use Rattle.std.proofs.Common.{◌≡◌, inl, inr, ℕ, zero, suc, ◌+◌, ◌<◌, ◌≤◌, true, false, List, [], ◌∷◌, refl, arith}
use Rattle.std.specs.Prelude.{All, AllPairs}
use Rattle.std.proofs.lemmas.List.Elements.{All-nil, All-cons}
use Rattle.std.proofs.lemmas.List.Kept.{AllPairs-cons}
use Rattle.patch_code.specs.declared.job.CopyJob.{CopyJob}
use Rattle.patch_code.specs.Jobs.{copying, IsJob}
use Rattle.patch_code.specs.Switching.{routine}
use Rattle.patch_code.specs.Start.{StartPlan, CanStart, Spares, start_bytes}
use Rattle.patch_code.specs.Serving.{ServingStub, jumps_to}
use Rattle.patch_code.specs.Overlay.{OverlayPlan, CanServe, CanMove, CanChange, CanHold, SparesWords, rest_bytes}
use Rattle.listings.proofs.RegionPlans.{start_with, starts_with, plan_with, serves, changes}

-- ---- the start stub

abbrev pub start : StartPlan
start = start_with true []

starts : CanStart start
starts = starts_with true [] (All-nil IsJob) (All-nil (Spares start)) (omega arith) (omega arith, refl)

-- ---- jobs

module _ (p : OverlayPlan) (base : p.start.base ≡ 589824) (small : start_bytes p.start + rest_bytes p ≤ 4096) where
  comes_in : (from to bytes : ℕ) → 1 ≤ bytes → from + bytes ≤ 589824 → 16777216 ≤ to → to + bytes < 4294967296 → CanMove p (record { from = from; to = to; bytes = bytes })
  comes_in from to bytes some low high below =
      record {
        is =
            record {
              some = some;
              source = omega (arith, low);
              target = below;
              disjoint = inl (omega (arith, low, high));
            };
        control = inr (omega (arith, base, high));
        code = inr (omega (arith, base, small, high));
        source = inl (omega (arith, base, low));
      }

  goes_home : (from to bytes : ℕ) → 1 ≤ bytes → to + bytes ≤ 589824 → 16777216 ≤ from → from + bytes < 4294967296 → CanMove p (record { from = from; to = to; bytes = bytes })
  goes_home from to bytes some low high below =
      record {
        is =
            record {
              some = some;
              source = below;
              target = omega (arith, low);
              disjoint = inr (omega (arith, low, high));
            };
        control = inl (omega (arith, base, low));
        code = inl (omega (arith, base, low));
        source = inr (omega (arith, base, high));
      }

  one_job : (job : CopyJob) → CanMove p job → All (CanMove p) (job ∷ [])
  one_job job can = All-cons (CanMove p) job [] can (All-nil (CanMove p))

  -- a table of eight bytes, five bytes at an odd address, and the code of an entry
  table_home : All (CanMove p) (record { from = 16777216; to = 66048; bytes = 8 } ∷ [])
  table_home = one_job _ (goes_home 16777216 66048 8 (omega arith) (omega arith) (omega arith) (omega arith))

  table_in : All (CanMove p) (record { from = 66048; to = 16777216; bytes = 8 } ∷ record { from = 66057; to = 16777233; bytes = 5 } ∷ [])
  table_in =
      All-cons (CanMove p) _ (record { from = 66057; to = 16777233; bytes = 5 } ∷ []) (comes_in 66048 16777216 8 (omega arith) (omega arith) (omega arith) (omega arith))
      (one_job _ (comes_in 66057 16777233 5 (omega arith) (omega arith) (omega arith) (omega arith)))

  code_in : All (CanMove p) (record { from = 66064; to = 16777216; bytes = 8 } ∷ [])
  code_in = one_job _ (comes_in 66064 16777216 8 (omega arith) (omega arith) (omega arith) (omega arith))

  -- the object that the first two regions keep, and the one of the third
  kept_home : All (CanMove p) (record { from = 16777248; to = 66072; bytes = 12 } ∷ [])
  kept_home = one_job _ (goes_home 16777248 66072 12 (omega arith) (omega arith) (omega arith) (omega arith))

  kept_in : All (CanMove p) (record { from = 66072; to = 16777248; bytes = 12 } ∷ [])
  kept_in = one_job _ (comes_in 66072 16777248 12 (omega arith) (omega arith) (omega arith) (omega arith))

  third_home : All (CanMove p) (record { from = 16777248; to = 66088; bytes = 6 } ∷ [])
  third_home = one_job _ (goes_home 16777248 66088 6 (omega arith) (omega arith) (omega arith) (omega arith))

  third_in : All (CanMove p) (record { from = 66088; to = 16777248; bytes = 6 } ∷ [])
  third_in = one_job _ (comes_in 66088 16777248 6 (omega arith) (omega arith) (omega arith) (omega arith))

-- ---- two regions

abbrev pub first_stub : ServingStub
first_stub = record { home = 65544; temp = 5; region = 1; body = jumps_to 65756 }

abbrev pub second_stub : ServingStub
second_stub = record { home = 65548; temp = 18; region = 2; body = jumps_to 16777216 }

abbrev pub third_stub : ServingStub
third_stub = record { home = 65552; temp = 18; region = 3; body = jumps_to 65740 }

abbrev pub pair : OverlayPlan
pair =
    plan_with start false 2 (first_stub ∷ second_stub ∷ []) ((record { from = 16777216; to = 66048; bytes = 8 } ∷ []) ∷ [] ∷ [])
    ((record { from = 66048; to = 16777216; bytes = 8 } ∷ record { from = 66057; to = 16777233; bytes = 5 } ∷ [])
    ∷ (record { from = 66064; to = 16777216; bytes = 8 } ∷ []) ∷ []) ([] ∷ [] ∷ []) ([] ∷ [] ∷ []) []

pair_bytes : start_bytes pair.start + rest_bytes pair ≡ 464
unfolding copying routine
pair_bytes = refl

pair_small : start_bytes pair.start + rest_bytes pair ≤ 4096
pair_small = omega (arith, pair_bytes)

pair_changes : (i : ℕ) → i < 2 → CanChange pair i
pair_changes zero below =
    changes pair 0 (table_home pair refl pair_small) (table_in pair refl pair_small)
    (All-nil (CanMove pair), All-nil (CanMove pair)) (omega arith) (omega arith)
pair_changes (suc zero) below =
    changes pair 1 (All-nil (CanMove pair)) (code_in pair refl pair_small)
    (All-nil (CanMove pair), All-nil (CanMove pair)) (omega arith) (omega arith)
pair_changes (suc (suc i)) below = absurd (omega (arith, below))

pair_first : CanServe pair first_stub
unfolding copying routine
pair_first =
    serves pair first_stub (omega arith) (omega arith) (omega arith) (refl, omega arith) (omega arith, refl)

pair_second : CanServe pair second_stub
unfolding copying routine
pair_second =
    serves pair second_stub (omega arith) (omega arith) (omega arith) (refl, omega arith) (omega arith, refl)

-- homes that ascend are apart
apart_before : (a b : ℕ) (homes : List ℕ) → a < b → AllPairs (λ (x y : ℕ). x ≡ y → ⊥) (b ∷ homes) → All (λ (y : ℕ). b < y) homes → AllPairs (λ (x y : ℕ). x ≡ y → ⊥) (a ∷ b ∷ homes)
apart_before a b homes before apart above =
    AllPairs-cons (λ (x y : ℕ). x ≡ y → ⊥) a (b ∷ homes)
    (All-cons (λ (y : ℕ). a ≡ y → ⊥) b homes (λ same. omega (arith, before, same)) (λ k d below same. let over = above k d below in omega (arith, before, same, over)))
    apart

apart_one : (a : ℕ) → AllPairs (λ (x y : ℕ). x ≡ y → ⊥) (a ∷ [])
apart_one a i j d before below = absurd (omega (arith, before, below))

two_homes : AllPairs (λ (x y : ℕ). x ≡ y → ⊥) (65548 ∷ 65552 ∷ [])
two_homes = apart_before 65548 65552 [] (omega arith) (apart_one 65552) (All-nil (λ (y : ℕ). 65552 < y))

pub pair_stands : CanHold pair
pair_stands =
    record {
      start = starts;
      few = omega arith;
      stubs =
          All-cons (CanServe pair) first_stub (second_stub ∷ []) pair_first
          (All-cons (CanServe pair) second_stub [] pair_second (All-nil (CanServe pair)));
      apart = apart_before 65544 65548 [] (omega arith) (apart_one 65548) (All-nil (λ (y : ℕ). 65548 < y));
      jobs = pair_changes;
      spared = All-nil (SparesWords pair);
      ends = omega (arith, pair_bytes);
    }

-- ---- three regions

abbrev pub twins : OverlayPlan
twins =
    plan_with start true 3 (first_stub ∷ second_stub ∷ third_stub ∷ [])
    ((record { from = 16777216; to = 66048; bytes = 8 } ∷ []) ∷ [] ∷ (record { from = 16777248; to = 66088; bytes = 6 } ∷ []) ∷ [])
    ((record { from = 66048; to = 16777216; bytes = 8 } ∷ record { from = 66057; to = 16777233; bytes = 5 } ∷ [])
    ∷ (record { from = 66064; to = 16777216; bytes = 8 } ∷ [])
    ∷ (record { from = 66088; to = 16777248; bytes = 6 } ∷ []) ∷ [])
    ((record { from = 16777248; to = 66072; bytes = 12 } ∷ [])
    ∷ (record { from = 16777248; to = 66072; bytes = 12 } ∷ []) ∷ [] ∷ [])
    ((record { from = 66072; to = 16777248; bytes = 12 } ∷ [])
    ∷ (record { from = 66072; to = 16777248; bytes = 12 } ∷ []) ∷ [] ∷ []) []

twins_bytes : start_bytes twins.start + rest_bytes twins ≡ 896
unfolding copying routine
twins_bytes = refl

twins_small : start_bytes twins.start + rest_bytes twins ≤ 4096
twins_small = omega (arith, twins_bytes)

twins_changes : (i : ℕ) → i < 3 → CanChange twins i
twins_changes zero below =
    changes twins 0 (table_home twins refl twins_small) (table_in twins refl twins_small)
    (kept_home twins refl twins_small, kept_in twins refl twins_small) (omega arith) (omega arith)
twins_changes (suc zero) below =
    changes twins 1 (All-nil (CanMove twins)) (code_in twins refl twins_small)
    (kept_home twins refl twins_small, kept_in twins refl twins_small) (omega arith) (omega arith)
twins_changes (suc (suc zero)) below =
    changes twins 2 (third_home twins refl twins_small) (third_in twins refl twins_small)
    (All-nil (CanMove twins), All-nil (CanMove twins)) (omega arith) (omega arith)
twins_changes (suc (suc (suc i))) below = absurd (omega (arith, below))

twins_first : CanServe twins first_stub
unfolding copying routine
twins_first =
    serves twins first_stub (omega arith) (omega arith) (omega arith) (refl, omega arith) (omega arith, refl)

twins_second : CanServe twins second_stub
unfolding copying routine
twins_second =
    serves twins second_stub (omega arith) (omega arith) (omega arith) (refl, omega arith) (omega arith, refl)

twins_third : CanServe twins third_stub
unfolding copying routine
twins_third =
    serves twins third_stub (omega arith) (omega arith) (omega arith) (refl, omega arith) (omega arith, refl)

pub twins_stand : CanHold twins
twins_stand =
    record {
      start = starts;
      few = omega arith;
      stubs =
          All-cons (CanServe twins) first_stub (second_stub ∷ third_stub ∷ []) twins_first
          (All-cons (CanServe twins) second_stub (third_stub ∷ []) twins_second
          (All-cons (CanServe twins) third_stub [] twins_third (All-nil (CanServe twins))));
      apart = apart_before 65544 65548 (65552 ∷ []) (omega arith) two_homes (All-cons (λ (y : ℕ). 65548 < y) 65552 [] (omega arith) (All-nil (λ (y : ℕ). 65548 < y)));
      jobs = twins_changes;
      spared = All-nil (SparesWords twins);
      ends = omega (arith, twins_bytes);
    }

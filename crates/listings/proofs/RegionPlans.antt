-- Plans of the default board's patch range, for a program that begins at 0x10000: what they are made of, and what they need.
use Rattle.std.proofs.Common.{ℕ, ◌+◌, ◌<◌, ◌≤◌, Bool, List, [], length, slice_index_or, refl, arith}
use Rattle.std.specs.Prelude.{All}
use Rattle.rv32im.specs.Table.{IsEvenWithin}
use Rattle.rv32im.specs.Sequences.{distance}
use Rattle.patch_code.specs.declared.job.CopyJob.{CopyJob}
use Rattle.patch_code.specs.Jobs.{IsJob}
use Rattle.patch_code.specs.Start.{StartPlan, CanStart, Spares, start_at, start_bytes, jump_at}
use Rattle.patch_code.specs.Serving.{ServingStub}
use Rattle.patch_code.specs.Overlay.{OverlayPlan, CanEnd, Reaches, CanServe, CanMove, CanChange, switch_at, serving_place}

-- ---- the start stub

abbrev pub start_with : Bool → List CopyJob → StartPlan
start_with fence_i jobs = record { base = 589824; entry = 65536; fence_i = fence_i; jobs = jobs }

pub starts_with : (fence_i : Bool) (jobs : List CopyJob) → All IsJob jobs → All (Spares (start_with fence_i jobs)) jobs → start_at (start_with fence_i jobs) + start_bytes (start_with fence_i jobs) < 4294967296 → IsEvenWithin 1048576 (distance (jump_at (start_with fence_i jobs)) 65536) → CanStart (start_with fence_i jobs)
starts_with fence_i jobs are spared ends reach =
    record { aligned = refl; entry = omega arith; jobs = are; spared = spared; ends = ends; reach = reach }

-- ---- regions

-- the jobs of each region, by its number
abbrev pub lists_of : List (List CopyJob) → ℕ → List CopyJob
lists_of lists i = slice_index_or lists i []

abbrev pub plan_with : StartPlan → Bool → ℕ → List ServingStub → (leave enter kept_leave kept_enter : List (List CopyJob)) → List (List ℕ) → OverlayPlan
plan_with start twins regions stubs leave enter kept_leave kept_enter images =
    record {
      start = start;
      stubs = stubs;
      twins = twins;
      regions = regions;
      leave = lists_of leave;
      enter = lists_of enter;
      kept_leave = lists_of kept_leave;
      kept_enter = lists_of kept_enter;
      images = images;
    }

pub serves : (p : OverlayPlan) (stub : ServingStub) → 5 ≤ stub.temp → stub.temp ≤ 31 → stub.region ≤ p.regions → CanEnd stub.body → Reaches (serving_place p stub) (switch_at p) stub.region → CanServe p stub
serves p stub above below region body reach =
    record { above = above; below = below; region = region; body = body; reach = reach }

-- all jobs of a region can be done, and they are few
pub changes : (p : OverlayPlan) (i : ℕ) → All (CanMove p) (p.leave i) → All (CanMove p) (p.enter i) → All (CanMove p) (p.kept_leave i) × All (CanMove p) (p.kept_enter i) → length (p.leave i) + length (p.kept_leave i) ≤ 8 → length (p.enter i) + length (p.kept_enter i) ≤ 8 → CanChange p i
changes p i leave enter kept few_leave few_enter =
    record {
      leave = leave;
      enter = enter;
      kept_leave = kept.0;
      kept_enter = kept.1;
      short_leave = omega (arith, few_leave);
      short_enter = omega (arith, few_enter);
    }

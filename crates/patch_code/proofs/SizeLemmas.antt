-- How many bytes the switch routine takes.
use Rattle.std.proofs.Common.{inl, inr, ◌≡◌, ℕ, zero, suc, ◌+◌, ◌*◌, ◌<◌, ◌≤◌, List, length, ap, arith}
use Rattle.std.proofs.lemmas.Bool.{cases_eq}
use Rattle.rv32im.specs.declared.instructions.Instr.{Instr}
use Rattle.patch_code.specs.declared.job.CopyJob.{CopyJob}
use Rattle.patch_code.specs.Jobs.{fences}
use Rattle.patch_code.specs.Parts.{SwitchPlan}
use Rattle.patch_code.specs.Counts.{region_words, first_words}
use Rattle.patch_code.proofs.Counts.{routine_count_so}
use Rattle.patch_code.specs.Overlay.{OverlayPlan, switching, switch_bytes}
use Rattle.patch_code.proofs.RegionCodes.{some_routine}

-- the words of a region are at most those of all
pub first_within : (w : SwitchPlan (List CopyJob)) (n i : ℕ) → i < n → first_words w i + region_words w i ≤ first_words w n
first_within w zero i below = absurd (omega (arith, below))
first_within w (suc n) i below =
    elim (cases_eq i n) [
      | inl same ↦ let here = ap (λ k. first_words w k + region_words w k) same in omega (arith, here)
      | inr other ↦ let rest = first_within w n i (omega (arith, below, other)) in omega (arith, rest)
    ]

-- the routine has five words, a fence, and those of its regions
pub some_words : (p : OverlayPlan) → (p.regions ≡ 0 → ⊥) → switch_bytes p ≡ 4 * (5 + length (fences p.start.fence_i) + first_words (switching p) p.regions)
some_words p some =
    let count = routine_count_so (switching p) in
    let same = ap (λ (is : List Instr). length is) (some_routine p some) in
    omega (arith, count, same)

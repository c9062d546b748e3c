use Rattle.std.proofs.Common.{◌≡◌, ◌+◌, length}
use Rattle.patch_code.specs.Jobs.{fences}
use Rattle.patch_code.specs.Counts.{first_words}
use Rattle.patch_code.specs.Overlay.{switching}
use Rattle.patch_code.specs.StubPlans.{overlay_plan}
use Rattle.patch_code.proofs.part_sizes.routine_bytes.Given as goal

abbrev pub invariant-loop-i : goal.invariant-loop-i
invariant-loop-i l =
    l.words ≡ 5 + length (fences l.plan.fence_i) + first_words (switching (overlay_plan l.plan)) l.i

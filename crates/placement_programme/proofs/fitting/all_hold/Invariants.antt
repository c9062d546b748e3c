use Rattle.std.proofs.Common.{ℕ, ◌*◌, ◌<◌, ◌≤◌, length, map, slice_index}
use Rattle.placement_programme.specs.Plain.{plain_var}
use Rattle.placement_programme.specs.Programme.{load_in}
use Rattle.placement_programme.proofs.fitting.all_hold.Given as goal

abbrev pub invariant-loop-part : goal.invariant-loop-part
invariant-loop-part l =
    (row : ℕ) → row < l.part * 4096 → row < length l.rows → load_in (map plain_var l.vars) l.take row ≤ slice_index l.rows row

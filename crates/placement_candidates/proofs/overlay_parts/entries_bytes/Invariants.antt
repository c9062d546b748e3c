use Rattle.std.proofs.Common.{◌≡◌, ℕ, ◌*◌, ◌≤◌, List, map, take}
use Rattle.placement_candidates.specs.OverlayCounted.{scene_in}
use Rattle.std.specs.List.{filter, sum_by}
use Rattle.energy_model.specs.Energy.{Scene}
use Rattle.placement_candidates.specs.Stated.{is_border, displaced_at}
use Rattle.placement_candidates.proofs.overlay_parts.entries_bytes.Given as goal

-- the bytes of displaced words at some entries
abbrev words_at : Scene → List ℕ → ℕ
words_at w entries = sum_by (λ words. 4 * words) (map (displaced_at w) (filter (is_border w) entries))

pub record IsSum (total k sum : ℕ) : Type 0 where
  pub is : total ≡ sum
  pub small : total ≤ k * 12

abbrev pub invariant-loop-k : goal.invariant-loop-k
invariant-loop-k l = IsSum l.total l.k (words_at (scene_in l.m) (take l.k l.entries))

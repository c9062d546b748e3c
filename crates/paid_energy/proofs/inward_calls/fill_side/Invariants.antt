use Rattle.std.proofs.Common.{◌≡◌, ℕ, ◌<◌, map, drop, length, slice_index_or, None}
use Rattle.placement_programme.specs.Plain.{plain_var}
use Rattle.energy_model.specs.Energy.{piece_of}
use Rattle.placement_candidates.specs.Adding.{kept_name}
use Rattle.paid_energy.proofs.inward_calls.fill_side.Given as goal

-- those from k on were noted
abbrev pub invariant-loop-k : goal.invariant-loop-k
invariant-loop-k l = record {
  len : length l.table ≡ length l.initial.table;
  filled : (b : ℕ) → b < length l.initial.table → slice_index_or l.table b None ≡ piece_of (map (kept_name (map plain_var l.vars)) (drop l.k l.take)) b;
}

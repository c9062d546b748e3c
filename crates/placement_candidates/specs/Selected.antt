-- Which variables of a programme are kept: those that save something, of each side at most 4,000.
use Rattle.std.specs.Prelude.{ℕ, zero, suc, ◌==◌, nat_lt, ℤ, pos, negsuc, Bool, true, false, ◌&&◌, ◌||◌, if◌then◌else◌, List, [], ◌∷◌, ◌++◌, length, slice_index_or, Option, Some, None}
use Rattle.list_checks.specs.Tests.{any_below}
use Rattle.list_checks.specs.Sorted.{count_below}
use Rattle.placement_programme.specs.declared.variables.VarName.{VarName}
use Rattle.placement_programme.specs.declared.variables.VarName.TheVariants.{StaticData, StaticCode}
use Rattle.placement_programme.specs.Rows.{Layout}
use Rattle.profile_runner.specs.Transition.{Transition}
use Rattle.block_splitter.specs.declared.piece.Piece.{Piece}
use Rattle.energy_model.specs.Energy.{Scene}
use Rattle.placement_candidates.specs.Stated.{static_full}
use Rattle.placement_programme.specs.Plain.{PlainVar, PlainSide, PlainProgramme, PlainFullVar, PlainFullSide, PlainFull}

-- a gain, and 0 in place of a loss
abbrev pub worth : ℤ → ℕ
worth (pos n) = n
worth (negsuc n) = 0

abbrev pub no_var : PlainFullVar
no_var = record { name = StaticData 0; gain = pos 0; weights = [] }

abbrev pub var_in : List PlainFullVar → ℕ → PlainFullVar
var_in vs k = slice_index_or vs k no_var

abbrev pub worth_at : List PlainFullVar → ℕ → ℕ
worth_at vs k = worth (var_in vs k).gain

-- variable `j` goes before variable `k`: it saves more, or as much and stands before it
abbrev pub better : List PlainFullVar → ℕ → ℕ → Bool
better vs k j = nat_lt (worth_at vs k) (worth_at vs j) || ((worth_at vs j == worth_at vs k) && nat_lt j k)

-- a variable is kept where it saves something and fewer than 4,000 go before it
abbrev pub is_kept : List PlainFullVar → ℕ → Bool
is_kept vs k = nat_lt 0 (worth_at vs k) && nat_lt (count_below (better vs k) (length vs)) 4000

abbrev pub plain_kept : PlainFullVar → PlainVar
plain_kept v = record { name = v.name; gain = worth v.gain; weights = v.weights }

abbrev pub kept_at : List PlainFullVar → ℕ → List PlainVar
kept_at vs k = if is_kept vs k then plain_kept (var_in vs k) ∷ [] else []

-- those of the first `n` variables, in their order
abbrev pub kept_below : List PlainFullVar → ℕ → List PlainVar
kept_below vs zero = []
kept_below vs (suc n) = kept_below vs n ++ kept_at vs n

abbrev pub selected_side : PlainFullSide → PlainSide
selected_side s = record { fixed = s.fixed; rows = s.rows; vars = kept_below s.vars (length s.vars) }

-- overlay is worth its cost only where an item that is overlaid or kept saves something
abbrev pub is_overlay : VarName → Bool
is_overlay (StaticData o) = false
is_overlay (StaticCode first last) = false
is_overlay name = true

abbrev pub saves_by_overlay : PlainFullVar → Bool
saves_by_overlay v = is_overlay v.name && nat_lt 0 (worth v.gain)

abbrev pub has_overlay : List PlainFullVar → Bool
has_overlay vs = any_below (λ k. saves_by_overlay (var_in vs k)) (length vs)

abbrev pub selected_on : Option PlainFullSide → Option PlainSide
selected_on None = None
selected_on (Some s) = if has_overlay s.vars then Some (selected_side s) else None

abbrev pub selected : PlainFull → PlainProgramme
selected f = record { base = f.base; off = selected_side f.off; on = selected_on f.on }

-- the programme that the transitions of a run state for static data and static code
abbrev pub stated : Scene → Layout → List Piece → List Transition → PlainProgramme
stated w l pieces transitions = selected (static_full w l pieces transitions)

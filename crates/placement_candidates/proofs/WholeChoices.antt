-- The energy of a choice of the programme of both sides is that of the run with what it takes.
use Rattle.std.proofs.Common.{◌≡◌, ◌∙◌, ℕ, ◌-◌, ◌<◌, ◌≤◌, ◌&&◌, nat_lt, nat_le, ℤ, pos, ◌-ℤ◌, Bool, true, false, if◌then◌else◌, List, [], ◌∷◌, ◌++◌, length, map, slice_index_or, Option, Some, None, refl, sym, subst, arith}
use Rattle.std.specs.Option.{IsSomeAnd}
use Rattle.std.specs.List.{sum_by}
use Rattle.std.proofs.lemmas.Bool.Decides.{nat_tests}
use Rattle.std.proofs.lemmas.Int.{ints}
use Rattle.std.proofs.lemmas.List.{get_or-map, length-map}
use Rattle.list_checks.proofs.TestLemmas.{both}
use Rattle.rv32im.specs.Table.{OneInstruction}
use Rattle.board_config.specs.declared.board.Board.{Board}
use Rattle.object_graph.specs.declared.parts.Graph.{Graph}
use Rattle.code_blocks.specs.declared.parts.Code.{Code}
use Rattle.region_former.specs.declared.table.RegionTable.{RegionTable}
use Rattle.placement_programme.specs.declared.variables.VarName.{VarName}
use Rattle.placement_programme.specs.Plain.{PlainSide, PlainFullVar, PlainFullSide}
use Rattle.placement_programme.specs.Programme.{gain_at, Fits, FitsIn, gain_on, IsFeasible, energy as programme_energy}
use Rattle.placement_programme.specs.Rows.{Layout, Candidate, name_of, fixed_bytes, on_capacities}
use Rattle.profile_runner.specs.Transition.{Transition}
use Rattle.block_splitter.specs.declared.piece.Piece.{Piece}
use Rattle.energy_model.specs.Energy.{Scene, steps_energy, side_energy, energy, nothing_taken}
use Rattle.energy_model.specs.Scenes.{scene_of}
use Rattle.energy_model.specs.Together.{taken, HaveNothingInCommon, IsApartFromAll}
use Rattle.energy_model.proofs.SceneLemmas.{Follows, follows}
use Rattle.energy_model.proofs.OverlayLemmas.{overlay_costs}
use Rattle.placement_candidates.specs.Stated.{AreSomePieces}
use Rattle.placement_candidates.specs.Selected.{var_in, no_var, has_overlay, selected_side, selected_on}
use Rattle.placement_candidates.specs.Adding.{gains_by, kept_name}
use Rattle.placement_candidates.specs.Overlaid.{AreOverlaidObjects, static_candidates, overlay_candidates, overlay_gain, overlay_var, overlay_layout, overlay_fixed, on_side, has_on_side}
use Rattle.placement_candidates.specs.Whole.{AreApartAll, whole_stated, names_of, taken_of, WholeEnergyIsOfTheRun}
use Rattle.placement_candidates.proofs.SideLemmas.{kept, gains_are, IsApartFromEach, AreAllApart, FitTogether, all_apart}
use Rattle.placement_candidates.proofs.ApartLemmas.{nothing_in_common}
use Rattle.placement_candidates.proofs.CandidateLemmas.{are_of_layout}
use Rattle.placement_candidates.proofs.WholeLemmas.{overlay_sum}
use Rattle.placement_candidates.proofs.ChoiceLemmas.{stated_energy}

pub some_candidate : (cs : List Candidate) (k : ℕ) → k < length cs → Candidate
some_candidate [] k below = absurd (omega (arith, below))
some_candidate (x ∷ xs) k below = x

from_all : (name : VarName) (names : List VarName) → IsApartFromEach HaveNothingInCommon name names → IsApartFromAll name names
from_all name [] free = tt
from_all name (other ∷ names) free = (free.0, from_all name names free.1)

pub all_from : (names : List VarName) → AreAllApart HaveNothingInCommon names → AreApartAll names
all_from [] free = tt
all_from (name ∷ names) free = (from_all name names free.0, all_from names free.1)

-- a fixed cost that is a difference
pub energy_shape : (base with_none gains : ℕ) (sum : ℤ) → base ≤ with_none → pos gains ≡ sum → pos base -ℤ (pos gains -ℤ pos (with_none - base)) ≡ pos with_none -ℤ sum
energy_shape base with_none gains sum order is = omega (arith, ints, order, is)

module _ (board : Board) (g : Graph) (c : Code) (t : RegionTable) (objects : List ℕ) (pieces : List Piece) (ms : List Transition) (are : AreSomePieces c g pieces) (overlaid : AreOverlaidObjects c g t objects) where
  abbrev w : Scene
  w = scene_of g c t board

  abbrev l : Layout
  l = overlay_layout g c t board

  abbrev cs : List Candidate
  cs = static_candidates w pieces ++ overlay_candidates w objects pieces

  abbrev vs : List PlainFullVar
  vs = map (overlay_var w l ms) cs

  in_list : (k : ℕ) → k < length vs → k < length cs
  in_list k below = let count = length-map cs (overlay_var w l ms) in omega (arith, count, below)

  var_is : (k : ℕ) (d : Candidate) → k < length vs → var_in vs k ≡ overlay_var w l ms (slice_index_or cs k d)
  var_is k d below = get_or-map (overlay_var w l ms) cs k d no_var (in_list k below)

  saves : (k : ℕ) → k < length vs → (var_in vs k).gain ≡ overlay_gain w ms (var_in vs k).name
  saves k below =
      subst (λ (v : PlainFullVar). v.gain ≡ overlay_gain w ms v.name) (sym (var_is k (some_candidate cs k (in_list k below)) below)) refl

  pub apart : 1 ≤ t.count → (m n : ℕ) → m < n → n < length vs → FitTogether (on_capacities l) (var_in vs m) (var_in vs n) → HaveNothingInCommon (var_in vs m).name (var_in vs n).name
  apart some m n less below fit =
      let inside : m < length vs = omega (arith, less, below) in
      let d = some_candidate cs m (in_list m inside) in
      let a = slice_index_or cs m d in
      let b = slice_index_or cs n d in
      let first = var_is m d inside in
      let second = var_is n d below in
      let each = are_of_layout board g c t objects pieces are overlaid in
      let together : FitTogether (on_capacities l) (overlay_var w l ms a) (overlay_var w l ms b) =
      subst (λ (v : PlainFullVar). FitTogether (on_capacities l) v (overlay_var w l ms b)) first (subst (λ (v : PlainFullVar). FitTogether (on_capacities l) (var_in vs m) v) second fit) in
      subst (λ (v : PlainFullVar). HaveNothingInCommon v.name (var_in vs n).name) (sym first)
      (subst (λ (v : PlainFullVar). HaveNothingInCommon (name_of a) v.name) (sym second)
      (nothing_in_common l a b some (each m d (in_list m inside)) (each n d (in_list n below)) together))

  -- ---- a choice of the side with overlay

  on_energy : (take : List ℕ) → Follows w ms → 1 ≤ t.count → FitsIn (kept vs) (on_capacities l) take → pos (steps_energy w nothing_taken ms) -ℤ (pos (sum_by (gain_at (kept vs)) take) -ℤ pos (overlay_fixed w ms)) ≡ pos (side_energy w (taken true (map (kept_name (kept vs)) take)) ms)
  on_energy take all some fits =
      let names = map (kept_name (kept vs)) take in
      let gains = gains_are vs (overlay_gain w ms) saves 0 take fits.numbers in
      let free = all_from names (all_apart vs (on_capacities l) HaveNothingInCommon (apart some) take fits) in
      energy_shape (steps_energy w nothing_taken ms) (side_energy w (taken true []) ms) (sum_by (gain_at (kept vs)) take) (gains_by (overlay_gain w ms) names) (overlay_costs w ms all) gains
      ∙ sym (overlay_sum w ms names all free)

  abbrev side : PlainFullSide
  side = on_side w l objects pieces ms

  abbrev IsOnEnergy : List ℕ → Option PlainSide → Type 0
  IsOnEnergy take s =
      pos (steps_energy w nothing_taken ms) -ℤ gain_on s take ≡ pos (side_energy w (taken true (names_of s take)) ms)

  abbrev FitsOn : List ℕ → Option PlainSide → Type 0
  FitsOn take s = IsSomeAnd s (λ x. Fits x take)

  where_worth : (take : List ℕ) (worth : Bool) → Follows w ms → 1 ≤ t.count → FitsOn take (if worth then Some (selected_side side) else None) → IsOnEnergy take (if worth then Some (selected_side side) else None)
  where_worth take false all some feasible = absurd feasible
  where_worth take true all some feasible = on_energy take all some feasible

  where_there : (take : List ℕ) (there : Bool) → Follows w ms → (there ≡ true → 1 ≤ t.count) → FitsOn take (selected_on (if there then Some side else None)) → IsOnEnergy take (selected_on (if there then Some side else None))
  where_there take false all some feasible = absurd feasible
  where_there take true all some feasible = where_worth take (has_overlay side.vars) all (some refl) feasible

  pub some_region : has_on_side w l objects pieces ≡ true → 1 ≤ t.count
  some_region there =
      let tests = both (nat_lt 0 t.count && nat_lt 0 (length (overlay_candidates w objects pieces))) (nat_le (fixed_bytes l) l.patch) there in
      let region = (both (nat_lt 0 t.count) (nat_lt 0 (length (overlay_candidates w objects pieces))) tests.0).0 in
      grind (arith, nat_tests, region)

  pub whole_energy : (on : Bool) (take : List ℕ) → Follows w ms → IsFeasible (whole_stated w l objects pieces ms) record { on = on; take = take } → programme_energy (whole_stated w l objects pieces ms) record { on = on; take = take } ≡ pos (energy w (taken_of (whole_stated w l objects pieces ms) record { on = on; take = take }) ms)
  whole_energy true take all feasible = where_there take (has_on_side w l objects pieces) all some_region feasible
  whole_energy false [] all feasible = stated_energy board g c t pieces ms are false [] all feasible
  whole_energy false (k ∷ ks) all feasible = stated_energy board g c t pieces ms are false (k ∷ ks) all feasible

pub whole_of_the_run : OneInstruction → WholeEnergyIsOfTheRun
whole_of_the_run one view board g c t q objects pieces ms choice given are overlaid feasible =
    whole_energy board g c t objects pieces ms are overlaid choice.on choice.take (follows one view board g c t q ms given) feasible

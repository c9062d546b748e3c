-- The energy of a choice of what several runs state together is that of the runs, by weight.
use Rattle.std.proofs.Common.{◌≡◌, ◌∙◌, ℕ, zero, suc, ◌+◌, ◌*◌, ◌<◌, ◌≤◌, ◌==◌, Bool, true, false, if◌then◌else◌, pos, ◌-ℤ◌, List, [], ◌∷◌, ◌++◌, length, map, slice_index_or, Option, Some, None, refl, sym, ap, subst, arith}
use Rattle.std.specs.List.{All, sum_by}
use Rattle.std.specs.Option.{IsSomeAnd}
use Rattle.std.proofs.lemmas.Bool.{eqb-true}
use Rattle.std.proofs.lemmas.List.{get_or-map, length-map}
use Rattle.std.proofs.lemmas.List.Elements.{All-head, All-tail}
use Rattle.std.proofs.lemmas.List.Sums.{sum_by-cons}
use Rattle.rv32im.specs.Table.{OneInstruction}
use Rattle.board_config.specs.declared.board.Board.{Board}
use Rattle.object_graph.specs.declared.parts.Graph.{Graph}
use Rattle.code_blocks.specs.declared.parts.Code.{Code}
use Rattle.region_former.specs.declared.table.RegionTable.{RegionTable}
use Rattle.placement_programme.specs.declared.variables.VarName.{VarName}
use Rattle.placement_programme.specs.declared.variables.VarName.TheVariants.{StaticData, StaticCode, OverlayData, OverlayCode, KeptData}
use Rattle.placement_programme.specs.Plain.{PlainSide, PlainFullVar, PlainFullSide, PlainProgramme}
use Rattle.placement_programme.specs.Programme.{gain_at, weight_in, Fits, FitsIn, gain_on, IsFeasible, energy as programme_energy}
use Rattle.placement_programme.specs.Rows.{Layout, Candidate, static_data, static_code, overlay_data, overlay_code, kept_data, name_of, capacities, IsOfSide}
use Rattle.profile_runner.specs.Transition.{Transition}
use Rattle.block_splitter.specs.declared.piece.Piece.{Piece}
use Rattle.energy_model.specs.Energy.{Scene, nothing_taken, steps_energy, side_energy, energy}
use Rattle.energy_model.specs.Scenes.{scene_of}
use Rattle.energy_model.specs.Priced.{IsStatic, IsApart}
use Rattle.energy_model.specs.Together.{taken, HaveNothingInCommon, IsApartFromAll}
use Rattle.energy_model.proofs.SceneLemmas.{Follows, follows}
use Rattle.energy_model.proofs.OverlayLemmas.{overlay_costs}
use Rattle.energy_model.proofs.TogetherLemmas.{saves_side}
use Rattle.placement_candidates.specs.Stated.{AreSomePieces, static_vars}
use Rattle.placement_candidates.specs.Selected.{no_var, var_in, has_overlay, selected_side, selected_on}
use Rattle.placement_candidates.specs.Adding.{gains_by, kept_name}
use Rattle.placement_candidates.proofs.SideLemmas.{kept, gains_are, FitTogether, all_apart}
use Rattle.placement_candidates.proofs.ChoiceLemmas.{nothing_shape, some_choice, apart as statics_apart}
use Rattle.placement_candidates.specs.Overlaid.{AreOverlaidObjects, static_candidates, overlay_candidates, overlay_var, overlay_layout, has_on_side}
use Rattle.placement_candidates.specs.Whole.{AreApartAll, names_of, taken_of}
use Rattle.placement_candidates.proofs.CandidateLemmas.{static_sides, off_var, off_are}
use Rattle.placement_candidates.proofs.WholeLemmas.{one_more, no_more}
use Rattle.placement_candidates.proofs.WholeChoices.{some_candidate, all_from, energy_shape, apart as all_items_apart, some_region}
use Rattle.placement_candidates.specs.Mixed.{WeightedRun, mixed_by, mixed_energy, mixed_side_energy, mixed_steps, saved_alone, mixed_var, side_cost, mixed_side, mixed_stated}
use Rattle.placement_candidates.specs.MixLaws.{MixedEnergyIsOfTheRuns}
use Rattle.placement_candidates.proofs.RunLemmas.{same_fields}

abbrev pub AllFollow : Scene → List WeightedRun → Type 0
AllFollow w runs = All (λ r. Follows w r.transitions) runs

-- ---- what is taken together saves what each item saves alone

times_both : (v a b c d : ℕ) → a + b ≡ c + d → v * a + v * b ≡ v * c + v * d
times_both v a b c d is =
    let left : v * a + v * b ≡ v * (a + b) = grind arith in
    let right : v * (c + d) ≡ v * c + v * d = grind arith in
    left ∙ (ap (λ n. v * n) is ∙ right)

mixed_more : (w : Scene) (on : Bool) (name : VarName) (names : List VarName) (runs : List WeightedRun) → AllFollow w runs → IsApartFromAll name names → mixed_side_energy w (taken on (name ∷ names)) runs + mixed_side_energy w (taken on []) runs ≡ mixed_side_energy w (taken on names) runs + mixed_side_energy w (taken on (name ∷ [])) runs
mixed_more w on name names [] follow apart = refl
mixed_more w on name names (r ∷ rs) follow apart =
    let Follow = λ (x : WeightedRun). Follows w x.transitions in
    let e = λ (items : List VarName). side_energy w (taken on items) r.transitions in
    let rest = mixed_more w on name names rs (All-tail Follow r rs follow) apart in
    let here = times_both r.weight (e (name ∷ names)) (e []) (e names) (e (name ∷ [])) (saves_side w on name names r.transitions (All-head Follow r rs follow) apart) in
    let first = sum_by-cons (λ (x : WeightedRun). x.weight * side_energy w (taken on (name ∷ names)) x.transitions) r rs in
    let second = sum_by-cons (λ (x : WeightedRun). x.weight * side_energy w (taken on []) x.transitions) r rs in
    let third = sum_by-cons (λ (x : WeightedRun). x.weight * side_energy w (taken on names) x.transitions) r rs in
    let fourth = sum_by-cons (λ (x : WeightedRun). x.weight * side_energy w (taken on (name ∷ [])) x.transitions) r rs in
    omega (arith, rest, here, first, second, third, fourth)

mixed_sum : (w : Scene) (on : Bool) (runs : List WeightedRun) (names : List VarName) → AllFollow w runs → AreApartAll names → pos (mixed_side_energy w (taken on names) runs) ≡ pos (mixed_side_energy w (taken on []) runs) -ℤ gains_by (saved_alone on w runs) names
mixed_sum w on runs [] follow apart = no_more (mixed_side_energy w (taken on []) runs)
mixed_sum w on runs (name ∷ names) follow apart =
    one_more (mixed_side_energy w (taken on (name ∷ names)) runs) (mixed_side_energy w (taken on names) runs) (mixed_side_energy w (taken on (name ∷ [])) runs) (mixed_side_energy w (taken on []) runs)
    (gains_by (saved_alone on w runs) names) (mixed_more w on name names runs follow apart.0) (mixed_sum w on runs names follow apart.1)

-- ---- a side costs more than the steps at home

costs_more : (w : Scene) (on : Bool) (ms : List Transition) → Follows w ms → steps_energy w nothing_taken ms ≤ side_energy w (taken on []) ms
costs_more w true ms follow = overlay_costs w ms follow
costs_more w false ms follow = omega arith

times_less : (v a b : ℕ) → a ≤ b → v * a ≤ v * b
times_less zero a b le = omega arith
times_less (suc v) a b le =
    let rest = times_less v a b le in
    let left : suc v * a ≡ v * a + a = grind arith in
    let right : suc v * b ≡ v * b + b = grind arith in
    omega (arith, rest, left, right, le)

mixed_costs : (w : Scene) (on : Bool) (runs : List WeightedRun) → AllFollow w runs → mixed_steps w nothing_taken runs ≤ mixed_side_energy w (taken on []) runs
mixed_costs w on [] follow = omega arith
mixed_costs w on (r ∷ rs) follow =
    let Follow = λ (x : WeightedRun). Follows w x.transitions in
    let rest = mixed_costs w on rs (All-tail Follow r rs follow) in
    let here = times_less r.weight (steps_energy w nothing_taken r.transitions) (side_energy w (taken on []) r.transitions) (costs_more w on r.transitions (All-head Follow r rs follow)) in
    let left = sum_by-cons (λ (x : WeightedRun). x.weight * steps_energy w nothing_taken x.transitions) r rs in
    let right = sum_by-cons (λ (x : WeightedRun). x.weight * side_energy w (taken on []) x.transitions) r rs in
    omega (arith, rest, here, left, right)

-- ---- a choice of a side

module _ (on : Bool) (w : Scene) (l : Layout) (cs : List Candidate) (runs : List WeightedRun) where
  abbrev vs : List PlainFullVar
  vs = map (mixed_var on w l runs) cs

  abbrev AreApartWhereTheyFit : Type 0
  AreApartWhereTheyFit =
      (m n : ℕ) → m < n → n < length vs → FitTogether (capacities on l) (var_in vs m) (var_in vs n) → HaveNothingInCommon (var_in vs m).name (var_in vs n).name

  saves : (k : ℕ) → k < length vs → (var_in vs k).gain ≡ saved_alone on w runs (var_in vs k).name
  saves k below =
      let count = length-map cs (mixed_var on w l runs) in
      let inside : k < length cs = omega (arith, count, below) in
      subst (λ (v : PlainFullVar). v.gain ≡ saved_alone on w runs v.name) (sym (get_or-map (mixed_var on w l runs) cs k (some_candidate cs k inside) no_var inside)) refl

  pub choice_energy : (take : List ℕ) → AllFollow w runs → AreApartWhereTheyFit → FitsIn (kept vs) (capacities on l) take → pos (mixed_steps w nothing_taken runs) -ℤ (pos (sum_by (gain_at (kept vs)) take) -ℤ pos (side_cost on w runs)) ≡ pos (mixed_side_energy w (taken on (map (kept_name (kept vs)) take)) runs)
  choice_energy take follow apart fits =
      let names = map (kept_name (kept vs)) take in
      let gains = gains_are vs (saved_alone on w runs) saves 0 take fits.numbers in
      let free = all_from names (all_apart vs (capacities on l) HaveNothingInCommon apart take fits) in
      energy_shape (mixed_steps w nothing_taken runs) (mixed_side_energy w (taken on []) runs) (sum_by (gain_at (kept vs)) take) (gains_by (saved_alone on w runs) names) (mixed_costs w on runs follow) gains
      ∙ sym (mixed_sum w on runs names follow free)

-- ---- what fits together has nothing in common, as of one run

field_at : {B : Type 0} (field : PlainFullVar → B) (us vs : List PlainFullVar) (k : ℕ) → map field us ≡ map field vs → k < length us → k < length vs → field (var_in us k) ≡ field (var_in vs k)
field_at {B} field us vs k same first second =
    sym (get_or-map field us k no_var (field no_var) first)
    ∙ (ap (λ (xs : List B). slice_index_or xs k (field no_var)) same ∙ get_or-map field vs k no_var (field no_var) second)

module _ (rows : List ℕ) (Apart : VarName → VarName → Type 0) (us vs : List PlainFullVar) (names : map (λ v. v.name) us ≡ map (λ v. v.name) vs) (weighs : map (λ v. v.weights) us ≡ map (λ v. v.weights) vs) where
  abbrev Known : List PlainFullVar → Type 0
  Known xs =
      (m n : ℕ) → m < n → n < length xs → FitTogether rows (var_in xs m) (var_in xs n) → Apart (var_in xs m).name (var_in xs n).name

  count : length us ≡ length vs
  count =
      let left = length-map us (λ v. v.name) in
      let right = length-map vs (λ v. v.name) in
      let lengths = ap (λ (ns : List VarName). length ns) names in
      omega (arith, left, right, lengths)

  pub same_apart : Known us → Known vs
  same_apart known m n less below fit =
      let same = count in
      let second : n < length us = omega (arith, same, below) in
      let first : m < length us = omega (arith, less, second) in
      let within : m < length vs = omega (arith, less, below) in
      let name_m = field_at (λ v. v.name) us vs m names first within in
      let name_n = field_at (λ v. v.name) us vs n names second below in
      let weights_m = field_at (λ v. v.weights) us vs m weighs first within in
      let weights_n = field_at (λ v. v.weights) us vs n weighs second below in
      let together : FitTogether rows (var_in us m) (var_in us n) = λ row inside one.
      let sum = fit row inside one in
      let left = ap (λ (ws : List (ℕ × ℕ)). weight_in ws row) weights_m in
      let right = ap (λ (ws : List (ℕ × ℕ)). weight_in ws row) weights_n in
      omega (arith, sum, left, right) in
      subst (λ (name : VarName). Apart name (var_in vs n).name) name_m
      (subst (λ (name : VarName). Apart (var_in us m).name name) name_n (known m n less second together))

-- static items that are apart have nothing in common
other_object : (k o p : ℕ) → (k == o) ≡ true → (o == p) ≡ false → (k == p) ≡ false
other_object k o p is differ = subst (λ (n : ℕ). (n == p) ≡ false) (sym (eqb-true k o is)) differ

nothing_static : (one other : VarName) → IsStatic one → IsStatic other → IsApart one other → HaveNothingInCommon one other
nothing_static (StaticData o) (StaticData p) first second apart =
    record { objects = λ k r brought. other_object k o p brought apart; blocks = λ b held. cc }
nothing_static (StaticData o) (StaticCode from to) first second apart =
    record { objects = λ k r brought. refl; blocks = λ b held. cc }
nothing_static (StaticCode from to) (StaticData p) first second apart =
    record { objects = λ k r brought. cc; blocks = λ b held. refl }
nothing_static (StaticCode from to) (StaticCode other_from other_to) first second apart =
    record { objects = λ k r brought. refl; blocks = λ b held. apart b held }
nothing_static (StaticData o) (OverlayData r p) first second apart = absurd second
nothing_static (StaticData o) (OverlayCode r from to) first second apart = absurd second
nothing_static (StaticData o) (KeptData pair p) first second apart = absurd second
nothing_static (StaticCode from to) (OverlayData r p) first second apart = absurd second
nothing_static (StaticCode from to) (OverlayCode r other_from other_to) first second apart = absurd second
nothing_static (StaticCode from to) (KeptData pair p) first second apart = absurd second
nothing_static (OverlayData r o) other first second apart = absurd first
nothing_static (OverlayCode r from to) other first second apart = absurd first
nothing_static (KeptData pair o) other first second apart = absurd first

static_name : (d : Candidate) → IsOfSide false d → IsStatic (name_of d)
static_name (static_data d) of = tt
static_name (static_code p) of = tt
static_name (overlay_data r d) of = absurd of
static_name (overlay_code r p) of = absurd of
static_name (kept_data pair d) of = absurd of

-- ---- what several runs state

module _ (board : Board) (g : Graph) (c : Code) (t : RegionTable) (objects : List ℕ) (pieces : List Piece) (runs : List WeightedRun) (are : AreSomePieces c g pieces) (overlaid : AreOverlaidObjects c g t objects) (follow : AllFollow (scene_of g c t board) runs) where
  abbrev w : Scene
  w = scene_of g c t board

  abbrev l : Layout
  l = overlay_layout g c t board

  abbrev statics : List Candidate
  statics = static_candidates w pieces

  abbrev items : List Candidate
  items = static_candidates w pieces ++ overlay_candidates w objects pieces

  static_at : (k : ℕ) → k < length (map (mixed_var false w l runs) statics) → IsStatic (var_in (map (mixed_var false w l runs) statics) k).name
  static_at k below =
      let count = length-map statics (mixed_var false w l runs) in
      let inside : k < length statics = omega (arith, count, below) in
      let d = some_candidate statics k inside in
      subst (λ (v : PlainFullVar). IsStatic v.name) (sym (get_or-map (mixed_var false w l runs) statics k d no_var inside))
      (static_name (slice_index_or statics k d) (static_sides w pieces k d inside))

  off_apart : AreApartWhereTheyFit false w l statics runs
  off_apart m n less below fit =
      let vs = map (mixed_var false w l runs) statics in
      let us = static_vars w l pieces [] in
      let names = ap (λ (xs : List PlainFullVar). map (λ v. v.name) xs) (off_are w l [] pieces) ∙ same_fields (off_var w l []) (mixed_var false w l runs) (λ v. v.name) statics (λ d. refl) in
      let weighs = ap (λ (xs : List PlainFullVar). map (λ v. v.weights) xs) (off_are w l [] pieces) ∙ same_fields (off_var w l []) (mixed_var false w l runs) (λ v. v.weights) statics (λ d. refl) in
      nothing_static (var_in vs m).name (var_in vs n).name (static_at m (omega (arith, less, below))) (static_at n below)
      (same_apart (capacities false l) IsApart us vs names weighs (statics_apart board g c t pieces [] are) m n less below fit)

  on_apart : 1 ≤ t.count → AreApartWhereTheyFit true w l items runs
  on_apart some =
      let vs = map (mixed_var true w l runs) items in
      let us = map (overlay_var w l []) items in
      let names = same_fields (overlay_var w l []) (mixed_var true w l runs) (λ v. v.name) items (λ d. refl) in
      let weighs = same_fields (overlay_var w l []) (mixed_var true w l runs) (λ v. v.weights) items (λ d. refl) in
      same_apart (capacities true l) HaveNothingInCommon us vs names weighs (all_items_apart board g c t objects pieces [] are overlaid some)

  abbrev side : PlainFullSide
  side = mixed_side true w l items runs

  abbrev IsOnEnergy : List ℕ → Option PlainSide → Type 0
  IsOnEnergy take s =
      pos (mixed_steps w nothing_taken runs) -ℤ gain_on s take ≡ pos (mixed_side_energy w (taken true (names_of s take)) runs)

  abbrev FitsOn : List ℕ → Option PlainSide → Type 0
  FitsOn take s = IsSomeAnd s (λ x. Fits x take)

  where_worth : (take : List ℕ) (worth : Bool) → 1 ≤ t.count → FitsOn take (if worth then Some (selected_side side) else None) → IsOnEnergy take (if worth then Some (selected_side side) else None)
  where_worth take false some feasible = absurd feasible
  where_worth take true some feasible = choice_energy true w l items runs take follow (on_apart some) feasible

  where_there : (take : List ℕ) (there : Bool) → (there ≡ true → 1 ≤ t.count) → FitsOn take (selected_on (if there then Some side else None)) → IsOnEnergy take (selected_on (if there then Some side else None))
  where_there take false some feasible = absurd feasible
  where_there take true some feasible = where_worth take (has_overlay side.vars) (some refl) feasible

  abbrev p : PlainProgramme
  p = mixed_stated w l objects pieces runs

  -- a choice without overlay that takes something pays for the start stub
  off_energy : (name : VarName) (names : List VarName) → mixed_energy w (taken false (name ∷ names)) runs ≡ mixed_side_energy w (taken false (name ∷ names)) runs
  off_energy name names =
      let each : (ms : List Transition) → energy w (taken false (name ∷ names)) ms ≡ side_energy w (taken false (name ∷ names)) ms =
      λ ms. some_choice (length names) (steps_energy w (taken false (name ∷ names)) ms) (side_energy w (taken false (name ∷ names)) ms) in
      ap (λ (f : List Transition → ℕ). mixed_by f runs) (λ i ms. each ms i)

  pub choice_is : (on : Bool) (take : List ℕ) → IsFeasible p record { on = on; take = take } → programme_energy p record { on = on; take = take } ≡ pos (mixed_energy w (taken_of p record { on = on; take = take }) runs)
  choice_is true take feasible = where_there take (has_on_side w l objects pieces) (some_region board g c t objects pieces [] are overlaid) feasible
  choice_is false [] feasible = nothing_shape (mixed_steps w nothing_taken runs)
  choice_is false (k ∷ ks) feasible =
      let names = names_of (Some p.off) ks in
      choice_energy false w l statics runs (k ∷ ks) follow off_apart feasible ∙ ap pos (sym (off_energy (kept_name p.off.vars k) names))

pub energies_are_mixed : OneInstruction → MixedEnergyIsOfTheRuns
energies_are_mixed one view board g c t objects pieces runs given are overlaid choice feasible =
    choice_is board g c t objects pieces runs are overlaid
    (λ k d below. let (q, same) = given k d below in follows one view board g c t q (slice_index_or runs k d).transitions same) choice.on choice.take feasible

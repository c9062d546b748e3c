-- The energy of a choice of the stated programme, by the items that it takes.
use Rattle.std.proofs.Common.{◌≡◌, ◌∙◌, inl, inr, ℕ, zero, suc, ◌+◌, ◌-◌, ◌<◌, ◌≤◌, ◌==◌, ◌&&◌, nat_le, ℤ, pos, ◌-ℤ◌, ◌≤ℤ◌, Bool, true, false, not, if◌then◌else◌, List, [], ◌∷◌, length, map, slice_index, slice_index_or, refl, sym, ap, subst, arith, length-append}
use Rattle.std.specs.List.{sum_by}
use Rattle.std.proofs.Math.Seq.{get_or-append_seam}
use Rattle.std.proofs.lemmas.Bool.{cases_lt}
use Rattle.std.proofs.lemmas.Bool.Decides.{nat_tests}
use Rattle.std.proofs.lemmas.Int.{ints}
use Rattle.std.proofs.lemmas.List.{get_or-map, get_or-replicate, get_or_append_left, get_or-append_right, length-map, length-replicate}
use Rattle.list_checks.proofs.TestLemmas.{both}
use Rattle.rv32im.specs.Table.{OneInstruction}
use Rattle.object_graph.specs.declared.parts.Graph.{Graph}
use Rattle.code_blocks.specs.declared.parts.Code.{Code}
use Rattle.region_former.specs.declared.table.RegionTable.{RegionTable}
use Rattle.board_config.specs.declared.board.Board.{Board}
use Rattle.placement_programme.specs.declared.variables.VarName.{VarName}
use Rattle.placement_programme.specs.declared.variables.VarName.TheVariants.{StaticData}
use Rattle.placement_programme.specs.Plain.{PlainFullVar}
use Rattle.placement_programme.specs.Bounds.{AscendWithin}
use Rattle.placement_programme.specs.Programme.{gain_at, weight_in, Fits, IsFeasible, gain, energy as programme_energy}
use Rattle.placement_programme.specs.Rows.{Layout, off_capacities}
use Rattle.profile_runner.specs.Transition.{Transition}
use Rattle.block_splitter.specs.declared.piece.Piece.{Piece}
use Rattle.block_splitter.specs.Forms.{holds_block}
use Rattle.block_splitter.specs.Pieces.{range_of, IsRange, HasShape}
use Rattle.energy_model.specs.Energy.{Scene, steps_energy, stub_energy, side_energy, energy, nothing_taken}
use Rattle.energy_model.specs.Scenes.{scene_of, layout_of}
use Rattle.energy_model.specs.Priced.{IsStatic, IsApart, IsApartFrom, AreApart}
use Rattle.placement_candidates.specs.Stated.{gain_alone, data_var, data_vars, code_var, AreSomePieces, static_vars}
use Rattle.placement_candidates.specs.Selected.{no_var, var_in, stated}
use Rattle.placement_candidates.specs.Adding.{gains_by, kept_name, taken_by, EnergyIsOfTheRun, GainsAreWithinTheBase}
use Rattle.energy_model.proofs.SceneLemmas.{Follows, follows}
use Rattle.placement_candidates.proofs.AddingLemmas.{items_sum}
use Rattle.placement_candidates.proofs.ApartLemmas.{in_rows_weight}
use Rattle.placement_candidates.proofs.SideLemmas.{cases_bool, kept, each_name, gains_are, IsApartFromEach, AreAllApart, FitTogether, all_apart}

-- ---- all variables

data_count : (w : Scene) (l : Layout) (ms : List Transition) (n : ℕ) → length (data_vars w l ms n) ≡ n
data_count w l ms zero = refl
data_count w l ms (suc n) =
    let earlier = data_count w l ms n in
    let sum = length-append (data_vars w l ms n) (data_var w l ms n ∷ []) in
    omega (arith, earlier, sum)

data_at : (w : Scene) (l : Layout) (ms : List Transition) (n k : ℕ) → k < n → var_in (data_vars w l ms n) k ≡ data_var w l ms k
data_at w l ms zero k below = absurd (omega (arith, below))
data_at w l ms (suc n) k below =
    let count = data_count w l ms n in
    elim (cases_lt k n) [
      | inl less ↦ get_or_append_left (data_vars w l ms n) (data_var w l ms n ∷ []) no_var k (omega (arith, count, less)) ∙ data_at w l ms n k less
      | inr more ↦
          let last : k ≡ n = omega (arith, below, more) in
          ap (λ j. var_in (data_vars w l ms (suc n)) j) (last ∙ sym count)
          ∙ (get_or-append_seam (data_vars w l ms n) (data_var w l ms n) [] no_var ∙ ap (data_var w l ms) (sym last))
    ]

pub some_piece : (ps : List Piece) (j : ℕ) → j < length ps → Piece
some_piece [] j below = absurd (omega (arith, below))
some_piece (p ∷ ps) j below = p

shape_range : (c : Code) (p : Piece) → HasShape c (range_of p) → IsRange c (range_of p)
shape_range c p (f, inl function) = function.is_range
shape_range c p (f, inr (inl loop)) = loop.is_range
shape_range c p (f, inr (inr single)) = single.is_range

pub piece_range : (c : Code) (g : Graph) (pieces : List Piece) (j : ℕ) (d : Piece) → AreSomePieces c g pieces → j < length pieces → IsRange c (range_of (slice_index_or pieces j d))
piece_range c g pieces j d are below = shape_range c (slice_index_or pieces j d) (are.each j d below).copied.shape

abbrev pub object_count : Scene → ℕ
object_count w = length w.graph.objects.items

-- a variable has the gain of its name, and is static; those of objects stand before those of pieces
pub vars_count : (w : Scene) (l : Layout) (pieces : List Piece) (ms : List Transition) → length (static_vars w l pieces ms) ≡ object_count w + length pieces
vars_count w l pieces ms =
    let all = length-append (data_vars w l ms (object_count w)) (map (code_var w l ms) pieces) in
    let objects = data_count w l ms (object_count w) in
    let code = length-map pieces (code_var w l ms) in
    omega (arith, all, objects, code)

pub object_at : (w : Scene) (l : Layout) (pieces : List Piece) (ms : List Transition) (k : ℕ) → k < object_count w → var_in (static_vars w l pieces ms) k ≡ data_var w l ms k
object_at w l pieces ms k below =
    let count = data_count w l ms (object_count w) in
    get_or_append_left (data_vars w l ms (object_count w)) (map (code_var w l ms) pieces) no_var k (omega (arith, count, below))
    ∙ data_at w l ms (object_count w) k below

pub piece_at : (w : Scene) (l : Layout) (pieces : List Piece) (ms : List Transition) (k : ℕ) (d : Piece) → object_count w ≤ k → k - object_count w < length pieces → var_in (static_vars w l pieces ms) k ≡ code_var w l ms (slice_index_or pieces (k - object_count w) d)
piece_at w l pieces ms k d from below =
    get_or-append_right (data_vars w l ms (object_count w)) (map (code_var w l ms) pieces) (object_count w) k no_var (data_count w l ms (object_count w)) from
    ∙ get_or-map (code_var w l ms) pieces (k - object_count w) d no_var below

-- what is known of a variable
record IsStated (w : Scene) (ms : List Transition) (v : PlainFullVar) : Type 0 where
  pub saves : v.gain ≡ gain_alone w ms v.name
  pub static : IsStatic v.name

is_stated : (w : Scene) (l : Layout) (pieces : List Piece) (ms : List Transition) (k : ℕ) → k < length (static_vars w l pieces ms) → IsStated w ms (var_in (static_vars w l pieces ms) k)
is_stated w l pieces ms k below =
    let count = vars_count w l pieces ms in
    elim (cases_lt k (object_count w)) [
      | inl less ↦ subst (IsStated w ms) (sym (object_at w l pieces ms k less)) (record { saves = refl; static = tt })
      | inr more ↦
          let inside : k - object_count w < length pieces = omega (arith, below, more, count) in
          subst (IsStated w ms) (sym (piece_at w l pieces ms k (some_piece pieces (k - object_count w) inside) more inside)) (record { saves = refl; static = tt })
    ]

-- ---- rows: each block is copied once at most

code_weight : (w : Scene) (l : Layout) (ms : List Transition) (p : Piece) (b : ℕ) → holds_block b (range_of p) ≡ true → weight_in (code_var w l ms p).weights (2 + b) ≡ 1
code_weight w l ms p b held =
    let ends = both (nat_le p.first b) (nat_le b p.last) held in
    let first : nat_le p.first b ≡ true = ends.0 in
    let last : nat_le b p.last ≡ true = ends.1 in
    let from : p.first ≤ b = grind (arith, nat_tests, first) in
    let to : b ≤ p.last = grind (arith, nat_tests, last) in
    let no_space : (0 == 2 + b) ≡ false = grind (arith, nat_tests) in
    let no_patch : (1 == 2 + b) ≡ false = grind (arith, nat_tests) in
    rw (no_space, no_patch) (in_rows_weight (2 + p.first) (p.last + 1 - p.first) 1 (2 + b) (omega (arith, from)) (omega (arith, from, to)))

block_row_one : (l : Layout) (b : ℕ) → b < l.blocks → (2 + b < length (off_capacities l)) × (slice_index (off_capacities l) (2 + b) ≡ 1)
block_row_one l b below =
    let count = length-replicate {A = ℕ} l.blocks 1 in
    let more : 2 + b ≡ suc (suc b) = omega arith in
    (omega (arith, count, below), ap (slice_index (off_capacities l)) more ∙ get_or-replicate l.blocks b 1 0 below)

-- ---- names that are static and of which no two have anything in common

static_from : (name : VarName) (names : List VarName) → IsStatic name → IsApartFromEach IsApart name names → IsApartFrom name names
static_from name [] static apart = static
static_from name (other ∷ names) static apart = (apart.0, static_from name names static apart.1)

-- ---- what is taken of them

energy_shape : (base fixed gains : ℕ) (sum : ℤ) → pos gains ≡ sum → pos base -ℤ (pos gains -ℤ pos fixed) ≡ pos (base + fixed) -ℤ sum
energy_shape base fixed gains sum is = omega (arith, ints, is)

pub nothing_shape : (base : ℕ) → pos base -ℤ pos 0 ≡ pos base
nothing_shape base = omega (arith, ints)

-- a choice that takes something pays for the start stub
pub some_choice : (n x y : ℕ) → (if not false && (suc n == 0) then x else y) ≡ y
some_choice n x y = let test : (suc n == 0) ≡ false = grind (arith, nat_tests) in rw test refl

module _ (board : Board) (g : Graph) (c : Code) (t : RegionTable) (pieces : List Piece) (ms : List Transition) (are : AreSomePieces c g pieces) where
  abbrev w : Scene
  w = scene_of g c t board

  abbrev l : Layout
  l = layout_of g c t board

  abbrev vs : List PlainFullVar
  vs = static_vars w l pieces ms

  -- the weight of a piece in the row of one of its blocks
  weight_is : (k : ℕ) (d : Piece) (b : ℕ) → k < length vs → object_count w ≤ k → holds_block b (range_of (slice_index_or pieces (k - object_count w) d)) ≡ true → weight_in (var_in vs k).weights (2 + b) ≡ 1
  weight_is k d b below from held =
      let count = vars_count w l pieces ms in
      let inside : k - object_count w < length pieces = omega (arith, below, from, count) in
      ap (λ (v : PlainFullVar). weight_in v.weights (2 + b)) (piece_at w l pieces ms k d from inside)
      ∙ code_weight w l ms (slice_index_or pieces (k - object_count w) d) b held

  pieces_apart : (m n : ℕ) → m < n → n < length vs → FitTogether (off_capacities l) (var_in vs m) (var_in vs n) → (d e : Piece) (b : ℕ) → object_count w ≤ m → holds_block b (range_of (slice_index_or pieces (m - object_count w) d)) ≡ true → holds_block b (range_of (slice_index_or pieces (n - object_count w) e)) ≡ false
  pieces_apart m n less below fit d e b from held =
      let count = vars_count w l pieces ms in
      let p = slice_index_or pieces (m - object_count w) d in
      let inside : m - object_count w < length pieces = omega (arith, less, below, from, count) in
      let bound = (piece_range c g pieces (m - object_count w) d are inside).below in
      let last = (both (nat_le p.first b) (nat_le b p.last) held).1 in
      let to : b ≤ p.last = grind (arith, nat_tests, last) in
      elim (cases_bool (holds_block b (range_of (slice_index_or pieces (n - object_count w) e)))) [
        | inr free ↦ free
        | inl both_hold ↦
            let one = weight_is m d b (omega (arith, less, below)) from held in
            let two = weight_is n e b below (omega (arith, less, from)) both_hold in
            let row = block_row_one l b (omega (arith, to, bound)) in
            let most = fit (2 + b) row.0 row.1 in
            absurd (omega (arith, one, two, most))
      ]

  -- two that fit together have nothing in common
  pub apart : (m n : ℕ) → m < n → n < length vs → FitTogether (off_capacities l) (var_in vs m) (var_in vs n) → IsApart (var_in vs m).name (var_in vs n).name
  apart m n less below fit =
      let count = vars_count w l pieces ms in
      elim (cases_lt n (object_count w)) [
        | inl second ↦
            let other : (m == n) ≡ false = grind (arith, nat_tests, less) in
            subst (λ (v : PlainFullVar). IsApart v.name (var_in vs n).name) (sym (object_at w l pieces ms m (omega (arith, less, second))))
            (subst (λ (v : PlainFullVar). IsApart (StaticData m) v.name) (sym (object_at w l pieces ms n second)) other)
        | inr from ↦
            let inside : n - object_count w < length pieces = omega (arith, below, from, count) in
            let e = some_piece pieces (n - object_count w) inside in
            elim (cases_lt m (object_count w)) [
              | inl first ↦
                  subst (λ (v : PlainFullVar). IsApart v.name (var_in vs n).name) (sym (object_at w l pieces ms m first))
                  (subst (λ (v : PlainFullVar). IsApart (StaticData m) v.name) (sym (piece_at w l pieces ms n e from inside)) tt)
              | inr start ↦
                  let within : m - object_count w < length pieces = omega (arith, below, less, start, count) in
                  subst (λ (v : PlainFullVar). IsApart v.name (var_in vs n).name) (sym (piece_at w l pieces ms m e start within))
                  (subst (λ (v : PlainFullVar). IsApart (code_var w l ms (slice_index_or pieces (m - object_count w) e)).name v.name) (sym (piece_at w l pieces ms n e from inside))
                  (λ b held. pieces_apart m n less below fit e e b start held))
            ]
      ]

  static_name : (i : ℕ) → i < length (kept vs) → IsStatic (kept_name (kept vs) i)
  static_name i below = each_name vs IsStatic (λ k inside. (is_stated w l pieces ms k inside).static) i below

  all_static : (low : ℕ) (take : List ℕ) → AscendWithin low (length (kept vs)) take → AreAllApart IsApart (map (kept_name (kept vs)) take) → AreApart (map (kept_name (kept vs)) take)
  all_static low [] within free = tt
  all_static low (i ∷ take) within free = (
    static_from (kept_name (kept vs) i) (map (kept_name (kept vs)) take) (static_name i within.1) free.0,
    all_static (suc i) take within.2 free.1,
  )

  -- ---- the energy of a choice

  off_energy : (take : List ℕ) → Follows w ms → Fits (stated w l pieces ms).off take → programme_energy (stated w l pieces ms) record { on = false; take = take } ≡ pos (energy w (taken_by (stated w l pieces ms) record { on = false; take = take }) ms)
  off_energy [] all fits = nothing_shape (steps_energy w nothing_taken ms)
  off_energy (k ∷ ks) all fits =
      let take : List ℕ = k ∷ ks in
      let names = map (kept_name (kept vs)) take in
      let gains = gains_are vs (gain_alone w ms) (λ i below. (is_stated w l pieces ms i below).saves) 0 take fits.numbers in
      let sum = items_sum w ms names all (all_static 0 take fits.numbers (all_apart vs (off_capacities l) IsApart apart take fits)) in
      energy_shape (steps_energy w nothing_taken ms) (stub_energy w nothing_taken) (sum_by (gain_at (kept vs)) take) (gains_by (gain_alone w ms) names) gains
      ∙ (sym sum
      ∙ ap pos (sym (some_choice (length (map (kept_name (kept vs)) ks)) (steps_energy w (taken_by (stated w l pieces ms) record { on = false; take = take }) ms) (side_energy w (taken_by (stated w l pieces ms) record { on = false; take = take }) ms))))

  pub stated_energy : (on : Bool) (take : List ℕ) → Follows w ms → IsFeasible (stated w l pieces ms) record { on = on; take = take } → programme_energy (stated w l pieces ms) record { on = on; take = take } ≡ pos (energy w (taken_by (stated w l pieces ms) record { on = on; take = take }) ms)
  stated_energy true take all feasible = absurd feasible
  stated_energy false take all feasible = off_energy take all feasible

pub is_of_the_run : OneInstruction → EnergyIsOfTheRun
is_of_the_run one view board g c t q pieces ms choice given are feasible =
    stated_energy board g c t pieces ms are choice.on choice.take (follows one view board g c t q ms given) feasible

at_most_base : (base : ℕ) (gain : ℤ) (n : ℕ) → pos base -ℤ gain ≡ pos n → gain ≤ℤ pos base
at_most_base base gain n is = omega (arith, ints, is)

pub within_the_base : OneInstruction → GainsAreWithinTheBase
within_the_base one view board g c t q pieces ms choice given are feasible =
    let w = scene_of g c t board in
    let l = layout_of g c t board in
    at_most_base (steps_energy w nothing_taken ms) (gain (stated w l pieces ms) choice) (energy w (taken_by (stated w l pieces ms) choice) ms)
    (is_of_the_run one view board g c t q pieces ms choice given are feasible)

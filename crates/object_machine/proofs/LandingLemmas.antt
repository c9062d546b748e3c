-- Landings, and the widest range of fixed memory.
use Rattle.std.proofs.Common.{◌≡◌, inl, inr, ℕ, zero, suc, ◌<◌, true, List, set, length, slice_index, get_or, Option, None, refl, ◌∙◌, ap, arith}
use Rattle.std.specs.List.{list_any}
use Rattle.std.proofs.lemmas.Bool.{cases_eq}
use Rattle.std.proofs.lemmas.List.{length-set, get_or-set_same, get_or-set_other}
use Rattle.std.proofs.lemmas.List.Folds.{list_any_at}
use Rattle.list_checks.specs.First.{first_below}
use Rattle.board_config.specs.declared.board.Range.{Range}
use Rattle.object_graph.specs.Sites.{in_range}
use Rattle.code_blocks.specs.Early.{has}
use Rattle.object_machine.specs.declared.units.Prepared.{Prepared}
use Rattle.object_machine.specs.Landings.{AreLandings}
use Rattle.object_machine.specs.Units.{unit_in, IsUnitAt}

-- a landing leads to a beginning
pub landed : (units : List Prepared) (starts landings : List ℕ) (word place address : ℕ) → AreLandings units starts landings → place ≡ slice_index landings word → IsUnitAt units place address → word < length landings → has starts address ≡ true
landed units starts landings word place address are is at below =
    let inside : slice_index landings word < length units = rw is at at.0 in
    let begins : has starts (unit_in units place).at ≡ true = rw is (are word below inside) in
    rw at.1 at begins

-- a landing that leads to a beginning is put among others
pub landing_put : (units : List Prepared) (starts old new : List ℕ) (word place : ℕ) → word < length old → new ≡ set old word place → has starts (unit_in units place).at ≡ true → AreLandings units starts old → AreLandings units starts new
landing_put units starts old new word place below is begins are i less inside =
    let count : length new ≡ length old = ap length is ∙ length-set old word place in
    elim (cases_eq i word) [
      | inl same ↦
          let here : slice_index new i ≡ place = ap (λ (xs : List ℕ). slice_index xs i) is ∙ (ap (λ (j : ℕ). slice_index (set old word place) j) same ∙ get_or-set_same old word place 0 below) in
          rw here begins
      | inr other ↦
          let here : slice_index new i ≡ slice_index old i = ap (λ (xs : List ℕ). slice_index xs i) is ∙ get_or-set_other old word i place 0 other in
          let within : slice_index old i < length units = rw here at inside in
          rw here (are i (omega (arith, less, count)) within)
    ]

-- the range at a place is one of all
pub range_at : (ranges : List Range) (k : ℕ) (d : Range) (a : ℕ) → k < length ranges → in_range (get_or ranges k d) a ≡ true → list_any (λ r. in_range r a) ranges ≡ true
range_at ranges k d a below inside = list_any_at (λ r. in_range r a) ranges k d below inside

-- where no check fails there is no first fault
pub none_fails : (check : ℕ → Option ℕ) (n : ℕ) → ((i : ℕ) → i < n → check i ≡ None) → first_below check n ≡ None
none_fails check zero none = refl
none_fails check (suc n) none =
    let before = none_fails check n (λ i below. none i (omega (arith, below))) in
    let last = none n (omega arith) in rw (before, last) refl

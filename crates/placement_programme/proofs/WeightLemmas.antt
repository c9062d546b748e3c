-- What a row's weight is, by the place of its entry.
use Rattle.std.proofs.Common.{◌≡◌, ◌≢◌, ◌∙◌, inl, inr, ℕ, zero, suc, ◌<◌, ◌≤◌, List, [], ◌∷◌, map, length, get_or, sym, ap, refl, false, nat_lt, arith}
use Rattle.std.specs.List.{All}
use Rattle.std.specs.List.Sorted.{IsNonDecreasingBy}
use Rattle.std.proofs.lemmas.Bool.{cases_lt}
use Rattle.std.proofs.lemmas.Bool.Decides.{nat_tests}
use Rattle.std.proofs.lemmas.List.{get_or-map, length-map}
use Rattle.placement_programme.specs.Plain.{PlainVar, plain_var}
use Rattle.placement_programme.specs.declared.variables.Var.{Var}
use Rattle.placement_programme.specs.Bounds.{AscendWithin, RowsWithin, AreWeights, row_of, value_of}
use Rattle.placement_programme.specs.Programme.{gain_at, weights_at, weight_in}
use Rattle.placement_programme.proofs.AscendLemmas.{number_below, rows_rise, row_at_least}

pub by_row : (high : ℕ) (ws : List (ℕ × ℕ)) → RowsWithin 0 high ws → IsNonDecreasingBy row_of ws
by_row high ws all i j d order inside =
    elim (cases_lt i j) [
      | inl before ↦ let rise = rows_rise 0 high ws i j d all before inside in omega (arith, rise)
      | inr behind ↦ let same : i ≡ j = omega (arith, order, behind) in rw same (omega arith)
    ]

pub weight_found : (low high : ℕ) (ws : List (ℕ × ℕ)) (place row : ℕ) (d : ℕ × ℕ) → RowsWithin low high ws → place < length ws → row_of (get_or ws place d) ≡ row → weight_in ws row ≡ value_of (get_or ws place d)
weight_found low high [] place row d all inside is = absurd (omega arith)
weight_found low high (w ∷ ws) zero row d all inside is = grind (arith, nat_tests, is)
weight_found low high (w ∷ ws) (suc place) row d all inside is =
    let later = row_at_least (suc (row_of w)) high ws place d all.2 (omega arith) in
    let rest = weight_found (suc (row_of w)) high ws place row d all.2 (omega arith) is in
    let other : row_of w ≢ row = omega (arith, later, is) in
    grind (arith, nat_tests, rest, other)

pub weight_missing : (ws : List (ℕ × ℕ)) (row : ℕ) (d : ℕ × ℕ) → ((k : ℕ) → k < length ws → row_of (get_or ws k d) ≢ row) → weight_in ws row ≡ 0
weight_missing [] row d none = refl
weight_missing (w ∷ ws) row d none =
    let rest = weight_missing ws row d (λ k inside. none (suc k) (omega arith)) in
    let other : row_of w ≢ row = none 0 (omega arith) in
    grind (arith, nat_tests, rest, other)

-- a weight is small where all are
pub weight_small : (bound : ℕ) (ws : List (ℕ × ℕ)) (row : ℕ) → 0 < bound → ((k : ℕ) (d : ℕ × ℕ) → k < length ws → value_of (get_or ws k d) < bound) → weight_in ws row < bound
weight_small bound [] row some small = some
weight_small bound (w ∷ ws) row some small =
    let rest = weight_small bound ws row some (λ k d inside. small (suc k) d (omega arith)) in
    let here = small 0 w (omega arith) in
    grind (arith, nat_tests, rest, here)

-- the variable of a number
pub gain_at_is : (vs : List Var) (k : ℕ) (d : Var) → k < length vs → gain_at (map plain_var vs) k ≡ (get_or vs k d).gain
gain_at_is [] k d inside = absurd (omega arith)
gain_at_is (v ∷ vs) zero d inside = refl
gain_at_is (v ∷ vs) (suc k) d inside = gain_at_is vs k d (omega arith)

-- the gain of the variable of a taken number
pub taken_gain : (vs : List Var) (ks : List ℕ) (i : ℕ) (var : Var) → AscendWithin 0 (length vs) ks → i < length ks → gain_at (map plain_var vs) (get_or ks i 0) ≡ (get_or vs (get_or ks i 0) var).gain
taken_gain vs ks i var numbers inside = gain_at_is vs (get_or ks i 0) var (number_below 0 (length vs) ks i 0 numbers inside)

pub weights_at_is : (vs : List Var) (k : ℕ) (d : Var) → k < length vs → weights_at (map plain_var vs) k ≡ (get_or vs k d).weights.items
weights_at_is [] k d inside = absurd (omega arith)
weights_at_is (v ∷ vs) zero d inside = refl
weights_at_is (v ∷ vs) (suc k) d inside = weights_at_is vs k d (omega arith)

pub weights_are : (count : ℕ) (vs : List PlainVar) (k : ℕ) → ((j : ℕ) (d : PlainVar) → j < length vs → AreWeights count (get_or vs j d).weights) → k < length vs → AreWeights count (weights_at vs k)
weights_are count [] k all inside = absurd (omega arith)
weights_are count (v ∷ vs) zero all inside = all 0 v (omega arith)
weights_are count (v ∷ vs) (suc k) all inside = weights_are count vs k (λ j d below. all (suc j) d (omega arith)) (omega arith)

-- what holds of all that a list is mapped to holds of what they are mapped from; `All-map` is the other way
pub all_mapped : {X Y : Type 0} (P : X → Type 0) (f : Y → X) (ys : List Y) → All P (map f ys) → All (λ y. P (f y)) ys
all_mapped P f ys all k d inside =
    let here = all k (f d) (rw (length-map ys f) inside) in
    rw (get_or-map f ys k d (f d) inside) at here

-- the weights of a variable, which stands at a place of the vector
pub at_place : (vs : List Var) (k : ℕ) (var : Var) → k < length vs → var ≡ get_or vs k var → weights_at (map plain_var vs) k ≡ var.weights.items
at_place vs k var inside is = weights_at_is vs k var inside ∙ sym (ap (λ (v : Var). v.weights.items) is)

pub var_weights : (count : ℕ) (vs : List Var) (k : ℕ) → All (λ v. AreWeights count v.weights) (map plain_var vs) → k < length vs → AreWeights count (weights_at (map plain_var vs) k)
var_weights count vs k all inside = weights_are count (map plain_var vs) k all (rw (length-map vs plain_var) inside)

pub not_below : (row bound : ℕ) → nat_lt row bound ≡ false → bound ≤ row
not_below row bound is = grind (arith, nat_tests, is)

-- entries before a place stand in rows before `row`, those from there on do not, and that place isn't of this row
pub weight_none : (high : ℕ) (ws : List (ℕ × ℕ)) (place row : ℕ) → RowsWithin 0 high ws → ((k : ℕ) → k < place → row_of (get_or ws k (0, 0)) < row) → ((k : ℕ) → place ≤ k → k < length ws → row ≤ row_of (get_or ws k (0, 0))) → (place < length ws → row_of (get_or ws place (0, 0)) ≢ row) → weight_in ws row ≡ 0
weight_none high ws place row all before behind other =
    weight_missing ws row (0, 0) (λ k inside same.
    elim (cases_lt k place) [
      | inl early ↦ let less = before k early in omega (arith, less, same)
      | inr late ↦
          elim (cases_lt place k) [
            | inl later ↦
                let within : place < length ws = omega (arith, later, inside) in
                let reached = behind place (omega arith) within in
                let rise = rows_rise 0 high ws place k (0, 0) all later inside in
                omega (arith, reached, rise, same)
            | inr met ↦
                let here : k ≡ place = omega (arith, late, met) in
                let within : place < length ws = omega (arith, here, inside) in
                other within (rw here at same)
          ]
    ])

-- Weights as they are added to the loads of some rows.
use Rattle.std.proofs.Common.{◌≡◌, ◌∙◌, ◌≢◌, inl, inr, ℕ, zero, suc, ◌+◌, ◌-◌, ◌<◌, ◌≤◌, ◌==◌, if◌then◌else◌, List, [], ◌∷◌, length, take, drop, get_or, slice_index, slice_set, add-one, ap, sym, refl, arith}
use Rattle.std.proofs.lemmas.Bool.{cases_eq, cases_lt}
use Rattle.std.proofs.lemmas.Bool.Decides.{nat_tests}
use Rattle.std.proofs.lemmas.List.{get_or-set_same, get_or-set_other, get_or-take, get_or-drop, length-take-le, length-drop}
use Rattle.placement_programme.specs.Bounds.{RowsWithin, row_of, value_of}
use Rattle.placement_programme.specs.Programme.{weight_in}
use Rattle.placement_programme.proofs.AscendLemmas.{row_at_least, rows_rise}
use Rattle.placement_programme.proofs.WeightLemmas.{weight_missing}

-- the first n entries name a row not at all
pub none_before : (ws : List (ℕ × ℕ)) (n row : ℕ) → ((k : ℕ) → k < n → k < length ws → row_of (get_or ws k (0, 0)) ≢ row) → weight_in (take n ws) row ≡ 0
none_before [] zero row none = refl
none_before [] (suc n) row none = refl
none_before (w ∷ ws) zero row none = refl
none_before (w ∷ ws) (suc n) row none =
    let rest = none_before ws n row (λ k before inside. none (suc k) (omega (arith, before)) (omega (arith, inside))) in
    let other : row_of w ≢ row = none 0 (omega arith) (omega arith) in
    grind (arith, nat_tests, rest, other)

-- nor do those behind them
pub none_behind : (ws : List (ℕ × ℕ)) (n row : ℕ) → ((k : ℕ) → n ≤ k → k < length ws → row_of (get_or ws k (0, 0)) ≢ row) → weight_in ws row ≡ weight_in (take n ws) row
none_behind [] zero row none = refl
none_behind [] (suc n) row none = refl
none_behind (w ∷ ws) zero row none =
    let rest = weight_missing ws row (0, 0) (λ k inside. none (suc k) (omega arith) (omega (arith, inside))) in
    let other : row_of w ≢ row = none 0 (omega arith) (omega arith) in
    grind (arith, nat_tests, rest, other)
none_behind (w ∷ ws) (suc n) row none =
    let rest = none_behind ws n row (λ k behind inside. none (suc k) (omega (arith, behind)) (omega (arith, inside))) in
    grind (arith, nat_tests, rest)

-- one entry more
pub weight_more : (low high : ℕ) (ws : List (ℕ × ℕ)) (i row : ℕ) (d : ℕ × ℕ) → RowsWithin low high ws → i < length ws → weight_in (take (suc i) ws) row ≡ weight_in (take i ws) row + (if row_of (get_or ws i d) == row then value_of (get_or ws i d) else 0)
weight_more low high [] i row d all inside = absurd (omega arith)
weight_more low high (w ∷ []) zero row d all inside = grind (arith, nat_tests)
weight_more low high (w ∷ v ∷ ws) zero row d all inside = grind (arith, nat_tests)
weight_more low high (w ∷ ws) (suc i) row d all inside =
    let rest = weight_more (suc (row_of w)) high ws i row d all.2 (omega arith) in
    let later = row_at_least (suc (row_of w)) high ws i d all.2 (omega arith) in
    elim (cases_eq (row_of w) row) [
      | inl same ↦ let other : row_of (get_or ws i d) ≢ row = omega (arith, same, later) in grind (arith, nat_tests, same, other)
      | inr other ↦ grind (arith, nat_tests, rest, other)
    ]

-- the entries before one are in other rows
pub first_of_row : (high : ℕ) (ws : List (ℕ × ℕ)) (i row : ℕ) → RowsWithin 0 high ws → i < length ws → row_of (get_or ws i (0, 0)) ≡ row → weight_in (take i ws) row ≡ 0
first_of_row high ws i row all inside is =
    none_before ws i row (λ k before below same.
    let rise = rows_rise 0 high ws k i (0, 0) all before inside in
    omega (arith, rise, same, is))

-- entries before a place are in rows below some, and the others in rows behind these
pub named_nowhere : (ws : List (ℕ × ℕ)) (place low high row : ℕ) → ((k : ℕ) → k < place → row_of (get_or ws k (0, 0)) < low) → ((k : ℕ) → place ≤ k → k < length ws → high ≤ row_of (get_or ws k (0, 0))) → low ≤ row → row < high → weight_in ws row ≡ 0
named_nowhere ws place low high row before behind from to =
    weight_missing ws row (0, 0) (λ k inside same.
    elim (cases_lt k place) [
      | inl early ↦ let less = before k early in omega (arith, less, same, from)
      | inr late ↦ let more = behind k late inside in omega (arith, more, same, to)
    ])

-- the load of a row, once an entry is added to the loads of rows from `low` on
pub load_more : (loads : List ℕ) (ws : List (ℕ × ℕ)) (low high i place k start : ℕ) → RowsWithin 0 high ws → i < length ws → low + place ≡ row_of (get_or ws i (0, 0)) → place < length loads → slice_index loads k ≡ start + weight_in (take i ws) (low + k) → slice_index (slice_set loads place (slice_index loads place + value_of (get_or ws i (0, 0)))) k ≡ start + weight_in (take (i + 1) ws) (low + k)
load_more loads ws low high i place k start all inside is within so_far =
    let value = value_of (get_or ws i (0, 0)) in
    let row = row_of (get_or ws i (0, 0)) in
    let more : weight_in (take (i + 1) ws) (low + k) ≡ weight_in (take i ws) (low + k) + (if row == low + k then value else 0) =
    rw add-one (weight_more 0 high ws i (low + k) (0, 0) all inside) in
    elim (cases_eq k place) [
      | inl same ↦
          let kept : slice_index (slice_set loads place (slice_index loads place + value)) place ≡ slice_index loads place + value = get_or-set_same loads place (slice_index loads place + value) 0 within in
          let hit : (if row == low + k then value else 0) ≡ value = let met : row ≡ low + k = omega (arith, same, is) in grind (arith, nat_tests, met) in
          let at : slice_index (slice_set loads place (slice_index loads place + value)) k ≡ slice_index loads k + value =
          ap (λ (j : ℕ). slice_index (slice_set loads place (slice_index loads place + value)) j) same ∙ kept ∙ ap (λ (j : ℕ). slice_index loads j + value) (sym same) in
          omega (arith, at, so_far, more, hit)
      | inr other ↦
          let kept : slice_index (slice_set loads place (slice_index loads place + value)) k ≡ slice_index loads k = get_or-set_other loads place k (slice_index loads place + value) 0 other in
          let missed : (if row == low + k then value else 0) ≡ 0 = let apart : row ≢ low + k = omega (arith, other, is) in grind (arith, nat_tests, apart) in
          omega (arith, kept, so_far, more, missed)
    ]

-- what holds of the rows of a part
pub in_part : (f : ℕ → ℕ) (rows : List ℕ) (low high row : ℕ) → high ≤ length rows → ((k : ℕ) → k < length (take (high - low) (drop low rows)) → f (low + k) ≤ slice_index (take (high - low) (drop low rows)) k) → low ≤ row → row < high → f row ≤ slice_index rows row
in_part f rows low high row end held from to =
    let behind = length-drop low rows in
    let long = length-take-le (high - low) (drop low rows) (omega (arith, behind, end, from, to)) in
    let first : row - low < high - low = omega (arith, from, to) in
    let here = held (row - low) (omega (arith, long, first)) in
    let taken : slice_index (take (high - low) (drop low rows)) (row - low) ≡ slice_index (drop low rows) (row - low) = get_or-take (high - low) (drop low rows) (row - low) 0 first in
    let dropped : slice_index (drop low rows) (row - low) ≡ slice_index rows (low + (row - low)) = get_or-drop low rows (row - low) 0 in
    let same : low + (row - low) ≡ row = omega (arith, from) in
    let held_here : f row ≤ slice_index (take (high - low) (drop low rows)) (row - low) = rw same at here in
    let stands : slice_index (drop low rows) (row - low) ≡ slice_index rows row = rw same at dropped in
    omega (arith, held_here, taken, stands)

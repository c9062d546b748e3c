-- Weights one after the other, by rows.
use Rattle.std.proofs.Common.{◌≡◌, ◌≢◌, ◌∙◌, inl, inr, ℕ, zero, suc, ◌+◌, ◌*◌, ◌<◌, List, [], ◌∷◌, length, take, get_or, slice_index, slice_set, refl, sym, ap, subst, arith, get_or-set_other, get_or-set_same}
use Rattle.std.proofs.lemmas.Bool.{cases_eq}
use Rattle.std.proofs.lemmas.Bool.Decides.{nat_tests}
use Rattle.placement_programme.specs.Bounds.{RowsWithin, row_of, value_of}
use Rattle.placement_programme.specs.Programme.{weight_in}
use Rattle.placement_programme.proofs.AscendLemmas.{row_at_least}

-- the first weights name no row from that of a later one on
pub weight_before : (low high : ℕ) (ws : List (ℕ × ℕ)) (i row : ℕ) (d : ℕ × ℕ) → RowsWithin low high ws → i < length ws → row ≡ row_of (get_or ws i d) → weight_in (take i ws) row ≡ 0
weight_before low high [] i row d all inside is = absurd (omega arith)
weight_before low high (w ∷ ws) zero row d all inside is = refl
weight_before low high (w ∷ ws) (suc i) row d all inside is =
    let rest = weight_before (suc (row_of w)) high ws i row d all.2 (omega arith) is in
    let later = row_at_least (suc (row_of w)) high ws i d all.2 (omega arith) in
    let other : row_of w ≢ row = omega (arith, later, is) in
    grind (arith, nat_tests, rest, other)

pub weight_here : (low high : ℕ) (ws : List (ℕ × ℕ)) (i row : ℕ) (d : ℕ × ℕ) → RowsWithin low high ws → i < length ws → row ≡ row_of (get_or ws i d) → weight_in (take (suc i) ws) row ≡ value_of (get_or ws i d)
weight_here low high [] i row d all inside is = absurd (omega arith)
weight_here low high (w ∷ ws) zero row d all inside is = grind (arith, nat_tests, is)
weight_here low high (w ∷ ws) (suc i) row d all inside is =
    let rest = weight_here (suc (row_of w)) high ws i row d all.2 (omega arith) is in
    let later = row_at_least (suc (row_of w)) high ws i d all.2 (omega arith) in
    let other : row_of w ≢ row = omega (arith, later, is) in
    grind (arith, nat_tests, rest, other)

pub weight_disjoint : (ws : List (ℕ × ℕ)) (i row : ℕ) (d : ℕ × ℕ) → i < length ws → row ≢ row_of (get_or ws i d) → weight_in (take (suc i) ws) row ≡ weight_in (take i ws) row
weight_disjoint [] i row d inside disjoint = absurd (omega arith)
weight_disjoint (w ∷ ws) zero row d inside disjoint =
    let other : row_of w ≢ row = λ same. disjoint (sym same) in
    grind (arith, nat_tests, other)
weight_disjoint (w ∷ ws) (suc i) row d inside disjoint =
    let rest = weight_disjoint ws i row d (omega arith) disjoint in
    elim (cases_eq (row_of w) row) [
      | inl same ↦ grind (arith, nat_tests, same)
      | inr other ↦ grind (arith, nat_tests, other, rest)
    ]

-- one more entry added, times a multiplier
pub priced_more : (high m : ℕ) (ws : List (ℕ × ℕ)) (old now : List ℕ) (i next at value : ℕ) (d : ℕ × ℕ) → RowsWithin 0 high ws → next ≡ suc i → i < length ws → at < length now → at ≡ row_of (get_or ws i d) → value ≡ m * value_of (get_or ws i d) → ((row : ℕ) → slice_index now row ≡ slice_index old row + m * weight_in (take i ws) row) → (row : ℕ) → slice_index (slice_set now at (slice_index now at + value)) row ≡ slice_index old row + m * weight_in (take next ws) row
priced_more high m ws old now i next at value d all is_next inside room is_row is_value so_far row =
    let more : slice_index (slice_set now at (slice_index now at + value)) row ≡ slice_index old row + m * weight_in (take (suc i) ws) row =
    elim (cases_eq row at) [
      | inl same ↦
          let kept : slice_index (slice_set now at (slice_index now at + value)) at ≡ slice_index now at + value = get_or-set_same now at (slice_index now at + value) 0 room in
          let before : m * weight_in (take i ws) at ≡ m * 0 = ap (λ n. m * n) (weight_before 0 high ws i at d all inside is_row) in
          let here : m * weight_in (take (suc i) ws) at ≡ m * value_of (get_or ws i d) = ap (λ n. m * n) (weight_here 0 high ws i at d all inside is_row) in
          let now_at = so_far at in
          let at_row : slice_index (slice_set now at (slice_index now at + value)) at ≡ slice_index old at + m * weight_in (take (suc i) ws) at = omega (arith, kept, before, here, now_at, is_value) in
          subst (λ r. slice_index (slice_set now at (slice_index now at + value)) r ≡ slice_index old r + m * weight_in (take (suc i) ws) r) (sym same) at_row
      | inr disjoint ↦
          let kept : slice_index (slice_set now at (slice_index now at + value)) row ≡ slice_index now row = get_or-set_other now at row (slice_index now at + value) 0 disjoint in
          let other : m * weight_in (take (suc i) ws) row ≡ m * weight_in (take i ws) row = ap (λ n. m * n) (weight_disjoint ws i row d inside (λ same. disjoint (same ∙ sym is_row))) in
          let before = so_far row in
          omega (arith, kept, other, before)
    ] in
    subst (λ k. slice_index (slice_set now at (slice_index now at + value)) row ≡ slice_index old row + m * weight_in (take k ws) row) (sym is_next) more

-- Loads of rows, added up by the weights of one variable after another.
use Rattle.std.proofs.Common.{◌≡◌, ◌∙◌, inl, inr, ℕ, suc, ◌+◌, ◌-◌, ◌<◌, ◌≤◌, List, length, take, get_or, slice_index, slice_set, sym, subst, arith, get_or-set_other, get_or-set_same}
use Rattle.std.proofs.lemmas.Bool.{cases_eq}
use Rattle.placement_programme.specs.Bounds.{RowsWithin, AreWeights, row_of, value_of}
use Rattle.placement_programme.specs.Programme.{weight_in}
use Rattle.placement_programme.proofs.AscendLemmas.{row_below}
use Rattle.placement_programme.proofs.WeightLemmas.{weight_found}
use Rattle.certificate_checker.proofs.EntryLemmas.{weight_before, weight_here, weight_disjoint, priced_more}

-- an entry's row is one of those that are loaded
pub row_inside : (ws : List (ℕ × ℕ)) (old now : List ℕ) (i : ℕ) → AreWeights (length old) ws → i < length ws → length now ≡ length old → row_of (get_or ws i (0, 0)) < length now
row_inside ws old now i weights inside room =
    let below = row_below 0 (length old) ws i (0, 0) weights.ascending inside in
    omega (arith, below, room)

-- one more entry added
pub added_more : (high : ℕ) (ws : List (ℕ × ℕ)) (old now : List ℕ) (i next at value : ℕ) (d : ℕ × ℕ) → RowsWithin 0 high ws → next ≡ suc i → i < length ws → at < length now → at ≡ row_of (get_or ws i d) → value ≡ value_of (get_or ws i d) → ((row : ℕ) → slice_index now row ≡ slice_index old row + weight_in (take i ws) row) → (row : ℕ) → slice_index (slice_set now at (slice_index now at + value)) row ≡ slice_index old row + weight_in (take next ws) row
added_more high ws old now i next at value d all is_next inside room is_row is_value so_far row =
    let more = priced_more high 1 ws old now i next at value d all is_next inside room is_row (omega (arith, is_value)) (λ r. let before = so_far r in omega (arith, before)) row in
    omega (arith, more)

-- one more entry taken off
pub taken_less : (high : ℕ) (ws : List (ℕ × ℕ)) (old now : List ℕ) (i next at value : ℕ) (d : ℕ × ℕ) → RowsWithin 0 high ws → next ≡ suc i → i < length ws → at < length now → at ≡ row_of (get_or ws i d) → value ≡ value_of (get_or ws i d) → value ≤ slice_index now at → ((row : ℕ) → slice_index now row + weight_in (take i ws) row ≡ slice_index old row) → (row : ℕ) → slice_index (slice_set now at (slice_index now at - value)) row + weight_in (take next ws) row ≡ slice_index old row
taken_less high ws old now i next at value d all is_next inside room is_row is_value enough so_far row =
    let less : slice_index (slice_set now at (slice_index now at - value)) row + weight_in (take (suc i) ws) row ≡ slice_index old row =
    elim (cases_eq row at) [
      | inl same ↦
          let kept : slice_index (slice_set now at (slice_index now at - value)) at ≡ slice_index now at - value = get_or-set_same now at (slice_index now at - value) 0 room in
          let before = weight_before 0 high ws i at d all inside is_row in
          let here = weight_here 0 high ws i at d all inside is_row in
          let was = so_far at in
          let at_row : slice_index (slice_set now at (slice_index now at - value)) at + weight_in (take (suc i) ws) at ≡ slice_index old at = omega (arith, kept, before, here, was, is_value, enough) in
          subst (λ r. slice_index (slice_set now at (slice_index now at - value)) r + weight_in (take (suc i) ws) r ≡ slice_index old r) (sym same) at_row
      | inr disjoint ↦
          let kept : slice_index (slice_set now at (slice_index now at - value)) row ≡ slice_index now row = get_or-set_other now at row (slice_index now at - value) 0 disjoint in
          let other = weight_disjoint ws i row d inside (λ same. disjoint (same ∙ sym is_row)) in
          let was = so_far row in
          omega (arith, kept, other, was)
    ] in
    subst (λ k. slice_index (slice_set now at (slice_index now at - value)) row + weight_in (take k ws) row ≡ slice_index old row) (sym is_next) less

-- an entry weighs no more than its row holds
pub entry_held : (high : ℕ) (ws : List (ℕ × ℕ)) (old now : List ℕ) (i at value : ℕ) (d : ℕ × ℕ) → RowsWithin 0 high ws → i < length ws → at ≡ row_of (get_or ws i d) → value ≡ value_of (get_or ws i d) → weight_in ws at ≤ slice_index old at → ((row : ℕ) → slice_index now row + weight_in (take i ws) row ≡ slice_index old row) → value ≤ slice_index now at
entry_held high ws old now i at value d all inside is_row is_value enough so_far =
    let before = weight_before 0 high ws i at d all inside is_row in
    let whole = weight_found 0 high ws i at d all inside (sym is_row) in
    let was = so_far at in
    omega (arith, before, whole, was, is_value, enough)

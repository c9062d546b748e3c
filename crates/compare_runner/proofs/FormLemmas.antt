-- A search among forms that stand in order.
use Rattle.std.proofs.Common.{◌≡◌, ◌≢◌, inl, inr, ℕ, ◌+◌, ◌<◌, ◌≤◌, nat_lt, Bool, true, false, List, length, sym, ◌∙◌, ap, subst, arith}
use Rattle.std.specs.Prelude.{slice_index_or}
use Rattle.std.specs.List.{AllPairs}
use Rattle.std.specs.List.Sorted.{IsPartitionPoint, IsNonDecreasingBy}
use Rattle.std.proofs.lemmas.Bool.{cases_lt}
use Rattle.std.proofs.lemmas.Bool.Decides.{nat_tests}
use Rattle.relink_core.specs.UnitMaps.{StandsBefore}
use Rattle.relink_core.specs.declared.unit_forms.UnitAt.{UnitAt}
use Rattle.compare_runner.specs.declared.forms.Sought.{Sought}
use Rattle.compare_runner.specs.Seeking.{Counts, HasForm}

-- ---- in order of their addresses

abbrev pub stands_at : UnitAt → ℕ
stands_at x = x.at

pub not_behind : (x y : UnitAt) → StandsBefore x y → x.at ≤ y.at
not_behind x y (inl less) = omega (arith, less)
not_behind x y (inr same) = let at = same.0 in omega (arith, at)

pub forms_rise : (xs : List UnitAt) → AllPairs StandsBefore xs → IsNonDecreasingBy stands_at xs
forms_rise xs ordered i j d before below =
    elim (cases_lt i j) [
      | inl less ↦ not_behind (slice_index_or xs i d) (slice_index_or xs j d) (ordered i j d less below)
      | inr more ↦ let same : i ≡ j = omega (arith, before, more) in rw same (omega arith)
    ]

-- ---- none found so far

-- none of the first `k` forms is one that is looked for at `pc`
abbrev pub NoneBelow : Sought → Bool → ℕ → ℕ → Type 0
NoneBelow sought patched pc k =
    (j : ℕ) (d : UnitAt) → j < k → j < length sought.units.now → (slice_index_or sought.units.now j d).at ≡ pc
    → Counts sought patched (slice_index_or sought.units.now j d) → ⊥

module _ (sought : Sought) (patched : Bool) (pc : ℕ) where
  pub none_before : (first : ℕ) → IsPartitionPoint (λ (x : UnitAt). nat_lt x.at pc ≡ true) (λ (x : UnitAt). nat_lt x.at pc ≡ false) sought.units.now first → NoneBelow sought patched pc first
  none_before first point j d below inside at counts =
      let less = point.0 j d (omega arith) below in absurd (grind (arith, nat_tests, less, at))

  pub none_more : (k : ℕ) (x : UnitAt) → NoneBelow sought patched pc k → k < length sought.units.now → ((d : UnitAt) → x ≡ slice_index_or sought.units.now k d) → (Counts sought patched x → ⊥) → NoneBelow sought patched pc (k + 1)
  none_more k x none here is not_it j d below inside at counts =
      elim (cases_lt j k) [
        | inl before ↦ none j d before inside at counts
        | inr behind ↦
            let same : j ≡ k = omega (arith, below, behind) in
            let form : slice_index_or sought.units.now j d ≡ x =
            ap (λ i. slice_index_or sought.units.now i d) same ∙ sym (is d) in
            not_it (subst (λ y. Counts sought patched y) form counts)
      ]

  pub none_at_all : (count : ℕ) → NoneBelow sought patched pc count → length sought.units.now ≤ count → HasForm sought patched pc → ⊥
  none_at_all count none all has =
      let k = has.listed.0 in
      let inside = has.listed.1 in
      let is = has.listed.2 in
      none k has.form (omega (arith, all, inside)) inside (ap (λ (x : UnitAt). x.at) is ∙ has.at) (subst (λ x. Counts sought patched x) (sym is) has.counts)

  -- forms from the first on that stands elsewhere stand behind
  pub none_behind : (first k : ℕ) (x : UnitAt) → AllPairs StandsBefore sought.units.now → IsPartitionPoint (λ (y : UnitAt). nat_lt y.at pc ≡ true) (λ (y : UnitAt). nat_lt y.at pc ≡ false) sought.units.now first → first ≤ k → NoneBelow sought patched pc k → k < length sought.units.now → ((d : UnitAt) → x ≡ slice_index_or sought.units.now k d) → x.at ≢ pc → HasForm sought patched pc → ⊥
  none_behind first k x ordered point from none here is elsewhere has =
      let j = has.listed.0 in
      let inside = has.listed.1 in
      let same = has.listed.2 in
      let at : (slice_index_or sought.units.now j has.form).at ≡ pc = ap (λ (y : UnitAt). y.at) same ∙ has.at in
      elim (cases_lt j k) [
        | inl before ↦ none j has.form before inside at (subst (λ y. Counts sought patched y) (sym same) has.counts)
        | inr behind ↦
            let known : slice_index_or sought.units.now k has.form ≡ x = sym (is has.form) in
            let known_at : (slice_index_or sought.units.now k has.form).at ≡ x.at = ap (λ (y : UnitAt). y.at) known in
            let rises : (slice_index_or sought.units.now k has.form).at ≤ (slice_index_or sought.units.now j has.form).at = forms_rise sought.units.now ordered k j has.form behind inside in
            let reached = point.1 k has.form from here in
            let not_less : pc ≤ (slice_index_or sought.units.now k has.form).at = grind (arith, nat_tests, reached) in
            let here_too : x.at ≡ pc = omega (arith, at, known_at, rises, not_less) in
            elsewhere here_too
      ]

  pub found : (k : ℕ) (x : UnitAt) → k < length sought.units.now → ((d : UnitAt) → x ≡ slice_index_or sought.units.now k d) → x.at ≡ pc → Counts sought patched x → HasForm sought patched pc
  found k x inside is at counts =
      record { form = x; listed = (k, inside, sym (is x)); at = at; counts = counts }

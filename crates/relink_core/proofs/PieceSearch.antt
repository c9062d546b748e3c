-- The piece of a range among pieces that stand in their order.
use Rattle.std.proofs.Common.{◌≡◌, ◌⊎◌, inl, inr, ℕ, ◌<◌, ◌==◌, Bool, true, false, List, [], ◌∷◌, length, get_or, sym, subst, arith}
use Rattle.std.specs.List.{AllPairs, list_any}
use Rattle.std.specs.List.Sorted.{IsPartitionedBy, IsPartitionPoint}
use Rattle.std.proofs.lemmas.Bool.{cases_order, eqb-true}
use Rattle.std.proofs.lemmas.Bool.Decides.{nat_tests}
use Rattle.std.proofs.lemmas.List.{get_or_default}
use Rattle.list_checks.proofs.StepLemmas.{any_place}
use Rattle.list_checks.proofs.TestLemmas.{both}
use Rattle.block_splitter.specs.declared.block_range.BlockRange.{BlockRange}
use Rattle.block_splitter.specs.declared.piece.Piece.{Piece}
use Rattle.block_splitter.specs.Pieces.{range_of, is_range_of, ComesBefore}
use Rattle.relink_core.specs.Copies.{comes_before}

abbrev pub AreOrdered : List Piece → Type 0
AreOrdered pieces = AllPairs (λ p q. ComesBefore (range_of p) (range_of q)) pieces

before_is : (r s : BlockRange) → ComesBefore r s → comes_before r s ≡ true
before_is r s (inl less) = grind (arith, nat_tests, less)
before_is r s (inr same) =
    let first = same.0 in
    let last = same.1 in
    grind (arith, nat_tests, first, last)

not_itself : (r : BlockRange) → comes_before r r ≡ false
not_itself r = grind (arith, nat_tests)

goes_through : (r s t : BlockRange) → ComesBefore r s → comes_before s t ≡ true → comes_before r t ≡ true
goes_through r s t (inl less) later = grind (arith, nat_tests, less, later)
goes_through r s t (inr same) later =
    let first = same.0 in
    let last = same.1 in
    grind (arith, nat_tests, first, last, later)

pub pieces_rise : (pieces : List Piece) (range : BlockRange) → AreOrdered pieces → IsPartitionedBy (λ (p : Piece). comes_before (range_of p) range) pieces
pieces_rise pieces range ordered i j d le below test =
    let place : (i ≡ j) ⊎ (i < j) = grind arith in
    elim place [
      | inl same ↦ rw same test
      | inr lower ↦ goes_through (range_of (get_or pieces i d)) (range_of (get_or pieces j d)) range (ordered i j d lower below) test
    ]

opposite : (b : Bool) → b ≡ true → b ≡ false → ⊥
opposite b on off = absurd (cc)

same_range : (p : Piece) (range : BlockRange) → is_range_of range p ≡ true → range_of p ≡ range
same_range p range is =
    let parts = both (p.first == range.first) (p.last == range.last) is in
    let first = eqb-true p.first range.first parts.0 in
    let last = eqb-true p.last range.last parts.1 in
    λ i. record { first = first i; last = last i }

-- it stands where the pieces before it end
pub record IsFound (pieces : List Piece) (range : BlockRange) (i : ℕ) : Type 0 where
  pub below : i < length pieces
  pub is : (d : Piece) → range_of (get_or pieces i d) ≡ range

found_among : (pieces : List Piece) (range : BlockRange) (i : ℕ) (d : Piece) → AreOrdered pieces → list_any (is_range_of range) pieces ≡ true → IsPartitionPoint (λ p. comes_before (range_of p) range ≡ true) (λ p. comes_before (range_of p) range ≡ false) pieces i → IsFound pieces range i
found_among pieces range i d ordered has point =
    let (k, (below, passes)) = any_place (is_range_of range) pieces d has in
    let here : (e : Piece) → range_of (get_or pieces k e) ≡ range =
    λ e. subst (λ (p : Piece). range_of p ≡ range) (get_or_default pieces k d e below) (same_range (get_or pieces k d) range passes) in
    let own : comes_before (range_of (get_or pieces k d)) range ≡ false =
    subst (λ (r : BlockRange). comes_before r range ≡ false) (sym (here d)) (not_itself range) in
    elim (cases_order i k) [
      | inl same ↦ record { below = omega (arith, same, below); is = λ e. subst (λ (j : ℕ). range_of (get_or pieces j e) ≡ range) (sym same) (here e) }
      | inr order ↦ elim order [
        | inl before ↦
            let earlier = before_is (range_of (get_or pieces i d)) (range_of (get_or pieces k d)) (ordered i k d before below) in
            let at : comes_before (range_of (get_or pieces i d)) range ≡ true =
            subst (λ (r : BlockRange). comes_before (range_of (get_or pieces i d)) r ≡ true) (here d) earlier in
            absurd (opposite (comes_before (range_of (get_or pieces i d)) range) at (point.1 i d (omega arith) (omega (arith, before, below))))
        | inr behind ↦
            absurd (opposite (comes_before (range_of (get_or pieces k d)) range) (point.0 k d (omega arith) behind) own)
      ]
    ]

pub found_at : (pieces : List Piece) (range : BlockRange) (i : ℕ) → AreOrdered pieces → list_any (is_range_of range) pieces ≡ true → IsPartitionPoint (λ p. comes_before (range_of p) range ≡ true) (λ p. comes_before (range_of p) range ≡ false) pieces i → IsFound pieces range i
found_at [] range i ordered has point = absurd (cc (has))
found_at (p ∷ ps) range i ordered has point = found_among (p ∷ ps) range i p ordered has point

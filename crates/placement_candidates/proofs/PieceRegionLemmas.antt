-- The region of a piece.
use Rattle.std.proofs.Common.{◌≡◌, ◌∙◌, inl, inr, ℕ, ◌<◌, ◌≤◌, ◌==◌, ◌≢◌, nat_le, Bool, true, false, not, ◌&&◌, List, length, slice_index_or, refl, sym, ap, arith}
use Rattle.std.proofs.lemmas.Bool.{cases_eq}
use Rattle.std.proofs.lemmas.Bool.Decides.{nat_tests}
use Rattle.std.proofs.lemmas.List.{get_or_default}
use Rattle.list_checks.specs.Tests.{any_below}
use Rattle.list_checks.proofs.TestLemmas.{any_at, any_found, both, not_true}
use Rattle.block_splitter.specs.declared.piece.Piece.{Piece}
use Rattle.block_splitter.specs.Forms.{holds_block}
use Rattle.block_splitter.specs.Pieces.{range_of}
use Rattle.dataflow.specs.Overlaid.{region_in}
use Rattle.placement_candidates.specs.OverlayCounted.{piece_region}
use Rattle.placement_candidates.specs.Overlaid.{is_of_region}

abbrev is_other : List ℕ → ℕ → Piece → ℕ → Bool
is_other regions r p b = holds_block b (range_of p) && not (region_in regions b == r)

held : (p : Piece) (b : ℕ) → p.first ≤ b → b ≤ p.last → holds_block b (range_of p) ≡ true
held p b from to = grind (arith, nat_tests, from, to)

-- a block of another region
pub other_region : (regions : List ℕ) (r : ℕ) (p : Piece) (b : ℕ) → p.first ≤ b → b ≤ p.last → b < length regions → (region_in regions b == r) ≡ false → is_of_region regions r p ≡ false
other_region regions r p b from to below differs =
    let test : is_other regions r p b ≡ true = rw (held p b from to, differs) refl in
    ap not (any_at (is_other regions r p) (length regions) b below test)

-- the same of what stands at a place of a table
pub other_here : (regions : List ℕ) (r : ℕ) (p : Piece) (b d : ℕ) → p.last < length regions → p.first ≤ b → b ≤ p.last → d ≡ slice_index_or regions b d → d ≢ r → false ≡ is_of_region regions r p
other_here regions r p b d below from to is differs =
    let same = get_or_default regions b d 0 (omega (arith, below, to)) in
    let other : (region_in regions b == r) ≡ false = grind (arith, nat_tests, same, is, differs) in
    sym (other_region regions r p b from to (omega (arith, below, to)) other)

no_true : (b : Bool) → (b ≡ true → ⊥) → b ≡ false
no_true true none = absurd (none refl)
no_true false none = refl

-- all have that region
pub same_region : (regions : List ℕ) (r : ℕ) (p : Piece) → ((b : ℕ) → p.first ≤ b → b ≤ p.last → region_in regions b ≡ r) → is_of_region regions r p ≡ true
same_region regions r p all =
    ap not (no_true (any_below (is_other regions r p) (length regions)) (λ found.
    let (b, below, passes) = any_found (is_other regions r p) (length regions) found in
    let parts = both (holds_block b (range_of p)) (not (region_in regions b == r)) passes in
    let bounds = both (nat_le p.first b) (nat_le b p.last) parts.0 in
    let first = bounds.0 in
    let last = bounds.1 in
    let same = all b (grind (arith, nat_tests, first)) (grind (arith, nat_tests, last)) in
    let differs = not_true (region_in regions b == r) parts.1 in
    absurd (grind (arith, nat_tests, same, differs))))

-- a piece is of region `r`, from 1 on, just where that is its region
pub region_test : (regions : List ℕ) (r : ℕ) (p : Piece) → 1 ≤ r → p.first ≤ p.last → p.last < length regions → is_of_region regions r p ≡ (piece_region regions p == r)
region_test regions r p some ordered below =
    let s = region_in regions p.first in
    elim (cases_eq s r) [
      | inl same ↦ by_first regions r p same some (is_of_region regions r p) refl
      | inr differs ↦
          let not_here : (s == r) ≡ false = grind (arith, nat_tests, differs) in
          other_region regions r p p.first (omega arith) ordered (omega (arith, ordered, below)) not_here
          ∙ sym (none_here regions r p some not_here (is_of_region regions s p) refl)
    ]
  where
    by_first : (regions : List ℕ) (r : ℕ) (p : Piece) → region_in regions p.first ≡ r → 1 ≤ r → (is : Bool) → is_of_region regions r p ≡ is → is_of_region regions r p ≡ (piece_region regions p == r)
    by_first regions r p same some true is = rw (same, is) (sym (grind (arith, nat_tests)))
    by_first regions r p same some false is =
        let none : (0 == r) ≡ false = grind (arith, nat_tests, some) in
        rw (same, is) (sym none)

    none_here : (regions : List ℕ) (r : ℕ) (p : Piece) → 1 ≤ r → (region_in regions p.first == r) ≡ false → (is : Bool) → is_of_region regions (region_in regions p.first) p ≡ is → (piece_region regions p == r) ≡ false
    none_here regions r p some differs true is = rw is differs
    none_here regions r p some differs false is =
        let none : (0 == r) ≡ false = grind (arith, nat_tests, some) in
        rw is none

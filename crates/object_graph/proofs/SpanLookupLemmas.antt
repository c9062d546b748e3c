-- Why a search by first addresses tells whether an address lies in one of some ranges.
use Rattle.std.proofs.Common.{◌≡◌, ◌∙◌, ◌⊎◌, inl, inr, ℕ, ◌+◌, ◌-◌, ◌<◌, ◌≤◌, nat_lt, nat_le, true, false, ◌&&◌, List, length, slice_index_or, sym, ap, arith}
use Rattle.std.specs.List.{AllPairs, list_any}
use Rattle.std.proofs.lemmas.Bool.{cases_lt, cases_eq}
use Rattle.std.proofs.lemmas.Bool.Decides.{nat_tests}
use Rattle.std.proofs.lemmas.List.{get_or_default}
use Rattle.std.proofs.lemmas.List.Folds.{Any-from_list_any, list_any_at, list_any_none}
use Rattle.list_checks.proofs.TestLemmas.{same_tests}
use Rattle.board_config.specs.declared.board.Range.{Range}
use Rattle.object_graph.specs.Sites.{in_range, no_area}

-- of some ranges `begun` begin at or before an address, and `last` is the last of these
pub record IsLast (ranges : List Range) (a begun last : ℕ) : Type 0 where
  pub disjoint : AllPairs (λ r q. r.base + r.size ≤ q.base) ranges
  pub bound : begun ≤ length ranges
  pub begins : (k : ℕ) → k < begun → (slice_index_or ranges k no_area).base ≤ a
  pub later : (k : ℕ) → begun ≤ k → k < length ranges → a < (slice_index_or ranges k no_area).base
  pub is : last + 1 ≡ begun

not_inside : (base size a : ℕ) → (base + size ≤ a) ⊎ (a < base) → (nat_le base a && nat_lt a (base + size)) ≡ false
not_inside base size a (inl ends) = grind (arith, nat_tests, ends)
not_inside base size a (inr begins) = grind (arith, nat_tests, begins)

-- no other range holds the address
other_holds_not : (ranges : List Range) (a begun last k : ℕ) → IsLast ranges a begun last → k < length ranges → (k ≡ last → ⊥) → in_range (slice_index_or ranges k no_area) a ≡ false
other_holds_not ranges a begun last k is below other =
    let same = is.is in
    elim (cases_lt k last) [
      | inl before ↦
          let bound = is.bound in
          let within : last < length ranges = omega (arith, same, bound) in
          let ends = is.disjoint k last no_area before within in
          let begins = is.begins last (omega (arith, same)) in
          not_inside _ _ a (inl (omega (arith, ends, begins)))
      | inr behind ↦
          let after : begun ≤ k = elim (cases_lt last k) [
            | inl more ↦ omega (arith, same, more)
            | inr reached ↦ absurd (other (omega (arith, behind, reached)))
          ] in
          not_inside _ _ a (inr (is.later k after below))
    ]

found_last : (ranges : List Range) (a begun last : ℕ) → IsLast ranges a begun last → list_any (λ r. in_range r a) ranges ≡ true → in_range (slice_index_or ranges last no_area) a ≡ true
found_last ranges a begun last is found =
    let (k, r, below, here, passes) = Any-from_list_any (λ (q : Range). in_range q a) ranges found in
    let same : slice_index_or ranges k no_area ≡ r = get_or_default ranges k no_area r below ∙ here in
    let holds : in_range (slice_index_or ranges k no_area) a ≡ true = ap (λ (q : Range). in_range q a) same ∙ passes in
    elim (cases_eq k last) [
      | inl reached ↦ ap (λ (j : ℕ). in_range (slice_index_or ranges j no_area) a) (sym reached) ∙ holds
      | inr other ↦ let fails = other_holds_not ranges a begun last k is below other in cc (sym fails ∙ holds)
    ]

-- the last range that begins there tells
pub last_tells : (ranges : List Range) (a begun last : ℕ) → IsLast ranges a begun last → in_range (slice_index_or ranges last no_area) a ≡ list_any (λ r. in_range r a) ranges
last_tells ranges a begun last is =
    let same = is.is in
    let bound = is.bound in
    let within : last < length ranges = omega (arith, same, bound) in
    same_tests (in_range (slice_index_or ranges last no_area) a) (list_any (λ r. in_range r a) ranges)
    (λ holds. list_any_at (λ r. in_range r a) ranges last no_area within holds)
    (λ found. found_last ranges a begun last is found)

-- where none begins there, none holds the address
pub none_begins : (ranges : List Range) (a : ℕ) → ((k : ℕ) → k < length ranges → a < (slice_index_or ranges k no_area).base) → list_any (λ r. in_range r a) ranges ≡ false
none_begins ranges a later =
    list_any_none (λ r. in_range r a) ranges (λ k d below.
    ap (λ (q : Range). in_range q a) (get_or_default ranges k d no_area below) ∙ not_inside _ _ a (inr (later k below)))

-- the distance from the first address tells the same
pub distance_tells : (base size a : ℕ) → base ≤ a → nat_lt (a - base) size ≡ (nat_le base a && nat_lt a (base + size))
distance_tells base size a begins = grind (arith, nat_tests, begins)

-- What is found in a graph by an address.
use Rattle.std.proofs.Common.{◌≡◌, ◌∙◌, inl, inr, ℕ, zero, suc, ◌+◌, ◌-◌, ◌<◌, ◌≤◌, ◌==◌, nat_lt, nat_le, Bool, true, false, ◌&&◌, List, length, get_or, Option, Some, None, MatchOption, refl, sym, subst, arith}
use Rattle.std.specs.List.{All, AllPairs, list_any}
use Rattle.std.specs.List.Sorted.{IsPartitionPoint, IsPartitionedBy, IsNonDecreasingBy}
use Rattle.std.proofs.lemmas.Bool.{cases_Bool, cases_lt, cases_eq, eqb-true, eq-eqb, both_ways}
use Rattle.std.proofs.lemmas.Bool.Decides.{nat_tests}
use Rattle.std.proofs.lemmas.List.Folds.{list_any_none, list_any_at}
use Rattle.std.proofs.lemmas.List.Sorted.{IsPartitionedBy-leb}
use Rattle.list_checks.proofs.TestLemmas.{both}
use Rattle.elf_reader.specs.File.{PlainView}
use Rattle.board_config.specs.declared.board.Board.{Board}
use Rattle.loaded_file.specs.Records.{symbol_at}
use Rattle.loaded_file.specs.Ranges.{inside}
use Rattle.loaded_file.proofs.ByteRangeLemmas.{both_made}
use Rattle.loaded_file.proofs.RangeLemmas.{byte_range_of}
use Rattle.object_graph.specs.declared.parts.Object.{Object}
use Rattle.object_graph.specs.declared.parts.Site.{Site}
use Rattle.object_graph.specs.declared.parts.DataWord.{DataWord}
use Rattle.object_graph.specs.Graphs.{is_object_of, IsObjects, no_object, object_at, same_site, same_word}
use Rattle.object_graph.specs.Gathered.{gives}
use Rattle.object_graph.specs.Lookups.{AreLaidOut, stands_at, begins_at}
use Rattle.object_graph.proofs.AlikeLemmas.{site_itself, word_itself}
use Rattle.object_graph.proofs.MovableLemmas.{movable_parts}
use Rattle.object_graph.proofs.SearchLemmas.{Rises, never_falls}

-- the objects of a graph ascend, share no byte, and have bytes
pub laid_out : (v : PlainView) (board : Board) (objects : List Object) → IsObjects v board objects → AreLaidOut objects
laid_out v board objects is = record {
  disjoint = is.disjoint;
  filled = λ k d below.
      let o = get_or objects k d in
      let itself = both_made (o.home == o.home) (o.size == o.size) (eq-eqb o.home o.home refl) (eq-eqb o.size o.size refl) in
      let movable = sym (is.exact o.home o.size) ∙ list_any_at (is_object_of o.home o.size) objects k d below itself in
      let moves = movable_parts v board o.home o.size movable in
      (byte_range_of v o.home o.size (symbol_at v moves.symbol) moves.of).filled;
}

abbrev pub object_home : Object → ℕ
object_home o = o.home

rises_laid : (objects : List Object) → AreLaidOut objects → Rises object_home objects
rises_laid objects laid i j d before below =
    let disjoint = laid.disjoint i j d before below in
    let filled = laid.filled i d (omega (arith, before, below)) in
    omega (arith, disjoint, filled)

pub parted_objects : (objects : List Object) (a : ℕ) → AreLaidOut objects → IsPartitionedBy (λ o. nat_le o.home a) objects
parted_objects objects a laid = IsPartitionedBy-leb object_home objects a (never_falls object_home objects (rises_laid objects laid))

-- the place of an object is at most its home
place_below : (objects : List Object) → AreLaidOut objects → (k : ℕ) → k < length objects → k ≤ (object_at objects k).home
place_below objects laid zero below = omega arith
place_below objects laid (suc k) below =
    let earlier = place_below objects laid k (omega arith) in
    let more = rises_laid objects laid k (suc k) no_object (omega arith) below in
    omega (arith, earlier, more)

pub place_fits : (objects : List Object) (a k : ℕ) → AreLaidOut objects → k < length objects → inside (object_at objects k).home (object_at objects k).size a ≡ true → k ≤ a
place_fits objects a k laid below holds =
    let least = place_below objects laid k below in
    let o = object_at objects k in
    least_inside o.home o.size a k least holds
  where
    least_inside : (home n b j : ℕ) → j ≤ home → inside home n b ≡ true → j ≤ b
    least_inside home n b j least holds_there = grind (arith, nat_tests, least, holds_there)

-- the objects before place c begin at the address or before it, and no other does
pub record Begun (objects : List Object) (a c : ℕ) : Type 0 where
  pub low : (k : ℕ) (d : Object) → k < c → (get_or objects k d).home ≤ a
  pub high : (k : ℕ) (d : Object) → c ≤ k → k < length objects → a < (get_or objects k d).home

low_home : (n a : ℕ) → nat_le n a ≡ true → n ≤ a
low_home n a test = grind (arith, nat_tests, test)

high_home : (n a : ℕ) → nat_le n a ≡ false → a < n
high_home n a test = grind (arith, nat_tests, test)

pub begun : (objects : List Object) (a c : ℕ) → IsPartitionPoint (λ o. nat_le (object_home o) a ≡ true) (λ o. nat_le (object_home o) a ≡ false) objects c → Begun objects a c
begun objects a c point = record {
  low = λ k d below. low_home (get_or objects k d).home a (point.0 k d (omega arith) below);
  high = λ k d behind below. high_home (get_or objects k d).home a (point.1 k d behind below);
}

behind_all : (home n a : ℕ) → a < home → inside home n a ≡ false
behind_all home n a before = grind (arith, nat_tests, before)

ends_before : (home n a : ℕ) → home + n ≤ a → inside home n a ≡ false
ends_before home n a before = grind (arith, nat_tests, before)

-- where the last one that begins there ends before the address, none has it
pub none_inside : (objects : List Object) (a c : ℕ) → AreLaidOut objects → Begun objects a c → c ≤ length objects → (0 < c → inside (object_at objects (c - 1)).home (object_at objects (c - 1)).size a ≡ false) → (k : ℕ) → k < length objects → inside (object_at objects k).home (object_at objects k).size a ≡ false
none_inside objects a c laid parted bound last k below =
    let o = object_at objects k in
    elim (cases_lt k c) [
      | inr behind ↦ behind_all o.home o.size a (parted.high k no_object behind below)
      | inl before ↦ elim (cases_eq k (c - 1)) [
        | inl here ↦ subst (λ (j : ℕ). inside (object_at objects j).home (object_at objects j).size a ≡ false) (sym here) (last (omega (arith, before)))
        | inr other ↦
            let disjoint = laid.disjoint k (c - 1) no_object (omega (arith, before, other)) (omega (arith, before, bound)) in
            let starts = parted.low (c - 1) no_object (omega (arith, before)) in
            ends_before o.home o.size a (omega (arith, disjoint, starts))
      ]
    ]

-- ---- sites and words

-- what is found by a number is in the list, and has it; else none of the list has it
pub found_one : {X : Type 0} (at : X → ℕ) (same : X → X → Bool) → ((x : X) → same x x ≡ true) → (xs : List X) (a : ℕ) (o : Option X) → ((x : X) → gives same x o ≡ list_any (same x) xs && (at x == a)) → MatchOption o (list_any (λ x. at x == a) xs ≡ false) (λ x. (list_any (same x) xs ≡ true) × (at x ≡ a))
found_one {X} at same itself xs a None found =
    list_any_none (λ x. at x == a) xs (λ k d below.
    let x = get_or xs k d in
    none_stands (list_any (same x) xs) (at x == a) (list_any_at (same x) xs k d below (itself x)) (found x))
  where
    none_stands : (listed stands : Bool) → listed ≡ true → false ≡ listed && stands → stands ≡ false
    none_stands listed stands first none = grind (arith, first, none)
found_one at same itself xs a (Some y) found =
    let parts = both (list_any (same y) xs) (at y == a) (sym (found y) ∙ itself y) in
    (parts.0, eqb-true (at y) a parts.1)

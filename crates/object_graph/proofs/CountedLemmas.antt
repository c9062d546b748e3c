-- As many objects may move as there are symbols that are the first of one.
use Rattle.std.proofs.Common.{◌≡◌, ◌≢◌, ◌∙◌, inl, inr, ℕ, zero, suc, ◌+◌, ◌<◌, ◌==◌, nat_lt, Bool, true, false, not, ◌&&◌, if◌then◌else◌, List, length, get_or, Option, Some, None, refl, sym, ap, subst, arith, add-one}
use Rattle.std.specs.List.{All, AllPairs, list_any, count_by}
use Rattle.std.proofs.lemmas.Bool.{cases_lt, cases_eq, eqb-true, eq-eqb, both_ways}
use Rattle.std.proofs.lemmas.Bool.Decides.{nat_tests}
use Rattle.std.proofs.lemmas.List.{get_or_default}
use Rattle.std.proofs.lemmas.List.Folds.{Any-from_list_any, list_any_at, list_any_none}
use Rattle.list_checks.specs.Tests.{any_below}
use Rattle.list_checks.proofs.TestLemmas.{both, not_true, none_at, same_tests}
use Rattle.elf_reader.specs.File.{PlainView}
use Rattle.loaded_file.specs.Records.{symbol_at}
use Rattle.loaded_file.specs.declared.byte_ranges.ByteRange.{ByteRange}
use Rattle.loaded_file.specs.Ranges.{has_range, is_symbol_of, is_range}
use Rattle.loaded_file.specs.ByteRanges.{is_byte_range, no_byte_range, byte_range_at}
use Rattle.object_graph.specs.Fixed.{is_movable}
use Rattle.object_graph.specs.LayoutFaults.{same_range, names_object, objects_below}
use Rattle.object_graph.specs.Gathered.{AreMovable, first_symbol}
use Rattle.object_graph.proofs.CountLemmas.{one_if, count_split, count_once, count_none, count_all}
use Rattle.object_graph.proofs.ObjectLemmas.{IsFirst, first_is, none_first}
use Rattle.object_graph.proofs.RangeLemmas.{moves_at, range_at, same_place}

-- the first symbol of a range
number_in : Option ℕ → ℕ
number_in None = 0
number_in (Some k) = k

name_of : PlainView → ByteRange → ℕ
name_of v e = number_in (first_symbol v e.home e.size (length v.symbols))

first_number : (v : PlainView) (home n m : ℕ) (o : Option ℕ) → first_symbol v home n m ≡ o → any_below (is_symbol_of v home n) m ≡ true → IsFirst v home n m (number_in o)
unfolding number_in
first_number v home n m None is some = absurd (both_ways _ (none_first v home n m is) some)
first_number v home n m (Some k) is some = first_is v home n m k is

named_first : (v : PlainView) (ranges : List ByteRange) (m : AreMovable v ranges) (k : ℕ) → k < length ranges → IsFirst v (byte_range_at ranges k).home (byte_range_at ranges k).size (length v.symbols) (name_of v (byte_range_at ranges k))
unfolding name_of
named_first v ranges m k below =
    let e = byte_range_at ranges k in
    first_number v e.home e.size (length v.symbols) (first_symbol v e.home e.size (length v.symbols)) refl (range_at v ranges m k below)

-- a symbol of two objects is of one
record IsOfThis (v : PlainView) (home n k : ℕ) : Type 0 where
  pub range : has_range v (symbol_at v k) ≡ true
  pub value : (symbol_at v k).value ≡ home
  pub size : (symbol_at v k).size ≡ n

of_this : (v : PlainView) (home n k : ℕ) → is_symbol_of v home n k ≡ true → IsOfThis v home n k
of_this v home n k passes =
    let s = symbol_at v k in
    let last = both (has_range v s && (s.value == home)) (s.size == n) passes in
    let first = both (has_range v s) (s.value == home) last.0 in
    record { range = first.0; value = eqb-true s.value home first.1; size = eqb-true s.size n last.1 }

distinct_names : (v : PlainView) (ranges : List ByteRange) (m : AreMovable v ranges) → AllPairs (λ a b. name_of v a ≢ name_of v b) ranges
distinct_names v ranges m i j d before below same =
    let inside : i < length ranges = omega (arith, before, below) in
    let a = get_or_default ranges i d no_byte_range inside in
    let b = get_or_default ranges j d no_byte_range below in
    let first = of_this v _ _ _ (named_first v ranges m i inside).passes in
    let second = of_this v _ _ _ (named_first v ranges m j below).passes in
    let equal : name_of v (byte_range_at ranges i) ≡ name_of v (byte_range_at ranges j) = ap (name_of v) (sym a) ∙ same ∙ ap (name_of v) b in
    let moved = subst (λ (k : ℕ). (symbol_at v k).value ≡ (byte_range_at ranges i).home) equal first.value in
    let place = same_place v ranges m i j inside below (sym moved ∙ second.value) in
    absurd (omega (arith, before, place))

one_first : (v : PlainView) (home n k j : ℕ) → is_symbol_of v home n k ≡ true → any_below (is_symbol_of v home n) k ≡ false → is_symbol_of v home n j ≡ true → any_below (is_symbol_of v home n) j ≡ false → k ≡ j
one_first v home n k j passes none passes' none' =
    elim (cases_eq k j) [
      | inl same ↦ same
      | inr other ↦ elim (cases_lt k j) [
        | inl before ↦ absurd (both_ways _ (none_at (is_symbol_of v home n) j k before none') passes)
        | inr behind ↦ absurd (both_ways _ (none_at (is_symbol_of v home n) k j (omega (arith, other, behind)) none) passes')
      ]
    ]

all_three : (a b c : Bool) → a ≡ true → b ≡ true → c ≡ true → a && b && c ≡ true
all_three a b c first second third = grind (arith, first, second, third)

-- the first symbol of an object, found among the ranges
named_among : (v : PlainView) (ranges : List ByteRange) (m : AreMovable v ranges) (k : ℕ) → names_object v m.board k ≡ true → list_any (λ e. name_of v e == k) ranges ≡ true
named_among v ranges m k names =
    let s = symbol_at v k in
    let whole = both (has_range v s && is_movable v m.board s.value s.size) (not (any_below (same_range v k) k)) names in
    let front = both (has_range v s) (is_movable v m.board s.value s.size) whole.0 in
    let none : any_below (is_symbol_of v s.value s.size) k ≡ false = not_true (any_below (same_range v k) k) whole.1 in
    let own : is_symbol_of v s.value s.size k ≡ true = all_three (has_range v s) (s.value == s.value) (s.size == s.size) front.0 (eq-eqb _ _ refl) (eq-eqb _ _ refl) in
    let (i, e, below, is, passes) = Any-from_list_any (is_byte_range s.value s.size) ranges (m.exact s.value s.size ∙ front.1) in
    let here : byte_range_at ranges i ≡ e = get_or_default ranges i no_byte_range e below ∙ is in
    let parts = both (e.home == s.value) (e.size == s.size) passes in
    let home : (byte_range_at ranges i).home ≡ s.value = ap (λ (x : ByteRange). x.home) here ∙ eqb-true e.home s.value parts.0 in
    let size : (byte_range_at ranges i).size ≡ s.size = ap (λ (x : ByteRange). x.size) here ∙ eqb-true e.size s.size parts.1 in
    let first = named_first v ranges m i below in
    let name = name_of v (byte_range_at ranges i) in
    let passes_here = subst (λ (a : ℕ). is_symbol_of v a s.size name ≡ true) home (subst (λ (b : ℕ). is_symbol_of v (byte_range_at ranges i).home b name ≡ true) size first.passes) in
    let none_here = subst (λ (a : ℕ). any_below (is_symbol_of v a s.size) name ≡ false) home (subst (λ (b : ℕ). any_below (is_symbol_of v (byte_range_at ranges i).home b) name ≡ false) size first.none) in
    let same = one_first v s.value s.size name k passes_here none_here own none in
    list_any_at (λ (x : ByteRange). name_of v x == k) ranges i no_byte_range below (eq-eqb name k same)

among_named : (v : PlainView) (ranges : List ByteRange) (m : AreMovable v ranges) (k : ℕ) → list_any (λ e. name_of v e == k) ranges ≡ true → names_object v m.board k ≡ true
among_named v ranges m k found =
    let (i, e, below, is, passes) = Any-from_list_any (λ (x : ByteRange). name_of v x == k) ranges found in
    let x = byte_range_at ranges i in
    let here : x ≡ e = get_or_default ranges i no_byte_range e below ∙ is in
    let name : name_of v x ≡ k = ap (name_of v) here ∙ eqb-true (name_of v e) k passes in
    let first = named_first v ranges m i below in
    let s = symbol_at v k in
    let own = of_this v x.home x.size k (subst (λ (j : ℕ). is_symbol_of v x.home x.size j ≡ true) name first.passes) in
    let none = subst (λ (j : ℕ). any_below (is_symbol_of v x.home x.size) j ≡ false) name first.none in
    let moves = subst (λ (a : ℕ). is_movable v m.board a s.size ≡ true) (sym own.value) (subst (λ (b : ℕ). is_movable v m.board x.home b ≡ true) (sym own.size) (moves_at v ranges m i below)) in
    let alone : any_below (same_range v k) k ≡ false = subst (λ (a : ℕ). any_below (is_symbol_of v a s.size) k ≡ false) (sym own.value) (subst (λ (b : ℕ). any_below (is_symbol_of v x.home b) k ≡ false) (sym own.size) none) in
    names (has_range v s) (is_movable v m.board s.value s.size) (any_below (same_range v k) k) own.range moves alone
  where
    names : (a b c : Bool) → a ≡ true → b ≡ true → c ≡ false → a && b && not c ≡ true
    names a b c first_true second_true third_false = rw (first_true, second_true, third_false) refl

step : (named : Bool) (n m k : ℕ) → n ≡ m → k ≡ one_if named → (if named then n + 1 else n) ≡ m + k
step true n m k same one = omega (arith, same, one)
step false n m k same one = omega (arith, same, one)

counted_below : (v : PlainView) (ranges : List ByteRange) (m : AreMovable v ranges) (k : ℕ) → objects_below v m.board k ≡ count_by (λ e. nat_lt (name_of v e) k) ranges
counted_below v ranges m zero =
    sym (count_none (λ (e : ByteRange). nat_lt (name_of v e) 0) ranges (list_any_none (λ (e : ByteRange). nat_lt (name_of v e) 0) ranges (λ i d below. none_under (name_of v (get_or ranges i d)))))
  where
    none_under : (n : ℕ) → nat_lt n 0 ≡ false
    none_under n = grind (arith, nat_tests)
counted_below v ranges m (suc k) =
    let earlier = counted_below v ranges m k in
    let same = same_tests (names_object v m.board k) (list_any (λ (e : ByteRange). name_of v e == k) ranges) (named_among v ranges m k) (among_named v ranges m k) in
    let here = count_once (name_of v) k ranges (distinct_names v ranges m) ∙ ap one_if (sym same) in
    let split = count_split (name_of v) k ranges in
    step (names_object v m.board k) (objects_below v m.board k) (count_by (λ (e : ByteRange). nat_lt (name_of v e) k) ranges) (count_by (λ (e : ByteRange). name_of v e == k) ranges) earlier here
    ∙ sym split
    ∙ ap (λ (j : ℕ). count_by (λ (e : ByteRange). nat_lt (name_of v e) j) ranges) (add-one k)

pub objects_counted : (v : PlainView) (ranges : List ByteRange) (m : AreMovable v ranges) → objects_below v m.board (length v.symbols) ≡ length ranges
objects_counted v ranges m =
    counted_below v ranges m (length v.symbols)
    ∙ count_all (λ (e : ByteRange). nat_lt (name_of v e) (length v.symbols)) ranges (λ i d below. ap (λ (x : ByteRange). nat_lt (name_of v x) (length v.symbols)) (get_or_default ranges i d no_byte_range below) ∙ lower (name_of v (byte_range_at ranges i)) (length v.symbols) (named_first v ranges m i below).below)
  where
    lower : (a b : ℕ) → a < b → nat_lt a b ≡ true
    lower a b less = grind (arith, nat_tests, less)

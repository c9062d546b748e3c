-- Another relocation changes a word just where more than one of those that begin before the word's end end
-- behind its start.
use Rattle.std.proofs.Common.{◌≡◌, ◌∙◌, inl, inr, ℕ, ◌+◌, ◌<◌, ◌≤◌, ◌==◌, nat_lt, Bool, true, false, not, ◌&&◌, if◌then◌else◌, List, length, refl, ap, arith}
use Rattle.std.specs.List.{count_by}
use Rattle.std.proofs.lemmas.Bool.{cases_eq}
use Rattle.std.proofs.lemmas.Bool.Decides.{nat_tests}
use Rattle.list_checks.specs.Tests.{any_below, ranges_overlap}
use Rattle.elf_reader.specs.File.{PlainView}
use Rattle.loaded_file.specs.Records.{reloc_at, counts, is_hint, is_call_kind, is_half_kind, is_byte_kind, width_of}
use Rattle.list_checks.specs.Sorted.{is_under, count_below}
use Rattle.loaded_file.specs.Listed.{passes_with}
use Rattle.list_checks.proofs.SortedLemmas.{two_places}
use Rattle.loaded_file.proofs.ListedLemmas.{split_counts, any_count}
use Rattle.object_graph.specs.Rewritable.{changes_word}
use Rattle.object_graph.specs.Lists.{is_changing, change_start, change_end, AreListsOf}
use Rattle.object_graph.specs.declared.lists.RelocationLists.{RelocationLists}
use Rattle.object_graph.proofs.ListLemmas.{any_same}

width_step : (a b c : Bool) → 0 < (if a then 8 else if b then 2 else if c then 1 else 4)
width_step true b c = omega arith
width_step false true c = omega arith
width_step false false true = omega arith
width_step false false false = omega arith

-- each kind changes some byte
pub width_filled : (kind : ℕ) → 0 < width_of kind
width_filled kind = width_step (is_call_kind kind) (is_half_kind kind) (is_byte_kind kind)

-- relocation `k` meets the word at `at`
abbrev overlaps_word : PlainView → ℕ → ℕ → Bool
overlaps_word v at k = is_changing v k && ranges_overlap at 4 (change_start v k) (width_of (reloc_at v k).kind)

split_step : (h : Bool) (at start width : ℕ) → 0 < width → (if h && nat_lt start (at + 4) then 1 else 0) ≡ (if h && nat_lt (start + width) (at + 1) then 1 else 0) + (if h && ranges_overlap at 4 start width then 1 else 0)
split_step true at start width filled = grind (arith, nat_tests, filled)
split_step false at start width filled = omega arith

-- a place that fails may be left out
left_out : (test : ℕ → Bool) (i : ℕ) → test i ≡ false → (j : ℕ) → test j ≡ (not (j == i) && test j)
left_out test i fails j =
    elim (cases_eq j i) [
      | inl same ↦ let here : test j ≡ false = ap test same ∙ fails in grind (arith, nat_tests, here)
      | inr differs ↦ grind (arith, nat_tests, differs)
    ]

others_by : (test : ℕ → Bool) (n i : ℕ) (b : Bool) → test i ≡ b → i < n → nat_lt (if b then 1 else 0) (count_below test n) ≡ any_below (λ j. not (j == i) && test j) n
others_by test n i true is below = two_places test n i is below
others_by test n i false is below =
    any_count test n ∙ any_same test (λ j. not (j == i) && test j) n (left_out test i is)

itself_step : (h : Bool) (at width : ℕ) → 0 < width → (h && ranges_overlap at 4 at width) ≡ h
itself_step true at width filled = grind (arith, nat_tests, filled)
itself_step false at width filled = refl

regroup : (a b c d : Bool) → (a && (b && c && d)) ≡ (a && b && c && d)
regroup true b c d = refl
regroup false b c d = refl

more_than : (all lower some itself : ℕ) → all ≡ lower + some → nat_lt (lower + itself) all ≡ nat_lt itself some
more_than all lower some itself sum = grind (arith, nat_tests, sum)

pub shared_is : (v : PlainView) (lists : RelocationLists) (i : ℕ) → AreListsOf v lists → i < length v.relocs → nat_lt (count_by (is_under ((reloc_at v i).at + 1)) lists.ends.items + (if is_changing v i then 1 else 0)) (count_by (is_under ((reloc_at v i).at + 4)) lists.starts.items) ≡ any_below (changes_word v i (reloc_at v i).at) (length v.relocs)
shared_is v lists i are below =
    let at = (reloc_at v i).at in
    let n = length v.relocs in
    let overlap = overlaps_word v at in
    let before = are.starts.counted (is_under (at + 4)) in
    let behind = are.ends.counted (is_under (at + 1)) in
    let sum = split_counts (passes_with (is_changing v) (change_start v) (is_under (at + 4))) (passes_with (is_changing v) (change_end v) (is_under (at + 1))) overlap (λ k. split_step (is_changing v k) at (change_start v k) (width_of (reloc_at v k).kind) (width_filled (reloc_at v k).kind)) n in
    let whole : count_by (is_under (at + 4)) lists.starts.items ≡ count_by (is_under (at + 1)) lists.ends.items + count_below overlap n = omega (arith, before, behind, sum) in
    more_than _ _ (count_below overlap n) (if is_changing v i then 1 else 0) whole
    ∙ others_by overlap n i (is_changing v i) (itself_step (is_changing v i) at (width_of (reloc_at v i).kind) (width_filled (reloc_at v i).kind)) below
    ∙ any_same (λ j. not (j == i) && overlap j) (changes_word v i at) n (λ j. regroup (not (j == i)) (counts v (reloc_at v j)) (not (is_hint (reloc_at v j).kind)) (ranges_overlap at 4 (reloc_at v j).at (width_of (reloc_at v j).kind)))

-- what the two counts tell
pub shared_by : (v : PlainView) (lists : RelocationLists) (i at itself lower all : ℕ) (starts ends : List ℕ) → AreListsOf v lists → i < length v.relocs → at ≡ (reloc_at v i).at → itself ≡ (if is_changing v i then 1 else 0) → ends ≡ lists.ends.items → lower ≡ count_by (is_under (at + 1)) ends → starts ≡ lists.starts.items → all ≡ count_by (is_under (at + 4)) starts → nat_lt (lower + itself) all ≡ any_below (changes_word v i (reloc_at v i).at) (length v.relocs)
shared_by v lists i at itself lower all starts ends are below here own first lowers second alls =
    let behind = lowers ∙ ap (λ x. count_by (is_under (x + 1)) ends) here ∙ ap (count_by (is_under ((reloc_at v i).at + 1))) first in
    let before = alls ∙ ap (λ x. count_by (is_under (x + 4)) starts) here ∙ ap (count_by (is_under ((reloc_at v i).at + 4))) second in
    ap (λ x. nat_lt (x + itself) all) behind
    ∙ ap (λ x. nat_lt (count_by (is_under ((reloc_at v i).at + 1)) lists.ends.items + x) all) own
    ∙ ap (λ x. nat_lt (count_by (is_under ((reloc_at v i).at + 1)) lists.ends.items + (if is_changing v i then 1 else 0)) x) before
    ∙ shared_is v lists i are below

one_le : (b : Bool) (n : ℕ) → n ≡ (if b then 1 else 0) → n ≤ 1
one_le true n is = omega (arith, is)
one_le false n is = omega (arith, is)

pub own_le : (v : PlainView) (i itself : ℕ) → itself ≡ (if is_changing v i then 1 else 0) → itself ≤ 1
own_le v i itself is = one_le (is_changing v i) itself is

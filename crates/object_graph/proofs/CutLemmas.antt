-- A word is cut by a range just where one begins or ends inside it.
use Rattle.std.proofs.Common.{◌≡◌, ◌∙◌, ℕ, ◌+◌, ◌<◌, Bool, true, false, not, ◌&&◌, ◌||◌, List, length, refl, ap, arith}
use Rattle.std.specs.List.{list_any}
use Rattle.std.proofs.lemmas.Bool.Decides.{nat_tests}
use Rattle.list_checks.specs.Tests.{any_below, lies_in, ranges_overlap}
use Rattle.elf_reader.specs.File.{PlainView}
use Rattle.loaded_file.specs.Records.{symbol_at}
use Rattle.loaded_file.specs.Ranges.{has_range}
use Rattle.loaded_file.proofs.RangeLemmas.{range_parts}
use Rattle.list_checks.specs.Sorted.{is_inside}
use Rattle.loaded_file.specs.Listed.{passes_with}
use Rattle.object_graph.specs.Rewritable.{cuts_range}
use Rattle.object_graph.specs.Lists.{is_ranged, range_start, range_end, AreListsOf}
use Rattle.object_graph.specs.declared.lists.RelocationLists.{RelocationLists}
use Rattle.object_graph.proofs.ListLemmas.{any_or, any_same, first_passes, first_fails}

-- an edge of a range with bytes lies inside the word where the range meets the word and does not hold it
edge_step : (at start size : ℕ) → 0 < size → (is_inside (at + 1) 3 start || is_inside (at + 1) 3 (start + size)) ≡ (ranges_overlap at 4 start size && not (lies_in start size at 4))
edge_step at start size filled = grind (arith, nat_tests, filled)

cut_step : (h : Bool) (at start size : ℕ) → (h ≡ true → 0 < size) → (h && is_inside (at + 1) 3 start || h && is_inside (at + 1) 3 (start + size)) ≡ (h && ranges_overlap at 4 start size && not (lies_in start size at 4))
cut_step true at start size filled = edge_step at start size (filled refl)
cut_step false at start size filled = refl

cut_at : (v : PlainView) (at k : ℕ) → (passes_with (is_ranged v) (range_start v) (is_inside (at + 1) 3) k || passes_with (is_ranged v) (range_end v) (is_inside (at + 1) 3) k) ≡ cuts_range v at k
cut_at v at k =
    let s = symbol_at v k in
    cut_step (has_range v s) at s.value s.size (λ has. (range_parts v s has).filled)

pub cuts_are : (v : PlainView) (lists : RelocationLists) (at : ℕ) → AreListsOf v lists → (list_any (is_inside (at + 1) 3) lists.range_starts.items || list_any (is_inside (at + 1) 3) lists.range_ends.items) ≡ any_below (cuts_range v at) (length v.symbols)
cuts_are v lists at are =
    let asked = is_inside (at + 1) 3 in
    ap (λ b. b || list_any asked lists.range_ends.items) (are.range_starts.any asked)
    ∙ ap (λ b. any_below (passes_with (is_ranged v) (range_start v) asked) (length v.symbols) || b) (are.range_ends.any asked)
    ∙ any_or (passes_with (is_ranged v) (range_start v) asked) (passes_with (is_ranged v) (range_end v) asked) (length v.symbols)
    ∙ any_same (λ k. passes_with (is_ranged v) (range_start v) asked k || passes_with (is_ranged v) (range_end v) asked k) (cuts_range v at) (length v.symbols) (cut_at v at)

-- what the two questions tell
pub cut_first : (v : PlainView) (lists : RelocationLists) (at start : ℕ) (a : Bool) (starts : List ℕ) → AreListsOf v lists → start ≡ at → starts ≡ lists.range_starts.items → a ≡ list_any (is_inside (start + 1) 3) starts → a ≡ true → a ≡ any_below (cuts_range v at) (length v.symbols)
cut_first v lists at start a starts are begins first is passes =
    let told : a ≡ list_any (is_inside (at + 1) 3) lists.range_starts.items = is ∙ ap (λ x. list_any (is_inside (x + 1) 3) starts) begins ∙ ap (list_any (is_inside (at + 1) 3)) first in
    first_passes a (list_any (is_inside (at + 1) 3) lists.range_ends.items) _ passes (ap (λ b. b || list_any (is_inside (at + 1) 3) lists.range_ends.items) told ∙ cuts_are v lists at are)

pub cut_second : (v : PlainView) (lists : RelocationLists) (at start : ℕ) (a b : Bool) (starts ends : List ℕ) → AreListsOf v lists → start ≡ at → starts ≡ lists.range_starts.items → a ≡ list_any (is_inside (start + 1) 3) starts → a ≡ false → ends ≡ lists.range_ends.items → b ≡ list_any (is_inside (start + 1) 3) ends → b ≡ any_below (cuts_range v at) (length v.symbols)
cut_second v lists at start a b starts ends are begins first is fails second after =
    let told : a ≡ list_any (is_inside (at + 1) 3) lists.range_starts.items = is ∙ ap (λ x. list_any (is_inside (x + 1) 3) starts) begins ∙ ap (list_any (is_inside (at + 1) 3)) first in
    let more : b ≡ list_any (is_inside (at + 1) 3) lists.range_ends.items = after ∙ ap (λ x. list_any (is_inside (x + 1) 3) ends) begins ∙ ap (list_any (is_inside (at + 1) 3)) second in
    first_fails a b _ fails (ap (λ c. c || b) told ∙ ap (λ c. list_any (is_inside (at + 1) 3) lists.range_starts.items || c) more ∙ cuts_are v lists at are)

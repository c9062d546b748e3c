-- An address lies in some span just where more spans begin there or before than end there or before.
use Rattle.std.proofs.Common.{◌≡◌, ◌∙◌, ℕ, ◌+◌, nat_lt, nat_le, Bool, true, ◌&&◌, if◌then◌else◌, List, length, arith}
use Rattle.std.specs.List.{count_by}
use Rattle.std.proofs.lemmas.Bool.Decides.{nat_tests}
use Rattle.std.proofs.lemmas.List.Folds.{list_any_at}
use Rattle.list_checks.specs.Tests.{any_below}
use Rattle.list_checks.specs.Sorted.{is_under, count_below}
use Rattle.list_checks.proofs.StepLemmas.{any_place}
use Rattle.list_checks.proofs.TestLemmas.{both, same_tests, any_at, any_found}
use Rattle.loaded_file.specs.Listed.{passes_with}
use Rattle.loaded_file.proofs.ListedLemmas.{split_counts, any_count}
use Rattle.loaded_file.proofs.ByteRangeLemmas.{both_made}
use Rattle.object_graph.specs.Spans.{holds, any_holds}
use Rattle.object_graph.specs.SpanBounds.{no_span, span_at, is_filled, bound_at, AreBoundsOf}
use Rattle.object_graph.specs.declared.spans.Bound.TheVariants.{First, Behind}
use Rattle.object_graph.specs.declared.spans.Span.{Span}

abbrev holds_at : List Span → ℕ → ℕ → Bool
holds_at spans a k = is_filled spans k && holds a (span_at spans k)

split_step : (start end a : ℕ) → (if nat_lt start end && nat_lt start (a + 1) then 1 else 0) ≡ (if nat_lt start end && nat_lt end (a + 1) then 1 else 0) + (if nat_lt start end && (nat_le start a && nat_lt a end) then 1 else 0)
split_step start end a = grind (arith, nat_tests)

filled_by : (start end a : ℕ) → (nat_le start a && nat_lt a end) ≡ true → nat_lt start end ≡ true
filled_by start end a held = grind (arith, nat_tests, held)

some_place : (spans : List Span) (a : ℕ) → any_below (holds_at spans a) (length spans) ≡ any_holds spans a
some_place spans a =
    same_tests (any_below (holds_at spans a) (length spans)) (any_holds spans a)
    (λ found.
    let (k, below, passes) = any_found (holds_at spans a) (length spans) found in
    list_any_at (holds a) spans k no_span below (both (is_filled spans k) (holds a (span_at spans k)) passes).1)
    (λ found.
    let (k, at) = any_place (holds a) spans no_span found in
    any_at (holds_at spans a) (length spans) k at.0 (both_made _ _ (filled_by (span_at spans k).start (span_at spans k).end a at.1) at.1))

less_by : (all lower some : ℕ) → all ≡ lower + some → nat_lt lower all ≡ nat_lt 0 some
less_by all lower some sum = grind (arith, nat_tests, sum)

-- what two counts tell
pub held_by : (spans : List Span) (starts ends : List ℕ) (a next lower all : ℕ) → AreBoundsOf spans starts ends → next ≡ a + 1 → lower ≡ count_by (is_under next) ends → all ≡ count_by (is_under next) starts → nat_lt lower all ≡ any_holds spans a
held_by spans starts ends a next lower all are is lowers alls =
    let n = length spans in
    let first = are.first.counted (is_under (a + 1)) in
    let behind = are.behind.counted (is_under (a + 1)) in
    let sum = split_counts (passes_with (is_filled spans) (bound_at First spans) (is_under (a + 1))) (passes_with (is_filled spans) (bound_at Behind spans) (is_under (a + 1))) (holds_at spans a) (λ k. split_step (span_at spans k).start (span_at spans k).end a) n in
    let starts_are : all ≡ count_by (is_under (a + 1)) starts = rw is at alls in
    let ends_are : lower ≡ count_by (is_under (a + 1)) ends = rw is at lowers in
    less_by all lower (count_below (holds_at spans a) n) (omega (arith, first, behind, sum, starts_are, ends_are))
    ∙ any_count (holds_at spans a) n
    ∙ some_place spans a

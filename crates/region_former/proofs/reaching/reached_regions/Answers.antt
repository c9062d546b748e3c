use Rattle.std.proofs.Common.{◌≡◌, ◌∙◌, ℕ, ◌<◌, Bool, List, length, min, slice_index_or, ap, subst}
use Rattle.code_blocks.specs.Blocks.{count_below}
use Rattle.region_former.specs.Reaching.{is_root, root_region}
use Rattle.region_former.specs.Propagation.{mark_at, region_by}
use Rattle.region_former.specs.Rows.{truth_at}
use Rattle.region_former.specs.declared.propagation.Reached.{Reached}
use Rattle.region_former.proofs.MarkLemmas.{reached, count_same}
use Rattle.region_former.proofs.reaching.reached_regions.Goals as goal

pub returns-clause-count : goal.returns-clause-count
returns-clause-count c =
    let roots = c.in_ok-roots.roots.items in
    let numbers = c.in_ok-numbers.numbers in
    let counted = subst (λ (rs : List Bool). numbers.count ≡ min (count_below (truth_at rs) (length rs)) 8) c.deref-2.ensures.value c.in_ok-numbers.ensures.count in
    counted
    ∙ ap (λ (n : ℕ). min n 8)
    (ap (count_below (truth_at roots)) c.in_ok-roots.ensures.one_each
    ∙ count_same (truth_at roots) (is_root c.args.code.now c.args.driver) (length c.args.code.now.functions.items) c.in_ok-roots.ensures.roots)

pub returns-clause-regions : goal.returns-clause-regions
returns-clause-regions c =
    let roots = c.in_ok-roots.roots.items in
    let marks = c.in_ok-marks.marks.items in
    let regions = c.in_ok-numbers.numbers.of_function.items in
    let made = c.in_ok-of_function.of_function.items in
    let numbered = subst (λ (rs : List Bool). (k : ℕ) → k < length rs → slice_index_or regions k 0 ≡ root_region (truth_at rs) k) c.deref-2.ensures.value c.in_ok-numbers.ensures.regions in
    let from = subst (λ (ms : List Reached). (f : ℕ) → f < length ms → slice_index_or made f 0 ≡ region_by c.deref-4.result.now (mark_at ms f)) c.deref-3.ensures.value c.in_ok-of_function.ensures.regions in
    let by = subst (λ (rs : List ℕ). (f : ℕ) → f < length marks → slice_index_or made f 0 ≡ region_by rs (mark_at marks f)) c.deref-4.ensures.value from in
    reached c.args.code.now c.args.driver roots marks regions made c.in_ok-roots.ensures.one_each c.in_ok-roots.ensures.roots c.in_ok-marks.ensures.marks numbered
    (λ f below. by f (rw c.in_ok-marks.ensures.one_each below))

use Rattle.std.proofs.Common.{◌∙◌, ℕ, ◌<◌, ◌≤◌, List, length, ap, arith}
use Rattle.std.proofs.lemmas.List.{get_or_default}
use Rattle.region_former.specs.Flow.{block_count}
use Rattle.code_blocks.specs.Leads.{owner_at}
use Rattle.region_former.specs.Borders.{region_in}
use Rattle.region_former.specs.Made.{region_for}
use Rattle.region_former.proofs.FormLemmas.{left_within, owner_within}
use Rattle.region_former.proofs.forming.table_from.Goals as goal

pub invariant_of-result-clause-within : goal.invariant_of-result-clause-within
invariant_of-result-clause-within c = λ k d below.
    let code = c.args.code.now in
    let made = c.args.functions.now in
    let left = c.in_ok-of_block.of_block.items in
    let within : k < block_count code = omega (arith, below, c.in_ok-of_block.ensures.one_each) in
    let owner = owner_within made.of_function.items made.count (length code.functions.items) (owner_at code k) (c.requires.orderly.owners k within) c.requires.regions.within in
    let formed = c.in_ok-formed.ensures.formed k within ∙ ap (λ (xs : List ℕ). region_for xs (owner_at code k)) c.deref.ensures.value in
    let few : region_in c.in_ok-formed.formed.items k ≤ made.count = omega (arith, formed, owner) in
    let kept = c.in_ok-of_block.ensures.left k within in
    let same = ap (λ (xs : List ℕ). region_in xs k) c.deref-2.ensures.value in
    let last = left_within _ (region_in left k) (region_in c.deref-2.result.now k) made.count kept (omega (arith, few, same)) in
    let default = get_or_default left k d 0 below in
    omega (arith, default, last)

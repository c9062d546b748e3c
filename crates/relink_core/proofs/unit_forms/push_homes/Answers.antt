use Rattle.std.proofs.Common.{◌∙◌, ℕ, ap, arith}
use Rattle.std.specs.List.{list_any}
use Rattle.list_checks.specs.Sorted.{is_number}
use Rattle.relink_core.specs.UnitSets.{HomeForms}
use Rattle.relink_core.proofs.UnitSetLemmas.{gains_more}
use Rattle.relink_core.proofs.UnitSteps.{block_homes}
use Rattle.relink_core.proofs.unit_forms.push_homes.Goals as goal

pub loop-b-preserved : goal.loop-b-preserved
loop-b-preserved c =
    let code = c.args.code.now in
    let homes = c.args.homes.now in
    let b = c.loop-b.b in
    gains_more b (HomeForms code homes) _ _ _ c.loop-b.invariant
    (block_homes code homes b c.index-block.result.now c.has.result _ _ (omega (arith, c.loop-b-test.true, c.loop-b.auto.b-end)) c.index-block.ensures (c.has.ensures ∙ ap (λ (n : ℕ). list_any (is_number n) homes) c.from.ensures) c.in_ok-push_block.ensures)

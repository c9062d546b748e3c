use Rattle.std.proofs.Common.{◌≡◌, ◌+◌, true, arith}
use Rattle.block_splitter.specs.Forms.{holds_block}
use Rattle.block_splitter.proofs.CopySizeLemmas.{holds, range_is}
use Rattle.relink_core.specs.Copies.{copied_in}
use Rattle.relink_core.proofs.StubsMade.{block_below}
use Rattle.relink_core.specs.UnitSets.{HeldForms}
use Rattle.relink_core.proofs.UnitSetLemmas.{gains_more}
use Rattle.relink_core.proofs.UnitSteps.{held_block, whole_copy}
use Rattle.relink_core.proofs.unit_forms.push_copy.Goals as goal

pub push_copied-requires-clause-held : goal.push_copied-requires-clause-held
push_copied-requires-clause-held c = holds c.loop-b.b c.args.copy.now.range c.loop-b.auto.b (omega (arith, c.loop-b-test.true))

pub push_copied-requires-clause-below : goal.push_copied-requires-clause-below
push_copied-requires-clause-below c =
    block_below c.args.source.now c.args.copy.now c.loop-b.b c.requires.copy (holds c.loop-b.b c.args.copy.now.range c.loop-b.auto.b (omega (arith, c.loop-b-test.true)))

pub loop-b-preserved : goal.loop-b-preserved
loop-b-preserved c =
    let s = c.args.source.now in
    let x = c.args.copy.now in
    let inside : holds_block c.loop-b.b x.range ≡ true = holds c.loop-b.b x.range c.loop-b.auto.b (omega (arith, c.loop-b-test.true)) in
    gains_more c.loop-b.b (HeldForms (copied_in s x) c.args.region) _ _ _ c.loop-b.invariant
    (held_block s x c.loop-b.b c.requires.copy inside c.args.region _ _ c.in_ok-push_copied.ensures)

pub returns : goal.returns
returns c =
    let s = c.args.source.now in
    let x = c.args.copy.now in
    let ordered = (range_is s.code.now x.range c.requires.copy.can.copied.shape).ordered in
    let all : c.loop-b.b ≡ x.range.last + 1 = omega (arith, ordered, c.loop-b-test.false, c.loop-b.auto.b-end) in
    whole_copy s x c.args.region c.loop-b.b _ _ c.requires.copy all c.loop-b.invariant

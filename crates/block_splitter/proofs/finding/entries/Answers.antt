use Rattle.std.proofs.Common.{◌∙◌, sym, arith}
use Rattle.block_splitter.specs.Pieces.{is_entry}
use Rattle.block_splitter.specs.Facts.{block_count}
use Rattle.block_splitter.proofs.SumLemmas.{collected_before, collected_all}
use Rattle.block_splitter.proofs.finding.entries.Goals as goal

pub loop-b-init : goal.loop-b-init
loop-b-init c = c.new-entries.ensures.items ∙ sym (collected_before c.args.range.now (is_entry c.args.code.now c.args.range.now))

pub returns : goal.returns
returns c =
    let ordered = c.requires.range.ordered in
    let over = c.loop-b-test.false in
    let upto = c.loop-b.auto.b-end (omega (arith, ordered)) in
    collected_all c.args.range.now (is_entry c.args.code.now c.args.range.now) (block_count c.args.code.now) c.loop-b.b c.loop-b.entries.items c.requires.range.below (omega (arith, over, upto)) c.loop-b.invariant

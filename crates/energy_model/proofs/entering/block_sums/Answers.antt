use Rattle.std.proofs.Common.{◌≡◌, ◌+◌, true, arith}
use Rattle.std.proofs.lemmas.Bool.Decides.{nat_tests}
use Rattle.block_splitter.specs.Forms.{holds_block}
use Rattle.energy_model.proofs.PieceLemmas.{held_inside}
use Rattle.energy_model.proofs.EnteringLemmas.{no_entering, entering_more, few_entering, entering_all}
use Rattle.energy_model.proofs.entering.block_sums.Goals as goal

pub loop-b-init : goal.loop-b-init
loop-b-init c = no_entering c.args.tables.now.code.now c.args.tables.now.graph.now c.args.tables.now.profile.now c.args.tables.now.regions.now.border.items c.args.range.now

pub added-sums-requires : goal.added-sums-requires
added-sums-requires c =
    let held : holds_block c.loop-b.b c.args.range.now ≡ true = grind (arith, nat_tests) in
    few_entering c.args.tables.now.code.now c.args.tables.now.regions.now c.args.tables.now.graph.now c.args.tables.now.profile.now c.args.range.now c.loop-b.b c.loop-b.sums c.entering_block-more.result c.requires.tables.code c.requires.tables.overlay held
    (held_inside c.args.tables.now.code.now c.args.range.now c.loop-b.b c.requires.range held) c.loop-b.invariant c.entering_block-more.ensures

pub loop-b-preserved : goal.loop-b-preserved
loop-b-preserved c =
    let held : holds_block c.loop-b.b c.args.range.now ≡ true = grind (arith, nat_tests) in
    entering_more c.args.tables.now.code.now c.args.tables.now.graph.now c.args.tables.now.profile.now c.args.tables.now.regions.now.border.items c.args.range.now c.loop-b.b c.loop-b.sums c.entering_block-more.result c.added-sums.result held c.loop-b.invariant c.entering_block-more.ensures c.added-sums.ensures

pub returns : goal.returns
returns c =
    let ordered = c.requires.range.ordered in
    let done : c.loop-b.b ≡ c.args.range.now.last + 1 = grind (arith, ordered) in
    entering_all c.args.tables.now.code.now c.args.tables.now.graph.now c.args.tables.now.profile.now c.args.tables.now.regions.now.border.items c.args.range.now c.loop-b.b c.loop-b.sums c.requires.range.below done c.loop-b.invariant

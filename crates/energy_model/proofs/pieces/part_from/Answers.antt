use Rattle.std.proofs.Common.{◌≤◌, arith}
use Rattle.std.proofs.lemmas.Bool.Decides.{nat_tests}
use Rattle.energy_model.proofs.StretchLemmas.{skip_part, block_part}
use Rattle.energy_model.proofs.pieces.part_from.Goals as goal

pub index-requires : goal.index-requires
index-requires c =
    let size = (c.may_skip.ensures c.if-may_skip.true).size in
    let even = (c.may_skip.ensures c.if-may_skip.true).even in
    let below = c.requires.range.is_range.below in
    let count = c.requires.blocks.stretches.size in
    let length = c.args.counts.now.stretches.ok.0 in
    omega (arith, size, even, below, count, length)

pub returns-then-may_skip-clause-sums : goal.returns-then-may_skip-clause-sums
returns-then-may_skip-clause-sums c =
    let held = c.requires.held in
    let low : c.args.range.now.first ≤ c.args.b = grind (arith, nat_tests, held) in
    skip_part c.args.code.now c.args.graph.now c.args.profile.now c.args.counts.now c.args.range.now c.args.b c.index.result.now c.requires.counts c.requires.blocks c.requires.range.is_range low (c.may_skip.ensures c.if-may_skip.true) c.index.ensures

pub returns-clause-sums : goal.returns-clause-sums
returns-clause-sums c =
    block_part c.args.code.now c.args.graph.now c.args.profile.now c.args.range.now c.args.b c.terms.result c.requires.held c.terms.ensures

use Rattle.std.proofs.Common.{◌≡◌, ◌∙◌, ◌+◌, ◌*◌, ap, arith}
use Rattle.block_splitter.specs.Copies.{words_before}
use Rattle.relink_core.specs.Copies.{copied_in}
use Rattle.relink_core.proofs.StubsMade.{start_there, start_fits}
use Rattle.relink_core.proofs.entering.copied_start.Goals as goal

pub index-requires : goal.index-requires
index-requires c =
    let there = start_there c.args.source.now c.args.copy.now c.args.block c.requires.copy c.requires.inside in
    let below = there.below in
    omega (arith, below, c.args.copy.now.code.starts.ok.0)

pub overflow_add-result : goal.overflow_add-result
overflow_add-result c =
    let there = start_there c.args.source.now c.args.copy.now c.args.block c.requires.copy c.requires.inside in
    let fits = start_fits c.args.source.now c.args.copy.now c.args.block c.requires.copy c.requires.inside in
    let is : c.index.result.now ≡ 4 * words_before (copied_in c.args.source.now c.args.copy.now) c.args.block = c.index.ensures ∙ there.is c.index.result.now in
    omega (arith, is, fits)

pub returns : goal.returns
returns c =
    let there = start_there c.args.source.now c.args.copy.now c.args.block c.requires.copy c.requires.inside in
    ap (λ n. c.args.copy.now.at + n) (c.index.ensures ∙ there.is c.index.result.now)

use Rattle.std.proofs.Common.{◌∙◌, ◌+◌, ap, arith}
use Rattle.relink_core.proofs.StubsMade.{start_there, start_fits}
use Rattle.relink_core.proofs.unit_forms.block_place.Goals as goal

pub index-start-requires : goal.index-start-requires
index-start-requires c =
    let (s, placed) = c.requires.copy in
    let below = (start_there s c.args.copy.now c.args.b placed c.requires.held).below in
    omega (arith, below, c.args.copy.now.code.starts.ok.0)

pub overflow_add-result : goal.overflow_add-result
overflow_add-result c =
    let (s, placed) = c.requires.copy in
    let fits = start_fits s c.args.copy.now c.args.b placed c.requires.held in
    let start = c.index-start.ensures ∙ (start_there s c.args.copy.now c.args.b placed c.requires.held).is c.index-start.result.now in
    omega (arith, fits, start)

pub returns : goal.returns
returns c = λ s placed.
    let start = c.index-start.ensures ∙ (start_there s c.args.copy.now c.args.b placed c.requires.held).is c.index-start.result.now in
    ap (λ n. c.args.copy.now.at + n) start

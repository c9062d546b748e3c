use Rattle.std.proofs.Common.{◌∙◌, ap, FitsSigned, rules}
use Rattle.std.proofs.lemmas.Int.{to_z-of_z}
use mir.Syntax.{w128}
use Rattle.placement_candidates.specs.OverlayCounted.{code_gain_in}
use Rattle.placement_candidates.proofs.overlay_gains.overlay_code_gain.Goals as goal

pub code_gain-requires-clause-tally : goal.code_gain-requires-clause-tally
code_gain-requires-clause-tally c = (c.args.piece.now, c.requires.tally)

pub returns : goal.returns
returns c =
    let fits : FitsSigned w128 c.code_gain.result = search rules in
    to_z-of_z w128 c.code_gain.result fits
    ∙ c.code_gain.ensures c.args.piece.now c.requires.tally
    ∙ ap (code_gain_in c.args.m.now c.args.piece.now.first c.args.piece.now.last) c.copies_price.ensures.is

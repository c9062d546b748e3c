use Rattle.std.proofs.Common.{◌∙◌, map, arith}
use Rattle.std.proofs.lemmas.List.{length-map}
use Rattle.placement_candidates.specs.FullVars.{plain_full_var}
use Rattle.placement_candidates.proofs.RankLemmas.{kept_here}
use Rattle.placement_candidates.proofs.selecting.is_kept.Goals as goal

pub passes-requires : goal.passes-requires
passes-requires c =
    let few = c.requires.cut.least.few in
    let above = c.requires.cut.above in
    omega (arith, few, above)

pub returns : goal.returns
returns c =
    let count = length-map c.args.vars.now plain_full_var in
    let inside = c.requires.inside in
    c.passes.ensures ∙ kept_here (map plain_full_var c.args.vars.now) c.args.cut.now c.worth_at.result c.args.ties c.args.k c.requires.cut (omega (arith, count, inside)) c.worth_at.ensures c.requires.ties

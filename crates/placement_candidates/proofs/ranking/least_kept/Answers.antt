use Rattle.std.proofs.Common.{◌∙◌, map, length, sym, ap, subst}
use Rattle.std.proofs.lemmas.List.{length-map}
use Rattle.placement_candidates.specs.FullVars.{plain_full_var}
use Rattle.placement_candidates.specs.Ranking.{least_of, IsLeast}
use Rattle.placement_candidates.proofs.RankLemmas.{is_least}
use Rattle.placement_candidates.proofs.ranking.least_kept.Goals as goal

pub returns : goal.returns
returns c =
    let vs = map plain_full_var c.args.vars.now in
    subst (IsLeast vs) (sym (c.least_of.ensures ∙ ap least_of c.deref.ensures.value))
    (is_least vs (length c.args.vars.now) c.in_ok-worths.worths.items c.arrange.new.worths.items (sym (length-map c.args.vars.now plain_full_var)) c.in_ok-worths.ensures c.arrange.ensures.sorted c.arrange.ensures.counts)

use Rattle.std.proofs.Common.{is_some, subst}
use Rattle.placement_programme.specs.Views.{plain_side, plain_programme}
use Rattle.branch_bound.specs.Guided.{Searches, stand}
use Rattle.branch_bound.proofs.GuidedLemmas.{root_deep}
use Rattle.branch_bound.proofs.side_certifying.search_from.Goals as goal

pub search-requires-clause-deep : goal.search-requires-clause-deep
search-requires-clause-deep g c =
    root_deep (plain_side c.args.task.now.side.now) c.args.marks.now c.args.task.now.side.now.bounds.few_vars c.requires.marks

pub returns-in-Ok-clause-searches : goal.returns-in-Ok-clause-searches
returns-in-Ok-clause-searches g c = (
  c.in_ok-guide.guide,
  (
    c.search.new.guide,
    (
      c.search.new.best.left,
      subst
          (λ ms. Searches g.G.Guide.answers (plain_programme c.args.task.now.programme.now) c.args.task.now.on (plain_side c.args.task.now.side.now) ms (stand c.in_ok-guide.guide c.args.best.now) (is_some c.in-Ok.tree) (stand c.search.new.guide c.search.new.best))
          c.requires.marks c.in-Ok.ensures.searches,
    ),
  ),
)

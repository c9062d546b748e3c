use Rattle.std.proofs.Common.{◌≡◌, ◌∙◌, suc, subst}
use Rattle.std.specs.List.{count_by}
use Rattle.placement_programme.specs.Views.{plain_side}
use Rattle.certificate_checker.specs.Shows.{all_free}
use Rattle.branch_bound.specs.Searching.{Reports, HasLevels}
use Rattle.certificate_checker.specs.Fixings.{is_free}
use Rattle.branch_bound.proofs.SolveLemmas.{root_levels}
use Rattle.branch_bound.proofs.VisitLemmas.{first_tried}
use Rattle.branch_bound.proofs.solving.search_side.Goals as goal

pub search-requires-clause-known : goal.search-requires-clause-known
search-requires-clause-known g c =
    first_tried (plain_side c.args.side.now) c.args.best.gain c.in_ok-root.root.marks.items (c.in_ok-root.ensures.marks ∙ c.in_ok-free_marks.ensures)

pub returns-clause-levels : goal.returns-clause-levels
returns-clause-levels g c =
    let s = plain_side c.args.side.now in
    let is : c.in_ok-root.root.marks.items ≡ all_free s = c.in_ok-root.ensures.marks ∙ c.in_ok-free_marks.ensures in
    root_levels s c.in_ok-tree.tree c.args.side.now.bounds.few_vars (subst (λ m. HasLevels (suc (count_by is_free m)) c.in_ok-tree.tree) is c.in_ok-tree.ensures.levels)

pub returns-clause-tells : goal.returns-clause-tells
returns-clause-tells g c =
    λ start order.
    let s = plain_side c.args.side.now in
    let is : c.in_ok-root.root.marks.items ≡ all_free s = c.in_ok-root.ensures.marks ∙ c.in_ok-free_marks.ensures in
    subst (λ m. Reports s start m c.search.new.run.best.gain c.args.left c.search.new.run.left c.in_ok-tree.tree) is (c.in_ok-tree.ensures.tells start order)

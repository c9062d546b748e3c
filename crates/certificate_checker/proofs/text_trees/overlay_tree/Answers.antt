use Rattle.std.proofs.Common.{Some, subst}
use Rattle.placement_programme.specs.Views.{plain_side}
use Rattle.certificate_checker.specs.Reading.{tree_at, most_levels}
use Rattle.certificate_checker.specs.Rooms.{gain_if, SideRead}
use Rattle.certificate_checker.proofs.text_trees.overlay_tree.Goals as goal

pub returns-clause-read : goal.returns-clause-read
unfolding most_levels
returns-clause-read c =
    let read = tree_at c.args.total most_levels c.args.bytes.now in
    let side = Some (plain_side c.args.side.now) in
    subst (λ best. SideRead side best c.walk_side.result read) c.is_judged.ensures
    (subst (λ gain. SideRead side (gain_if c.is_judged.result gain) c.walk_side.result read) c.used.ensures.value c.walk_side.ensures.read)

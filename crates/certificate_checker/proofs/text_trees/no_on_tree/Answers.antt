use Rattle.std.proofs.Common.{None, option_map, sym, subst}
use Rattle.placement_programme.specs.Views.{plain_side}
use Rattle.certificate_checker.specs.Walks.{SideAnswers}
use Rattle.certificate_checker.proofs.RoomLemmas.{missing_first}
use Rattle.certificate_checker.proofs.text_trees.no_on_tree.Goals as goal

pub returns-in-Some : goal.returns-in-Some
returns-in-Some c best =
    subst (λ side. SideAnswers (option_map plain_side side) best None c.first_node.result) (sym c.in-Some.is)
    (missing_first (plain_side c.in-Some.field-0) best c.first_node.result c.first_node.ensures)

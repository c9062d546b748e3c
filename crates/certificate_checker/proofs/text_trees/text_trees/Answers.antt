use Rattle.std.proofs.Common.{◌≡◌, Ok, Some, None, option_map, refl, sym, subst}
use Rattle.placement_programme.specs.Views.{plain_side}
use Rattle.certificate_checker.specs.Reading.{trees_for}
use Rattle.certificate_checker.specs.Rooms.{gain_behind}
use Rattle.certificate_checker.proofs.RoomLemmas.{answered, missing_first}
use Rattle.certificate_checker.proofs.text_trees.text_trees.Goals as goal

pub returns-else-optimal-clause-read : goal.returns-else-optimal-clause-read
returns-else-optimal-clause-read c = (
  (None, None),
  (
    subst (λ claimed. trees_for claimed c.args.total c.args.bytes.now ≡ Ok ((None, None), c.args.bytes.now)) (sym c.if-optimal.false) refl,
    answered (Some (plain_side c.args.p.now.off)) None c.first_node-off.result c.args.best (λ b. missing_first (plain_side c.args.p.now.off) b c.first_node-off.result c.first_node-off.ensures),
    answered (option_map plain_side c.args.p.now.on) None c.no_on_tree-on.result (gain_behind c.args.best c.first_node-off.result) c.no_on_tree-on.ensures,
  ),
)

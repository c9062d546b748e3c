use Rattle.std.proofs.Common.{Some, None, option_map, subst}
use Rattle.placement_programme.specs.Views.{plain_side}
use Rattle.certificate_checker.specs.Rooms.{AnswersFor, gain_behind}
use Rattle.certificate_checker.proofs.RoomLemmas.{answered, one_tree, two_trees}
use Rattle.certificate_checker.proofs.text_trees.claimed_trees.Goals as goal

pub returns-then-count-eq1-clause-read : goal.returns-then-count-eq1-clause-read
returns-then-count-eq1-clause-read c =
    let off = c.in_ok-off.ensures.read in (
      (Some off.0, None),
      (
        one_tree c.args.total c.args.bytes.now c.in_ok-count.count c.in_ok-count.rest.now off.0 c.in_ok-off.rest.now c.in_ok-count.ensures.gives off.1.0 c.if-count-eq1.true,
        off.1.1,
        answered (option_map plain_side c.args.p.now.on) None c.no_on_tree-on.result (gain_behind c.args.best c.in_ok-off.off) c.no_on_tree-on.ensures,
      ),
    )

pub returns-clause-read : goal.returns-clause-read
returns-clause-read c =
    let off = c.in_ok-off.ensures.read in
    let on = c.in_ok-on.ensures.read in (
      (Some off.0, Some on.0),
      (
        two_trees c.args.total c.args.bytes.now c.in_ok-count.count c.in_ok-count.rest.now off.0 c.in_ok-off.rest.now on.0 c.in_ok-on.rest.now c.in_ok-count.ensures.gives off.1.0 c.if-count-eq1.false on.1.0,
        off.1.1,
        subst (λ best. AnswersFor (option_map plain_side c.args.p.now.on) best (Some on.0) c.in_ok-on.on) c.gain_behind.ensures on.1.1,
      ),
    )

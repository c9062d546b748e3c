use Rattle.std.proofs.Common.{Some, Err, option_map, refl, sym, subst, arith}
use Rattle.placement_programme.specs.Views.{plain_side}
use Rattle.certificate_checker.specs.Shows.{SideWrong}
use Rattle.certificate_checker.proofs.Failures.{number_here}
use Rattle.certificate_checker.proofs.RoomLemmas.{answered}
use Rattle.certificate_checker.proofs.text_trees.on_tree.Goals as goal

pub returns-in-Ok-clause-read : goal.returns-in-Ok-clause-read
returns-in-Ok-clause-read c =
    let read = c.in-Ok.ensures.read in (
      read.0,
      (
        read.1.0,
        answered (option_map plain_side c.args.p.now.on) (Some read.0) (Err record { node = 0; depth = 0 }) c.args.best (λ b. (
          0,
          (
            0,
            (
              subst (λ side. SideWrong (option_map plain_side side) b (Some read.0) 0 0) (sym c.in-None.is) (refl, refl),
              (number_here 0 (omega arith), number_here 0 (omega arith)),
            ),
          ),
        )),
      ),
    )

use Rattle.std.proofs.Common.{false, sym, subst}
use Rattle.placement_programme.specs.Plain.{PlainSide}
use Rattle.relocator.specs.Space.{IsSpaceOf}
use Rattle.relocator.proofs.Examples.{table_has_space}
use Rattle.listings.proofs.moved.laid_out.Goals as goal

pub layout-requires-clause-choice : goal.layout-requires-clause-choice
layout-requires-clause-choice c =
    let g = c.args.graph.now in
    let board = c.args.board.now in
    record {
      feasible = c.feasible.ensures.0 c.if-feasible.true;
      space = subst (λ (s : PlainSide). IsSpaceOf g 0 board false s) (sym c.requires.side) (table_has_space g board c.requires.some);
    }

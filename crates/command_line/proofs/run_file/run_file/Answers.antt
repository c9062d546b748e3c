use Rattle.command_line.proofs.Running.{ran_of_view, nothing_rejected}
use Rattle.command_line.proofs.run_file.run_file.Goals as goal

pub returns-clause-ok : goal.returns-clause-ok
returns-clause-ok c =
    record {
      board = c.in_ok-board.board;
      is_board = c.in_ok-board.ensures.board;
      sound = nothing_rejected c.args.board.now c.args.file.now c.in_ok-board.ensures.fault c.in_ok-view.ensures.fault;
      runs = ran_of_view _ _ _ _ _ _ _ _ _ c.in_ok-view.ensures.file.entry c.in_ok-view.ensures.file.segments c.in_ok-run_view.ensures;
    }

use Rattle.std.proofs.lemmas.Result.{IfOk-weaker}
use Rattle.toml.specs.View.{table_view}
use Rattle.board_config.specs.Board.{HasKeys, IsLawful}
use Rattle.board_config.proofs.Lawful.{board_is_lawful}
use Rattle.board_config.proofs.reading.read_board.Goals as goal

pub returns-clause-lawful : goal.returns-clause-lawful
returns-clause-lawful c =
    IfOk-weaker c.board_of.result (HasKeys (table_view c.in_ok-table.table)) IsLawful (board_is_lawful (table_view c.in_ok-table.table)) c.board_of.ensures.board

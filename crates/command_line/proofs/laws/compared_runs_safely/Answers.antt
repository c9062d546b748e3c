use Rattle.std.proofs.Common.{inl}
use Rattle.command_line.proofs.laws.compared_runs_safely.Goals as goal

pub returns : goal.returns
returns c file relinked board_text input text compared ended absolute =
    inl (absolute, c.compared_is_fault_free.ensures file relinked compared.board compared.compared.graph input compared.board.steps compared.outcome compared.compared.compares ended)

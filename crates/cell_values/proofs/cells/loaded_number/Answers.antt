use Rattle.std.proofs.Common.{sym, arith}
use Rattle.cell_values.proofs.Reloads.{numbers}
use Rattle.cell_values.proofs.cells.loaded_number.Goals as goal

pub returns : goal.returns
returns c = sym (numbers c.args.n (omega arith))

use Rattle.std.proofs.Common.{◌/◌, ◌%◌}
use Rattle.cell_values.specs.Rows.{row_in, cell_in}
use Rattle.cell_values.proofs.CellLemmas.{zeros_stored}
use Rattle.cell_values.proofs.store.CellStore.new.Goals as goal

pub returns : goal.returns
returns c =
    zeros_stored _ _ (λ a i. cell_in (row_in (c.new-3.ensures (a / 4) i) (c.new-2.ensures (a / 4) i)) (a % 4)) c.new.ensures

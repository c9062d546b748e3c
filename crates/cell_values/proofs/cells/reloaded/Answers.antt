use Rattle.std.proofs.Common.{sym}
use Rattle.cell_values.proofs.Reloads.{addresses, uppers}
use Rattle.cell_values.proofs.cells.reloaded.Goals as goal

pub returns-in-Int : goal.returns-in-Int
returns-in-Int c = rw c.in-Int.is c.loaded_number.ensures

pub returns-in-Addr : goal.returns-in-Addr
returns-in-Addr c = rw c.in-Addr.is (sym (addresses c.in-Addr.obj c.in-Addr.off))

pub returns-in-Hi : goal.returns-in-Hi
returns-in-Hi c = rw c.in-Hi.is (sym (uppers c.in-Hi.obj c.in-Hi.off))

use Rattle.std.proofs.Common.{◌+◌}
use Rattle.relocator.proofs.TableLemmas.{fill_row}
use Rattle.relocator.proofs.table.put_row.Goals as goal

pub returns : goal.returns
returns c = fill_row c.args.rows.now.items c.args.object c.args.place (c.args.regions + 1) c.index_mut.result.now c.fill.new.row c.requires.below c.index_mut.ensures.value c.fill.ensures c.requires.width

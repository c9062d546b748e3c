use Rattle.std.proofs.Common.{arith}
use Rattle.block_splitter.proofs.TableLemmas.{enters}
use Rattle.block_splitter.proofs.measuring.is_entry.Goals as goal

pub returns-else-index : goal.returns-else-index
returns-else-index c = λ code g table.
    let each = table.forms_each in
    let below = c.requires.below in
    enters code g c.args.table.now c.args.range.now c.args.b _ c.leads_from_outside.result _ table (omega (arith, below, each)) c.requires.from c.requires.to c.index.ensures c.if-index.false c.index-else-index.ensures c.leads_from_outside.ensures

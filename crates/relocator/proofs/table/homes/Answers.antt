use Rattle.std.proofs.Common.{◌∙◌, arith}
use Rattle.relocator.proofs.TableLemmas.{homes_are, all_homes}
use Rattle.relocator.specs.Placing.{rows_of}
use Rattle.relocator.proofs.table.homes.Goals as goal

pub returns : goal.returns
returns c =
    let objects = c.args.graph.now.objects.items in
    let past = c.loop-object-test.false in
    homes_are c.args.graph.now c.args.regions (rows_of c.loop-object.rows.items)
    (c.loop-object.invariant ∙ all_homes c.args.regions objects c.loop-object.object-index (omega (arith, past)))

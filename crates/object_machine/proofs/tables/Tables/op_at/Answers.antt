use Rattle.std.proofs.Common.{◌<◌, length, arith}
use Rattle.object_machine.specs.Ops.{instr_of}
use Rattle.object_machine.proofs.OpLemmas.{op_below, name_there, named_fits}
use Rattle.object_machine.proofs.tables.Tables.op_at.Goals as goal

pub index-requires : goal.index-requires
index-requires c =
    let t = c.args.self.now in
    let below : c.args.place < length t.ops.items = op_below t.units.items t.starts.items t.ops.items c.args.place t.named c.requires in
    omega (arith, below)

pub returns-clause-named : goal.returns-clause-named
returns-clause-named c =
    let t = c.args.self.now in
    name_there t.units.items t.starts.items t.ops.items c.args.place c.index.result.now t.named c.requires c.index.ensures

pub returns-clause-fits : goal.returns-clause-fits
returns-clause-fits c =
    let t = c.args.self.now in
    named_fits (length t.graph.objects.items) t.units.items t.starts.items c.args.place (instr_of c.index.result.now) (t.fit c.args.place c.requires)
    (name_there t.units.items t.starts.items t.ops.items c.args.place c.index.result.now t.named c.requires c.index.ensures)

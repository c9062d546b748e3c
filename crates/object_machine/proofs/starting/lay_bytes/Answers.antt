use Rattle.cell_values.specs.Stored.{cells_of}
use Rattle.object_machine.proofs.StartLemmas.{byte_more}
use Rattle.object_machine.proofs.starting.lay_bytes.Goals as goal

pub loop-i-preserved : goal.loop-i-preserved
loop-i-preserved c =
    byte_more c.args.bytes.now c.loop-i.i c.args.at (cells_of c.args.memory.now) (cells_of c.loop-i.memory) (cells_of c.set.new.self) c.loop-i-test.true c.loop-i.invariant c.in_ok-set.ensures.set

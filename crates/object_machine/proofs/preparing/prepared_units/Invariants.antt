use Rattle.elf_reader.specs.File.{plain_view}
use Rattle.object_machine.specs.Preparing.{ArePrepared}
use Rattle.object_machine.proofs.preparing.prepared_units.Given as goal

-- the first units are prepared
abbrev pub invariant-loop-k : goal.invariant-loop-k
invariant-loop-k l = ArePrepared (plain_view l.file.view.now) l.graph l.units l.k l.out.items

use Rattle.std.proofs.Common.{◌∙◌, inr, sym}
use Rattle.elf_reader.specs.File.{plain_view}
use Rattle.object_graph.proofs.GraphLemmas.{too_many_is}
use Rattle.object_graph.proofs.building.gather_few.Goals as goal

pub returns-in-Err-clause-fault : goal.returns-in-Err-clause-fault
returns-in-Err-clause-fault c =
    inr (sym (too_many_is (plain_view c.args.file.now.view.now) c.args.board.now c.args.ranges.now c.requires.movable) ∙ c.in-Err.ensures)

pub returns-in_ok-gather-in-Ok-clause-fault : goal.returns-in_ok-gather-in-Ok-clause-fault
returns-in_ok-gather-in-Ok-clause-fault c =
    sym (too_many_is (plain_view c.args.file.now.view.now) c.args.board.now c.args.ranges.now c.requires.movable) ∙ c.in-Ok.ensures

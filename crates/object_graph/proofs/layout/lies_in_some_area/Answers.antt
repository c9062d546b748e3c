use Rattle.std.proofs.Common.{◌∙◌, sym, arith, length}
use Rattle.list_checks.proofs.TestLemmas.{any_at}
use Rattle.elf_reader.specs.File.{plain_segment}
use Rattle.object_graph.specs.LayoutFaults.{lies_in_area}
use Rattle.object_graph.proofs.layout.lies_in_some_area.Goals as goal

pub returns-then-lies_in_area : goal.returns-then-lies_in_area
returns-then-lies_in_area c =
    let board = c.args.board.now in
    let test = lies_in_area board (plain_segment c.args.segment.now) in
    sym (any_at test (length board.areas.items) c.loop-k.k (omega arith) (sym c.lies_in_area.ensures ∙ c.if-lies_in_area.true))

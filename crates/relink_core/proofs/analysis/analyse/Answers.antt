use Rattle.elf_reader.specs.File.{plain_view, view_in}
use Rattle.loaded_file.proofs.WordLemmas.{same_view}
use Rattle.relink_core.proofs.RegionLemmas.{faultless, told_last}
use Rattle.relink_core.proofs.analysis.analyse.Goals as goal

pub pieces-requires-clause-graph : goal.pieces-requires-clause-graph
pieces-requires-clause-graph c = (view_in c.args.bytes.now, c.args.board.now, c.in_ok-parts.ensures.graph)

pub returns-in-Ok-clause-fault : goal.returns-in-Ok-clause-fault
returns-in-Ok-clause-fault c =
    let parts = c.in_ok-parts.parts in
    let found = c.in_ok-parts.ensures in
    faultless c.args.bytes.now c.args.board.now (plain_view parts.view) parts.code (same_view c.args.bytes.now parts.view found.file) found.fault found.code c.in-Ok.ensures.fault

pub returns-clause-fault : goal.returns-clause-fault
returns-clause-fault c =
    let parts = c.in_ok-parts.parts in
    let found = c.in_ok-parts.ensures in
    told_last c.args.bytes.now c.args.board.now (plain_view parts.view) parts.code c.in-Err.fault (same_view c.args.bytes.now parts.view found.file) found.fault found.code c.in-Err.ensures.fault

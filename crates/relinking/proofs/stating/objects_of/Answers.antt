use Rattle.elf_reader.specs.File.{view_in}
use Rattle.relinking.proofs.stating.objects_of.Goals as goal

pub overlaid_objects-requires-clause-ascending : goal.overlaid_objects-requires-clause-ascending
overlaid_objects-requires-clause-ascending c = let (file, (board, is)) = c.requires in is.code.ascending

pub overlaid_objects-requires-clause-graph : goal.overlaid_objects-requires-clause-graph
overlaid_objects-requires-clause-graph c = let (file, (board, is)) = c.requires in (view_in file, board, is.graph)

pub overlaid_objects-requires-clause-live : goal.overlaid_objects-requires-clause-live
overlaid_objects-requires-clause-live c = let (file, (board, is)) = c.requires in is.live

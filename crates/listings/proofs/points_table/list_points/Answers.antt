use Rattle.elf_reader.specs.File.{view_in}
use Rattle.listings.proofs.points_table.list_points.Goals as goal

pub points-requires-clause-ascending : goal.points-requires-clause-ascending
points-requires-clause-ascending c = let (file, board, is) = c.requires in is.code.ascending

pub points-requires-clause-graph : goal.points-requires-clause-graph
points-requires-clause-graph c = let (file, board, is) = c.requires in (view_in file, board, is.graph)

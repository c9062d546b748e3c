use Rattle.std.proofs.Common.{◌≡◌, map, take}
use Rattle.std.specs.List.{All}
use Rattle.elf_reader.specs.File.{plain_view}
use Rattle.code_blocks.specs.Blocks.{start_of, IsBlock}
use Rattle.code_blocks.proofs.building.all_blocks.Given as goal

abbrev pub invariant-loop-start : goal.invariant-loop-start
invariant-loop-start l =
    (map start_of l.blocks.items ≡ take l.start-index l.leaders.all.items)
    × All (IsBlock (plain_view l.file.view.now) l.functions) l.blocks.items

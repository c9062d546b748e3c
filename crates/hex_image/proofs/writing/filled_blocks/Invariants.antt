use Rattle.std.proofs.Common.{◌≡◌, map, take}
use Rattle.std.specs.List.{All}
use Rattle.elf_reader.specs.File.{plain_segment}
use Rattle.hex_image.specs.Text.{plain_block, filled_runs, IsPlaced}
use Rattle.hex_image.proofs.writing.filled_blocks.Given as goal

abbrev pub invariant-loop-segment : goal.invariant-loop-segment
invariant-loop-segment l = record {
  runs : map plain_block l.blocks.items ≡ filled_runs (map plain_segment (take l.segment-index l.view.segments.items));
  placed : All IsPlaced l.blocks.items;
}

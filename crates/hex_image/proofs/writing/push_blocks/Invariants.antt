use Rattle.std.proofs.Common.{◌≡◌, List, ◌++◌, map, drop}
use Rattle.std.specs.List.{flat_map}
use Rattle.hex_image.specs.Runs.{PlainRun}
use Rattle.hex_image.specs.Text.{plain_block, pieces_of, text_with}
use Rattle.hex_image.proofs.writing.push_blocks.Given as goal

-- the text goes on with the blocks that are left as the first one did with all
abbrev pub invariant-loop-block : goal.invariant-loop-block
invariant-loop-block l = (more : List PlainRun) → text_with l.text (flat_map pieces_of (map plain_block (drop l.block-index l.blocks)) ++ more) ≡ text_with l.fn.text (flat_map pieces_of (map plain_block l.blocks) ++ more)

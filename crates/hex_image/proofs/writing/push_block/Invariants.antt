use Rattle.std.proofs.Common.{◌≡◌, ◌+◌, ◌<◌, ◌≤◌, List, ◌++◌, length}
use Rattle.hex_image.specs.Runs.{PlainRun}
use Rattle.hex_image.specs.Text.{plain_block, pieces_from, pieces_of, text_with}
use Rattle.hex_image.proofs.writing.push_block.Given as goal

-- the text goes on with the pieces of the rest as the first one did with those of the block
abbrev pub invariant-loop-rest : goal.invariant-loop-rest
invariant-loop-rest l = record {
  reached : l.block.start ≤ l.address;
  placed : l.address + length l.rest < 4294967296;
  written : (more : List PlainRun) → text_with l.text (pieces_from l.block.start l.address l.rest ++ more) ≡ text_with l.fn.text (pieces_of (plain_block l.block) ++ more);
}

abbrev pub decreases-loop-rest : goal.decreases-loop-rest
decreases-loop-rest l = length l.rest

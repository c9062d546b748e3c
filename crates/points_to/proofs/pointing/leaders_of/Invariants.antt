use Rattle.std.proofs.Common.{◌≡◌, map, take}
use Rattle.code_blocks.specs.Blocks.{start_of}
use Rattle.points_to.proofs.pointing.leaders_of.Given as goal

abbrev pub invariant-loop-block : goal.invariant-loop-block
invariant-loop-block l = l.leaders.items ≡ map start_of (take l.block-index l.code.blocks.items)

use Rattle.std.proofs.Common.{◌≡◌, map, take}
use Rattle.code_blocks.specs.Blocks.{start_of}
use Rattle.code_blocks.proofs.parts.Code.starts.Given as goal

abbrev pub invariant-loop-block : goal.invariant-loop-block
invariant-loop-block l = l.starts.items ≡ map start_of (take l.block-index l.self.blocks.items)

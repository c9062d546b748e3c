use Rattle.elf_reader.specs.File.{plain_view}
use Rattle.board_config.specs.declared.board.Board.{Board}
use Rattle.object_machine.specs.Preparing.{IsBlockUnits}
use Rattle.object_machine.proofs.preparing.lay_blocks.Given as goal

-- the first blocks are laid
abbrev pub invariant-loop-i : goal.invariant-loop-i
invariant-loop-i l = (board : Board) → IsBlockUnits (plain_view l.file.view.now) board l.graph l.code.blocks.items l.i l.block_units

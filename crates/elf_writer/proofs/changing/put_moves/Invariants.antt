use Rattle.std.proofs.Common.{◌≡◌, map, take, drop}
use Rattle.std.specs.List.{All}
use Rattle.elf_reader.specs.File.{plain_symbol}
use Rattle.elf_writer.specs.Changes.{changed}
use Rattle.elf_writer.specs.Parts.{moves_changes}
use Rattle.elf_writer.specs.Conditions.{HasWordValue}
use Rattle.elf_writer.proofs.changing.put_moves.Given as goal

abbrev pub invariant-loop-change : goal.invariant-loop-change
invariant-loop-change l =
    All HasWordValue (take l.change-index l.moves)
    × (changed (moves_changes (map plain_symbol l.symbols) (drop l.change-index l.moves)) 0 l.out
    ≡ changed (moves_changes (map plain_symbol l.symbols) l.moves) 0 l.fn.out)

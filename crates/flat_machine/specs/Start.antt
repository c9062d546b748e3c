-- The state in which a program starts.
use Rattle.std.specs.Prelude.{ℕ, List, []}
use Rattle.rv32im.specs.Memory.{zeros}
use Rattle.elf_reader.specs.File.{PlainSegment}
use Rattle.elf_reader.specs.Image.{image_of}
use Rattle.board_config.specs.declared.board.Range.{Range}
use Rattle.flat_machine.specs.declared.events.FlatOutcome.TheVariants.{GoesOn}
use Rattle.flat_machine.specs.State.{State}

-- at the entry, with all registers 0, the segments' bytes over zeros, and nothing written
abbrev pub start_of : ℕ → List PlainSegment → List Range → List ℕ → State
start_of entry segments map input =
    record {
      map = map;
      hart = record { pc = entry; regs = zeros; mem = image_of segments };
      input = input;
      output = [];
      outcome = GoesOn;
    }

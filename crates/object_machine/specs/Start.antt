-- The state in which a program starts: at the entry, with all registers 0 and the bytes of the file in
-- memory, but that words of data hold the addresses they mean.
use Rattle.std.specs.Prelude.{ℕ, ◌+◌, ◌-◌, ◌==◌, nat_lt, nat_le, Bool, ◌&&◌, if◌then◌else◌, false, List, [], ◌∷◌}
use Rattle.rv32im.specs.Memory.{Memory}
use Rattle.elf_reader.specs.File.{PlainView}
use Rattle.elf_reader.specs.Image.{image_of}
use Rattle.object_graph.specs.declared.parts.DataWord.{DataWord}
use Rattle.object_graph.specs.declared.parts.Graph.{Graph}
use Rattle.cell_values.specs.Objects.{object_of}
use Rattle.cell_values.specs.declared.values.Val.TheVariants.{Int}
use Rattle.cell_values.specs.declared.values.Cell.{Cell}
use Rattle.cell_values.specs.declared.values.Cell.TheVariants.{Byte, Part, Mist}
use Rattle.object_machine.specs.declared.events.Outcome.TheVariants.{GoesOn}
use Rattle.object_machine.specs.Program.{Program}
use Rattle.object_machine.specs.State.{SourceState}

-- the byte at an address is one of the four of a word of data
abbrev pub in_word : ℕ → DataWord → Bool
in_word a d = nat_le d.at a && nat_lt a (d.at + 4)

abbrev pub first_cell : Memory → List DataWord → ℕ → Cell
first_cell image [] a = Byte (image a)
first_cell image (d ∷ words) a =
    if in_word a d then Part false d.object d.offset (a - d.at) else first_cell image words a

-- cells that are no memory hold nothing that is known
abbrev pub where_memory : Bool → Cell → Cell
where_memory memory c = if memory then c else Mist

abbrev pub first_fixed : PlainView → Program → Graph → ℕ → Cell
first_fixed v p g a = where_memory (p.is_fixed a) (first_cell (image_of v.segments) g.data_words.items a)

abbrev pub first_cells : PlainView → Graph → ℕ → ℕ → Cell
first_cells v g o i =
    where_memory (nat_lt i (object_of g o).size)
    (first_cell (image_of v.segments) g.data_words.items ((object_of g o).home + i))

abbrev pub start_of : PlainView → Program → Graph → List ℕ → SourceState
start_of v p g input =
    record {
      pc = v.entry;
      regs = λ _. Int 0;
      fixed = first_fixed v p g;
      cells = first_cells v g;
      input = input;
      output = [];
      outcome = GoesOn;
    }

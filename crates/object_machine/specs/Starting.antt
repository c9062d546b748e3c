-- How the memory is made with which a program starts.
use Rattle.std.specs.Prelude.{ℕ, ◌+◌, ◌<◌, ◌≤◌, List, length}
use Rattle.std.specs.List.{All}
use Rattle.rv32im.specs.Memory.{Memory}
use Rattle.elf_reader.specs.File.{PlainSegment}
use Rattle.object_graph.specs.declared.parts.DataWord.{DataWord}
use Rattle.cell_values.specs.declared.values.Cell.{Cell}
use Rattle.cell_values.specs.declared.values.Cell.TheVariants.{Byte}

-- bytes as cells
abbrev pub plain_cells : Memory → ℕ → Cell
plain_cells mem = λ a. Byte (mem a)

-- words of data end at 2 ^ 32 or before
abbrev pub AreShortWords : List DataWord → Type 0
AreShortWords words = All (λ d. d.at + 4 ≤ 4294967296) words

-- the bytes of a segment end below 2 ^ 32
abbrev pub EndsInMemory : PlainSegment → Type 0
EndsInMemory s = s.vaddr + length s.content < 4294967296

abbrev pub AreShortSegments : List PlainSegment → Type 0
AreShortSegments segments = All EndsInMemory segments

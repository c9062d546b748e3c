-- The parts of a result, as they are made of what is read.
use Rattle.std.specs.Prelude.{ℕ, zero, suc, ◌-◌, ◌<◌, ◌≤◌, ◌==◌, ◌&&◌, if◌then◌else◌, List, [], ◌∷◌, ◌++◌, length, Option, Some, None, All}
use Rattle.rv32im.specs.Words.{plus}
use Rattle.elf_reader.specs.File.{PlainSegment, PlainSymbol, PlainView}
use Rattle.elf_reader.specs.Image.{has_byte}
use Rattle.loaded_file.specs.Records.{symbol_at}
use Rattle.elf_writer.specs.declared.parts.Patch.{Patch}
use Rattle.elf_writer.specs.declared.parts.SymbolMove.{SymbolMove}
use Rattle.loaded_file.specs.Ranges.{has_range}
use Rattle.object_graph.specs.declared.parts.Graph.{Graph}
use Rattle.cell_values.specs.Objects.{object_of}
use Rattle.relocator.specs.declared.places.Places.{Places}
use Rattle.relocator.specs.Placing.{place_at}
use Rattle.relocator.specs.SiteWords.{row_length}

-- ---- places at the start

-- where objects stand before a region is entered
abbrev pub start_place : Places → ℕ → ℕ
start_place places o = place_at places o 0

-- there is such a place for each object of a graph
pub record HasStarts (g : Graph) (places : Places) : Type 0 where
  pub objects : length g.objects.items ≤ length places.of.items
  pub rows : (o : ℕ) → o < length g.objects.items → 0 < row_length places o

-- all are objects of a graph
abbrev pub AreOfGraph : Graph → List ℕ → Type 0
AreOfGraph g os = All (λ o. o < length g.objects.items) os

-- ---- patches

-- where the byte at an address stands in the file: as far behind the beginning of the first segment that has it as in
-- memory
abbrev pub place_in : List PlainSegment → ℕ → ℕ
place_in [] a = 0
place_in (s ∷ ss) a = if has_byte s a then plus s.offset (a - s.vaddr) else place_in ss a

abbrev pub patch_of : PlainView → ℕ × ℕ → Patch
patch_of v e = record { offset = place_in v.segments e.0; word = e.1 }

-- ---- symbols

-- the place of the first of some objects that has `n` bytes at `home`
abbrev pub range_value : Graph → Places → ℕ → ℕ → List ℕ → Option ℕ
range_value g places home n [] = None
range_value g places home n (o ∷ os) =
    if ((object_of g o).home == home) && ((object_of g o).size == n) then Some (start_place places o)
    else range_value g places home n os

-- the new value of a symbol, if it is one of theirs
abbrev pub symbol_value : PlainView → Graph → Places → List ℕ → PlainSymbol → Option ℕ
symbol_value v g places os s = if has_range v s then range_value g places s.value s.size os else None

abbrev pub move_to : ℕ → Option ℕ → List SymbolMove
move_to k None = []
move_to k (Some value) = record { symbol = k; value = value } ∷ []

-- the moves of the first `n` symbols
abbrev pub moves_below : PlainView → Graph → Places → List ℕ → ℕ → List SymbolMove
moves_below v g places os zero = []
moves_below v g places os (suc k) = moves_below v g places os k ++ move_to k (symbol_value v g places os (symbol_at v k))

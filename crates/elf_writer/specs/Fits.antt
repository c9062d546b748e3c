-- Changes inside a file.
use Rattle.std.specs.Prelude.{ℕ, ◌+◌, ◌*◌, ◌<◌, ◌≤◌, List, length, Option, Some, None, All}
use Rattle.elf_reader.specs.File.{PlainSymbol, PlainView}
use Rattle.elf_writer.specs.declared.parts.Patch.{Patch}
use Rattle.elf_writer.specs.declared.parts.SymbolMove.{SymbolMove}
use Rattle.elf_writer.specs.Parts.{NewSegment, nth_symbol, content_place}
use Rattle.elf_writer.specs.Written.{new_number}

-- the patched word lies in a file of `size` bytes
abbrev pub PatchFits : ℕ → Patch → Type 0
PatchFits size p = p.offset + 4 ≤ size

-- there is the moved symbol, and its record lies in a file of `size` bytes
pub record MoveFits (size : ℕ) (symbols : List PlainSymbol) (m : SymbolMove) : Type 0 where
  pub below : m.symbol < length symbols
  pub inside : (nth_symbol symbols m.symbol).at + 16 ≤ size

-- the new segment's program header has its place among those of the file, which stand inside it, and the
-- file with the segment is shorter than 2 ^ 31 bytes
pub record SegmentFits (v : PlainView) (s : NewSegment) : Type 0 where
  pub header : 52 ≤ length v.bytes
  pub number : new_number v s ≤ v.ph_count
  pub inside : v.ph_at + 32 * v.ph_count ≤ length v.bytes
  pub count : v.ph_count ≤ 63
  pub short : content_place v + length s.content < 2147483648

-- that of a new segment, if there is one
abbrev pub OptionFits : PlainView → Option NewSegment → Type 0
OptionFits v None = Unit {0}
OptionFits v (Some s) = SegmentFits v s

-- all of what is written does
pub record WriteFits (v : PlainView) (ps : List Patch) (new : Option NewSegment) (ms : List SymbolMove) : Type 0 where
  pub patches : All (PatchFits (length v.bytes)) ps
  pub moves : All (MoveFits (length v.bytes) v.symbols) ms
  pub segment : OptionFits v new

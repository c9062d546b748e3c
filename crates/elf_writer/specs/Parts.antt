-- What is written into a file: words, moved symbols, and a segment.
use Rattle.std.specs.Prelude.{ℕ, ◌+◌, ◌*◌, List, [], ◌∷◌, ◌++◌, map, length, slice_index_or}
use Rattle.elf_reader.specs.File.{PlainSymbol, PlainView}
use Rattle.elf_writer.specs.Pieces.{half_bytes, word_bytes, padding}
use Rattle.elf_writer.specs.declared.parts.Patch.{Patch}
use Rattle.elf_writer.specs.declared.parts.SegmentBytes.{SegmentBytes}
use Rattle.elf_writer.specs.declared.parts.SymbolMove.{SymbolMove}
use Rattle.elf_writer.specs.Changes.{Change}

-- a new segment: its first address, the address at which execution then begins, and its bytes
pub record NewSegment : Type 0 where
  pub base : ℕ
  pub entry : ℕ
  pub content : List ℕ

abbrev pub new_segment : SegmentBytes → NewSegment
new_segment s = record { base = s.base; entry = s.entry; content = s.bytes.items }

-- a patch puts its word, least byte first
abbrev pub patch_change : Patch → Change
patch_change p = record { place = p.offset; content = word_bytes p.word }

-- symbol `i` of a view; an empty one behind the last
abbrev pub no_symbol : PlainSymbol
no_symbol = record { name = []; value = 0; size = 0; kind = 0; section = 0; at = 0 }

abbrev pub nth_symbol : List PlainSymbol → ℕ → PlainSymbol
nth_symbol symbols i = slice_index_or symbols i no_symbol

-- a moved symbol has an absolute value (SHN_ABS, 0xFFF1): st_value is the word at byte 4 of its record,
-- st_shndx the halfword at byte 14 (ELF, "Symbol Table")
abbrev pub move_changes : List PlainSymbol → SymbolMove → List Change
move_changes symbols m =
    record { place = (nth_symbol symbols m.symbol).at + 4; content = word_bytes m.value }
    ∷ record { place = (nth_symbol symbols m.symbol).at + 14; content = half_bytes 65521 }
    ∷ []

abbrev pub moves_changes : List PlainSymbol → List SymbolMove → List Change
moves_changes symbols [] = []
moves_changes symbols (m ∷ ms) = move_changes symbols m ++ moves_changes symbols ms

-- the changes of words and symbols
abbrev pub content_changes : PlainView → List Patch → List SymbolMove → List Change
content_changes v ps ms = map patch_change ps ++ moves_changes v.symbols ms

-- where the program headers stand in a file with a new segment: behind the input's bytes, at a multiple
-- of 4
abbrev pub table_place : PlainView → ℕ
table_place v = length v.bytes + padding (length v.bytes)

-- where the new segment's bytes stand: behind the program headers, of which there is one more
abbrev pub content_place : PlainView → ℕ
content_place v = table_place v + 32 * (v.ph_count + 1)

-- the changes of the ELF header: e_entry is the word at byte 24, e_phoff that at byte 28, e_phnum the
-- halfword at byte 44 (ELF, "ELF Header")
abbrev pub header_changes : PlainView → NewSegment → List Change
header_changes v s =
    record { place = 24; content = word_bytes s.entry }
    ∷ record { place = 28; content = word_bytes (table_place v) }
    ∷ record { place = 44; content = half_bytes (v.ph_count + 1) }
    ∷ []

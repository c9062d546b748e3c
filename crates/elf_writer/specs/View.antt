-- The view of a file that is written.
use Rattle.std.specs.Prelude.{ℕ, ◌+◌, ◌==◌, nat_lt, if◌then◌else◌, List, [], ◌∷◌, map, length, Option, Some, None}
use Rattle.elf_reader.specs.File.{PlainSegment, PlainSection, PlainSymbol, PlainView}
use Rattle.elf_writer.specs.declared.parts.Patch.{Patch}
use Rattle.elf_writer.specs.declared.parts.SymbolMove.{SymbolMove}
use Rattle.elf_writer.specs.Changes.{Change, changed}
use Rattle.elf_writer.specs.Parts.{NewSegment, table_place, content_place}
use Rattle.elf_writer.specs.Written.{new_number, all_changes, written}

-- a segment and a section, with the changes of their bytes in the file
abbrev pub changed_segment : List Change → PlainSegment → PlainSegment
changed_segment cs s = record s { content = changed cs s.offset s.content }

abbrev pub changed_section : List Change → PlainSection → PlainSection
changed_section cs s = record s { content = changed cs s.offset s.content }

-- the segment that is added: readable, writable and executable (7), all of its memory standing in the file
abbrev pub added_segment : PlainView → NewSegment → PlainSegment
added_segment v s =
    record {
      index = new_number v s;
      offset = content_place v;
      vaddr = s.base;
      memsz = length s.content;
      flags = 7;
      content = s.content;
    }

-- a segment whose program header stands behind the new one
abbrev pub numbered_behind : PlainSegment → PlainSegment
numbered_behind s = record s { index = s.index + 1 }

-- segments in the order of their program headers, with a new one at its number
abbrev pub with_added : PlainSegment → List PlainSegment → List PlainSegment
with_added new [] = new ∷ []
with_added new (s ∷ ss) =
    if nat_lt s.index new.index then s ∷ with_added new ss else new ∷ map numbered_behind (s ∷ ss)

-- the segments that are added to others: one, or none
abbrev pub with_segment : PlainView → Option NewSegment → List PlainSegment → List PlainSegment
with_segment v None ss = ss
with_segment v (Some s) ss = with_added (added_segment v s) ss

abbrev pub written_segments : PlainView → List Patch → Option NewSegment → List SymbolMove → List PlainSegment
written_segments v ps new ms = with_segment v new (map (changed_segment (all_changes v ps new ms)) v.segments)

-- the value of symbol `i` after the moves, and its section: 0xFFF1 (SHN_ABS) once it is moved
abbrev pub moved_value : List SymbolMove → ℕ → ℕ → ℕ
moved_value [] i old = old
moved_value (m ∷ ms) i old = moved_value ms i (if m.symbol == i then m.value else old)

abbrev pub moved_section : List SymbolMove → ℕ → ℕ → ℕ
moved_section [] i old = old
moved_section (m ∷ ms) i old = moved_section ms i (if m.symbol == i then 65521 else old)

abbrev pub moved_symbol : List SymbolMove → ℕ → PlainSymbol → PlainSymbol
moved_symbol ms i s =
    record s { value = moved_value ms i s.value; section = moved_section ms i s.section }

-- the symbols from number `i` on after the moves
abbrev pub moved_symbols : List SymbolMove → ℕ → List PlainSymbol → List PlainSymbol
moved_symbols ms i [] = []
moved_symbols ms i (s ∷ ss) = moved_symbol ms i s ∷ moved_symbols ms (i + 1) ss

-- where execution begins, where the program headers stand, and how many they are: as before, or those of
-- the file with one segment more
abbrev pub written_entry : PlainView → Option NewSegment → ℕ
written_entry v None = v.entry
written_entry v (Some s) = s.entry

abbrev pub written_ph_at : PlainView → Option NewSegment → ℕ
written_ph_at v None = v.ph_at
written_ph_at v (Some s) = table_place v

abbrev pub written_ph_count : PlainView → Option NewSegment → ℕ
written_ph_count v None = v.ph_count
written_ph_count v (Some s) = v.ph_count + 1

-- the view of the file that is written: the old view with the words, the segment and the moves, and with
-- the changed bytes of header and symbol table wherever a segment loads them
abbrev pub written_view : PlainView → List Patch → Option NewSegment → List SymbolMove → PlainView
written_view v ps new ms =
    record {
      bytes = written v ps new ms;
      entry = written_entry v new;
      flags = v.flags;
      ph_at = written_ph_at v new;
      ph_count = written_ph_count v new;
      segments = written_segments v ps new ms;
      sections = map (changed_section (all_changes v ps new ms)) v.sections;
      symbols = moved_symbols ms 0 v.symbols;
      relocs = v.relocs;
    }

-- What the bytes of a file that is written are, place by place, and what a reader finds in them.
use Rattle.std.specs.Prelude.{◌≡◌, ◌⊎◌, ℕ, ◌+◌, ◌<◌, ◌≤◌, nat_le, List, length, slice_index, slice_range, Option, None, All}
use Rattle.list_checks.specs.First.{◌or_else◌, unless}
use Rattle.elf_reader.specs.File.{IsFile, PlainView, plain_view, view_in}
use Rattle.elf_reader.specs.Faults.{first_fault}
use Rattle.elf_reader.specs.HeaderChecks.{capped}
use Rattle.elf_reader.specs.ProgramHeaderChecks.{memory_fault}
use Rattle.elf_reader.specs.declared.fault.ElfFault.{ElfFault}
use Rattle.elf_reader.specs.declared.fault.ElfFault.TheVariants.{OverLimit}
use Rattle.elf_reader.specs.declared.view.ElfView.{ElfView}
use Rattle.elf_writer.specs.declared.parts.Patch.{Patch}
use Rattle.elf_writer.specs.declared.parts.SymbolMove.{SymbolMove}
use Rattle.elf_writer.specs.Changes.{Change, byte_changed, changed}
use Rattle.elf_writer.specs.Parts.{NewSegment}
use Rattle.elf_writer.specs.Written.{all_changes, written}
use Rattle.elf_writer.specs.Conditions.{IsWritable, HasWords}
use Rattle.elf_writer.specs.View.{written_view}

-- a byte of the input stays, but for the changes of its place
abbrev pub BytesWritten : Type 0
BytesWritten =
    (v : PlainView) (ps : List Patch) (new : Option NewSegment) (ms : List SymbolMove) (at : ℕ) → at < length v.bytes
    → slice_index (written v ps new ms) at ≡ byte_changed (all_changes v ps new ms) at (slice_index v.bytes at)

-- so do the bytes of a range, as that of a section or a segment
abbrev pub RangesWritten : Type 0
RangesWritten =
    (v : PlainView) (ps : List Patch) (new : Option NewSegment) (ms : List SymbolMove) (start end : ℕ) → start ≤ end → end ≤ length v.bytes
    → slice_range (written v ps new ms) start end ≡ changed (all_changes v ps new ms) start (slice_range v.bytes start end)

-- a change touches no byte of a range
abbrev pub IsOff : ℕ → ℕ → Change → Type 0
IsOff start size c = (c.place + length c.content ≤ start) ⊎ (start + size ≤ c.place)

-- bytes that no change touches stay
abbrev pub OthersStay : Type 0
OthersStay =
    (cs : List Change) (start : ℕ) (bytes : List ℕ) → All (IsOff start (length bytes)) cs → changed cs start bytes ≡ bytes

-- what a reader finds in the file that is written: the view with the words, the segment and the moves
abbrev pub WrittenReadsBack : Type 0
WrittenReadsBack =
    (file : List ℕ) (ps : List Patch) (new : Option NewSegment) (ms : List SymbolMove) → first_fault file ≡ None → IsWritable (view_in file) ps new ms
    → HasWords new ms
    → view_in (written (view_in file) ps new ms) ≡ written_view (view_in file) ps new ms

-- so each view that says this is one of the file that is written
abbrev pub WrittenIsFile : Type 0
WrittenIsFile =
    (file : List ℕ) (ps : List Patch) (new : Option NewSegment) (ms : List SymbolMove) (view : ElfView) → first_fault file ≡ None → IsWritable (view_in file) ps new ms
    → HasWords new ms
    → plain_view view ≡ written_view (view_in file) ps new ms
    → IsFile (written (view_in file) ps new ms) view

-- a file has at most 64 MiB
abbrev pub length_fault : List ℕ → Option ElfFault
length_fault file = unless (nat_le (length file) 67108864) (OverLimit 1 (capped (length file)))

-- what is written of a file without a fault has none either, but that it may be too long, or its segments may take too
-- much memory
abbrev pub WrittenFaults : Type 0
WrittenFaults =
    (file : List ℕ) (ps : List Patch) (new : Option NewSegment) (ms : List SymbolMove) → first_fault file ≡ None → IsWritable (view_in file) ps new ms
    → HasWords new ms
    → first_fault (written (view_in file) ps new ms) ≡ length_fault (written (view_in file) ps new ms) or_else memory_fault (written (view_in file) ps new ms)

-- The bytes of a file that is written.
use Rattle.std.specs.Prelude.{ℕ, ◌+◌, ◌*◌, nat_lt, if◌then◌else◌, List, [], ◌∷◌, ◌++◌, length, slice_range, Option, Some, None}
use Rattle.elf_reader.specs.File.{PlainSegment, PlainView}
use Rattle.elf_writer.specs.Pieces.{words_bytes, zero_bytes, padding}
use Rattle.elf_writer.specs.declared.parts.Patch.{Patch}
use Rattle.elf_writer.specs.declared.parts.SymbolMove.{SymbolMove}
use Rattle.elf_writer.specs.Changes.{Change, changed}
use Rattle.elf_writer.specs.Parts.{NewSegment, content_changes, content_place, header_changes}

-- the number of the program header before which a segment at `base` is put: that of the first segment to
-- be loaded which begins at a higher address, or the count of program headers where none does
abbrev pub place_among : List PlainSegment → ℕ → ℕ → ℕ
place_among [] count base = count
place_among (s ∷ ss) count base = if nat_lt base s.vaddr then s.index else place_among ss count base

abbrev pub new_number : PlainView → NewSegment → ℕ
new_number v s = place_among v.segments v.ph_count s.base

-- the program header of the new segment: to be loaded (PT_LOAD, 1), readable, writable and executable
-- (7), aligned to 4 bytes, all of its memory standing in the file (ELF, "Program Header")
abbrev pub new_record : PlainView → NewSegment → List ℕ
new_record v s =
    words_bytes (1 ∷ content_place v ∷ s.base ∷ s.base ∷ length s.content ∷ length s.content ∷ 7 ∷ 4 ∷ [])

-- where program header `k` of the input stands; each has 32 bytes
abbrev pub record_place : PlainView → ℕ → ℕ
record_place v k = v.ph_at + 32 * k

-- the program headers: the input's own, as its bytes have them before anything is changed, and the new
-- one among them
abbrev pub new_table : PlainView → NewSegment → List ℕ
new_table v s =
    slice_range v.bytes v.ph_at (record_place v (new_number v s))
    ++ (new_record v s ++ slice_range v.bytes (record_place v (new_number v s)) (record_place v v.ph_count))

-- all changes of bytes of the input
abbrev pub all_changes : PlainView → List Patch → Option NewSegment → List SymbolMove → List Change
all_changes v ps None ms = content_changes v ps ms
all_changes v ps (Some s) ms = content_changes v ps ms ++ header_changes v s

-- what stands behind the input's bytes: zeros to a multiple of 4, the program headers, and the bytes of
-- the new segment
abbrev pub appended : PlainView → Option NewSegment → List ℕ
appended v None = []
appended v (Some s) = zero_bytes (padding (length v.bytes)) ++ (new_table v s ++ s.content)

-- the whole file
abbrev pub written : PlainView → List Patch → Option NewSegment → List SymbolMove → List ℕ
written v ps segment ms = changed (all_changes v ps segment ms) 0 v.bytes ++ appended v segment

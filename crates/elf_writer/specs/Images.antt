-- What the segments of a file that is written put into memory.
use Rattle.std.specs.Prelude.{◌≡◌, ℕ, ◌+◌, ◌-◌, ◌<◌, ◌≤◌, ◌==◌, nat_lt, Bool, true, false, ◌&&◌, ◌||◌, List, length, slice_index, slice_index_or, Option, Some, None, All}
use Rattle.list_checks.specs.Tests.{any_below}
use Rattle.elf_writer.specs.Pieces.{word_bytes}
use Rattle.elf_reader.specs.File.{PlainView, view_in}
use Rattle.elf_reader.specs.Faults.{first_fault}
use Rattle.elf_reader.specs.Image.{has_byte, image_of}
use Rattle.elf_reader.specs.Loaded.{section_at, segment_at, is_loaded}
use Rattle.elf_writer.specs.declared.parts.Patch.{Patch}
use Rattle.elf_writer.specs.declared.parts.SymbolMove.{SymbolMove}
use Rattle.elf_writer.specs.Changes.{within, IsUntouched, byte_changed}
use Rattle.elf_writer.specs.Parts.{NewSegment}
use Rattle.elf_writer.specs.Written.{all_changes}
use Rattle.elf_writer.specs.Conditions.{IsWritable}
use Rattle.elf_writer.specs.View.{written_segments}

-- which byte of the file segment `g` puts at address `a`, if it puts one
abbrev pub file_place : PlainView → ℕ → ℕ → ℕ
file_place v a g = (segment_at v g).offset + (a - (segment_at v g).vaddr)

-- the place lies in section `k`, and this is the symbol table (SHT_SYMTAB, 2)
abbrev pub in_symbol_table : PlainView → ℕ → ℕ → Bool
in_symbol_table v place k =
    ((section_at v k).kind == 2) && within (section_at v k).offset (section_at v k).size place

-- a place of the ELF header, which has 52 bytes, or of the symbol table
abbrev pub is_changed_place : PlainView → ℕ → Bool
is_changed_place v place = nat_lt place 52 || any_below (in_symbol_table v place) (length v.sections)

-- a place that no patch touches
abbrev pub IsUnpatched : List Patch → ℕ → Type 0
IsUnpatched ps place = All (λ p. within p.offset 4 place ≡ false) ps

-- the address isn't in the new segment
abbrev pub IsOutside : Option NewSegment → ℕ → Type 0
IsOutside None a = Unit {0}
IsOutside (Some s) a = within s.base (length s.content) a ≡ false

-- what the segments of the file that is written put at an address
abbrev pub written_image : PlainView → List Patch → Option NewSegment → List SymbolMove → ℕ → ℕ
written_image v ps new ms a = image_of (written_segments v ps new ms) a

-- the new segment's bytes stand at its addresses
abbrev pub NewBytesLoaded : Type 0
NewBytesLoaded =
    (file : List ℕ) (ps : List Patch) (s : NewSegment) (ms : List SymbolMove) (i : ℕ) → first_fault file ≡ None → IsWritable (view_in file) ps (Some s) ms
    → i < length s.content
    → written_image (view_in file) ps (Some s) ms (s.base + i) ≡ slice_index s.content i

-- where segment `g` of the file puts a byte, it puts that byte with the changes of its place
abbrev pub ChangedBytesLoaded : Type 0
ChangedBytesLoaded =
    (file : List ℕ) (ps : List Patch) (new : Option NewSegment) (ms : List SymbolMove) (g a : ℕ) → first_fault file ≡ None → IsWritable (view_in file) ps new ms
    → g < length (view_in file).segments → has_byte (segment_at (view_in file) g) a ≡ true
    → written_image (view_in file) ps new ms a
    ≡ byte_changed (all_changes (view_in file) ps new ms) (file_place (view_in file) a g) (image_of (view_in file).segments a)

-- where no segment of the file puts a byte, and the new one doesn't, there are zeros
abbrev pub ZerosLoaded : Type 0
ZerosLoaded =
    (file : List ℕ) (ps : List Patch) (new : Option NewSegment) (ms : List SymbolMove) (a : ℕ) → IsOutside new a
    → ((g : ℕ) → g < length (view_in file).segments → has_byte (segment_at (view_in file) g) a ≡ false)
    → written_image (view_in file) ps new ms a ≡ 0

-- a change touches no other places than those of patched words, of the ELF header and of the symbol table
abbrev pub OthersUntouched : Type 0
OthersUntouched =
    (file : List ℕ) (ps : List Patch) (new : Option NewSegment) (ms : List SymbolMove) (place : ℕ) → first_fault file ≡ None → IsWritable (view_in file) ps new ms
    → IsUnpatched ps place → is_changed_place (view_in file) place ≡ false
    → IsUntouched (all_changes (view_in file) ps new ms) place

-- an address outside the new segment keeps its byte, where no change touches the byte's place in the file
abbrev pub UntouchedStay : Type 0
UntouchedStay =
    (file : List ℕ) (ps : List Patch) (new : Option NewSegment) (ms : List SymbolMove) (a : ℕ) → first_fault file ≡ None → IsWritable (view_in file) ps new ms
    → IsOutside new a
    → ((g : ℕ) → g < length (view_in file).segments → has_byte (segment_at (view_in file) g) a ≡ true → IsUntouched (all_changes (view_in file) ps new ms) (file_place (view_in file) a g))
    → written_image (view_in file) ps new ms a ≡ image_of (view_in file).segments a

-- the bytes of patch `j` stand from the address on whose place in the file, by segment `g`, is the patch's
abbrev pub PatchesLoaded : Type 0
PatchesLoaded =
    (file : List ℕ) (ps : List Patch) (new : Option NewSegment) (ms : List SymbolMove) (j : ℕ) (d : Patch) (g a i : ℕ) → first_fault file ≡ None → IsWritable (view_in file) ps new ms
    → j < length ps → g < length (view_in file).segments
    → (segment_at (view_in file) g).vaddr ≤ a → a + 4 ≤ (segment_at (view_in file) g).vaddr + length (segment_at (view_in file) g).content
    → (slice_index_or ps j d).offset ≡ file_place (view_in file) a g → i < 4
    → written_image (view_in file) ps new ms (a + i) ≡ slice_index (word_bytes (slice_index_or ps j d).word) i

-- the patched word is that at address `x`, which lies in section `k`: a loaded one with content
-- (SHT_PROGBITS, 1), and the word stands as far behind its beginning in the file as in memory
pub record StandsAt (v : PlainView) (p : Patch) (k x : ℕ) : Type 0 where
  pub loaded : is_loaded v k ≡ true
  pub kind : (section_at v k).kind ≡ 1
  pub from : (section_at v k).addr ≤ x
  pub to : x + 4 ≤ (section_at v k).addr + (section_at v k).size
  pub place : p.offset ≡ (section_at v k).offset + (x - (section_at v k).addr)

-- the bytes of patch `j` stand from its address on
abbrev pub WordsLoaded : Type 0
WordsLoaded =
    (file : List ℕ) (ps : List Patch) (new : Option NewSegment) (ms : List SymbolMove) (j : ℕ) (d : Patch) (k x i : ℕ) → first_fault file ≡ None → IsWritable (view_in file) ps new ms
    → j < length ps → StandsAt (view_in file) (slice_index_or ps j d) k x → i < 4
    → written_image (view_in file) ps new ms (x + i) ≡ slice_index (word_bytes (slice_index_or ps j d).word) i

-- segment `g` puts a byte of the ELF header or of the symbol table at the address
abbrev pub holds_changed_byte : PlainView → ℕ → ℕ → Bool
holds_changed_byte v a g = has_byte (segment_at v g) a && is_changed_place v (file_place v a g)

-- the word of each patch stands at another address
abbrev pub IsOffPatches : PlainView → List Patch → ℕ → Type 0
IsOffPatches v ps a =
    (j : ℕ) (d : Patch) → j < length ps → (k : ℕ) × (x : ℕ) × StandsAt v (slice_index_or ps j d) k x × (within x 4 a ≡ false)

-- every other address outside the new segment keeps its byte, where no segment puts a byte of the ELF
-- header or of the symbol table
abbrev pub OthersLoaded : Type 0
OthersLoaded =
    (file : List ℕ) (ps : List Patch) (new : Option NewSegment) (ms : List SymbolMove) (a : ℕ) → first_fault file ≡ None → IsWritable (view_in file) ps new ms
    → IsOutside new a → IsOffPatches (view_in file) ps a
    → any_below (holds_changed_byte (view_in file) a) (length (view_in file).segments) ≡ false
    → written_image (view_in file) ps new ms a ≡ image_of (view_in file).segments a

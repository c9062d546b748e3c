-- What may be written into a file.
use Rattle.std.specs.Prelude.{◌≡◌, ◌≢◌, ◌⊎◌, ℕ, ◌+◌, ◌*◌, ◌<◌, ◌≤◌, ◌==◌, Bool, false, not, ◌&&◌, IsTrue, List, [], ◌∷◌, length, Option, Some, None, All}
use Rattle.std.specs.List.{AllPairs}
use Rattle.list_checks.specs.Tests.{any_below, lies_in, ranges_overlap}
use Rattle.elf_reader.specs.File.{PlainSegment, PlainSection, PlainView}
use Rattle.elf_reader.specs.Loaded.{section_at, is_loaded}
use Rattle.elf_writer.specs.declared.parts.Patch.{Patch}
use Rattle.elf_writer.specs.declared.parts.SymbolMove.{SymbolMove}
use Rattle.elf_writer.specs.Parts.{NewSegment}
use Rattle.elf_writer.specs.Written.{written}

-- the word at place `at` of the file lies in the file bytes of section `k` (SHT_PROGBITS, 1), which is
-- loaded
abbrev pub has_word : PlainView → ℕ → ℕ → Bool
has_word v at k =
    is_loaded v k && ((section_at v k).kind == 1) && lies_in (section_at v k).offset (section_at v k).size at 4

-- it does so of some section
abbrev pub is_loaded_word : PlainView → ℕ → Bool
is_loaded_word v at = any_below (has_word v at) (length v.sections)

abbrev pub PatchesLoadedWord : PlainView → Patch → Type 0
PatchesLoadedWord v p = IsTrue (is_loaded_word v p.offset)

-- two words share no byte
abbrev pub ArePatchesDisjoint : Patch → Patch → Type 0
ArePatchesDisjoint p q = (p.offset + 4 ≤ q.offset) ⊎ (q.offset + 4 ≤ p.offset)

-- the view has a symbol of this number
abbrev pub HasSymbol : PlainView → SymbolMove → Type 0
HasSymbol v m = m.symbol < length v.symbols

abbrev pub AreOfTwoSymbols : SymbolMove → SymbolMove → Type 0
AreOfTwoSymbols m n = m.symbol ≢ n.symbol

-- a section that is no symbol table (SHT_SYMTAB, 2), or whose bytes meet no program header
abbrev pub keeps_program_headers : PlainView → PlainSection → Bool
keeps_program_headers v s = not ((s.kind == 2) && ranges_overlap s.offset s.size v.ph_at (32 * v.ph_count))

abbrev pub KeepsProgramHeaders : PlainView → PlainSection → Type 0
KeepsProgramHeaders v s = IsTrue (keeps_program_headers v s)

-- a segment shares no address with the new one
abbrev pub IsClearOf : NewSegment → PlainSegment → Type 0
IsClearOf n s = ranges_overlap s.vaddr s.memsz n.base (length n.content) ≡ false

-- a segment that can be added: it isn't empty, shares no address with another, ends below 2 ^ 32, begins
-- execution at a 32-bit address, and the count of program headers is from 1 to 63
pub record IsAddable (v : PlainView) (s : NewSegment) : Type 0 where
  pub some : 0 < length s.content
  pub clear : All (IsClearOf s) v.segments
  pub ends : s.base + length s.content < 4294967296
  pub from_one : 1 ≤ v.ph_count
  pub to_limit : v.ph_count ≤ 63

-- the segment can be added; without one, moved symbols must leave the program headers as they are
abbrev pub Allows : PlainView → List SymbolMove → Option NewSegment → Type 0
Allows v ms (Some s) = IsAddable v s
Allows v [] None = Unit {0}
Allows v (m ∷ ms) None = All (KeepsProgramHeaders v) v.sections

-- what may be written: each patched word lies in the file bytes of a loaded section, and no two share a
-- byte; the moved symbols are some of the view, each moved once; the segment can be added; and the file
-- is shorter than 2 ^ 31 bytes
pub record IsWritable (v : PlainView) (ps : List Patch) (segment : Option NewSegment) (ms : List SymbolMove) : Type 0 where
  pub patched : All (PatchesLoadedWord v) ps
  pub disjoint : AllPairs ArePatchesDisjoint ps
  pub symbols : All (HasSymbol v) ms
  pub distinct : AllPairs AreOfTwoSymbols ms
  pub allowed : Allows v ms segment
  pub short : length (written v ps segment ms) < 2147483648

-- the numbers that are put into fields of words fit there
abbrev pub HasWordEntry : Option NewSegment → Type 0
HasWordEntry None = Unit {0}
HasWordEntry (Some s) = s.entry < 4294967296

abbrev pub HasWordValue : SymbolMove → Type 0
HasWordValue m = m.value < 4294967296

pub record HasWords (segment : Option NewSegment) (ms : List SymbolMove) : Type 0 where
  pub entry : HasWordEntry segment
  pub values : All HasWordValue ms

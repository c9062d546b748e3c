-- Which sections are loaded: those whose bytes the segments put at the sections' addresses. All that is
-- read or changed of a program by its sections rests on this.
use Rattle.std.specs.Prelude.{◌≡◌, ℕ, ◌+◌, ◌*◌, ◌<◌, ◌==◌, nat_le, Bool, true, not, ◌&&◌, ◌||◌, List, [], length, slice_index, slice_index_or, None}
use Rattle.list_checks.specs.Tests.{any_below, lies_in, ranges_overlap}
use Rattle.elf_reader.specs.Layout.{file_header}
use Rattle.elf_reader.specs.Sections.{bit_of, stands_in_file}
use Rattle.elf_reader.specs.File.{PlainSegment, PlainSection, PlainView, view_in}
use Rattle.elf_reader.specs.Faults.{first_fault}
use Rattle.elf_reader.specs.Image.{image_of}

-- section `k` and segment `g` of a view; an empty one behind the last
abbrev pub no_section : PlainSection
no_section =
    record { name = []; kind = 0; flags = 0; addr = 0; offset = 0; size = 0; link = 0; info = 0; content = [] }

abbrev pub section_at : PlainView → ℕ → PlainSection
section_at v k = slice_index_or v.sections k no_section

abbrev pub no_segment : PlainSegment
no_segment = record { index = 0; offset = 0; vaddr = 0; memsz = 0; flags = 0; content = [] }

abbrev pub segment_at : PlainView → ℕ → PlainSegment
segment_at v g = slice_index_or v.segments g no_segment

-- bytes of the file meet the program headers or the section headers
abbrev pub overlaps_headers : PlainView → ℕ → ℕ → Bool
overlaps_headers v offset size =
    ranges_overlap offset size v.ph_at (32 * v.ph_count)
    || ranges_overlap offset size (file_header v.bytes).e_shoff (40 * length v.sections)

-- they meet the content of section `j`, which is another one than section `k`
abbrev pub overlaps_section : PlainView → ℕ → ℕ → ℕ → ℕ → Bool
overlaps_section v k offset size j =
    not (j == k)
    && stands_in_file (section_at v j).kind
    && ranges_overlap offset size (section_at v j).offset (section_at v j).size

-- they meet the file bytes of segment `h`, which is another one than segment `g`
abbrev pub overlaps_segment : PlainView → ℕ → ℕ → ℕ → ℕ → Bool
overlaps_segment v g offset size h =
    not (h == g) && ranges_overlap offset size (segment_at v h).offset (length (segment_at v h).content)

-- section `k` shares no byte of the file with a table of headers, another section, or another segment
-- than `g`
abbrev pub has_own_bytes : PlainView → ℕ → ℕ → PlainSection → Bool
has_own_bytes v k g s =
    not (overlaps_headers v s.offset s.size)
    && not (any_below (overlaps_section v k s.offset s.size) (length v.sections))
    && not (any_below (overlaps_segment v g s.offset s.size) (length v.segments))

-- a section with content (SHT_PROGBITS, 1): it stands as far behind the segment's beginning in the file
-- as in memory, lies inside the segment's file bytes, and has its bytes for itself
abbrev pub is_filled : PlainView → ℕ → ℕ → PlainSection → PlainSegment → Bool
is_filled v k g s t =
    (s.kind == 1)
    && (s.offset + t.vaddr == s.addr + t.offset)
    && lies_in t.vaddr (length t.content) s.addr s.size
    && has_own_bytes v k g s

-- a section of zeros (SHT_NOBITS, 8): it begins at or behind the end of the segment's file bytes
abbrev pub is_zeroed : PlainSection → PlainSegment → Bool
is_zeroed s t = (s.kind == 8) && nat_le (t.vaddr + length t.content) s.addr

-- segment `g` loads section `k`: it is allocated (SHF_ALLOC, bit 1), lies in the segment's memory, ends
-- included, and meets the rules of its type
abbrev pub loads : PlainView → ℕ → ℕ → Bool
loads v k g =
    bit_of (section_at v k).flags 1
    && lies_in (segment_at v g).vaddr (segment_at v g).memsz (section_at v k).addr (section_at v k).size
    && (is_filled v k g (section_at v k) (segment_at v g) || is_zeroed (section_at v k) (segment_at v g))

-- some segment loads section `k`
abbrev pub is_loaded : PlainView → ℕ → Bool
is_loaded v k = any_below (loads v k) (length v.segments)

-- the memory of a loaded section holds its content, and zeros where it has none
abbrev pub LoadedBytes : Type 0
LoadedBytes =
    (file : List ℕ) (k i : ℕ) → first_fault file ≡ None → is_loaded (view_in file) k ≡ true
    → i < (section_at (view_in file) k).size
    → image_of (view_in file).segments ((section_at (view_in file) k).addr + i) ≡ slice_index (section_at (view_in file) k).content i

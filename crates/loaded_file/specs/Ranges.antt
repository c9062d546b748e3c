-- The ranges of objects. An object is its range: symbols of equal ranges are one object.
use Rattle.std.specs.Prelude.{ℕ, ◌+◌, ◌==◌, nat_lt, nat_le, Bool, not, ◌&&◌, length}
use Rattle.list_checks.specs.Tests.{any_below, lies_in, ranges_overlap}
use Rattle.elf_reader.specs.Sections.{bit_of}
use Rattle.elf_reader.specs.File.{PlainSection, PlainSymbol, PlainView}
use Rattle.elf_reader.specs.Loaded.{section_at, is_loaded}
use Rattle.loaded_file.specs.Records.{symbol_at}

-- the section is executable (SHF_EXECINSTR, bit 2)
abbrev pub is_executable : PlainSection → Bool
is_executable s = bit_of s.flags 2

-- the section that a symbol stands in
abbrev pub owner_of : PlainView → PlainSymbol → PlainSection
owner_of v s = section_at v s.section

-- a symbol has a place and a size that an object can have: its home isn't 0, and it ends below 2 ^ 32
abbrev pub has_byte_range : PlainSymbol → Bool
has_byte_range s = nat_lt 0 s.size && nat_lt 0 s.value && nat_le (s.value + s.size) 4294967295

-- it lies inside a loaded section that holds no code
abbrev pub has_owner : PlainView → PlainSymbol → Bool
has_owner v s =
    nat_lt s.section (length v.sections)
    && is_loaded v s.section
    && not (is_executable (owner_of v s))
    && lies_in (owner_of v s).addr (owner_of v s).size s.value s.size

-- the symbol of an object (STT_OBJECT, 1)
abbrev pub has_range : PlainView → PlainSymbol → Bool
has_range v s = (s.kind == 1) && has_byte_range s && has_owner v s

-- a symbol of the object of `n` bytes at `home`
abbrev pub is_of : PlainView → ℕ → ℕ → PlainSymbol → Bool
is_of v home n s = has_range v s && (s.value == home) && (s.size == n)

-- symbol `k` is one, of those of the view
abbrev pub is_symbol_of : PlainView → ℕ → ℕ → ℕ → Bool
is_symbol_of v home n k = is_of v home n (symbol_at v k)

-- the `n` bytes at `home` are an object
abbrev pub is_range : PlainView → ℕ → ℕ → Bool
is_range v home n = any_below (is_symbol_of v home n) (length v.symbols)

-- an address lies inside a range
abbrev pub inside : ℕ → ℕ → ℕ → Bool
inside home n a = nat_le home a && nat_lt a (home + n)

-- symbol `k` is of another object whose range meets this one
abbrev pub overlaps_range : PlainView → ℕ → ℕ → ℕ → Bool
overlaps_range v home n k =
    has_range v (symbol_at v k)
    && ranges_overlap home n (symbol_at v k).value (symbol_at v k).size
    && not (((symbol_at v k).value == home) && ((symbol_at v k).size == n))

-- its range meets another, unequal one
abbrev pub is_overlapped : PlainView → ℕ → ℕ → Bool
is_overlapped v home n = any_below (overlaps_range v home n) (length v.symbols)

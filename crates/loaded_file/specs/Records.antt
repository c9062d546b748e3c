-- Symbols and relocations of a view by their numbers, and the bytes that a relocation changes.
use Rattle.std.specs.Prelude.{ℕ, ◌==◌, nat_lt, Bool, ◌&&◌, ◌||◌, if◌then◌else◌, [], length, slice_index_or, pos}
use Rattle.rv32im.specs.Words.{offset}
use Rattle.elf_reader.specs.File.{PlainSymbol, PlainView}
use Rattle.elf_reader.specs.Loaded.{is_loaded}
use Rattle.elf_reader.specs.declared.view.Reloc.{Reloc}

-- symbol `k` and relocation `i`; one of zeros behind the last
abbrev pub no_symbol : PlainSymbol
no_symbol = record { name = []; value = 0; size = 0; kind = 0; section = 0; at = 0 }

abbrev pub symbol_at : PlainView → ℕ → PlainSymbol
symbol_at v k = slice_index_or v.symbols k no_symbol

abbrev pub no_reloc : Reloc
no_reloc = record { at = 0; kind = 0; symbol = 0; addend = pos 0; section = 0 }

abbrev pub reloc_at : PlainView → ℕ → Reloc
reloc_at v i = slice_index_or v.relocs i no_reloc

-- only relocations of loaded sections count
abbrev pub counts : PlainView → Reloc → Bool
counts v r = nat_lt r.section (length v.sections) && is_loaded v r.section

-- the symbol of a relocation, and the address that it leads to: S + A (RISC-V psABI, "Relocations")
abbrev pub symbol_of : PlainView → Reloc → PlainSymbol
symbol_of v r = symbol_at v r.symbol

abbrev pub target : PlainView → Reloc → ℕ
target v r = offset (symbol_of v r).value r.addend

-- kinds that change nothing: NONE, ALIGN and RELAX
abbrev pub is_hint : ℕ → Bool
is_hint kind = (kind == 0) || (kind == 43) || (kind == 51)

-- CALL and CALL_PLT, of a pair of instructions
abbrev pub is_call_kind : ℕ → Bool
is_call_kind kind = (kind == 18) || (kind == 19)

-- the kinds of 16 bits: ADD16, SUB16, SET16; and those of 8 or 6 bits: ADD8, SUB8, SUB6, SET6, SET8, and
-- SET_ULEB128 and SUB_ULEB128, of which the first byte counts
abbrev pub is_half_kind : ℕ → Bool
is_half_kind kind = (kind == 34) || (kind == 38) || (kind == 55)

abbrev pub is_byte_kind : ℕ → Bool
is_byte_kind kind =
    (kind == 33) || (kind == 37) || (kind == 52) || (kind == 53) || (kind == 54) || (kind == 60) || (kind == 61)

-- how many bytes a relocation of this kind changes (RISC-V psABI, "Relocations": Field)
abbrev pub width_of : ℕ → ℕ
width_of kind =
    if is_call_kind kind then 8
    else if is_half_kind kind then 2
    else if is_byte_kind kind then 1
    else 4

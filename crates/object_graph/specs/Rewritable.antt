-- Which relocations lead to an object, and which of them tell all that is to be known of how its address
-- is made, so that it can be made anew for another place.
use Rattle.std.specs.Prelude.{ℕ, ◌+◌, ◌*◌, ◌/◌, ◌%◌, ◌==◌, nat_lt, nat_le, Bool, not, ◌&&◌, ◌||◌, length}
use Rattle.std.specs.Int.{cast_unsigned, w32}
use Rattle.rv32im.specs.Words.{minus, upper_half}
use Rattle.list_checks.specs.Tests.{any_below, lies_in, ranges_overlap}
use Rattle.rv32im.specs.Fields.{opcode_of, rd_of, funct3_of, funct7_of}
use Rattle.elf_reader.specs.File.{PlainView}
use Rattle.elf_reader.specs.Loaded.{section_at, is_loaded}
use Rattle.loaded_file.specs.Code.{is_code_word, image_word}
use Rattle.elf_reader.specs.declared.view.Reloc.{Reloc}
use Rattle.loaded_file.specs.Records.{symbol_at, reloc_at, counts, symbol_of, target, is_hint, is_call_kind, width_of}
use Rattle.loaded_file.specs.Ranges.{is_executable, has_range, is_of, inside}

-- a relocation means the object of `n` bytes at `home`: by one of its symbols, or by the symbol of a
-- section (STT_SECTION, 3) and a target inside it
abbrev pub is_meant : PlainView → ℕ → ℕ → Reloc → Bool
is_meant v home n r =
    is_of v home n (symbol_of v r) || ((symbol_of v r).kind == 3) && inside home n (target v r)

-- how far behind the object's home the target lies
abbrev pub displacement : PlainView → ℕ → Reloc → ℕ
displacement v home r = minus (target v r) home

-- ---- words of data

-- the four bytes of a relocation lie in section `k`, which is loaded, has content and holds no code
abbrev pub holds_data : PlainView → ℕ → ℕ → Bool
holds_data v at k =
    is_loaded v k
    && ((section_at v k).kind == 1)
    && not (is_executable (section_at v k))
    && lies_in (section_at v k).addr (section_at v k).size at 4

-- they lie in such a section, and hold the target
abbrev pub holds_target : PlainView → Reloc → Bool
holds_target v r = any_below (holds_data v r.at) (length v.sections) && (image_word v r.at == target v r)

-- they lie partly in the range of symbol `k`
abbrev pub cuts_range : PlainView → ℕ → ℕ → Bool
cuts_range v at k =
    has_range v (symbol_at v k)
    && ranges_overlap at 4 (symbol_at v k).value (symbol_at v k).size
    && not (lies_in (symbol_at v k).value (symbol_at v k).size at 4)

-- relocation `j`, another one than `i`, changes one of them
abbrev pub changes_word : PlainView → ℕ → ℕ → ℕ → Bool
changes_word v i at j =
    not (j == i)
    && counts v (reloc_at v j)
    && not (is_hint (reloc_at v j).kind)
    && ranges_overlap at 4 (reloc_at v j).at (width_of (reloc_at v j).kind)

-- 32 (1): a word of data that holds its target, and that nothing else changes
abbrev pub is_rewritable_word : PlainView → ℕ → Reloc → Bool
is_rewritable_word v i r =
    (r.kind == 1)
    && any_below (holds_data v r.at) (length v.sections)
    && not (any_below (cuts_range v r.at) (length v.symbols))
    && (image_word v r.at == target v r)
    && not (any_below (changes_word v i r.at) (length v.relocs))

-- ---- instructions

-- ADDI (RV32I, "Integer Register-Immediate Instructions")
abbrev pub is_addi : ℕ → Bool
is_addi w = (opcode_of w == 19) && (funct3_of w == 0)

-- LB, LH, LW, LBU and LHU ("Load and Store Instructions")
abbrev pub is_load_word : ℕ → Bool
is_load_word w =
    (opcode_of w == 3) && (nat_lt (funct3_of w) 3 || (funct3_of w == 4) || (funct3_of w == 5))

-- SB, SH and SW
abbrev pub is_store_word : ℕ → Bool
is_store_word w = (opcode_of w == 35) && nat_lt (funct3_of w) 3

-- the immediate of an I-type and of an S-type instruction, as 12 bits
abbrev pub i_low : ℕ → ℕ
i_low w = w / 1048576 % 4096

abbrev pub s_low : ℕ → ℕ
s_low w = funct7_of w * 32 + rd_of w

-- the immediate of a U-type instruction
abbrev pub u_high : ℕ → ℕ
u_high w = w / 4096 % 1048576

-- the word is an instruction that takes the low twelve bits of `a`: ADDI or a load, and a store
abbrev pub takes_low_i : ℕ → ℕ → Bool
takes_low_i w a = (is_addi w || is_load_word w) && (i_low w == a % 4096)

abbrev pub takes_low_s : ℕ → ℕ → Bool
takes_low_s w a = is_store_word w && (s_low w == a % 4096)

-- a relocation of a kind at a U-type instruction of an opcode, of the upper part of `a`
abbrev pub is_upper_of : PlainView → Reloc → ℕ → ℕ → ℕ → Bool
is_upper_of v r kind opcode a =
    (r.kind == kind)
    && is_code_word v r.at
    && (opcode_of (image_word v r.at) == opcode)
    && (u_high (image_word v r.at) == upper_half a)

-- HI20 (26): a LUI (55) of the upper part of its target
abbrev pub is_rewritable_high : PlainView → Reloc → Bool
is_rewritable_high v r = is_upper_of v r 26 55 (target v r)

-- LO12_I (27) and LO12_S (28): the low part
abbrev pub is_rewritable_low : PlainView → Reloc → Bool
is_rewritable_low v r =
    is_code_word v r.at
    && ((r.kind == 27) && takes_low_i (image_word v r.at) (target v r)
    || (r.kind == 28) && takes_low_s (image_word v r.at) (target v r))

-- ---- pairs that are relative to the AUIPC

-- how far the target of the relocation of an AUIPC lies from it: S + A - P
abbrev pub distance : PlainView → Reloc → ℕ
distance v r = minus (target v r) r.at

-- PCREL_LO12_I (24) and PCREL_LO12_S (25)
abbrev pub is_pair_low : ℕ → Bool
is_pair_low kind = (kind == 24) || (kind == 25)

-- the low relocation names the AUIPC of `high`: its symbol stands there
abbrev pub names_high : PlainView → Reloc → Reloc → Bool
names_high v high low = is_pair_low low.kind && ((symbol_of v low).value == high.at)

-- it is the low part of the distance that the AUIPC has
abbrev pub is_paired : PlainView → Reloc → Reloc → Bool
is_paired v high low =
    (cast_unsigned w32 low.addend == 0)
    && is_code_word v low.at
    && ((low.kind == 24) && takes_low_i (image_word v low.at) (distance v high)
    || (low.kind == 25) && takes_low_s (image_word v low.at) (distance v high))

-- relocation `j` names the AUIPC of `high` and isn't
abbrev pub is_unpaired : PlainView → Reloc → ℕ → Bool
is_unpaired v high j =
    counts v (reloc_at v j) && names_high v high (reloc_at v j) && not (is_paired v high (reloc_at v j))

-- relocation `j` is of a call that begins at `at`
abbrev pub is_call_at : PlainView → ℕ → ℕ → Bool
is_call_at v at j = counts v (reloc_at v j) && is_call_kind (reloc_at v j).kind && ((reloc_at v j).at == at)

-- PCREL_HI20 (23): an AUIPC (23) that begins no call, of the upper part of the distance, and all low parts
-- that name it fit it
abbrev pub is_rewritable_pair : PlainView → Reloc → Bool
is_rewritable_pair v r =
    (r.kind == 23)
    && is_code_word v r.at
    && (opcode_of (image_word v r.at) == 23)
    && not (any_below (is_call_at v r.at) (length v.relocs))
    && (u_high (image_word v r.at) == upper_half (distance v r))
    && not (any_below (is_unpaired v r) (length v.relocs))

-- relocation `i` is of a rewritable kind, which makes an address by itself; which may be one of a pair
abbrev pub is_rewritable_absolute : PlainView → ℕ → Bool
is_rewritable_absolute v i =
    is_rewritable_word v i (reloc_at v i)
    || is_rewritable_high v (reloc_at v i)
    || is_rewritable_low v (reloc_at v i)

abbrev pub is_rewritable_kind : PlainView → ℕ → Bool
is_rewritable_kind v i = is_rewritable_absolute v i || is_rewritable_pair v (reloc_at v i)

-- relocation `i`, which means the object of `n` bytes at `home`, is rewritable: it changes nothing, or it leads
-- into the object or to its end, by a rewritable kind
abbrev pub is_rewritable : PlainView → ℕ → ℕ → ℕ → Bool
is_rewritable v home n i =
    is_hint (reloc_at v i).kind || nat_le (displacement v home (reloc_at v i)) n && is_rewritable_kind v i

-- The sorted lists of a view by which each relocation is compared with all symbols and all others.
use Rattle.std.specs.Prelude.{ℕ, ◌+◌, ◌*◌, ◌==◌, Bool, not, ◌&&◌, ◌||◌, if◌then◌else◌, length}
use Rattle.std.specs.Int.{cast_unsigned, w32}
use Rattle.elf_reader.specs.File.{PlainView}
use Rattle.elf_reader.specs.declared.view.Reloc.{Reloc}
use Rattle.loaded_file.specs.Code.{is_code_word, image_word}
use Rattle.loaded_file.specs.Records.{symbol_at, reloc_at, counts, symbol_of, is_hint, is_call_kind, width_of}
use Rattle.loaded_file.specs.Ranges.{has_range}
use Rattle.loaded_file.specs.Listed.{IsListOf}
use Rattle.object_graph.specs.Rewritable.{is_addi, is_load_word, is_store_word, i_low, s_low, is_upper_of, distance, is_pair_low}
use Rattle.object_graph.specs.declared.lists.RelocationLists.{RelocationLists}
use Rattle.object_graph.specs.declared.lists.Listed.{Listed}
use Rattle.object_graph.specs.declared.lists.Listed.TheVariants.{RangeStart, RangeEnd, ChangeStart, ChangeEnd, Call, LowKey}

-- symbol `k` is that of an object, whose range begins and ends there
abbrev pub is_ranged : PlainView → ℕ → Bool
is_ranged v k = has_range v (symbol_at v k)

abbrev pub range_start : PlainView → ℕ → ℕ
range_start v k = (symbol_at v k).value

abbrev pub range_end : PlainView → ℕ → ℕ
range_end v k = (symbol_at v k).value + (symbol_at v k).size

-- relocation `j` changes bytes, which begin and end there
abbrev pub is_changing : PlainView → ℕ → Bool
is_changing v j = counts v (reloc_at v j) && not (is_hint (reloc_at v j).kind)

abbrev pub change_start : PlainView → ℕ → ℕ
change_start v j = (reloc_at v j).at

abbrev pub change_end : PlainView → ℕ → ℕ
change_end v j = (reloc_at v j).at + width_of (reloc_at v j).kind

-- relocation `j` is of a call
abbrev pub is_calling : PlainView → ℕ → Bool
is_calling v j = counts v (reloc_at v j) && is_call_kind (reloc_at v j).kind

-- relocation `j` is of the low part of a pair
abbrev pub is_lower : PlainView → ℕ → Bool
is_lower v j = counts v (reloc_at v j) && is_pair_low (reloc_at v j).kind

-- the twelve bits that an instruction takes by the low relocation of a pair, PCREL_LO12_I (24) or
-- PCREL_LO12_S (25); 4096, which no twelve bits are, where it takes none
abbrev pub form_part : ℕ → ℕ → ℕ
form_part w kind =
    if (kind == 24) && (is_addi w || is_load_word w) then i_low w
    else if (kind == 25) && is_store_word w then s_low w
    else 4096

abbrev pub low_part : PlainView → Reloc → ℕ
low_part v r =
    if (cast_unsigned w32 r.addend == 0) && is_code_word v r.at then form_part (image_word v r.at) r.kind
    else 4096

-- the AUIPC that relocation `j` names, and its low part, as one number
abbrev pub low_key : PlainView → ℕ → ℕ
low_key v j = (symbol_of v (reloc_at v j)).value * 8192 + low_part v (reloc_at v j)

-- a PCREL_HI20 (23) of an AUIPC (23) of the upper part of the distance
abbrev pub is_upper_pair : PlainView → Reloc → Bool
is_upper_pair v r = is_upper_of v r 23 23 (distance v r)

-- how many symbols or relocations a list is of, which of them it has, and their numbers
pub record Numbering : Type 0 where
  pub count : ℕ
  pub listed : ℕ → Bool
  pub number : ℕ → ℕ

abbrev pub numbering : Listed → PlainView → Numbering
numbering RangeStart v = record { count = length v.symbols; listed = is_ranged v; number = range_start v }
numbering RangeEnd v = record { count = length v.symbols; listed = is_ranged v; number = range_end v }
numbering ChangeStart v = record { count = length v.relocs; listed = is_changing v; number = change_start v }
numbering ChangeEnd v = record { count = length v.relocs; listed = is_changing v; number = change_end v }
numbering Call v = record { count = length v.relocs; listed = is_calling v; number = change_start v }
numbering LowKey v = record { count = length v.relocs; listed = is_lower v; number = low_key v }

abbrev pub count_of : Listed → PlainView → ℕ
count_of list v = (numbering list v).count

abbrev pub is_listed : Listed → PlainView → ℕ → Bool
is_listed list v = (numbering list v).listed

abbrev pub number_of : Listed → PlainView → ℕ → ℕ
number_of list v = (numbering list v).number

-- the lists are those of a view
pub record AreListsOf (v : PlainView) (lists : RelocationLists) : Type 0 where
  pub range_starts : IsListOf (is_ranged v) (range_start v) (length v.symbols) lists.range_starts.items
  pub range_ends : IsListOf (is_ranged v) (range_end v) (length v.symbols) lists.range_ends.items
  pub starts : IsListOf (is_changing v) (change_start v) (length v.relocs) lists.starts.items
  pub ends : IsListOf (is_changing v) (change_end v) (length v.relocs) lists.ends.items
  pub calls : IsListOf (is_calling v) (change_start v) (length v.relocs) lists.calls.items
  pub low_keys : IsListOf (is_lower v) (low_key v) (length v.relocs) lists.low_keys.items

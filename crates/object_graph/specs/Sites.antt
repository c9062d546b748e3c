-- Where the addresses of the objects that may move are made, and which memory is theirs or anyone's.
use Rattle.std.specs.Prelude.{ℕ, ◌+◌, ◌-◌, ◌==◌, nat_lt, Bool, not, ◌&&◌, ◌||◌, length, slice_index_or}
use Rattle.list_checks.specs.Tests.{any_below}
use Rattle.elf_reader.specs.File.{PlainView}
use Rattle.elf_reader.specs.Image.{has_byte}
use Rattle.elf_reader.specs.Loaded.{section_at, segment_at}
use Rattle.loaded_file.specs.Code.{is_code_range}
use Rattle.loaded_file.specs.Records.{symbol_at, reloc_at}
use Rattle.board_config.specs.declared.board.Board.{Board}
use Rattle.board_config.specs.declared.board.Range.{Range}
use Rattle.loaded_file.specs.Ranges.{has_range, inside}
use Rattle.object_graph.specs.Rewritable.{is_rewritable_word}
use Rattle.object_graph.specs.Fixed.{leads_to, is_site_of, is_movable}

-- relocation `j` gives a site of the object of `n` bytes at `home`, which may move
abbrev pub is_site : PlainView → Board → ℕ → ℕ → ℕ → Bool
is_site v board home n j = is_movable v board home n && is_site_of v home n j

-- relocation `i` gives a word of data that holds an address in such an object or at its end
abbrev pub is_data_word : PlainView → Board → ℕ → ℕ → ℕ → Bool
is_data_word v board home n i =
    is_movable v board home n && leads_to v home n i && is_rewritable_word v i (reloc_at v i)

-- ---- fixed memory

-- an address lies in a range of the board, and in its area `k`
abbrev pub in_range : Range → ℕ → Bool
in_range r a = inside r.base r.size a

abbrev pub no_area : Range
no_area = record { base = 0; size = 0 }

abbrev pub in_area : Board → ℕ → ℕ → Bool
in_area board a k = in_range (slice_index_or board.areas.items k no_area) a

-- it lies in code range `k`
abbrev pub in_code_range : PlainView → ℕ → ℕ → Bool
in_code_range v a k = is_code_range v k && inside (section_at v k).addr (section_at v k).size a

-- it lies in the object of symbol `k`, which may move
abbrev pub in_object : PlainView → Board → ℕ → ℕ → Bool
in_object v board a k =
    has_range v (symbol_at v k)
    && is_movable v board (symbol_at v k).value (symbol_at v k).size
    && inside (symbol_at v k).value (symbol_at v k).size a

-- which byte of the file segment `g` puts at the address, if it puts one
abbrev pub file_place : PlainView → ℕ → ℕ → ℕ
file_place v a g = (segment_at v g).offset + (a - (segment_at v g).vaddr)

-- a byte of the file lies in the symbol table (SHT_SYMTAB, 2), if section `k` is it
abbrev pub in_symbol_table : PlainView → ℕ → ℕ → Bool
in_symbol_table v place k = ((section_at v k).kind == 2) && inside (section_at v k).offset (section_at v k).size place

-- segment `g` puts a byte there that a new file changes: of the ELF header, or of the symbol table
abbrev pub holds_changed_byte : PlainView → ℕ → ℕ → Bool
holds_changed_byte v a g =
    has_byte (segment_at v g) a
    && (nat_lt (file_place v a g) 52 || any_below (in_symbol_table v (file_place v a g)) (length v.sections))

-- the address is mapped memory that stays as it is: main or an area, without the scratchpad, the patch
-- range, code, objects that may move, and bytes of the file that a new file changes
abbrev pub is_fixed_memory : PlainView → Board → ℕ → Bool
is_fixed_memory v board a =
    (in_range board.main a || any_below (in_area board a) (length board.areas.items))
    && not (in_range board.spm a)
    && not (in_range board.patch a)
    && not (any_below (in_code_range v a) (length v.sections))
    && not (any_below (in_object v board a) (length v.symbols))
    && not (any_below (holds_changed_byte v a) (length v.segments))

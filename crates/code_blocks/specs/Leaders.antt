-- Where basic blocks begin. The rules come in two strata: those that rest on no call pair, the call pairs,
-- and those that rest on these.
use Rattle.std.specs.Prelude.{ℕ, ◌+◌, ◌==◌, Bool, not, ◌&&◌, ◌||◌, length}
use Rattle.list_checks.specs.Tests.{any_below}
use Rattle.rv32im.specs.Fields.{rd_of, rs1_of}
use Rattle.elf_reader.specs.File.{PlainView}
use Rattle.loaded_file.specs.Code.{is_code_word, image_word}
use Rattle.loaded_file.specs.Records.{symbol_at, reloc_at, counts, target, is_call_kind}
use Rattle.code_blocks.specs.Words.{is_branch, is_jal, is_jalr, is_auipc, links, branch_target, jal_target, pair_target, any_code_word}

-- symbol `k` is of a function (STT_FUNC, 2) and stands at `a`
abbrev pub is_function_at : PlainView → ℕ → ℕ → Bool
is_function_at v a k = ((symbol_at v k).kind == 2) && ((symbol_at v k).value == a)

-- kinds of relocations that make no address: NONE, BRANCH, JAL, CALL, CALL_PLT, PCREL_LO12_I, PCREL_LO12_S,
-- ALIGN and RELAX
abbrev pub makes_no_address : ℕ → Bool
makes_no_address kind =
    (kind == 0)
    || (kind == 16)
    || (kind == 17)
    || is_call_kind kind
    || (kind == 24)
    || (kind == 25)
    || (kind == 43)
    || (kind == 51)

-- relocation `i` makes the address `a`
abbrev pub makes_address : PlainView → ℕ → ℕ → Bool
makes_address v a i =
    counts v (reloc_at v i) && not (makes_no_address (reloc_at v i).kind) && (target v (reloc_at v i) == a)

-- the entry, a function's address, or an address that a relocation makes
abbrev pub is_named : PlainView → ℕ → Bool
is_named v a =
    (v.entry == a)
    || any_below (is_function_at v a) (length v.symbols)
    || any_below (makes_address v a) (length v.relocs)

-- the word at `p` is a branch or a JAL to `a`
abbrev pub goes_to : PlainView → ℕ → ℕ → Bool
goes_to v a p =
    is_branch (image_word v p) && (branch_target v p == a) || is_jal (image_word v p) && (jal_target v p == a)

-- it is a branch, or a JAL or JALR that links, and `a` is behind it
abbrev pub comes_back : PlainView → ℕ → ℕ → Bool
comes_back v a p =
    (p + 4 == a)
    && (is_branch (image_word v p) || (is_jal (image_word v p) || is_jalr (image_word v p)) && links (image_word v p))

-- a leader by a rule that rests on no call pair
abbrev pub is_early : PlainView → ℕ → Bool
is_early v a =
    is_code_word v a
    && (is_named v a || any_code_word v (goes_to v a) || any_code_word v (comes_back v a))

-- ---- call pairs

-- relocation `i` is of a call to `a`
abbrev pub calls : PlainView → ℕ → ℕ → Bool
calls v a i = counts v (reloc_at v i) && is_call_kind (reloc_at v i).kind && (target v (reloc_at v i) == a)

-- the words at `p` and behind it are an AUIPC and a JALR that uses its register, and writes that or x0
abbrev pub is_pair_of_words : PlainView → ℕ → Bool
is_pair_of_words v p =
    is_auipc (image_word v p)
    && is_jalr (image_word v (p + 4))
    && links (image_word v p)
    && (rs1_of (image_word v (p + 4)) == rd_of (image_word v p))
    && ((rd_of (image_word v (p + 4)) == rd_of (image_word v p)) || (rd_of (image_word v (p + 4)) == 0))

-- relocation `i` stands at `p`, and the pair goes where it says
abbrev pub is_call_by : PlainView → ℕ → ℕ → Bool
is_call_by v p i =
    counts v (reloc_at v i)
    && is_call_kind (reloc_at v i).kind
    && ((reloc_at v i).at == p)
    && (pair_target v p == target v (reloc_at v i))

-- an AUIPC at `p` and the JALR behind it are one call: a relocation says so, they go to a word of code,
-- and nothing leads between them
abbrev pub is_call_pair : PlainView → ℕ → Bool
is_call_pair v p =
    is_code_word v p
    && is_code_word v (p + 4)
    && is_pair_of_words v p
    && any_below (is_call_by v p) (length v.relocs)
    && is_code_word v (pair_target v p)
    && not (is_early v (p + 4))
    && not (any_below (calls v (p + 4)) (length v.relocs))

-- ---- all leaders

-- the pair at `p` goes to `a`; it links, and `a` is behind it
abbrev pub pair_goes_to : PlainView → ℕ → ℕ → Bool
pair_goes_to v a p = is_call_pair v p && (pair_target v p == a)

abbrev pub pair_comes_back : PlainView → ℕ → ℕ → Bool
pair_comes_back v a p = is_call_pair v p && links (image_word v (p + 4)) && (p + 8 == a)

-- a word of code at which a block begins
abbrev pub is_leader : PlainView → ℕ → Bool
is_leader v a =
    is_early v a
    || is_code_word v a && (any_code_word v (pair_goes_to v a) || any_code_word v (pair_comes_back v a))

-- the word at `p` is a jump that links, and `a` is behind it
abbrev pub link_comes_back : PlainView → ℕ → ℕ → Bool
link_comes_back v a p =
    (p + 4 == a) && (is_jal (image_word v p) || is_jalr (image_word v p)) && links (image_word v p)

-- a leader that a jump to an address in a register may reach
abbrev pub is_indirect : PlainView → ℕ → Bool
is_indirect v a =
    is_code_word v a
    && (is_named v a || any_code_word v (link_comes_back v a) || any_code_word v (pair_comes_back v a))

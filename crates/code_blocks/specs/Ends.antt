-- How a block ends, found by walking through its words.
use Rattle.std.specs.Prelude.{ℕ, zero, suc, ◌+◌, ◌-◌, ◌/◌, not, if◌then◌else◌, length, Option, Some, None}
use Rattle.list_checks.specs.First.{unless, first_below}
use Rattle.rv32im.specs.Fields.{rd_of, b_immediate, j_immediate}
use Rattle.rv32im.specs.Words.{offset}
use Rattle.elf_reader.specs.File.{PlainView}
use Rattle.elf_reader.specs.Loaded.{section_at}
use Rattle.loaded_file.specs.Code.{holds_code, image_word}
use Rattle.code_blocks.specs.Words.{is_branch, is_jal, is_jalr, links, pair_target}
use Rattle.code_blocks.specs.Meanings.{is_ebreak, has_meaning}
use Rattle.code_blocks.specs.Leaders.{is_call_pair, is_leader}
use Rattle.code_blocks.specs.declared.ends.End.{End}
use Rattle.code_blocks.specs.declared.ends.End.TheVariants.{Fall, Branch, Jump, Call, Tail, Indirect, Stop}

-- the end of a call pair at `a`
abbrev pub pair_end : PlainView → ℕ → End
pair_end v a =
    if links (image_word v (a + 4)) then Call (pair_target v a) (a + 8) (rd_of (image_word v (a + 4)))
    else Tail (pair_target v a)

-- the end that a JAL makes at `a`, and a JALR that is of no pair
abbrev pub jal_word_end : ℕ → ℕ → End
jal_word_end a word =
    if links word then Call (offset a (j_immediate word)) (a + 4) (rd_of word) else Jump (offset a (j_immediate word))

abbrev pub jalr_word_end : ℕ → ℕ → End
jalr_word_end a word = if links word then Indirect (Some (a + 4)) else Indirect None

-- that of the JAL at `a`, and of the JALR
abbrev pub jal_end : PlainView → ℕ → End
jal_end v a = jal_word_end a (image_word v a)

abbrev pub jalr_end : PlainView → ℕ → End
jalr_end v a = jalr_word_end a (image_word v a)

-- the end of a unit of one word at `a` that ends its block; none where the block may go on
abbrev pub word_end : ℕ → ℕ → Option End
word_end a word =
    if is_branch word then Some (Branch (offset a (b_immediate word)) (a + 4))
    else if is_jal word then Some (jal_word_end a word)
    else if is_jalr word then Some (jalr_word_end a word)
    else if is_ebreak word then Some Stop
    else None

-- that of any unit
abbrev pub jump_end : PlainView → ℕ → Option End
jump_end v a = if is_call_pair v a then Some (pair_end v a) else word_end a (image_word v a)

-- the end that there is, or else another
abbrev pub end_or : Option End → End → End
end_or None other = other
end_or (Some end) other = end

-- the end of a block of which the word at `a` is one, with n words left in its code range: its own end, or
-- the next leader, or that of the rest. Where no word is left, nothing follows
abbrev pub end_from : PlainView → ℕ → ℕ → End
end_from v a zero = Stop
end_from v a (suc n) =
    if has_meaning (image_word v a) then
    end_or (jump_end v a) (if is_leader v (a + 4) then Fall (a + 4) else end_from v (a + 4) n)
    else Stop

-- the lowest code range that holds the word at `a`, and how many words it has from there on
abbrev pub range_at : PlainView → ℕ → ℕ → Option ℕ
range_at v a k = unless (not (holds_code v a k)) k

abbrev pub words_left_in : PlainView → ℕ → Option ℕ → ℕ
words_left_in v a None = 0
words_left_in v a (Some k) = ((section_at v k).addr + (section_at v k).size - a) / 4

abbrev pub words_left : PlainView → ℕ → ℕ
words_left v a = words_left_in v a (first_below (range_at v a) (length v.sections))

-- how the block that begins at `a` ends
abbrev pub end_of : PlainView → ℕ → End
end_of v a = end_from v a (words_left v a)

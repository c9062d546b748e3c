-- How call pairs are found, and what rests on them.
use Rattle.std.specs.Prelude.{◌≡◌, ℕ, ◌+◌, ◌==◌, Bool, not, ◌&&◌, ◌||◌, List, length}
use Rattle.std.specs.List.Sorted.{IsStrictlyIncreasing}
use Rattle.list_checks.specs.Tests.{any_below}
use Rattle.rv32im.specs.Fields.{rd_of, rs1_of}
use Rattle.elf_reader.specs.File.{PlainView}
use Rattle.loaded_file.specs.Code.{is_code_word, image_word}
use Rattle.loaded_file.specs.Records.{counts, target, is_call_kind}
use Rattle.elf_reader.specs.declared.view.Reloc.{Reloc}
use Rattle.code_blocks.specs.Words.{is_jalr, is_auipc, links, pair_target}
use Rattle.code_blocks.specs.Leaders.{is_early, calls, is_pair_of_words}
use Rattle.code_blocks.specs.Early.{has}

-- an ascending list of the numbers that pass a test
pub record AreThose (test : ℕ → Bool) (numbers : List ℕ) : Type 0 where
  pub ascending : IsStrictlyIncreasing numbers
  pub exact : (a : ℕ) → has numbers a ≡ test a

-- no JALR of a pair stands where an early leader does, or where a relocation of a call leads to
abbrev pub is_barred : PlainView → ℕ → Bool
is_barred v a = is_early v a || any_below (calls v a) (length v.relocs)

-- `first` is an AUIPC, and `second` a JALR that uses its register, and writes that or x0
abbrev pub fits_pair : ℕ → ℕ → Bool
fits_pair first second =
    is_auipc first
    && is_jalr second
    && links first
    && (rs1_of second == rd_of first)
    && ((rd_of second == rd_of first) || (rd_of second == 0))

-- the words at `p` and behind it are code
abbrev pub are_code_words : PlainView → ℕ → Bool
are_code_words v p = is_code_word v p && is_code_word v (p + 4)

-- they are a call pair if a relocation says so
abbrev pub may_be_pair : PlainView → ℕ → Bool
may_be_pair v p =
    are_code_words v p
    && is_pair_of_words v p
    && is_code_word v (pair_target v p)
    && not (is_barred v (p + 4))

-- relocation `r` says so where it stands, and the words there may be a pair to where it leads
abbrev pub makes_pair : PlainView → Reloc → Bool
makes_pair v r =
    counts v r && is_call_kind r.kind && (may_be_pair v r.at && (pair_target v r.at == target v r))

-- the pair at `p` goes to `a`; it links, and `a` is behind it
abbrev pub leads_to : PlainView → ℕ → ℕ → Bool
leads_to v a p = are_code_words v p && (pair_target v p == a)

abbrev pub returns_to : PlainView → ℕ → ℕ → Bool
returns_to v a p = are_code_words v p && links (image_word v (p + 4)) && (p + 8 == a)

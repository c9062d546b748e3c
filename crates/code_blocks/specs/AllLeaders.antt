-- The leaders of a program, and its call pairs, as lists.
use Rattle.std.specs.Prelude.{◌≡◌, ℕ}
use Rattle.std.specs.List.Sorted.{IsStrictlyIncreasing}
use Rattle.elf_reader.specs.File.{PlainView}
use Rattle.code_blocks.specs.Leaders.{is_call_pair, is_leader, is_indirect}
use Rattle.code_blocks.specs.Early.{has}
use Rattle.code_blocks.specs.declared.lists.Leaders.{Leaders}

-- the lists have just the leaders, the indirect ones, and the call pairs, each once and ascending
pub record IsLeaders (v : PlainView) (l : Leaders) : Type 0 where
  pub all_ascending : IsStrictlyIncreasing l.all.items
  pub all : (a : ℕ) → has l.all.items a ≡ is_leader v a
  pub indirect_ascending : IsStrictlyIncreasing l.indirect.items
  pub indirect : (a : ℕ) → has l.indirect.items a ≡ is_indirect v a
  pub pairs_ascending : IsStrictlyIncreasing l.pairs.items
  pub pairs : (p : ℕ) → has l.pairs.items p ≡ is_call_pair v p

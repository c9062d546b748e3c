-- How a list of leaders is made.
use Rattle.std.specs.Prelude.{ℕ, ◌==◌, Bool, ◌||◌, List}
use Rattle.std.specs.List.{list_any}
use Rattle.elf_reader.specs.File.{PlainView}
use Rattle.code_blocks.specs.Leaders.{goes_to, comes_back}

-- a list has a number
abbrev pub has : List ℕ → ℕ → Bool
has numbers a = list_any (λ x. a == x) numbers

-- the word at `p` goes to `a`, or comes back there
abbrev pub flows_to : PlainView → ℕ → ℕ → Bool
flows_to v a p = goes_to v a p || comes_back v a p

-- The regions of functions as the lists of a board are read.
use Rattle.std.specs.Prelude.{◌≡◌, ℕ, ◌<◌, List, length, map, slice_index_or, String, Vec}
use Rattle.std.specs.Global.{Global}
use Rattle.elf_reader.specs.File.{PlainView}
use Rattle.board_config.specs.Board.{plain_texts}
use Rattle.code_blocks.specs.declared.parts.Function.{Function}
use Rattle.region_former.specs.Listing.{region_before}

-- the lists of names, as bytes
abbrev pub plain_lists : List (Vec (String Global) Global) → List (List (List ℕ))
plain_lists lists = map plain_texts lists

-- the regions by the first `i` lists and the first `j` names of the next
pub record AreListed (v : PlainView) (functions : List Function) (lists : List (List (List ℕ))) (i j : ℕ) (regions : List ℕ) : Type 0 where
  pub one_each : length regions ≡ length functions
  pub each : (f : ℕ) → f < length functions → slice_index_or regions f 0 ≡ region_before v functions lists i j f

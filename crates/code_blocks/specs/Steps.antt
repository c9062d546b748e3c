-- How a block ends behind one of its units, and what a walk through a block finds.
use Rattle.std.specs.Prelude.{◌≡◌, ℕ, ◌+◌, if◌then◌else◌, map, Option, Some, None}
use Rattle.std.specs.List.{All}
use Rattle.list_checks.specs.First.{◌or_else◌}
use Rattle.elf_reader.specs.File.{PlainView}
use Rattle.loaded_file.specs.Code.{image_word}
use Rattle.code_blocks.specs.Meanings.{has_meaning}
use Rattle.code_blocks.specs.Leaders.{is_leader}
use Rattle.code_blocks.specs.Ends.{jump_end, end_from}
use Rattle.code_blocks.specs.Blocks.{unit_addresses, unit_at, IsUnit}
use Rattle.code_blocks.specs.declared.ends.End.{End}
use Rattle.code_blocks.specs.declared.ends.End.TheVariants.{Fall, Stop}
use Rattle.code_blocks.specs.declared.walking.Walk.{Walk}

-- a block falls to the next address where a block begins there
abbrev pub fall_end : PlainView → ℕ → Option End
fall_end v a = if is_leader v (a + 4) then Some (Fall (a + 4)) else None

-- the end of a block behind its unit at `a`, if it ends there
abbrev pub end_behind : PlainView → ℕ → Option End
end_behind v a = if has_meaning (image_word v a) then jump_end v a or_else fall_end v a else Some Stop

-- the units and the end of the block that begins at `a`, with n words left in its code range
pub record IsWalk (v : PlainView) (a n : ℕ) (w : Walk) : Type 0 where
  pub addresses : map unit_at w.units.items ≡ unit_addresses v a n
  pub units : All (IsUnit v) w.units.items
  pub end : w.end ≡ end_from v a n

use Rattle.std.proofs.Common.{◌≡◌, ℕ, ◌≤◌, false}
use Rattle.elf_reader.specs.Sections.{has_name}
use Rattle.elf_reader.proofs.string_table.names_end.Given as goal

-- no name begins at `place` or behind it
abbrev pub invariant-loop-place : goal.invariant-loop-place
invariant-loop-place l = (start : ℕ) → l.place ≤ start → has_name l.bytes start ≡ false

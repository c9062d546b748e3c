use Rattle.std.proofs.Common.{◌≡◌, ℕ, ◌<◌, ◌≤◌, length, get_or}
use Rattle.elf_reader.specs.Names.{zero_from, block_start}
use Rattle.elf_reader.proofs.string_table.fill_index.Given as goal

-- the entries from `block` on are filled
abbrev pub invariant-loop-block : goal.invariant-loop-block
invariant-loop-block l = (k : ℕ) → l.block ≤ k → k < length l.zeros → get_or l.zeros k 0 ≡ zero_from l.bytes (block_start (length l.bytes) k)

use Rattle.std.proofs.Common.{◌≡◌}
use Rattle.elf_reader.specs.Names.{zero_from}
use Rattle.elf_reader.proofs.string_table.first_zero.Given as goal

abbrev pub invariant-loop-place : goal.invariant-loop-place
invariant-loop-place l = zero_from l.bytes l.start ≡ zero_from l.bytes l.place

use Rattle.std.proofs.Common.{◌≡◌, ◌++◌}
use Rattle.elf_writer.specs.Pieces.{zero_bytes}
use Rattle.elf_writer.proofs.pieces.push_zeros.Given as goal

abbrev pub invariant-loop : goal.invariant-loop
invariant-loop l = l.out.items ≡ l.fn.out.items ++ zero_bytes l.counter

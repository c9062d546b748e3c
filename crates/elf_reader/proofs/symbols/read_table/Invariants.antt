use Rattle.std.proofs.Common.{◌≡◌, map}
use Rattle.elf_reader.specs.File.{plain_symbol, symbols_below}
use Rattle.elf_reader.proofs.symbols.read_table.Given as goal

abbrev pub invariant-loop-i : goal.invariant-loop-i
invariant-loop-i l = map plain_symbol l.symbols.items ≡ symbols_below l.bytes l.table l.i

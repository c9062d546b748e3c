use Rattle.std.proofs.Common.{◌≡◌, ◌++◌, map, drop}
use Rattle.workload_gen.specs.Plan.{symbol_plan}
use Rattle.elf_writer.specs.Pieces.{ended_names, string_table}
use Rattle.workload_gen.specs.Built.{symbol_name}
use Rattle.workload_gen.proofs.planned.symbol_name_table.Given as goal

abbrev pub invariant-loop-symbol : goal.invariant-loop-symbol
invariant-loop-symbol l =
    l.table.items ++ ended_names (map symbol_name (map symbol_plan (drop l.symbol-index l.symbols)))
    ≡ string_table (map symbol_name (map symbol_plan l.symbols))

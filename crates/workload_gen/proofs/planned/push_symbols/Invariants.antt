use Rattle.std.proofs.Common.{◌≡◌, ◌++◌, map, drop}
use Rattle.workload_gen.specs.Plan.{symbol_plan}
use Rattle.workload_gen.specs.Built.{symbols_bytes}
use Rattle.workload_gen.proofs.planned.push_symbols.Given as goal

abbrev pub invariant-loop-symbol : goal.invariant-loop-symbol
invariant-loop-symbol l =
    l.out.items ++ symbols_bytes l.name_at (map symbol_plan (drop l.symbol-index l.symbols))
    ≡ l.fn.out.items ++ symbols_bytes 1 (map symbol_plan l.symbols)

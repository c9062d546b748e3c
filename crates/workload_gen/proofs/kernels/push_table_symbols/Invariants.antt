use Rattle.std.proofs.Common.{◌≡◌, ◌++◌, map, drop}
use Rattle.std.specs.List.{flat_map}
use Rattle.workload_gen.specs.Plan.{symbol_plan}
use Rattle.workload_gen.specs.Kernels.{table_symbol_plans}
use Rattle.workload_gen.proofs.kernels.push_table_symbols.Given as goal

abbrev pub invariant-loop-kernel : goal.invariant-loop-kernel
invariant-loop-kernel l =
    map symbol_plan l.symbols.items ++ flat_map table_symbol_plans (drop l.kernel-index l.kernels)
    ≡ map symbol_plan l.fn.symbols.items ++ flat_map table_symbol_plans l.kernels

use Rattle.std.proofs.Common.{◌≡◌, ◌++◌, map}
use Rattle.workload_gen.specs.Plan.{symbol_plan}
use Rattle.workload_gen.specs.Workload.{kernel_symbols_below}
use Rattle.workload_gen.proofs.generating.push_kernel_symbols.Given as goal

abbrev pub invariant-loop-i : goal.invariant-loop-i
invariant-loop-i l =
    map symbol_plan l.symbols.items ≡ map symbol_plan l.fn.symbols.items ++ kernel_symbols_below l.kernels l.i

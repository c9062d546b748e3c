-- The symbols of the workload's plan, of given kernels.
use Rattle.std.specs.Prelude.{ℕ, List}
use Rattle.std.specs.List.{flat_map}
use Rattle.workload_gen.specs.Plan.{SymbolPlan}
use Rattle.workload_gen.specs.Workload.{symbols_with}
use Rattle.workload_gen.specs.Kernels.{table_symbol_plans}
use Rattle.workload_gen.specs.declared.kernels.Kernel.{Kernel}

abbrev pub symbol_plans : ℕ → List Kernel → List SymbolPlan
symbol_plans k kernels = symbols_with k (flat_map table_symbol_plans kernels)

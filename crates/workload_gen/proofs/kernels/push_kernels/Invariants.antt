use Rattle.std.proofs.Common.{◌≡◌, ◌++◌, drop}
use Rattle.std.specs.List.{flat_map}
use Rattle.workload_gen.specs.Kernels.{kernel_code, kernel_table}
use Rattle.workload_gen.proofs.kernels.push_kernels.Given as goal

abbrev pub invariant-loop-kernel : goal.invariant-loop-kernel
invariant-loop-kernel l = record {
  code : l.code.items ++ flat_map kernel_code (drop l.kernel-index l.kernels) ≡ l.fn.code.items ++ flat_map kernel_code l.kernels;
  tables : l.tables.items ++ flat_map kernel_table (drop l.kernel-index l.kernels) ≡ l.fn.tables.items ++ flat_map kernel_table l.kernels;
}

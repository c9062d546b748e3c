use Rattle.std.proofs.Common.{◌≡◌, ◌++◌}
use Rattle.workload_gen.specs.Workload.{kernel_relocations_below}
use Rattle.workload_gen.proofs.generating.push_kernel_relocations.Given as goal

abbrev pub invariant-loop-i : goal.invariant-loop-i
invariant-loop-i l = l.relocs.items ≡ l.fn.relocs.items ++ kernel_relocations_below l.kernels l.i

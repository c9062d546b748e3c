use Rattle.std.proofs.Common.{◌≡◌, ◌++◌}
use Rattle.workload_gen.specs.Workload.{table_below}
use Rattle.workload_gen.proofs.kernels.Kernel.push_table.Given as goal

abbrev pub invariant-loop-j : goal.invariant-loop-j
invariant-loop-j l = l.words.items ≡ l.fn.words.items ++ table_below l.self.number l.j

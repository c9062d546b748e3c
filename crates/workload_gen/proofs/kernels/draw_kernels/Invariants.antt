use Rattle.std.proofs.Common.{◌≡◌, ◌+◌, ◌*◌, ◌≤◌, All}
use Rattle.workload_gen.specs.Workload.{state_after, table_start}
use Rattle.workload_gen.specs.Kernels.{IsSmall, drawn_kernels}
use Rattle.workload_gen.proofs.kernels.draw_kernels.Given as goal

abbrev pub invariant-loop-number : goal.invariant-loop-number
invariant-loop-number l =
    record {
      state : l.generator.state ≡ state_after l.seed (2 * l.number);
      table : l.table_at ≡ table_start l.seed l.number;
      low : l.table_at ≤ 73728 + 256 * l.number;
      drawn : l.drawn.items ≡ drawn_kernels l.seed l.number;
      small : All IsSmall l.drawn.items;
    }

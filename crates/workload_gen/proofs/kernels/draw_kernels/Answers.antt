use Rattle.std.proofs.Common.{◌≡◌, ℕ, ap, ◌∙◌, arith}
use Rattle.workload_gen.specs.declared.kernels.Kernel.{Kernel}
use Rattle.workload_gen.specs.Workload.{table_words}
use Rattle.workload_gen.specs.Kernels.{kernel_of}
use Rattle.workload_gen.proofs.KernelLemmas.{state_two, kernel_drawn, table_more, drawn_pushed, small_pushed}
use Rattle.workload_gen.proofs.kernels.draw_kernels.Goals as goal

pub loop-number-preserved : goal.loop-number-preserved
loop-number-preserved c =
    let seed : ℕ = c.args.seed in
    let i : ℕ = c.loop-number.number in
    let made : c.draw_kernel-kernel.result ≡ kernel_of seed i =
    c.draw_kernel-kernel.ensures.kernel
    ∙ kernel_drawn seed i c.loop-number.generator.state c.loop-number.table_at c.loop-number.invariant.state c.loop-number.invariant.table in
    let words : c.draw_kernel-kernel.result.word_count ≡ table_words seed i = ap (λ (k : Kernel). k.word_count) made in
    let two = state_two seed i in
    let table = table_more seed i in
    let number : c.draw_kernel-kernel.result.number ≡ i = ap (λ (k : Kernel). k.number) made in
    record {
      state = cc;
      table = cc;
      low = omega arith;
      drawn =
          drawn_pushed
          seed
          i
          c.draw_kernel-kernel.result
          c.loop-number.drawn.items
          c.push.new.self.items
          made
          c.loop-number.invariant.drawn
          c.in_ok-push.ensures.items;
      small =
          small_pushed
          c.draw_kernel-kernel.result
          c.loop-number.drawn.items
          c.push.new.self.items
          (record { number = omega arith; word_count = omega arith })
          c.loop-number.invariant.small
          c.in_ok-push.ensures.items;
    }

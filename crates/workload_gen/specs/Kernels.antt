-- The kernels of the workload, as they are drawn, and what each puts into the file.
use Rattle.std.specs.Prelude.{ℕ, zero, suc, ◌+◌, ◌*◌, ◌/◌, ◌%◌, ◌<◌, ◌≤◌, List, [], ◌∷◌, ◌++◌}
use Rattle.workload_gen.specs.Plan.{SymbolPlan}
use Rattle.workload_gen.specs.Workload.{next_state, table_words, passes, table_start, table_below, numbered, kernel_loop}
use Rattle.workload_gen.specs.declared.kernels.Kernel.{Kernel}

-- kernel i of a seed
abbrev pub kernel_of : ℕ → ℕ → Kernel
kernel_of seed i =
    record {
      number = i;
      table_at = table_start seed i;
      word_count = table_words seed i;
      pass_count = passes seed i;
    }

-- the kernel with number i and its table at `at`, which is drawn at a state
abbrev pub kernel_at : ℕ → ℕ → ℕ → Kernel
kernel_at state i at =
    record {
      number = i;
      table_at = at;
      word_count = 16 + 16 * (next_state state / 65536 % 4);
      pass_count = 4 + next_state (next_state state) / 65536 % 8;
    }

-- the first kernels of a seed
abbrev pub drawn_kernels : ℕ → ℕ → List Kernel
drawn_kernels seed zero = []
drawn_kernels seed (suc i) = drawn_kernels seed i ++ kernel_of seed i ∷ []

-- a kernel with few words, of few
pub record IsSmall (k : Kernel) : Type 0 where
  pub number : k.number < 64
  pub word_count : k.word_count ≤ 64

-- its instructions
abbrev pub kernel_code : Kernel → List ℕ
kernel_code k = kernel_loop k.pass_count k.table_at k.word_count

-- its table
abbrev pub kernel_table : Kernel → List ℕ
kernel_table k = table_below k.number k.word_count

-- the symbol of its table
abbrev pub table_symbol_plan : Kernel → SymbolPlan
table_symbol_plan k =
    record { name = numbered 116 k.number; value = k.table_at; size = 4 * k.word_count; kind = 1; section = 2 }

abbrev pub table_symbol_plans : Kernel → List SymbolPlan
table_symbol_plans k = table_symbol_plan k ∷ []

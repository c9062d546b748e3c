-- What a register file holds behind a write.
use Rattle.std.proofs.Common.{◌≡◌, ℕ, ◌<◌, ◌==◌, Bool, true, false, if◌then◌else◌, List, length, slice_index, slice_index_or, slice_set, replicate, zero, suc, refl, ap, arith, inl, inr}
use Rattle.std.proofs.lemmas.Grind.{common_steps}
use Rattle.std.proofs.lemmas.Bool.{cases_eq}
use Rattle.std.proofs.lemmas.Bool.Decides.{nat_tests}
use Rattle.object_graph.specs.declared.parts.Graph.{Graph}
use Rattle.cell_values.specs.Cells.{put_at}
use Rattle.cell_values.specs.Objects.{IsOfGraph}
use Rattle.cell_values.specs.declared.values.Val.{Val}
use Rattle.cell_values.specs.declared.values.Val.TheVariants.{Int}
use Rattle.object_machine.specs.State.{value, with_value}

abbrev held : List Bool → List ℕ → List Val → ℕ → Val
held numeric numbers values k = if slice_index_or numeric k true then Int (slice_index numbers k) else slice_index_or values k (Int 0)

number_at : (numeric : List Bool) (numbers : List ℕ) (values : List Val) (rd n k : ℕ) → slice_index_or numeric 0 true ≡ true → slice_index numbers 0 ≡ 0 → rd < length numeric → rd < length numbers
    → held (slice_set numeric rd true) (slice_set (slice_set numbers rd n) 0 0) values k ≡ with_value (held numeric numbers values) rd (Int n) k
unfolding put_at
number_at numeric numbers values rd n k first none inside within =
    elim (cases_eq k 0) [
      | inl here ↦ grind (arith, nat_tests, common_steps)
      | inr other ↦ grind (arith, nat_tests, common_steps)
    ]

-- a number that is put into a register, behind which x0 is 0 again
pub number_put : (numeric : List Bool) (numbers : List ℕ) (values : List Val) (i rd n : ℕ) → i ≡ rd → slice_index_or numeric 0 true ≡ true → slice_index numbers 0 ≡ 0 → rd < length numeric → rd < length numbers
    → held (slice_set numeric i true) (slice_set (slice_set numbers i n) 0 0) values ≡ with_value (held numeric numbers values) rd (Int n)
number_put numeric numbers values i rd n e first none inside within = rw e (λ t k. number_at numeric numbers values rd n k first none inside within t)

value_at : (numeric : List Bool) (numbers : List ℕ) (values : List Val) (rd : ℕ) (v : Val) (k : ℕ) → slice_index_or numeric 0 true ≡ true → slice_index numbers 0 ≡ 0 → rd < length numeric → rd < length values
    → held (slice_set (slice_set numeric rd false) 0 true) numbers (slice_set values rd v) k ≡ with_value (held numeric numbers values) rd v k
unfolding put_at
value_at numeric numbers values rd v k first none inside within =
    elim (cases_eq k 0) [
      | inl here ↦ grind (arith, nat_tests, common_steps)
      | inr other ↦ grind (arith, nat_tests, common_steps)
    ]

-- another value that is put into a register, behind which x0 holds a number again
pub value_put : (numeric : List Bool) (numbers : List ℕ) (values : List Val) (i rd : ℕ) (v : Val) → i ≡ rd → slice_index_or numeric 0 true ≡ true → slice_index numbers 0 ≡ 0 → rd < length numeric → rd < length values
    → held (slice_set (slice_set numeric i false) 0 true) numbers (slice_set values i v) ≡ with_value (held numeric numbers values) rd v
value_put numeric numbers values i rd v e first none inside within = rw e (λ t k. value_at numeric numbers values rd v k first none inside within t)

all_numeric : (n k : ℕ) → slice_index_or (replicate n true) k true ≡ true
all_numeric zero k = refl
all_numeric (suc n) zero = refl
all_numeric (suc n) (suc k) = all_numeric n k

all_zero : (n k : ℕ) → slice_index (replicate n 0) k ≡ 0
all_zero zero k = grind (arith, common_steps)
all_zero (suc n) zero = grind (arith, common_steps)
all_zero (suc n) (suc k) = grind (arith, common_steps, all_zero n k)

-- registers that all hold 0
zero_held : (values : List Val) (n k : ℕ) → held (replicate n true) (replicate n 0) values k ≡ Int 0
zero_held values n k = rw (all_numeric n k) (ap Int (all_zero n k))

pub zeros_held : (values : List Val) (n : ℕ) → held (replicate n true) (replicate n 0) values ≡ λ _. Int 0
zeros_held values n = λ t k. zero_held values n k t

-- ---- registers of a graph

read_at : (g : Graph) (regs : ℕ → Val) (b : Bool) (v : Val) → IsOfGraph g v → IsOfGraph g (if b then Int 0 else v)
read_at g regs true v of = tt
read_at g regs false v of = of

pub read_of_graph : (g : Graph) (regs : ℕ → Val) (k : ℕ) → ((j : ℕ) → IsOfGraph g (regs j)) → IsOfGraph g (value regs k)
read_of_graph g regs k of = read_at g regs (k == 0) (regs k) (of k)

pick_at : (g : Graph) (b : Bool) (v w : Val) → IsOfGraph g v → IsOfGraph g w → IsOfGraph g (if b then v else w)
pick_at g true v w of also = of
pick_at g false v w of also = also

put_of_graph : (g : Graph) (regs : ℕ → Val) (b : Bool) (rd : ℕ) (v : Val) (k : ℕ) → IsOfGraph g v → ((j : ℕ) → IsOfGraph g (regs j)) → IsOfGraph g ((if b then regs else put_at regs rd v) k)
unfolding put_at
put_of_graph g regs true rd v k of all = all k
put_of_graph g regs false rd v k of all = pick_at g (k == rd) v (regs k) of (all k)

pub write_of_graph : (g : Graph) (regs : ℕ → Val) (rd : ℕ) (v : Val) → IsOfGraph g v → ((j : ℕ) → IsOfGraph g (regs j)) → (k : ℕ) → IsOfGraph g (with_value regs rd v k)
write_of_graph g regs rd v of all k = put_of_graph g regs (rd == 0) rd v k of all

-- What is drawn one kernel on.
use Rattle.std.proofs.Common.{◌≡◌, ℕ, zero, suc, ◌+◌, ◌*◌, ◌/◌, List, [], ◌∷◌, ◌++◌, refl, ap, sym, ◌∙◌, add-one, arith, subst, All}
use Rattle.std.proofs.lemmas.List.{flat_map_more}
use Rattle.std.proofs.lemmas.List.Elements.{All-push}
use Rattle.std.specs.List.{flat_map}
use Rattle.workload_gen.specs.Workload.{next_state, state_after, drawn, table_words, table_start, kernels_below, tables_below, table_symbols_below}
use Rattle.workload_gen.specs.Kernels.{IsSmall, kernel_at, kernel_of, drawn_kernels, kernel_code, kernel_table, table_symbol_plans}
use Rattle.workload_gen.specs.declared.kernels.Kernel.{Kernel}

pub state_more : (seed n : ℕ) → state_after seed (n + 1) ≡ next_state (state_after seed n)
state_more seed n = rw add-one

-- two draws a kernel
pub state_two : (seed i : ℕ) → state_after seed (2 * (i + 1)) ≡ next_state (next_state (state_after seed (2 * i)))
state_two seed i =
    let twice : 2 * (i + 1) ≡ 2 * i + 1 + 1 = omega arith in
    rw (twice, state_more seed (2 * i + 1), state_more seed (2 * i))

pub kernel_drawn :
    (seed i state at : ℕ)
    → state ≡ state_after seed (2 * i)
    → at ≡ table_start seed i
    → kernel_at state i at ≡ kernel_of seed i
kernel_drawn seed i state at is_state is_at =
    let words : next_state state / 65536 ≡ drawn seed (2 * i) = rw (is_state, state_more seed (2 * i)) in
    let passed : next_state (next_state state) / 65536 ≡ drawn seed (2 * i + 1) =
    rw (is_state, state_more seed (2 * i + 1), state_more seed (2 * i)) in
    rw (is_at, words, passed)

pub table_more : (seed i : ℕ) → table_start seed (i + 1) ≡ table_start seed i + 4 * table_words seed i
table_more seed i = rw (add-one i) (omega arith)

-- one more kernel
pub drawn_pushed :
    (seed i : ℕ) (kernel : Kernel) (before after : List Kernel)
    → kernel ≡ kernel_of seed i
    → before ≡ drawn_kernels seed i
    → after ≡ before ++ kernel ∷ []
    → after ≡ drawn_kernels seed (i + 1)
drawn_pushed seed i kernel before after is so_far pushed = rw (pushed, so_far, is, add-one i)

pub small_pushed :
    (kernel : Kernel) (before after : List Kernel)
    → IsSmall kernel
    → All IsSmall before
    → after ≡ before ++ kernel ∷ []
    → All IsSmall after
small_pushed kernel before after small so_far pushed =
    let P : List Kernel → Type 0 = All IsSmall in
    subst P (sym pushed) (All-push IsSmall before kernel so_far small)

-- what the kernels of a seed put into a list, one behind the other
pub flat_drawn :
    {X : Type 0} (f : Kernel → List X) (below : ℕ → List X) (seed : ℕ)
    → below zero ≡ []
    → ((i : ℕ) → below (suc i) ≡ below i ++ f (kernel_of seed i))
    → (n : ℕ)
    → flat_map f (drawn_kernels seed n) ≡ below n
flat_drawn f below seed none more zero = sym none
flat_drawn f below seed none more (suc n) =
    sym (flat_map_more f [] (drawn_kernels seed n) (kernel_of seed n))
    ∙ ap (λ xs. xs ++ f (kernel_of seed n)) (flat_drawn f below seed none more n)
    ∙ sym (more n)

pub drawn_code : (seed n : ℕ) → flat_map kernel_code (drawn_kernels seed n) ≡ kernels_below seed n
drawn_code seed n = flat_drawn kernel_code (kernels_below seed) seed refl (λ i. refl) n

pub drawn_tables : (seed n : ℕ) → flat_map kernel_table (drawn_kernels seed n) ≡ tables_below seed n
drawn_tables seed n = flat_drawn kernel_table (tables_below seed) seed refl (λ i. refl) n

pub drawn_symbols : (seed n : ℕ) → flat_map table_symbol_plans (drawn_kernels seed n) ≡ table_symbols_below seed n
drawn_symbols seed n = flat_drawn table_symbol_plans (table_symbols_below seed) seed refl (λ i. refl) n

-- Words of lists of instructions, and fields of short sequences.
use Rattle.std.proofs.Common.{◌≡◌, inl, inr, ℕ, zero, suc, ◌+◌, ◌-◌, ◌*◌, ◌%◌, ◌<◌, ◌≤◌, List, [], ◌∷◌, ◌++◌, length, take, get_or, ℤ, pos, negsuc, ◌-ℤ◌, nat_lt, refl, sym, ◌∙◌, ap, subst, arith}
use Rattle.std.specs.Prelude.{All}
use Rattle.std.specs.Int.{cast_unsigned, cast_signed, w32}
use Rattle.std.proofs.lemmas.Int.{ints, of_z-to_z}
use Rattle.std.proofs.lemmas.Bool.{cond_both, cases_lt}
use Rattle.std.proofs.lemmas.Bool.Decides.{nat_tests}
use Rattle.std.proofs.lemmas.List.Elements.{All-nil, All-cons}
use Rattle.rv32im.specs.Words.{minus, offset, signed, upper_half, lower_half}
use Rattle.rv32im.specs.declared.instructions.Instr.{Instr}
use Rattle.rv32im.specs.declared.instructions.Instr.TheVariants.{Lui, Jalr, OpImm}
use Rattle.rv32im.specs.declared.instructions.ImmKind.TheVariants.{Addi}
use Rattle.rv32im.specs.Table.{Means, IsWithin, IsEvenWithin, IsInRange}
use Rattle.rv32im.specs.Sequences.{load_immediate, jump_absolute, distance, MeanAll}

-- ---- one word more

pub mean_more : (ws : List ℕ) (is : List Instr) (k : ℕ) (d : Instr) (w : ℕ) → k < length is → MeanAll ws (take k is) → Means w (get_or is k d) → MeanAll (ws ++ w ∷ []) (take (suc k) is)
mean_more ws [] k d w below all means = absurd (omega arith)
mean_more [] (i ∷ is) zero d w below all means = (means, tt)
mean_more (v ∷ ws) (i ∷ is) zero d w below all means = absurd all
mean_more [] (i ∷ is) (suc k) d w below all means = absurd all
mean_more (v ∷ ws) (i ∷ is) (suc k) d w below all means = (all.0, mean_more ws is k d w (omega arith) all.1 means)

pub mean_count : (ws : List ℕ) (is : List Instr) → MeanAll ws is → length ws ≡ length is
mean_count [] [] all = refl
mean_count [] (i ∷ is) all = absurd all
mean_count (w ∷ ws) [] all = absurd all
mean_count (w ∷ ws) (i ∷ is) all = ap suc (mean_count ws is all.1)

-- ---- fields in range

pub lower_within : (a : ℕ) → IsWithin 2048 (lower_half a)
lower_within a = by (a % 4096) (omega arith)
  where
    by : (n : ℕ) → n < 4096 → IsWithin 2048 (signed 2048 n)
    by n below =
        cond_both (nat_lt n 2048) (pos n) (pos n -ℤ pos (2048 + 2048)) (IsWithin 2048)
        (λ less. grind (arith, nat_tests))
        (λ more. let e : pos n -ℤ pos 4096 ≡ negsuc (4095 - n) = grind (arith, ints, nat_tests) in subst (IsWithin 2048) (sym e) (grind (arith, nat_tests)))

pub one_in_range : (i : Instr) → IsInRange i → All IsInRange (i ∷ [])
one_in_range i range = All-cons IsInRange i [] range (All-nil IsInRange)

pub immediate_in_range : (rd word : ℕ) → rd < 32 → All IsInRange (load_immediate rd word)
immediate_in_range rd word small =
    All-cons IsInRange (Lui rd (upper_half word)) (OpImm Addi rd rd (lower_half word) ∷ []) (small, omega arith)
    (one_in_range (OpImm Addi rd rd (lower_half word)) (small, small, lower_within word))

pub jump_in_range : (temporary target : ℕ) → temporary < 32 → All IsInRange (jump_absolute temporary target)
jump_in_range temporary target small =
    All-cons IsInRange (Lui temporary (upper_half target)) (Jalr 0 temporary (lower_half target) ∷ []) (small, omega arith)
    (one_in_range (Jalr 0 temporary (lower_half target)) (omega arith, small, lower_within target))

-- ---- where they lead

pub halves : (a : ℕ) → a < 4294967296 → offset (upper_half a * 4096 % 4294967296) (lower_half a) ≡ a
halves a below = grind (arith, ints, nat_tests)

pub arrives : (at to : ℕ) → at < 4294967296 → to < 4294967296 → offset at (distance at to) ≡ to
arrives at to small fits =
    let bound : minus to at < 4294967296 = omega arith in
    let back = of_z-to_z w32 (minus to at) bound in
    ap (λ n. (at + n) % 4294967296) back ∙ omega arith

-- ---- distances in range

forward : (at to : ℕ) → at ≤ to → to < 4294967296 → minus to at ≡ to - at
forward at to order small = omega (arith, order, small)

backward : (at to : ℕ) → to < at → at < 4294967296 → minus to at ≡ 4294967296 - (at - to)
backward at to order small = omega (arith, order, small)

signed_small : (n : ℕ) → n < 1048576 → cast_signed w32 n ≡ pos n
signed_small n small = grind (arith, nat_tests, small)

signed_large : (n : ℕ) → 4293918720 ≤ n → n < 4294967296 → cast_signed w32 n ≡ negsuc (4294967295 - n)
signed_large n large small = grind (arith, nat_tests, large, small)

within_small : (half n : ℕ) → half ≤ 1048576 → n < half → IsWithin half (cast_signed w32 n)
within_small half n most small =
    subst (λ (z : ℤ). IsWithin half z) (sym (signed_small n (omega (arith, most, small)))) small

within_large : (half n : ℕ) → half ≤ 1048576 → 4294967296 - half ≤ n → n < 4294967296 → IsWithin half (cast_signed w32 n)
within_large half n most large small =
    let short : 4294967295 - n < half = omega (arith, large, small, most) in
    subst (λ (z : ℤ). IsWithin half z) (sym (signed_large n (omega (arith, most, large)) small)) short

pub in_reach : (half at to : ℕ) → half ≤ 1048576 → at < 4294967296 → to < 4294967296 → to < at + half → at ≤ to + half → at % 2 ≡ 0 → to % 2 ≡ 0 → IsEvenWithin half (distance at to)
in_reach half at to most small small_to above below even even_to =
    let n : ℕ = minus to at in
    let fits : n < 4294967296 = omega arith in
    let back : cast_unsigned w32 (cast_signed w32 n) ≡ n = of_z-to_z w32 n fits in
    let even_n : n % 2 ≡ 0 = omega (arith, even, even_to) in
    elim (cases_lt to at) [
      | inl order ↦
          let value = backward at to order small in
          (within_large half n most (omega (arith, value, below, order, most)) fits, omega (arith, back, even_n))
      | inr order ↦
          let value = forward at to order small_to in
          (within_small half n most (omega (arith, value, above, order)), omega (arith, back, even_n))
    ]

-- Fields of the instructions of a stub and of the routine.
use Rattle.std.proofs.Common.{ℕ, zero, suc, ◌+◌, ◌-◌, ◌*◌, ◌%◌, ◌<◌, ◌==◌, nat_lt, Bool, true, false, List, [], ◌∷◌, ◌++◌, length, if◌then◌else◌, pos, refl, sym, subst, arith}
use Rattle.std.specs.Prelude.{Option, Some, None, option_map, All}
use Rattle.std.specs.List.{flat_map}
use Rattle.std.proofs.lemmas.Bool.{cond_both}
use Rattle.std.proofs.lemmas.Bool.Decides.{nat_tests}
use Rattle.std.proofs.lemmas.Int.{ints}
use Rattle.std.proofs.lemmas.Grind.{flat_map-append}
use Rattle.std.proofs.lemmas.List.{length-append}
use Rattle.std.proofs.lemmas.List.Elements.{All-nil, All-cons, All-head, All-tail, All-append}
use Rattle.rv32im.specs.Words.{upper_half, lower_half}
use Rattle.rv32im.specs.declared.instructions.Instr.{Instr}
use Rattle.rv32im.specs.declared.instructions.Instr.TheVariants.{Lui, Load, Store, OpImm, Branch, Jal, Jalr, FenceI}
use Rattle.rv32im.specs.declared.instructions.LoadKind.TheVariants.{Lw}
use Rattle.rv32im.specs.declared.instructions.StoreKind.TheVariants.{Sw}
use Rattle.rv32im.specs.declared.instructions.ImmKind.TheVariants.{Addi}
use Rattle.rv32im.specs.declared.instructions.BranchKind.{BranchKind}
use Rattle.rv32im.specs.declared.instructions.BranchKind.TheVariants.{Beq, Bne}
use Rattle.rv32im.specs.Table.{IsWithin, IsEvenWithin, IsInRange}
use Rattle.rv32im.specs.Sequences.{distance}
use Rattle.rv32im.proofs.SequenceLemmas.{lower_within, one_in_range}
use Rattle.patch_code.specs.Jobs.{fences}
use Rattle.patch_code.specs.Parts.{Part, SwitchPlan, minus_imm, twin_of, twin_in, kept_of, leave_part, enter_part, first_parts, guarded, kept_code, part_code}
use Rattle.patch_code.specs.Switching.{begins, ends, routine}
use Rattle.patch_code.specs.Checking.{saved_registers, saves, restores, tests, calls, checking}
use Rattle.patch_code.specs.SwitchPlans.{RoutineInRange, CheckingInRange}

minus_within : (n : ℕ) → n < 2048 → IsWithin 2048 (minus_imm n)
minus_within zero small = omega arith
minus_within (suc n) small = omega (arith, small)

over_within : (n : ℕ) → 4 + 4 * n < 1048576 → IsEvenWithin 1048576 (pos (4 + 4 * n))
over_within n short = (short, grind (arith, ints, nat_tests))

guarded_range : (kind : BranchKind) (tested n : ℕ) (body : List Instr) → tested < 32 → n < 2048 → 4 + 4 * length body < 1048576 → All IsInRange body → All IsInRange (guarded kind tested n body)
guarded_range kind tested n body fits small short all =
    All-cons IsInRange (OpImm Addi 7 tested (minus_imm n)) (Branch kind 7 0 (pos 8) ∷ Jal 0 (pos (4 + 4 * length body)) ∷ body) (omega arith, fits, minus_within n small)
    (All-cons IsInRange (Branch kind 7 0 (pos 8)) (Jal 0 (pos (4 + 4 * length body)) ∷ body) (omega arith, omega arith, (omega arith, refl))
    (All-cons IsInRange (Jal 0 (pos (4 + 4 * length body))) body (omega arith, over_within (length body) short) all))

-- ---- parts

-- kept instructions, their test, and how many words these are
record KeptRange (code : List Instr) (n : ℕ) : Type 0 where
  range : All IsInRange code
  count : length code < n + 4

abbrev IsSmall : Option ℕ → Type 0
IsSmall None = Unit {0}
IsSmall (Some t) = t < 2048

kept_range : (other : ℕ) (twin : Option ℕ) (body : List Instr) → other < 32 → IsSmall twin → 4 + 4 * length body < 1048576 → All IsInRange body → KeptRange (kept_code (λ (is : List Instr). is) (option_map (λ t. record { tested = other; twin = t; jobs = body }) twin)) (length body)
kept_range other None body fits small short all = record { range = All-nil IsInRange; count = omega arith }
kept_range other (Some twin) body fits small short all =
    record { range = guarded_range Bne other twin body fits small short all; count = omega arith }

twin_small : (w : SwitchPlan (List Instr)) (r : ℕ) → w.regions < 2047 → r < 2048 → IsSmall (twin_in w r)
twin_small w r few small =
    cond_both w.twins (twin_of w.regions r) None IsSmall
    (λ yes. cond_both (r % 2 == 0) (Some (r - 1)) (if nat_lt r w.regions then Some (r + 1) else None) IsSmall (λ even. omega (arith, small))
    (λ odd. cond_both (nat_lt r w.regions) (Some (r + 1)) None IsSmall
    (λ less. let below : r < w.regions = grind (arith, nat_tests, less) in omega (arith, below, few)) (λ more. tt)))
    (λ not_so. tt)

front_of : (xs ys : List Instr) → All IsInRange (xs ++ ys) → All IsInRange xs
front_of [] ys all = All-nil IsInRange
front_of (x ∷ xs) ys all = All-cons IsInRange x xs (All-head IsInRange x (xs ++ ys) all) (front_of xs ys (All-tail IsInRange x (xs ++ ys) all))

back_of : (xs ys : List Instr) → All IsInRange (xs ++ ys) → All IsInRange ys
back_of [] ys all = all
back_of (x ∷ xs) ys all = back_of xs ys (All-tail IsInRange x (xs ++ ys) all)

part_range : (w : SwitchPlan (List Instr)) (tested other i : ℕ) (body kept : List Instr) → w.regions < 2047 → i < w.regions → tested < 32 → other < 32 → All IsInRange (body ++ kept) → 16 + 4 * (length body + length kept) < 1048576 → All IsInRange (guarded Beq tested (i + 1) (body ++ kept_code (λ (is : List Instr). is) (kept_of w other (i + 1) kept)))
part_range w tested other i body kept few below fits fit all short =
    let behind = kept_range other (twin_in w (i + 1)) kept fit (twin_small w (i + 1) few (omega (arith, below, few))) (omega (arith, short)) (back_of body kept all) in
    let more = behind.count in
    let both = length-append body (kept_code (λ (is : List Instr). is) (kept_of w other (i + 1) kept)) in
    guarded_range Beq tested (i + 1) (body ++ kept_code (λ (is : List Instr). is) (kept_of w other (i + 1) kept)) fits (omega (arith, below, few))
    (omega (arith, more, both, short))
    (All-append IsInRange body (kept_code (λ (is : List Instr). is) (kept_of w other (i + 1) kept)) (front_of body kept all) behind.range)

parts_range : (part : ℕ → Part (List Instr)) (n : ℕ) → ((i : ℕ) → i < n → All IsInRange (part_code (λ (is : List Instr). is) (part i))) → All IsInRange (flat_map (part_code (λ (is : List Instr). is)) (first_parts part n))
parts_range part zero each = All-nil IsInRange
parts_range part (suc n) each =
    subst (λ code. All IsInRange code) (sym (flat_map-append (part_code (λ (is : List Instr). is)) (first_parts part n) (part n ∷ [])))
    (All-append IsInRange (flat_map (part_code (λ (is : List Instr). is)) (first_parts part n)) (part_code (λ (is : List Instr). is) (part n) ++ [])
    (parts_range part n (λ i below. each i (omega (arith, below))))
    (All-append IsInRange (part_code (λ (is : List Instr). is) (part n)) [] (each n (omega arith)) (All-nil IsInRange)))

-- ---- the routine

begins_range : (base : ℕ) → All IsInRange (begins base)
begins_range base =
    All-cons IsInRange (Lui 5 (upper_half base)) (Load Lw 6 5 (lower_half base) ∷ []) (omega arith, omega arith)
    (one_in_range (Load Lw 6 5 (lower_half base)) (omega arith, omega arith, lower_within base))

ends_range : (base : ℕ) → All IsInRange (ends base)
ends_range base =
    All-cons IsInRange (Lui 5 (upper_half base)) (Store Sw 5 30 (lower_half base) ∷ Jalr 0 29 (pos 0) ∷ []) (omega arith, omega arith)
    (All-cons IsInRange (Store Sw 5 30 (lower_half base)) (Jalr 0 29 (pos 0) ∷ []) (omega arith, omega arith, lower_within base)
    (one_in_range (Jalr 0 29 (pos 0)) (omega arith, omega arith, omega arith)))

fence_range : (fence : Bool) → All IsInRange (fences fence)
fence_range true = one_in_range (FenceI 0) (omega arith, refl, refl)
fence_range false = All-nil IsInRange

pub routine_in_range_so : RoutineInRange
unfolding routine
routine_in_range_so w can =
    All-append IsInRange (begins w.base) (flat_map (part_code (λ (is : List Instr). is)) (first_parts (leave_part w) w.regions ++ first_parts (enter_part w) w.regions) ++ (fences w.fence_i ++ ends w.base)) (begins_range w.base)
    (All-append IsInRange (flat_map (part_code (λ (is : List Instr). is)) (first_parts (leave_part w) w.regions ++ first_parts (enter_part w) w.regions)) (fences w.fence_i ++ ends w.base)
    (subst (λ code. All IsInRange code) (sym (flat_map-append (part_code (λ (is : List Instr). is)) (first_parts (leave_part w) w.regions) (first_parts (enter_part w) w.regions)))
    (All-append IsInRange (flat_map (part_code (λ (is : List Instr). is)) (first_parts (leave_part w) w.regions)) (flat_map (part_code (λ (is : List Instr). is)) (first_parts (enter_part w) w.regions))
    (parts_range (leave_part w) w.regions
    (λ i below. part_range w 6 30 i (w.leave i) (w.kept_leave i) can.few below (omega arith) (omega arith) (can.leave i below) (can.short_leave i below)))
    (parts_range (enter_part w) w.regions
    (λ i below. part_range w 30 6 i (w.enter i) (w.kept_enter i) can.few below (omega arith) (omega arith) (can.enter i below) (can.short_enter i below)))))
    (All-append IsInRange (fences w.fence_i) (ends w.base) (fence_range w.fence_i) (ends_range w.base)))

-- ---- the stub

abbrev AreRegisters : List ℕ → Type 0
AreRegisters [] = Unit {0}
AreRegisters (x ∷ xs) = (x < 32) × AreRegisters xs

saves_range : (t : ℕ) (xs : List ℕ) (at : ℕ) → t < 32 → AreRegisters xs → All IsInRange (saves t xs at)
saves_range t [] at fits all = All-nil IsInRange
saves_range t (x ∷ xs) at fits all =
    All-cons IsInRange (Store Sw t x (lower_half at)) (saves t xs (at + 4)) (fits, all.0, lower_within at) (saves_range t xs (at + 4) fits all.1)

restores_range : (t : ℕ) (xs : List ℕ) (at : ℕ) → t < 32 → AreRegisters xs → All IsInRange (restores t xs at)
restores_range t [] at fits all = All-nil IsInRange
restores_range t (x ∷ xs) at fits all =
    let rd : (if x == t then 0 else x) < 32 = cond_both (x == t) 0 x (λ k. k < 32) (λ same. omega arith) (λ other. all.0) in
    All-cons IsInRange (Load Lw (if x == t then 0 else x) t (lower_half at)) (restores t xs (at + 4)) (rd, fits, lower_within at)
    (restores_range t xs (at + 4) fits all.1)

saved_are : AreRegisters saved_registers
saved_are = (omega arith, (omega arith, (omega arith, (omega arith, (omega arith, (omega arith, (omega arith, tt)))))))

tests_range : (base t r : ℕ) → t < 32 → r < 2048 → All IsInRange (tests base t r)
tests_range base t r fits small =
    All-cons IsInRange (Lui t (upper_half base)) (Load Lw t t (lower_half base) ∷ OpImm Addi t t (minus_imm r) ∷ Branch Beq t 0 (pos 76) ∷ []) (fits, omega arith)
    (All-cons IsInRange (Load Lw t t (lower_half base)) (OpImm Addi t t (minus_imm r) ∷ Branch Beq t 0 (pos 76) ∷ []) (fits, fits, lower_within base)
    (All-cons IsInRange (OpImm Addi t t (minus_imm r)) (Branch Beq t 0 (pos 76) ∷ []) (fits, fits, minus_within r small)
    (one_in_range (Branch Beq t 0 (pos 76)) (fits, omega arith, (omega arith, refl)))))

pub checking_in_range_so : CheckingInRange
unfolding checking
checking_in_range_so base t r at switch fits small reach =
    All-append IsInRange (tests base t r) (Lui t (upper_half base) ∷ saves t saved_registers (base + 4) ++ (calls r (at + 52) switch ++ (Lui t (upper_half base) ∷ restores t saved_registers (base + 4))))
    (tests_range base t r fits small)
    (All-cons IsInRange (Lui t (upper_half base)) (saves t saved_registers (base + 4) ++ (calls r (at + 52) switch ++ (Lui t (upper_half base) ∷ restores t saved_registers (base + 4)))) (fits, omega arith)
    (All-append IsInRange (saves t saved_registers (base + 4)) (calls r (at + 52) switch ++ (Lui t (upper_half base) ∷ restores t saved_registers (base + 4))) (saves_range t saved_registers (base + 4) fits saved_are)
    (All-append IsInRange (calls r (at + 52) switch) (Lui t (upper_half base) ∷ restores t saved_registers (base + 4))
    (All-cons IsInRange (OpImm Addi 30 0 (pos r)) (Jal 29 (distance (at + 52) switch) ∷ []) (omega arith, omega arith, small) (one_in_range (Jal 29 (distance (at + 52) switch)) (omega arith, reach)))
    (All-cons IsInRange (Lui t (upper_half base)) (restores t saved_registers (base + 4)) (fits, omega arith) (restores_range t saved_registers (base + 4) fits saved_are)))))

-- Distances in a copy and from a displaced unit, and what of them an instruction holds.
use Rattle.std.proofs.Common.{◌≡◌, ◌∙◌, ℕ, ◌+◌, ◌*◌, ◌%◌, ◌<◌, ◌≤◌, List, [], ◌∷◌, true, false, Bool, ℤ, pos, Result, Ok, Err, refl, sym, ap, subst, arith}
use Rattle.std.specs.Prelude.{◌↔◌, All, IfOk}
use Rattle.std.specs.Bool.{MatchBool}
use Rattle.std.specs.Int.{cast_signed, w32}
use Rattle.rv32im.specs.Words.{minus}
use Rattle.rv32im.specs.declared.instructions.Instr.{Instr}
use Rattle.rv32im.specs.declared.instructions.Instr.TheVariants as instr
use Rattle.rv32im.specs.declared.instructions.BranchKind.{BranchKind}
use Rattle.rv32im.specs.Table.{IsInRange, IsEvenWithin}
use Rattle.rv32im.specs.Sequences.{distance, inverse, MeanAll}
use Rattle.rv32im.proofs.SequenceLemmas.{in_reach, one_in_range}
use Rattle.block_splitter.specs.declared.copy_plan.CopyPlan.{CopyPlan}
use Rattle.block_splitter.specs.declared.unit_kind.UnitKind.{UnitKind}
use Rattle.block_splitter.specs.declared.unit_kind.UnitKind.TheVariants.{Plain, Upper, Branch, Jump, Call, Tail, Indirect, Linking, Halt}
use Rattle.block_splitter.specs.Copies.{Copy, is_inside, words_before, address_of, BranchesInside, JumpsOut, FallsTo, IsBranchCopy, IsJumpCopy, Reaches, ReachesTargets}
use Rattle.block_splitter.specs.Copying.{copy_in, IsPlan, Appends, IsStartOf}
use Rattle.block_splitter.proofs.AppendLemmas.{appends_none}
use Rattle.block_splitter.proofs.CopySizeLemmas.{begins_within}
use Rattle.block_splitter.proofs.LookupLemmas.{at_inside}

-- ---- distances are modulo 2 ^ 32

minus_to : (at to : ℕ) → minus (to % 4294967296) at ≡ minus to at
minus_to at to = omega arith

pub distance_to : (at to : ℕ) → distance at (to % 4294967296) ≡ distance at to
distance_to at to = ap (λ (n : ℕ). cast_signed w32 n) (minus_to at to)

wraps : (at to : ℕ) → Reaches at (to % 4294967296) ↔ Reaches at to
wraps at to = (
  λ r. subst (λ (z : ℤ). IsEvenWithin 1048576 z) (distance_to at to) r,
  λ r. subst (λ (z : ℤ). IsEvenWithin 1048576 z) (sym (distance_to at to)) r,
)

-- what is asked of a displaced unit's jumps home is asked modulo 2 ^ 32
pub next_wraps : (at n : ℕ) (kind : UnitKind) → ReachesTargets at (n % 4294967296) kind ↔ ReachesTargets at n kind
next_wraps at n Plain = wraps (at + 4) n
next_wraps at n (Upper rd value) = wraps (at + 8) n
next_wraps at n (Branch kind rs1 rs2 target) =
    let home = wraps (at + 4) n in (λ r. (home.0 r.0, r.1), λ r. (home.1 r.0, r.1))
next_wraps at n (Jump target) = (λ r. r, λ r. r)
next_wraps at n (Call target back link) = (λ r. r, λ r. r)
next_wraps at n (Tail target register) = (λ r. r, λ r. r)
next_wraps at n Indirect = (λ r. r, λ r. r)
next_wraps at n (Linking back link base imm) = (λ r. r, λ r. r)
next_wraps at n Halt = (λ r. r, λ r. r)

minus_shift : (base at to : ℕ) → minus (base + to) (base + at) ≡ minus to at
minus_shift base at to = omega arith

pub distance_shift : (base at to : ℕ) → distance (base + at) (base + to) ≡ distance at to
distance_shift base at to = ap (λ (n : ℕ). cast_signed w32 n) (minus_shift base at to)

-- ---- inside a copy

pub within_copy : (half n m : ℕ) → 4096 ≤ half → half ≤ 1048576 → n < 1024 → m < 1024 → IsEvenWithin half (distance (4 * n) (4 * m))
within_copy half n m least most from to =
    in_reach half (4 * n) (4 * m) most (omega (arith, from)) (omega (arith, to)) (omega (arith, least, to)) (omega (arith, least, from)) (omega arith) (omega arith)

pub start_reached : (p : CopyPlan) (half n address start : ℕ) → IsPlan p → 4096 ≤ half → half ≤ 1048576 → n < 1024 → IsStartOf (copy_in p) address start → IsEvenWithin half (distance (4 * n) start)
start_reached p half n address start plan least most from at =
    subst (λ (to : ℕ). IsEvenWithin half (distance (4 * n) to)) (sym at.there)
    (within_copy half n (words_before (copy_in p) at.block) least most from (begins_within p at.block plan at.is_block.inside))

-- a case of a truth value
if_inside : (b : Bool) (P Q : Type 0) → b ≡ true → P → MatchBool b P Q
if_inside true P Q is p = p
if_inside false P Q is p = cc

if_outside : (b : Bool) (P Q : Type 0) → b ≡ false → Q → MatchBool b P Q
if_outside true P Q is q = cc
if_outside false P Q is q = q

to_start : (x : Copy) (n address start : ℕ) → (at : IsStartOf x address start) → distance (4 * n) start ≡ distance (address_of x n) (address_of x (words_before x at.block))
to_start x n address start at =
    ap (λ (to : ℕ). distance (4 * n) to) at.there ∙ sym (distance_shift x.at (4 * n) (4 * words_before x at.block))

pub branch_reaches : (p : CopyPlan) (n here address start : ℕ) (kind : BranchKind) (rs1 rs2 : ℕ) (i : Instr) → i ≡ instr.Branch kind rs1 rs2 (distance here start) → here ≡ 4 * n → IsPlan p → n < 1024 → rs1 < 32 → rs2 < 32 → IsStartOf (copy_in p) address start
    → All IsInRange (i ∷ [])
branch_reaches p n here address start kind rs1 rs2 i is at plan room first second inside =
    one_in_range i
    (subst IsInRange (sym is)
    (first, second, subst (λ (a : ℕ). IsEvenWithin 4096 (distance a start)) (sym at) (start_reached p 4096 n address start plan (omega arith) (omega arith) room inside)))

pub jump_reaches : (p : CopyPlan) (n here address start : ℕ) (i : Instr) → i ≡ instr.Jal 0 (distance here start) → here ≡ 4 * n → IsPlan p → n < 1024 → IsStartOf (copy_in p) address start
    → All IsInRange (i ∷ [])
jump_reaches p n here address start i is at plan room inside =
    one_in_range i
    (subst IsInRange (sym is)
    (omega arith, subst (λ (a : ℕ). IsEvenWithin 1048576 (distance a start)) (sym at) (start_reached p 1048576 n address start plan (omega arith) (omega arith) room inside)))

leads : (x : Copy) (n here address start : ℕ) (i : ℤ → Instr) (j : Instr) (ws : List ℕ) → j ≡ i (distance here start) → here ≡ 4 * n → IsStartOf x address start → MeanAll ws (j ∷ []) → BranchesInside x (address_of x n) (λ to. i (distance (address_of x n) to)) address ws
leads x n here address start i j ws is at inside means =
    record {
      to = address_of x (words_before x inside.block);
      leads = record { block = inside.block; inside = inside.is_block.inside; begins = inside.is_block.begins; there = refl };
      words = subst (λ (z : ℤ). MeanAll ws (i z ∷ [])) (to_start x n address start inside)
          (subst (λ (a : ℕ). MeanAll ws (i (distance a start) ∷ [])) at (subst (λ (k : Instr). MeanAll ws (k ∷ [])) is means));
    }

pub branch_inside : (p : CopyPlan) (n here address start : ℕ) (kind : BranchKind) (rs1 rs2 : ℕ) (i : Instr) (old new : List ℕ) → i ≡ instr.Branch kind rs1 rs2 (distance here start) → here ≡ 4 * n → IsPlan p → IsStartOf (copy_in p) address start
    → Appends old new (λ ws. MeanAll ws (i ∷ [])) → Appends old new (IsBranchCopy (copy_in p) (address_of (copy_in p) n) kind rs1 rs2 address)
branch_inside p n here address start kind rs1 rs2 i old new is at plan inside step =
    record {
      added = step.added;
      grown = step.grown;
      are = if_inside (is_inside (copy_in p) address) _ _ (at_inside p address inside.block plan inside.is_block)
          (leads (copy_in p) n here address start (λ z. instr.Branch kind rs1 rs2 z) i step.added is at inside step.are);
    }

pub jump_inside : (p : CopyPlan) (n here address start : ℕ) (i : Instr) (old new : List ℕ) → i ≡ instr.Jal 0 (distance here start) → here ≡ 4 * n → IsPlan p → IsStartOf (copy_in p) address start
    → Appends old new (λ ws. MeanAll ws (i ∷ [])) → Appends old new (IsJumpCopy (copy_in p) (address_of (copy_in p) n) address)
jump_inside p n here address start i old new is at plan inside step =
    record {
      added = step.added;
      grown = step.grown;
      are = if_inside (is_inside (copy_in p) address) _ _ (at_inside p address inside.block plan inside.is_block)
          (leads (copy_in p) n here address start (λ z. instr.Jal 0 z) i step.added is at inside step.are);
    }

-- a way out where the copy doesn't have the block
pub branch_outside : (x : Copy) (n address : ℕ) (kind skip : BranchKind) (rs1 rs2 : ℕ) (old new : List ℕ) → is_inside x address ≡ false → skip ≡ inverse kind → Appends old new (JumpsOut x.code (instr.Branch skip rs1 rs2 (pos 12) ∷ []) address 0) → Appends old new (IsBranchCopy x (address_of x n) kind rs1 rs2 address)
branch_outside x n address kind skip rs1 rs2 old new out is step =
    record {
      added = step.added;
      grown = step.grown;
      are = if_outside (is_inside x address) _ _ out
          (subst (λ (k : BranchKind). JumpsOut x.code (instr.Branch k rs1 rs2 (pos 12) ∷ []) address 0 step.added) is step.are);
    }

pub jump_outside : (x : Copy) (n address : ℕ) (old new : List ℕ) → is_inside x address ≡ false → Appends old new (JumpsOut x.code [] address 0) → Appends old new (IsJumpCopy x (address_of x n) address)
jump_outside x n address old new out step =
    record { added = step.added; grown = step.grown; are = if_outside (is_inside x address) _ _ out step.are }

pub falls_outside : (x : Copy) (next : ℕ) (old new : List ℕ) → is_inside x next ≡ false → Appends old new (JumpsOut x.code [] next 0) → Appends old new (FallsTo x next)
falls_outside x next old new out step =
    record { added = step.added; grown = step.grown; are = if_outside (is_inside x next) _ _ out step.are }

pub falls_inside : (x : Copy) (next : ℕ) (old : List ℕ) → is_inside x next ≡ true → Appends old old (FallsTo x next)
falls_inside x next old inside = appends_none old (FallsTo x next) (if_inside (is_inside x next) _ _ inside refl)

-- what holds of each outcome that is no want of memory
pub ok_more : {T E : Type 0} (r : Result T E) (P Q : Type 0) → IfOk r (λ x. P) → (P → Q) → IfOk r (λ x. Q)
ok_more (Ok x) P Q is more = more is
ok_more (Err e) P Q is more = tt

-- Words and the instructions that they mean.
use Rattle.std.proofs.Common.{◌≡◌, ◌+◌, ◌*◌, Bool, true, false, List, [], ◌∷◌, ◌++◌, length, pos, refl, arith}
use Rattle.std.specs.Prelude.{All}
use Rattle.std.specs.List.{flat_map}
use Rattle.std.proofs.lemmas.List.{length-append}
use Rattle.std.proofs.lemmas.List.Elements.{All-nil, All-cons, All-head, All-tail, All-append}
use Rattle.rv32im.specs.declared.instructions.Instr.TheVariants.{Jal, OpImm}
use Rattle.rv32im.specs.declared.instructions.ImmKind.TheVariants.{Addi}
use Rattle.rv32im.specs.Table.{IsInRange}
use Rattle.rv32im.specs.Sequences.{distance}
use Rattle.rv32im.proofs.SequenceLemmas.{jump_in_range, one_in_range}
use Rattle.patch_code.specs.Jobs.{copying, fences}
use Rattle.patch_code.proofs.JobRanges.{all_range, fences_range, jobs_count}
use Rattle.patch_code.specs.Start.{StartPlan, CanStart, clears, before_jump, jump_at, start_stub, start_bytes}
use Rattle.patch_code.specs.PlainStubs.{PlainStub, CanJump, stub_code}

-- ---- the fields of the stub's instructions are in range

clears_range : All IsInRange clears
clears_range =
    All-cons IsInRange (OpImm Addi 5 0 (pos 0)) (OpImm Addi 7 0 (pos 0) ∷ OpImm Addi 28 0 (pos 0) ∷ OpImm Addi 31 0 (pos 0) ∷ []) (omega arith, omega arith, omega arith)
    (All-cons IsInRange (OpImm Addi 7 0 (pos 0)) (OpImm Addi 28 0 (pos 0) ∷ OpImm Addi 31 0 (pos 0) ∷ []) (omega arith, omega arith, omega arith)
    (All-cons IsInRange (OpImm Addi 28 0 (pos 0)) (OpImm Addi 31 0 (pos 0) ∷ []) (omega arith, omega arith, omega arith) (one_in_range (OpImm Addi 31 0 (pos 0)) (omega arith, omega arith, omega arith))))

pub stub_range : (p : StartPlan) → CanStart p → All IsInRange (start_stub p)
stub_range p can =
    All-append IsInRange (before_jump p) (Jal 0 (distance (jump_at p) p.entry) ∷ [])
    (All-append IsInRange (flat_map copying p.jobs) (fences p.fence_i ++ clears) (all_range p.jobs)
    (All-append IsInRange (fences p.fence_i) clears (fences_range p.fence_i) clears_range))
    (one_in_range (Jal 0 (distance (jump_at p) p.entry)) (omega arith, can.reach))

pub jumps_range : (stubs : List PlainStub) → All CanJump stubs → All IsInRange (flat_map stub_code stubs)
jumps_range [] can = All-nil IsInRange
jumps_range (stub ∷ stubs) can =
    let below = (All-head CanJump stub stubs can).below in
    All-append IsInRange (stub_code stub) (flat_map stub_code stubs) (jump_in_range stub.temp stub.to (omega (arith, below)))
    (jumps_range stubs (All-tail CanJump stub stubs can))

-- ---- how many words

ends_count : (fence : Bool) → length (fences fence ++ clears) ≡ length (fences fence) + 4
ends_count true = refl
ends_count false = refl

pub bytes_are : (p : StartPlan) → start_bytes p ≡ 44 * length p.jobs + 4 * length (fences p.fence_i) + 20
bytes_are p =
    let jobs = jobs_count p.jobs in
    let ends = ends_count p.fence_i in
    let before = length-append (flat_map copying p.jobs) (fences p.fence_i ++ clears) in
    let all = length-append (before_jump p) (Jal 0 (distance (jump_at p) p.entry) ∷ []) in
    omega arith

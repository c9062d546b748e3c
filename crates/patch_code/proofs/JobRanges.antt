-- The instructions of jobs: words can mean them, and how many there are.
use Rattle.std.proofs.Common.{◌≡◌, ◌+◌, ◌*◌, Bool, true, false, List, [], ◌∷◌, ◌++◌, length, pos, negsuc, refl, arith}
use Rattle.std.specs.Prelude.{All}
use Rattle.std.specs.List.{flat_map}
use Rattle.std.proofs.lemmas.List.{length-append}
use Rattle.std.proofs.lemmas.List.Elements.{All-nil, All-cons, All-append}
use Rattle.rv32im.specs.declared.instructions.Instr.TheVariants.{Branch, Load, Store, OpImm, FenceI}
use Rattle.rv32im.specs.declared.instructions.BranchKind.TheVariants.{Bne}
use Rattle.rv32im.specs.declared.instructions.LoadKind.TheVariants.{Lw, Lbu}
use Rattle.rv32im.specs.declared.instructions.StoreKind.TheVariants.{Sb, Sw}
use Rattle.rv32im.specs.declared.instructions.ImmKind.TheVariants.{Addi}
use Rattle.rv32im.specs.Table.{IsInRange}
use Rattle.rv32im.specs.Sequences.{load_immediate}
use Rattle.rv32im.proofs.SequenceLemmas.{immediate_in_range, one_in_range}
use Rattle.patch_code.specs.declared.job.CopyJob.{CopyJob}
use Rattle.patch_code.specs.Jobs.{copies_words, turn, copying, fences}

-- ---- fields are in range

turn_range : (words : Bool) → All IsInRange (turn words)
turn_range true =
    All-cons IsInRange (Load Lw 31 5 (pos 0)) (Store Sw 7 31 (pos 0) ∷ OpImm Addi 5 5 (pos 4) ∷ OpImm Addi 7 7 (pos 4) ∷ Branch Bne 5 28 (negsuc 15) ∷ []) (omega arith, omega arith, omega arith)
    (All-cons IsInRange (Store Sw 7 31 (pos 0)) (OpImm Addi 5 5 (pos 4) ∷ OpImm Addi 7 7 (pos 4) ∷ Branch Bne 5 28 (negsuc 15) ∷ []) (omega arith, omega arith, omega arith)
    (All-cons IsInRange (OpImm Addi 5 5 (pos 4)) (OpImm Addi 7 7 (pos 4) ∷ Branch Bne 5 28 (negsuc 15) ∷ []) (omega arith, omega arith, omega arith)
    (All-cons IsInRange (OpImm Addi 7 7 (pos 4)) (Branch Bne 5 28 (negsuc 15) ∷ []) (omega arith, omega arith, omega arith) (one_in_range (Branch Bne 5 28 (negsuc 15)) (omega arith, omega arith, (omega arith, refl))))))
turn_range false =
    All-cons IsInRange (Load Lbu 31 5 (pos 0)) (Store Sb 7 31 (pos 0) ∷ OpImm Addi 5 5 (pos 1) ∷ OpImm Addi 7 7 (pos 1) ∷ Branch Bne 5 28 (negsuc 15) ∷ []) (omega arith, omega arith, omega arith)
    (All-cons IsInRange (Store Sb 7 31 (pos 0)) (OpImm Addi 5 5 (pos 1) ∷ OpImm Addi 7 7 (pos 1) ∷ Branch Bne 5 28 (negsuc 15) ∷ []) (omega arith, omega arith, omega arith)
    (All-cons IsInRange (OpImm Addi 5 5 (pos 1)) (OpImm Addi 7 7 (pos 1) ∷ Branch Bne 5 28 (negsuc 15) ∷ []) (omega arith, omega arith, omega arith)
    (All-cons IsInRange (OpImm Addi 7 7 (pos 1)) (Branch Bne 5 28 (negsuc 15) ∷ []) (omega arith, omega arith, omega arith) (one_in_range (Branch Bne 5 28 (negsuc 15)) (omega arith, omega arith, (omega arith, refl))))))

pub copying_range : (job : CopyJob) → All IsInRange (copying job)
unfolding copying
copying_range job =
    All-append IsInRange (load_immediate 5 job.from) (load_immediate 7 job.to ++ (load_immediate 28 (job.from + job.bytes) ++ turn (copies_words job)))
    (immediate_in_range 5 job.from (omega arith))
    (All-append IsInRange (load_immediate 7 job.to) (load_immediate 28 (job.from + job.bytes) ++ turn (copies_words job)) (immediate_in_range 7 job.to (omega arith))
    (All-append IsInRange (load_immediate 28 (job.from + job.bytes)) (turn (copies_words job)) (immediate_in_range 28 (job.from + job.bytes) (omega arith))
    (turn_range (copies_words job))))

pub all_range : (jobs : List CopyJob) → All IsInRange (flat_map copying jobs)
all_range [] = All-nil IsInRange
all_range (job ∷ jobs) = All-append IsInRange (copying job) (flat_map copying jobs) (copying_range job) (all_range jobs)

pub fences_range : (fence : Bool) → All IsInRange (fences fence)
fences_range true = one_in_range (FenceI 0) (omega arith, refl, refl)
fences_range false = All-nil IsInRange

-- ---- how many words

pub eleven : (job : CopyJob) → length (copying job) ≡ 11
unfolding copying
eleven job = refl

pub jobs_count : (jobs : List CopyJob) → length (flat_map copying jobs) ≡ 11 * length jobs
jobs_count [] = refl
jobs_count (job ∷ jobs) =
    let first = eleven job in
    let both = length-append (copying job) (flat_map copying jobs) in
    let rest = jobs_count jobs in
    omega arith

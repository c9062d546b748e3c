-- The start stub: the jobs in order, a fence where one is asked for, the registers cleared, and a
-- jump to the program's entry. The control words stand before it.
use Rattle.std.specs.Prelude.{◌≡◌, ℕ, ◌+◌, ◌*◌, ◌%◌, ◌<◌, Bool, List, [], ◌∷◌, ◌++◌, length, replicate, pos, All}
use Rattle.std.specs.List.{flat_map}
use Rattle.rv32im.specs.Memory.{put}
use Rattle.rv32im.specs.declared.instructions.Instr.{Instr}
use Rattle.rv32im.specs.declared.instructions.Instr.TheVariants.{Jal, OpImm}
use Rattle.rv32im.specs.declared.instructions.ImmKind.TheVariants.{Addi}
use Rattle.rv32im.specs.Table.{IsEvenWithin}
use Rattle.rv32im.specs.Sequences.{distance, MeanAll}
use Rattle.rv32im.specs.Acts.{Registers}
use Rattle.patch_code.specs.declared.job.CopyJob.{CopyJob}
use Rattle.patch_code.specs.Jobs.{copying, fences, jobs_run, AreDisjoint, IsJob}

-- what a start stub is made of
pub record StartPlan : Type 0 where
  -- where the control words stand
  pub base : ℕ
  -- the entry of the program
  pub entry : ℕ
  pub fence_i : Bool
  pub jobs : List CopyJob

-- the registers that the jobs used hold 0 again
abbrev pub clears : List Instr
clears =
    OpImm Addi 5 0 (pos 0) ∷ OpImm Addi 7 0 (pos 0) ∷ OpImm Addi 28 0 (pos 0)
    ∷ OpImm Addi 31 0 (pos 0) ∷ []

-- all words before the jump
abbrev pub before_jump : StartPlan → List Instr
before_jump p = flat_map copying p.jobs ++ (fences p.fence_i ++ clears)

-- the stub stands behind sixteen control words, and its jump is its last word
abbrev pub start_at : StartPlan → ℕ
start_at p = p.base + 64

abbrev pub jump_at : StartPlan → ℕ
jump_at p = start_at p + 4 * length (before_jump p)

abbrev pub start_stub : StartPlan → List Instr
start_stub p = before_jump p ++ Jal 0 (distance (jump_at p) p.entry) ∷ []

-- the sixteen control words are 0, and the words behind them mean the stub
abbrev pub AreStartWords : StartPlan → List ℕ → Type 0
AreStartWords p words =
    (stub : List ℕ) × ((words ≡ replicate 16 0 ++ stub) × MeanAll stub (start_stub p))

-- such words, with any words behind them
abbrev pub BeginWithStart : StartPlan → List ℕ → Type 0
BeginWithStart p words =
    (first : List ℕ) × ((rest : List ℕ) × (AreStartWords p first × (words ≡ first ++ rest)))

-- the bytes of the stub
abbrev pub start_bytes : StartPlan → ℕ
start_bytes p = 4 * length (start_stub p)

-- no target meets the control words or the stub
abbrev pub Spares : StartPlan → CopyJob → Type 0
Spares p job = AreDisjoint job.to job.bytes p.base (64 + start_bytes p)

-- the stub can stand there, and its jump reaches the entry
pub record CanStart (p : StartPlan) : Type 0 where
  pub aligned : p.base % 64 ≡ 0
  pub entry : p.entry < 4294967296
  pub jobs : All IsJob p.jobs
  pub spared : All (Spares p) p.jobs
  pub ends : start_at p + start_bytes p < 4294967296
  pub reach : IsEvenWithin 1048576 (distance (jump_at p) p.entry)

-- how many words the stub runs
abbrev pub start_run : StartPlan → ℕ
start_run p = jobs_run p.jobs + (length (fences p.fence_i) + 5)

-- the registers when the program begins
abbrev pub cleared : Registers → Registers
cleared regs = put (put (put (put regs 5 0) 7 0) 28 0) 31 0

-- Copy jobs: the words of one, and what jobs leave in memory.
use Rattle.std.specs.Prelude.{◌≡◌, All, ◌⊎◌, ℕ, ◌+◌, ◌*◌, ◌/◌, ◌%◌, ◌<◌, ◌≤◌, ◌==◌, Bool, true, false, ◌&&◌, List, [], ◌∷◌, ◌++◌, pos, negsuc}
use Rattle.rv32im.specs.Memory.{Memory, bytes_at, put_bytes}
use Rattle.rv32im.specs.declared.instructions.Instr.{Instr}
use Rattle.rv32im.specs.declared.instructions.Instr.TheVariants.{Branch, Load, Store, OpImm, FenceI}
use Rattle.rv32im.specs.declared.instructions.BranchKind.TheVariants.{Bne}
use Rattle.rv32im.specs.declared.instructions.LoadKind.{LoadKind}
use Rattle.rv32im.specs.declared.instructions.LoadKind.TheVariants.{Lw, Lbu}
use Rattle.rv32im.specs.declared.instructions.StoreKind.{StoreKind}
use Rattle.rv32im.specs.declared.instructions.StoreKind.TheVariants.{Sb, Sw}
use Rattle.rv32im.specs.declared.instructions.ImmKind.TheVariants.{Addi}
use Rattle.rv32im.specs.Sequences.{load_immediate}
use Rattle.board_config.specs.declared.board.Range.{Range}
use Rattle.flat_machine.specs.Lines.{AreMapped}
use Rattle.patch_code.specs.declared.job.CopyJob.{CopyJob}

-- whether a job copies words: where both addresses and the number of bytes are multiples of four.
-- Any other job copies single bytes.
abbrev pub copies_words : CopyJob → Bool
copies_words job = (job.from % 4 == 0) && ((job.to % 4 == 0) && (job.bytes % 4 == 0))

-- a unit is a word or a byte: its bytes, and what loads and stores it
abbrev pub unit_bytes : Bool → ℕ
unit_bytes true = 4
unit_bytes false = 1

abbrev pub unit_load : Bool → LoadKind
unit_load true = Lw
unit_load false = Lbu

abbrev pub unit_store : Bool → StoreKind
unit_store true = Sw
unit_store false = Sb

-- one turn: a unit from x5 to x7, by x31; both addresses go on, until x5 is the end in x28
abbrev pub turn : Bool → List Instr
turn words =
    Load (unit_load words) 31 5 (pos 0) ∷ Store (unit_store words) 7 31 (pos 0)
    ∷ OpImm Addi 5 5 (pos (unit_bytes words)) ∷ OpImm Addi 7 7 (pos (unit_bytes words))
    ∷ Branch Bne 5 28 (negsuc 15) ∷ []

-- the words of a job: x5, x7 and x28 get the source, the target and the source's end
unfoldable pub copying : CopyJob → List Instr
copying job =
    load_immediate 5 job.from ++ load_immediate 7 job.to ++ load_immediate 28 (job.from + job.bytes) ++ turn (copies_words job)

-- how often its turn runs, and how many words a job runs
abbrev pub turns : CopyJob → ℕ
turns job = job.bytes / unit_bytes (copies_words job)

abbrev pub job_run : CopyJob → ℕ
job_run job = 6 + 5 * turns job

-- the memory after a job: the target's bytes are those of the source
abbrev pub copied : Memory → CopyJob → Memory
copied mem job = put_bytes mem job.to (bytes_at mem job.from job.bytes)

-- ---- jobs in order

-- how many words they run, and the memory after them
abbrev pub jobs_run : List CopyJob → ℕ
jobs_run [] = 0
jobs_run (job ∷ jobs) = job_run job + jobs_run jobs

abbrev pub all_copied : Memory → List CopyJob → Memory
all_copied mem [] = mem
all_copied mem (job ∷ jobs) = all_copied (copied mem job) jobs

-- FENCE.I behind jobs, where it is asked for, so that copied code is fetched ("Zifencei")
abbrev pub fences : Bool → List Instr
fences true = FenceI 0 ∷ []
fences false = []

-- ---- conditions

-- ranges of `n` and of `m` addresses don't meet
abbrev pub AreDisjoint : ℕ → ℕ → ℕ → ℕ → Type 0
AreDisjoint a n b m = (a + n ≤ b) ⊎ (b + m ≤ a)

-- a job has a byte, and its ranges end below 2 ^ 32 and don't meet
pub record IsJob (job : CopyJob) : Type 0 where
  pub some : 1 ≤ job.bytes
  pub source : job.from + job.bytes < 4294967296
  pub target : job.to + job.bytes < 4294967296
  pub disjoint : AreDisjoint job.from job.bytes job.to job.bytes

-- both ranges of a job are mapped
abbrev pub CanCopy : List Range → CopyJob → Type 0
CanCopy map job = AreMapped map job.from job.bytes × AreMapped map job.to job.bytes

-- an address that a job doesn't write
abbrev pub IsOutside : ℕ → CopyJob → Type 0
IsOutside a job = (a < job.to) ⊎ (job.to + job.bytes ≤ a)

-- what jobs leave, byte by byte: an address outside all targets keeps its byte; and a byte of a
-- target is that of its source, if no job before wrote that, and none behind writes over it
pub record JobsCopy : Type 0 where
  pub elsewhere : (mem : Memory) (jobs : List CopyJob) (a : ℕ) → All (IsOutside a) jobs →
      all_copied mem jobs a ≡ mem a
  pub target : (mem : Memory) (first last : List CopyJob) (job : CopyJob) (i : ℕ) → i < job.bytes →
      All (IsOutside (job.from + i)) first → All (IsOutside (job.to + i)) last →
      all_copied mem (first ++ job ∷ last) (job.to + i) ≡ mem (job.from + i)

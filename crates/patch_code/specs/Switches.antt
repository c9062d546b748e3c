-- What a checking stub and the switch routine do on the flat machine.
use Rattle.std.specs.Prelude.{◌≡◌, ◌⊎◌, ℕ, ◌+◌, ◌*◌, ◌%◌, ◌<◌, ◌≤◌, List, [], ◌∷◌, ◌++◌, length, All}
use Rattle.rv32im.specs.Memory.{Memory, word_at}
use Rattle.rv32im.specs.Acts.{HoldsWords}
use Rattle.rv32im.specs.Sequences.{jump_absolute}
use Rattle.flat_machine.specs.declared.events.FlatAccess.{FlatAccess}
use Rattle.flat_machine.specs.declared.events.FlatEvent.{FlatEvent}
use Rattle.flat_machine.specs.declared.events.FlatOutcome.TheVariants.{GoesOn}
use Rattle.flat_machine.specs.State.{State}
use Rattle.flat_machine.specs.Lines.{AreMapped, CodeAt, with_hart}
use Rattle.patch_code.specs.declared.job.CopyJob.{CopyJob}
use Rattle.patch_code.specs.Jobs.{AreDisjoint, IsJob, all_copied, CanCopy, IsOutside}
use Rattle.patch_code.specs.Parts.{SwitchPlan}
use Rattle.patch_code.specs.Switching.{routine, routine_run, jobs_code, switch_jobs}
use Rattle.patch_code.specs.Checking.{checking, saved_registers, saves_accesses, restores_accesses}
use Rattle.patch_code.specs.Told.{IsFrom, Way, read_at, write_at, jobs_accesses}

-- ---- where they stand

-- a job can be run by code in a range, and meets no control word
pub record FitsJob (base lo size : ℕ) (s : State) (job : CopyJob) : Type 0 where
  pub is : IsJob job
  pub can : CanCopy s.map job
  pub spares : AreDisjoint job.to job.bytes lo size
  pub target : AreDisjoint job.to job.bytes base 64
  pub source : AreDisjoint job.from job.bytes base 64

-- all jobs of a region can
pub record FitsRegion (w : SwitchPlan (List CopyJob)) (lo size : ℕ) (s : State) (i : ℕ) : Type 0 where
  pub leave : All (FitsJob w.base lo size s) (w.leave i)
  pub enter : All (FitsJob w.base lo size s) (w.enter i)
  pub kept_leave : All (FitsJob w.base lo size s) (w.kept_leave i)
  pub kept_enter : All (FitsJob w.base lo size s) (w.kept_enter i)

-- the routine of a plan stands at `switch`, in a range of code behind the control words
pub record HasRoutine (w : SwitchPlan (List CopyJob)) (lo size switch : ℕ) (s : State) : Type 0 where
  pub aligned : w.base % 64 ≡ 0
  pub behind : w.base + 64 ≤ lo
  pub below : lo + size < 4294967296
  pub low : lo ≤ switch
  pub high : switch + 4 * length (routine jobs_code w) ≤ lo + size
  pub few : w.regions < 2048
  pub control : AreMapped s.map w.base 64
  pub jobs : (i : ℕ) → i < w.regions → FitsRegion w lo size s i
  pub code : CodeAt s.map s.hart.mem switch (routine jobs_code w)

-- the machine goes on at a checking stub at `a` in this range; any words in registers and memory
pub record IsAtStub (base lo size switch t r a : ℕ) (s : State) : Type 0 where
  pub going : s.outcome ≡ GoesOn
  pub words : HoldsWords s.hart
  pub pc : s.hart.pc ≡ a
  pub aligned : a % 4 ≡ 0
  pub low : lo ≤ a
  pub high : a + 88 ≤ lo + size
  pub some : t ≡ 0 → ⊥
  pub small : r < 2048
  pub code : CodeAt s.map s.hart.mem a (checking base t r a switch)

-- ---- what they do

-- memory is as these jobs leave it, but for the control words, of which the first is `r`. So nothing changes but these
-- and the jobs' targets, and no code
pub record Switched (base lo size r : ℕ) (jobs : List CopyJob) (old new : Memory) : Type 0 where
  pub current : word_at new base ≡ r
  pub others : (x : ℕ) → (x < base) ⊎ (base + 64 ≤ x) → new x ≡ all_copied old jobs x
  pub elsewhere : (x : ℕ) → (x < base) ⊎ (base + 64 ≤ x) → All (IsOutside x) jobs → new x ≡ old x
  pub code : (x : ℕ) → lo ≤ x → x < lo + size → new x ≡ old x

-- the machine is at `to`, with all registers but `t` as they were, and nothing else but memory changed
pub record CameTo (to t : ℕ) (s n : State) : Type 0 where
  pub pc : n.hart.pc ≡ to
  pub registers : (k : ℕ) → (k ≡ t → ⊥) → n.hart.regs k ≡ s.hart.regs k
  pub rest : n ≡ with_hart s n.hart

-- an event is fetched in the 22 words of a stub at `a`, behind which its body stands, or in the routine
pub record IsFromStub (a switch bytes : ℕ) (event : FlatEvent) : Type 0 where
  pub own : IsFrom a 88 event ⊎ IsFrom switch bytes event

-- a way in a range of code, each word of which is one of the stub's 22 or of the routine
pub record StubWay (lo size a switch bytes n : ℕ) (told : List FlatAccess) (s t : State) : Type 0 where
  pub way : Way lo size n told s t
  pub own : All (IsFromStub a switch bytes) way.events

abbrev pub routine_bytes : SwitchPlan (List CopyJob) → ℕ
routine_bytes w = 4 * length (routine jobs_code w)

-- where the stub's region is current, four words run, which read the control word; the body stands behind 22 words
abbrev pub StubPasses : Type 0
StubPasses =
    (w : SwitchPlan (List CopyJob)) (lo size switch t r a : ℕ) (s : State) → HasRoutine w lo size switch s →
    IsAtStub w.base lo size switch t r a s → word_at s.hart.mem w.base ≡ r →
    (n : State)
    × (StubWay lo size a switch (routine_bytes w) 4 (read_at w.base ∷ []) s n
    × (CameTo (a + 88) t s n × (n.hart.mem ≡ s.hart.mem)))

-- the accesses of a switch: the stub's test, its saves, those of the routine, and the words that are loaded again
abbrev pub switch_accesses : SwitchPlan (List CopyJob) → ℕ → ℕ → List FlatAccess
switch_accesses w s r =
    read_at w.base ∷ saves_accesses saved_registers (w.base + 4)
    ++ (read_at w.base ∷ jobs_accesses (switch_jobs w s r)
    ++ (write_at w.base ∷ restores_accesses saved_registers (w.base + 4)))

-- where another is, the switch from that one to the stub's is made
abbrev pub StubSwitches : Type 0
StubSwitches =
    (w : SwitchPlan (List CopyJob)) (lo size switch t r a : ℕ) (s : State) → HasRoutine w lo size switch s →
    IsAtStub w.base lo size switch t r a s → (word_at s.hart.mem w.base ≡ r → ⊥) →
    (n : State)
    × (StubWay lo size a switch (routine_bytes w) (22 + routine_run w (word_at s.hart.mem w.base) r)
    (switch_accesses w (word_at s.hart.mem w.base) r) s n
    × (CameTo (a + 88) t s n × Switched w.base lo size r (switch_jobs w (word_at s.hart.mem w.base) r) s.hart.mem n.hart.mem))

-- a body that jumps runs two words without an access
abbrev pub BodyJumps : Type 0
BodyJumps =
    (lo size t to at : ℕ) (s : State) → lo + size < 4294967296 → s.outcome ≡ GoesOn → s.hart.pc ≡ at → lo ≤ at → at + 8 ≤ lo + size →
    (t ≡ 0 → ⊥) → to < 4294967296 → to % 2 ≡ 0 → CodeAt s.map s.hart.mem at (jump_absolute t to) →
    (n : State) × (Way lo size 2 [] s n × (CameTo to t s n × (n.hart.mem ≡ s.hart.mem)))

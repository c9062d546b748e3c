-- Where the parts of the code of a patch range stand in memory, and how stubs with a region come from a pad to their body.
use Rattle.std.specs.Prelude.{◌≡◌, ℕ, ◌+◌, ◌*◌, ◌%◌, ◌<◌, ◌≤◌, List, [], ◌∷◌, length, slice_index, All, Contains}
use Rattle.rv32im.specs.Memory.{Memory, word_at}
use Rattle.rv32im.specs.declared.instructions.Instr.TheVariants.{Jal}
use Rattle.rv32im.specs.Acts.{HoldsWords}
use Rattle.rv32im.specs.Sequences.{MeanAll, distance}
use Rattle.flat_machine.specs.declared.events.FlatAccess.{FlatAccess}
use Rattle.flat_machine.specs.declared.events.FlatEvent.{FlatEvent}
use Rattle.flat_machine.specs.declared.events.FlatOutcome.TheVariants.{GoesOn}
use Rattle.flat_machine.specs.State.{State}
use Rattle.flat_machine.specs.Lines.{AreMapped, HoldsAt, Fetches, Ran, went}
use Rattle.patch_code.specs.declared.job.CopyJob.{CopyJob}
use Rattle.patch_code.specs.Jobs.{CanCopy}
use Rattle.patch_code.specs.Told.{Way, read_at}
use Rattle.patch_code.specs.Switching.{routine_run, switch_jobs}
use Rattle.patch_code.specs.Switches.{IsFromStub, CameTo, Switched, switch_accesses}
use Rattle.patch_code.specs.Start.{start_at, start_bytes}
use Rattle.patch_code.specs.StubLaws.{ImagesStand}
use Rattle.patch_code.specs.Serving.{ServingStub, serving_size, IsBody, AreStubWords}
use Rattle.patch_code.specs.Overlay.{OverlayPlan, switching, switch_code, switch_bytes, switch_at, serving_at, serving_place, overlay_images_at, rest_bytes, CanHold, AreOverlayWords}

-- ---- places

-- the words of the code stand in memory. The control words, which are the first sixteen, may be any
abbrev pub HoldsCode : Memory → ℕ → List ℕ → Type 0
HoldsCode mem base words =
    (k : ℕ) → 16 ≤ k → k < length words → word_at mem (base + 4 * k) ≡ slice_index words k

-- words of a stub stand at its place
abbrev pub ServingStands : OverlayPlan → Memory → ServingStub → Type 0
ServingStands p mem stub =
    (words : List ℕ)
    × (AreStubWords p.start.base (switch_at p) (serving_place p stub) stub words × HoldsAt mem (serving_place p stub) words)

-- which is that of a word, between the start stub and the routine
pub record IsServedInside (p : OverlayPlan) (stub : ServingStub) : Type 0 where
  pub aligned : serving_place p stub % 4 ≡ 0
  pub from : serving_at p ≤ serving_place p stub
  pub ends : serving_place p stub + serving_size stub ≤ switch_at p

-- where the words of a plan stand in memory, each stub, the routine and each image stand at their places. There are as
-- many words as the parts take
pub record OverlayStands : Type 0 where
  pub stubs : (p : OverlayPlan) (words : List ℕ) (mem : Memory) → AreOverlayWords p words → HoldsCode mem p.start.base words →
      All (ServingStands p mem) p.stubs
  pub switch : (p : OverlayPlan) (words : List ℕ) (mem : Memory) → AreOverlayWords p words → HoldsCode mem p.start.base words →
      (switch : List ℕ) × (MeanAll switch (switch_code p) × HoldsAt mem (switch_at p) switch)
  pub images : (p : OverlayPlan) (words : List ℕ) (mem : Memory) → AreOverlayWords p words →
      HoldsCode mem p.start.base words → ImagesStand mem (overlay_images_at p) p.images
  pub inside : (p : OverlayPlan) → p.start.base % 4 ≡ 0 → All (IsServedInside p) p.stubs
  pub count : (p : OverlayPlan) (words : List ℕ) → AreOverlayWords p words →
      4 * length words ≡ 64 + start_bytes p.start + rest_bytes p

-- ---- from a pad to a body

-- the code of a plan stands in mapped memory, and so do both ranges of each job of a region
pub record HasCode (p : OverlayPlan) (words : List ℕ) (s : State) : Type 0 where
  pub can : CanHold p
  pub are : AreOverlayWords p words
  pub stands : HoldsCode s.hart.mem p.start.base words
  pub mapped : AreMapped s.map p.start.base (4 * length words)
  pub leave : (i : ℕ) → i < p.regions → All (CanCopy s.map) (p.leave i)
  pub enter : (i : ℕ) → i < p.regions → All (CanCopy s.map) (p.enter i)
  pub kept_leave : (i : ℕ) → i < p.regions → All (CanCopy s.map) (p.kept_leave i)
  pub kept_enter : (i : ℕ) → i < p.regions → All (CanCopy s.map) (p.kept_enter i)

-- the machine goes on at the home of one of the plan's stubs, which has a region. The pad there is a jump to the stub.
-- Registers hold any words, and memory any bytes
pub record IsAtPad (p : OverlayPlan) (stub : ServingStub) (s : State) : Type 0 where
  pub listed : Contains p.stubs stub
  pub checked : stub.region ≡ 0 → ⊥
  pub going : s.outcome ≡ GoesOn
  pub words : HoldsWords s.hart
  pub home : stub.home < 4294967296
  pub pc : s.hart.pc ≡ stub.home
  pub pad : Fetches s.map s.hart.mem stub.home (Jal 0 (distance stub.home (serving_place p stub)))

abbrev pub body_at : OverlayPlan → ServingStub → ℕ
body_at p stub = serving_place p stub + 88

-- an event is fetched in a stub's own words before its body, or in the routine
abbrev pub IsFromStubOf : OverlayPlan → ServingStub → FlatEvent → Type 0
IsFromStubOf p stub = IsFromStub (serving_place p stub) (switch_at p) (switch_bytes p)

-- the pad leads to the stub. From there `n` words of the code run, with these accesses, each of the stub before its body or of
-- the routine; and control is at the stub's body, which stands there. All registers but the stub's own are as they were
pub record CameToBody (p : OverlayPlan) (stub : ServingStub) (n : ℕ) (told : List FlatAccess) (s t : State) : Type 0 where
  pub pad : Ran s (stub.home ∷ []) s.hart.regs (serving_place p stub)
  pub way : Way (start_at p.start) (start_bytes p.start + rest_bytes p) n told (went s s.hart.regs (serving_place p stub)) t
  pub own : All (IsFromStubOf p stub) way.events
  pub came : CameTo (body_at p stub) stub.temp s t
  pub body : (words : List ℕ) × (IsBody stub.temp stub.body words × HoldsAt t.hart.mem (body_at p stub) words)

-- the jobs and the accesses of a switch from the region that is current to that of a stub
abbrev pub jobs_from : OverlayPlan → ServingStub → State → List CopyJob
jobs_from p stub s = switch_jobs (switching p) (word_at s.hart.mem p.start.base) stub.region

abbrev pub accesses_from : OverlayPlan → ServingStub → State → List FlatAccess
accesses_from p stub s = switch_accesses (switching p) (word_at s.hart.mem p.start.base) stub.region

abbrev pub run_from : OverlayPlan → ServingStub → State → ℕ
run_from p stub s = 22 + routine_run (switching p) (word_at s.hart.mem p.start.base) stub.region

-- where the stub's region is current, four words run and nothing else changes. Where another is, the switch to the stub's
-- region is made: memory is as its jobs leave it, but for the control words
pub record PadsLead : Type 0 where
  pub passes : (p : OverlayPlan) (words : List ℕ) (stub : ServingStub) (s : State) → HasCode p words s → IsAtPad p stub s →
      word_at s.hart.mem p.start.base ≡ stub.region →
      (t : State) × (CameToBody p stub 4 (read_at p.start.base ∷ []) s t × (t.hart.mem ≡ s.hart.mem))
  pub switches : (p : OverlayPlan) (words : List ℕ) (stub : ServingStub) (s : State) → HasCode p words s → IsAtPad p stub s →
      (word_at s.hart.mem p.start.base ≡ stub.region → ⊥) →
      (t : State)
      × (CameToBody p stub (run_from p stub s) (accesses_from p stub s) s t
      × Switched p.start.base (start_at p.start) (start_bytes p.start + rest_bytes p) stub.region (jobs_from p stub s) s.hart.mem t.hart.mem)

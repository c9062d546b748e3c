-- The code of the patch range, whole: control words, the start stub, stubs by home address, the switch routine where there
-- are regions, and images one behind the other.
use Rattle.std.specs.Prelude.{◌≡◌, ℕ, zero, suc, ◌+◌, ◌*◌, ◌%◌, ◌<◌, ◌≤◌, ◌==◌, if◌then◌else◌, Bool, List, [], ◌∷◌, ◌++◌, length, All}
use Rattle.std.specs.List.{concat}
use Rattle.rv32im.specs.declared.instructions.Instr.{Instr}
use Rattle.rv32im.specs.Table.{IsEvenWithin}
use Rattle.rv32im.specs.Sequences.{MeanAll, distance}
use Rattle.patch_code.specs.declared.job.CopyJob.{CopyJob}
use Rattle.patch_code.specs.Jobs.{AreDisjoint, IsJob}
use Rattle.patch_code.specs.Parts.{SwitchPlan}
use Rattle.patch_code.specs.Switching.{routine, jobs_code}
use Rattle.patch_code.specs.Start.{StartPlan, CanStart, AreStartWords, start_at, start_bytes}
use Rattle.patch_code.specs.Homes.{HaveHomes, AreOrdered}
use Rattle.patch_code.specs.Serving.{StubBody, jumps_to, runs_words, ServingStub, AreServed, serving_home, serving_size, serving_bytes, served_before}
use Rattle.patch_code.specs.Layout.{image_bytes}

-- what the patch range is to hold. Region i + 1 has number i: its jobs that leave and enter it, and the same for what its
-- twin keeps
pub record OverlayPlan : Type 0 where
  pub start : StartPlan
  pub stubs : List ServingStub
  pub twins : Bool
  pub regions : ℕ
  pub leave : ℕ → List CopyJob
  pub enter : ℕ → List CopyJob
  pub kept_leave : ℕ → List CopyJob
  pub kept_enter : ℕ → List CopyJob
  pub images : List (List ℕ)

-- the routine of its regions. Without a region there is none
abbrev pub switching : OverlayPlan → SwitchPlan (List CopyJob)
switching p =
    record {
      base = p.start.base;
      fence_i = p.start.fence_i;
      twins = p.twins;
      regions = p.regions;
      leave = p.leave;
      enter = p.enter;
      kept_leave = p.kept_leave;
      kept_enter = p.kept_enter;
    }

abbrev pub switch_code : OverlayPlan → List Instr
switch_code p = if p.regions == 0 then [] else routine jobs_code (switching p)

-- ---- places

abbrev pub switch_bytes : OverlayPlan → ℕ
switch_bytes p = 4 * length (switch_code p)

-- the bytes behind the start stub
abbrev pub rest_bytes : OverlayPlan → ℕ
rest_bytes p = serving_bytes p.stubs + switch_bytes p + image_bytes p.images

-- where stubs, the routine and images begin
abbrev pub serving_at : OverlayPlan → ℕ
serving_at p = start_at p.start + start_bytes p.start

abbrev pub switch_at : OverlayPlan → ℕ
switch_at p = serving_at p + serving_bytes p.stubs

abbrev pub overlay_images_at : OverlayPlan → ℕ
overlay_images_at p = switch_at p + switch_bytes p

-- a stub stands behind those of lower homes
abbrev pub serving_place : OverlayPlan → ServingStub → ℕ
serving_place p stub = serving_at p + served_before stub.home p.stubs

-- ---- conditions

-- a jump goes to an address of a word
abbrev pub CanEnd : StubBody → Type 0
CanEnd (jumps_to to) = (to % 4 ≡ 0) × (to < 4294967296)
CanEnd (runs_words words) = Unit {0}

-- the call of a checked stub reaches the routine
abbrev pub Reaches : ℕ → ℕ → ℕ → Type 0
Reaches at switch zero = Unit {0}
Reaches at switch (suc r) = IsEvenWithin 1048576 (distance (at + 52) switch)

-- what a stub needs that stands at an address: it uses a register from x5 on, and has one of the regions or none
pub record CanServeAt (regions switch at : ℕ) (stub : ServingStub) : Type 0 where
  pub above : 5 ≤ stub.temp
  pub below : stub.temp ≤ 31
  pub region : stub.region ≤ regions
  pub body : CanEnd stub.body
  pub reach : Reaches at switch stub.region

-- stubs one behind the other, of which the first stands there
abbrev pub CanServeFrom : ℕ → ℕ → ℕ → List ServingStub → Type 0
CanServeFrom regions switch at [] = Unit {0}
CanServeFrom regions switch at (stub ∷ stubs) =
    CanServeAt regions switch at stub × CanServeFrom regions switch (at + serving_size stub) stubs

abbrev pub CanServe : OverlayPlan → ServingStub → Type 0
CanServe p stub = CanServeAt p.regions (switch_at p) (serving_place p stub) stub

-- no job of the start stub writes the words behind it
abbrev pub SparesWords : OverlayPlan → CopyJob → Type 0
SparesWords p job = AreDisjoint job.to job.bytes (serving_at p) (rest_bytes p)

-- a job of a region writes no word of the code, and no control word; and it reads no control word
pub record CanMove (p : OverlayPlan) (job : CopyJob) : Type 0 where
  pub is : IsJob job
  pub control : AreDisjoint job.to job.bytes p.start.base 64
  pub code : AreDisjoint job.to job.bytes (start_at p.start) (start_bytes p.start + rest_bytes p)
  pub source : AreDisjoint job.from job.bytes p.start.base 64

-- all jobs of a region can be done, and JAL can jump over them
pub record CanChange (p : OverlayPlan) (i : ℕ) : Type 0 where
  pub leave : All (CanMove p) (p.leave i)
  pub enter : All (CanMove p) (p.enter i)
  pub kept_leave : All (CanMove p) (p.kept_leave i)
  pub kept_enter : All (CanMove p) (p.kept_enter i)
  pub short_leave : 16 + 44 * (length (p.leave i) + length (p.kept_leave i)) < 1048576
  pub short_enter : 16 + 44 * (length (p.enter i) + length (p.kept_enter i)) < 1048576

-- all of it can stand there
pub record CanHold (p : OverlayPlan) : Type 0 where
  pub start : CanStart p.start
  pub few : p.regions ≤ 8
  pub stubs : All (CanServe p) p.stubs
  pub apart : HaveHomes serving_home p.stubs
  pub jobs : (i : ℕ) → i < p.regions → CanChange p i
  pub spared : All (SparesWords p) p.start.jobs
  pub ends : serving_at p + rest_bytes p < 4294967296

-- ---- words

-- the words of all parts in their order
pub record AreOverlayWords (p : OverlayPlan) (words : List ℕ) : Type 0 where
  pub first : List ℕ
  pub ordered : List ServingStub
  pub served : List ℕ
  pub switch : List ℕ
  pub whole : words ≡ first ++ (served ++ (switch ++ concat p.images))
  pub starts : AreStartWords p.start first
  pub by_home : AreOrdered ServingStub serving_home p.stubs ordered
  pub serves : AreServed p.start.base (switch_at p) (serving_at p) ordered served
  pub switches : MeanAll switch (switch_code p)

-- Pads that lead to stubs with a region: where these pass or switch, and come to a form of the unit whose home the pad is.
use Rattle.std.specs.Prelude.{◌≡◌, ℕ, ◌+◌, ◌*◌, ◌<◌, ◌≤◌, true, false, List, length, All, Contains}
use Rattle.rv32im.specs.Words.{byte_of}
use Rattle.rv32im.specs.Table.{Means}
use Rattle.rv32im.specs.Sequences.{distance}
use Rattle.rv32im.specs.declared.instructions.Instr.TheVariants.{Jal}
use Rattle.flat_machine.specs.Lines.{AreMapped}
use Rattle.patch_code.specs.Jobs.{CanCopy}
use Rattle.patch_code.specs.Switching.{routine_run, switch_jobs}
use Rattle.patch_code.specs.Serving.{ServingStub}
use Rattle.patch_code.specs.Overlay.{OverlayPlan, switching, serving_place, CanHold, AreOverlayWords}
use Rattle.patch_code.specs.Served.{HoldsCode, body_at}
use Rattle.object_machine.specs.Program.{Program}
use Rattle.object_machine.specs.State.{SourceState}
use Rattle.object_machine.specs.Paired.{Origins}
use Rattle.simulation.specs.Setups.{Setup}
use Rattle.simulation.specs.Units.{StandsAt}
use Rattle.simulation.specs.Ways.{Comes}
use Rattle.simulation.specs.Unwritten.{IsOneByte, HomesStandStill}
use Rattle.result_laws.specs.Serves.{JobsServe}

-- the code of a plan stands still in mapped memory while a region is current, of which the first control word has the
-- number; and both ranges of each job of a region are mapped
pub record PlanStands (plan : OverlayPlan) (words : List ℕ) (l : Setup) (r : ℕ) : Type 0 where
  pub can : CanHold plan
  pub are : AreOverlayWords plan words
  pub mapped : AreMapped l.map plan.start.base (4 * length words)
  pub still : (i : ℕ) → 64 ≤ i → i < 4 * length words → l.is_still r (plan.start.base + i) ≡ true
  pub code : HoldsCode (l.still r) plan.start.base words
  pub small : r < 4294967296
  pub control : (k : ℕ) → k < 4 → l.is_still r (plan.start.base + k) ≡ true
  pub number : (k : ℕ) → k < 4 → l.still r (plan.start.base + k) ≡ byte_of r k
  pub leave : (i : ℕ) → i < plan.regions → All (CanCopy l.map) (plan.leave i)
  pub enter : (i : ℕ) → i < plan.regions → All (CanCopy l.map) (plan.enter i)
  pub kept_leave : (i : ℕ) → i < plan.regions → All (CanCopy l.map) (plan.kept_leave i)
  pub kept_enter : (i : ℕ) → i < plan.regions → All (CanCopy l.map) (plan.kept_enter i)

-- a pad leads to one of the plan's stubs, which has a region
pub record PadStands (plan : OverlayPlan) (l : Setup) (r : ℕ) (stub : ServingStub) : Type 0 where
  pub listed : Contains plan.stubs stub
  pub checked : stub.region ≡ 0 → ⊥
  pub home : stub.home < 4294967296
  pub word : ℕ
  pub stands : StandsAt l r stub.home word
  pub means : Means word (Jal 0 (distance stub.home (serving_place plan stub)))

-- what a switch to another region needs: its jobs bring all bytes, and at most `bound` words run, with the pad
pub record CanSwitch (p : Program) (l : Setup) (plan : OverlayPlan) (first : SourceState) (made : Origins) (bound from to : ℕ) : Type 0 where
  pub serve : JobsServe p l plan.start.base from to (switch_jobs (switching plan) from to)
  pub homes : HomesStandStill p l to first made
  pub known : (o i : ℕ) → p.objects.writable o ≡ false → i < p.objects.size o
      → IsOneByte (l.upper from) (made.cells o i) (first.cells o i)
  pub small : to < 4294967296
  pub few : 23 + routine_run (switching plan) from to ≤ bound

-- While region `r` is current, the unit at `v` is served by a stub, whose pad is at `c`. Behind the stub's test a way leads to
-- a form of the unit, and the stub's register doesn't matter there. `enters` says that control may enter the stub's region at
-- this unit
pub record IsServed (p : Program) (l : Setup) (live : ℕ → ℕ → Type 0) (form : ℕ → ℕ → ℕ → Type 0) (enters : ℕ → ℕ → Type 0) (plan : OverlayPlan) (words : List ℕ) (first : SourceState) (made : Origins) (bound most r v c : ℕ) : Type 0 where
  pub stub : ServingStub
  pub plan_stands : PlanStands plan words l r
  pub pad : PadStands plan l r stub
  pub at : c ≡ stub.home
  pub dead : live v stub.temp → ⊥
  pub comes : Comes l live form most stub.region v (body_at plan stub)
  pub homes : HomesStandStill p l r first made
  pub entered : enters stub.region v
  pub can : (r ≡ stub.region → ⊥) → CanSwitch p l plan first made bound r stub.region
  pub five : 5 ≤ bound

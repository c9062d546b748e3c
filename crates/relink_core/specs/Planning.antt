-- The plan of the patch range that names, places, copies and stubs make.
use Rattle.std.specs.Prelude.{◌≡◌, ℕ, ◌+◌, ◌<◌, Bool, true, false, List, map, length, All, Vec}
use Rattle.std.specs.List.{sum_by}
use Rattle.std.specs.declared.alloc.Global.{Global}
use Rattle.board_config.specs.declared.board.Board.{Board}
use Rattle.patch_code.specs.declared.job.CopyJob.{CopyJob}
use Rattle.patch_code.specs.declared.stub_plan.Stub.{Stub}
use Rattle.patch_code.specs.declared.stub_plan.StubPlan.{StubPlan}
use Rattle.patch_code.specs.Layout.{image_places}
use Rattle.patch_code.specs.Overlay.{switching, overlay_images_at}
use Rattle.patch_code.specs.StubPlans.{serving_stub, jobs_at, HasLists, overlay_plan}
use Rattle.relocator.specs.declared.slots.Slot.{Slot}
use Rattle.result_laws.specs.ChosenJobs.{start_jobs, HasTwins, IsPlanOf}
use Rattle.result_laws.specs.PlacedPieces.{PlacedPiece}
use Rattle.result_laws.specs.PlacedView.{image_in, words_in}
use Rattle.relink_core.specs.declared.items.Phase.TheVariants.{Start}
use Rattle.relink_core.specs.declared.items.PlannedItems.{PlannedItems}
use Rattle.relink_core.specs.Counting.{most_bytes}
use Rattle.relink_core.specs.Naming.{placed_pieces, images_of, copied_words, copied_bytes, AreSlotted, phase_entering, phase_leaving, overlay_phase}

-- ---- lists of jobs by region

-- `n` lists, of which number i is that of region i + 1
pub record AreLists (jobs : ℕ → List CopyJob) (n : ℕ) (lists : List (Vec CopyJob Global)) : Type 0 where
  pub many : length lists ≡ n
  pub each : (i : ℕ) → i < n → jobs_at lists i ≡ jobs i

-- of what is overlaid, or kept
abbrev pub lists_entering : Bool → PlannedItems → List ℕ → ℕ → List CopyJob
lists_entering kept items images i = phase_entering (overlay_phase kept (i + 1)) items images

abbrev pub lists_leaving : Bool → PlannedItems → ℕ → List CopyJob
lists_leaving kept items i = phase_leaving (overlay_phase kept (i + 1)) items

-- ---- plans whose images stand anywhere

pub record HasJobs (entry : ℕ) (board : Board) (items : PlannedItems) (stubs : List Stub) (images : List ℕ) (plan : StubPlan) : Type 0 where
  pub start : (overlay_plan plan).start ≡ record { base = board.patch.base; entry = entry; fence_i = board.fence_i; jobs = phase_entering Start items images }
  pub twins : plan.twins ≡ board.twins
  pub stubs_are : plan.stubs.items ≡ stubs
  pub count : plan.regions ≡ items.regions
  pub leave : AreLists (lists_leaving false items) items.regions plan.leave.items
  pub enter : AreLists (lists_entering false items images) items.regions plan.enter.items
  pub kept_leave : AreLists (lists_leaving true items) items.regions plan.kept_leave.items
  pub kept_enter : AreLists (lists_entering true items images) items.regions plan.kept_enter.items
  pub words : (overlay_plan plan).images ≡ map copied_words items.copies.now

-- ---- the plan

-- the pieces of the copies, whose images stand where the plan has them
abbrev pub pieces_in : PlannedItems → StubPlan → List PlacedPiece
pieces_in items plan = placed_pieces (overlay_images_at (overlay_plan plan)) items.copies.now

-- slots with these names and places, as they are in a choice
pub record IsChosen (board : Board) (items : PlannedItems) (slots : List Slot) : Type 0 where
  pub slotted : AreSlotted items slots
  pub kept : All (λ s. HasTwins board.twins s.name) slots

-- the most bytes that it may take
abbrev pub plan_bytes : Board → PlannedItems → List Stub → ℕ
plan_bytes board items stubs =
    most_bytes board items.graph.now items.regions items.names.now (map serving_stub stubs) (sum_by copied_bytes items.copies.now)

-- it has the jobs of the choice, these stubs, and the images of the copies
pub record IsPlanMade (entry : ℕ) (board : Board) (items : PlannedItems) (slots : List Slot) (stubs : List Stub) (plan : StubPlan) : Type 0 where
  pub lists : HasLists plan
  pub start : (overlay_plan plan).start ≡ record { base = board.patch.base; entry = entry; fence_i = board.fence_i; jobs = start_jobs items.graph.now (images_of (pieces_in items plan)) slots }
  pub jobs : IsPlanOf items.graph.now (images_of (pieces_in items plan)) slots items.regions (switching (overlay_plan plan))
  pub twins : plan.twins ≡ board.twins
  pub stubs_are : plan.stubs.items ≡ stubs
  pub images : (overlay_plan plan).images ≡ map words_in (pieces_in items plan)
  pub places : map image_in (pieces_in items plan) ≡ image_places (overlay_images_at (overlay_plan plan)) (overlay_plan plan).images

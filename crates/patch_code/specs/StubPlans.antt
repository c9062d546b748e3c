-- The plan and the code of stubs as the definitions see them.
use Rattle.std.specs.Prelude.{◌≡◌, ℕ, ◌-◌, ◌%◌, ◌==◌, nat_lt, Bool, ◌&&◌, ◌||◌, List, [], map, length, slice_index_or, Vec, All}
use Rattle.std.specs.declared.alloc.Global.{Global}
use Rattle.std.specs.Borrow.{Bor}
use Rattle.patch_code.specs.declared.job.CopyJob.{CopyJob}
use Rattle.patch_code.specs.declared.stub_plan.Body.{Body}
use Rattle.patch_code.specs.declared.stub_plan.Body.TheVariants.{Jump, Words}
use Rattle.patch_code.specs.declared.stub_plan.Stub.{Stub}
use Rattle.patch_code.specs.declared.stub_plan.StubPlan.{StubPlan}
use Rattle.patch_code.specs.declared.stub_plan.StubCode.{StubCode}
use Rattle.patch_code.specs.declared.stub_plan.StubSizes.{StubSizes}
use Rattle.patch_code.specs.Start.{StartPlan, start_at, start_bytes}
use Rattle.patch_code.specs.PlainStubs.{PlainStub}
use Rattle.patch_code.specs.Serving.{StubBody, jumps_to, runs_words, ServingStub, serving_bytes}
use Rattle.patch_code.specs.Layout.{CodePlan, images_at, stub_place, image_places, image_bytes, AreCodeWords}
use Rattle.patch_code.specs.Overlay.{OverlayPlan, AreOverlayWords, serving_place, overlay_images_at, switch_bytes}

-- the start stub that a plan asks for
abbrev pub start_of : StubPlan → StartPlan
start_of plan =
    record { base = plan.base; entry = plan.entry; fence_i = plan.fence_i; jobs = plan.start.items }

-- a stub of no region, whose body is a jump
abbrev pub Jumps : Body → Type 0
Jumps (Jump to) = Unit {0}
Jumps (Words words) = ⊥

pub record IsPlain (stub : Stub) : Type 0 where
  pub region : stub.region ≡ 0
  pub jumps : Jumps stub.body

-- where it goes. A stub that runs words goes nowhere
abbrev pub jump_of : Body → ℕ
jump_of (Jump to) = to
jump_of (Words words) = 0

abbrev pub plain_stub : Stub → PlainStub
plain_stub stub = record { home = stub.home; temp = stub.temp; to = jump_of stub.body }

-- the words of an image
abbrev pub words_of : Vec ℕ Global → List ℕ
words_of image = image.items

-- a plan without regions, all of whose stubs are plain
pub record IsPlainPlan (plan : StubPlan) : Type 0 where
  pub stubs : All IsPlain plan.stubs.items
  pub regions : plan.regions ≡ 0
  pub leave : plan.leave.items ≡ []
  pub enter : plan.enter.items ≡ []
  pub kept_leave : plan.kept_leave.items ≡ []
  pub kept_enter : plan.kept_enter.items ≡ []

-- what such a plan asks for
abbrev pub code_plan : StubPlan → CodePlan
code_plan plan =
    record {
      start = start_of plan;
      stubs = map plain_stub plan.stubs.items;
      images = map words_of plan.images.items;
    }

-- a code: words that a plan asks for, and where the start stub, the stubs and the images stand, in the plan's order
pub record HasParts (asked : List ℕ → Type 0) (first : ℕ) (places images : List ℕ) (code : StubCode) : Type 0 where
  pub words : asked code.words.items
  pub start : code.start ≡ first
  pub stub_at : code.stub_at.items ≡ places
  pub image_at : code.image_at.items ≡ images

-- its code: all words, and where the parts stand
abbrev pub IsStubCode : CodePlan → StubCode → Type 0
IsStubCode p code =
    HasParts (AreCodeWords p) (start_at p.start) (map (stub_place p) p.stubs) (image_places (images_at p) p.images) code

-- ---- whole plans

abbrev pub body_of : Body → StubBody
body_of (Jump to) = jumps_to to
body_of (Words words) = runs_words words.items

abbrev pub serving_stub : Stub → ServingStub
serving_stub stub = record { home = stub.home; temp = stub.temp; region = stub.region; body = body_of stub.body }

abbrev pub seen_stub : Bor Stub → ServingStub
seen_stub stub = serving_stub stub.now

abbrev pub serving_stubs : List (Bor Stub) → List ServingStub
serving_stubs stubs = map seen_stub stubs

-- the jobs of a region's number
abbrev pub jobs_of : Vec CopyJob Global → List CopyJob
jobs_of jobs = jobs.items

abbrev pub jobs_at : List (Vec CopyJob Global) → ℕ → List CopyJob
jobs_at lists i = slice_index_or (map jobs_of lists) i []

-- each list of lists has one for each region
pub record HasLists (plan : StubPlan) : Type 0 where
  pub leave : length plan.leave.items ≡ plan.regions
  pub enter : length plan.enter.items ≡ plan.regions
  pub kept_leave : length plan.kept_leave.items ≡ plan.regions
  pub kept_enter : length plan.kept_enter.items ≡ plan.regions

abbrev pub overlay_plan : StubPlan → OverlayPlan
overlay_plan plan =
    record {
      start = start_of plan;
      stubs = map serving_stub plan.stubs.items;
      twins = plan.twins;
      regions = plan.regions;
      leave = jobs_at plan.leave.items;
      enter = jobs_at plan.enter.items;
      kept_leave = jobs_at plan.kept_leave.items;
      kept_enter = jobs_at plan.kept_enter.items;
      images = map words_of plan.images.items;
    }

-- whether the region i + 1 has a twin
abbrev pub has_twin : OverlayPlan → ℕ → Bool
has_twin p i = p.twins && ((i % 2 == 1) || nat_lt i (p.regions - 1))

-- its code: all words, and where the parts stand
abbrev pub IsOverlayCode : OverlayPlan → StubCode → Type 0
IsOverlayCode p code =
    HasParts (AreOverlayWords p) (start_at p.start) (map (serving_place p) p.stubs) (image_places (overlay_images_at p) p.images) code

-- and its sizes, in bytes
abbrev pub overlay_sizes : OverlayPlan → StubSizes
overlay_sizes p =
    record {
      start = start_bytes p.start;
      stubs = serving_bytes p.stubs;
      routine = switch_bytes p;
      images = image_bytes p.images;
    }

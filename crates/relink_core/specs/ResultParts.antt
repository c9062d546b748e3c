-- What a result is made of, step by step: the copies, the stubs and the plan of its patch range.
use Rattle.std.specs.Prelude.{◌≡◌, ℕ, ◌+◌, ◌*◌, ◌<◌, if◌then◌else◌, List, length, map}
use Rattle.std.specs.List.{sum_by}
use Rattle.std.specs.List.Sorted.{IsStrictlyIncreasing}
use Rattle.elf_reader.specs.File.{view_in}
use Rattle.board_config.specs.declared.board.Board.{Board}
use Rattle.region_former.specs.declared.table.RegionTable.{RegionTable}
use Rattle.placement_programme.specs.declared.variables.VarName.{VarName}
use Rattle.placement_programme.specs.Plain.{PlainProgramme, PlainChoice}
use Rattle.patch_code.specs.Jobs.{fences}
use Rattle.result_laws.specs.ChosenJobs.{is_static}
use Rattle.patch_code.specs.Serving.{serving_home}
use Rattle.patch_code.specs.Overlay.{serving_place}
use Rattle.patch_code.specs.StubPlans.{serving_stub, HasLists, overlay_plan}
use Rattle.patch_code.specs.declared.stub_plan.Stub.{Stub}
use Rattle.patch_code.specs.declared.stub_plan.StubPlan.{StubPlan}
use Rattle.relocator.specs.Slots.{code_slots}
use Rattle.relocator.specs.Placing.{chosen_slots}
use Rattle.result_laws.specs.ChosenPlacement.{ChosenPlacement, IsChosenPlacement}
use Rattle.result_laws.specs.PlacedView.{IsPlanFor}
use Rattle.relink_core.specs.declared.placed_copy.PlacedCopy.{PlacedCopy}
use Rattle.relink_core.specs.Copies.{ArePlacedCopies}
use Rattle.relink_core.specs.Serving.{IsPlacedWith, served_blocks, AreStubsFrom}
use Rattle.relink_core.specs.StubBlocks.{HasRoomFor, stub_blocks}
use Rattle.relink_core.specs.Chosen.{names_of, IsSourceOf}
use Rattle.relink_core.specs.Placed.{taken_of, IsPlacementFor, MovesBy}
use Rattle.relink_core.specs.Names.{ranges_named}
use Rattle.relink_core.specs.declared.chosen_results.PlacedResult.{PlacedResult}
use Rattle.relink_core.specs.declared.chosen_results.PlannedResult.{PlannedResult}
use Rattle.relink_core.specs.declared.chosen_results.ResultParts.{ResultParts}

-- ---- the source and the copies

-- the parts are of a file, the regions of its code, a programme and a choice
abbrev pub ArePartsOf : List ℕ → RegionTable → PlainProgramme → PlainChoice → ResultParts → Type 0
ArePartsOf file t p choice parts =
    IsSourceOf file parts.board.now parts.view.now parts.source.now parts.regions.now t p choice parts.taken.now

abbrev pub AreParts : ResultParts → Type 0
AreParts parts = (file : List ℕ) × (t : RegionTable) × (p : PlainProgramme) × (choice : PlainChoice) × ArePartsOf file t p choice parts

-- the copies of a choice stand in its slots of code, in order
abbrev pub AreCopiesOf : PlainProgramme → PlainChoice → ResultParts → List PlacedCopy → Type 0
AreCopiesOf p choice parts xs =
    ArePlacedCopies parts.source.now (ranges_named (names_of parts.board.now p choice)) (code_slots (chosen_slots parts.board.now p choice)) xs

abbrev pub HaveCopies : ResultParts → List PlacedCopy → Type 0
HaveCopies parts xs =
    (file : List ℕ) × (t : RegionTable) × (p : PlainProgramme) × (choice : PlainChoice) × ArePartsOf file t p choice parts × AreCopiesOf p choice parts xs

-- ---- stubs

-- how many names stand in the scratchpad throughout; each has a job of the start stub
abbrev pub counts_static : VarName → ℕ
counts_static name = if is_static name then 1 else 0

-- stubs stand behind the start stub
abbrev pub stubs_at : Board → List VarName → ℕ
stubs_at board names =
    board.patch.base + 84 + 4 * length (fences board.fence_i) + 44 * sum_by counts_static names

-- there is room for those of these copies
pub record HaveRoom (parts : ResultParts) (xs : List PlacedCopy) : Type 0 where
  pub limit : ℕ
  pub small : limit < 4294967296
  pub room : HasRoomFor parts.source.now parts.regions.now xs (stubs_at parts.board.now parts.taken.now.names.items) limit
      (stub_blocks parts.source.now.code.now parts.regions.now xs)

-- stubs that serve them, wherever their images stand
abbrev pub ServeCopies : ResultParts → List PlacedCopy → List Stub → Type 0
ServeCopies parts xs stubs =
    (pl : ChosenPlacement) → IsPlacedWith parts.source.now parts.regions.now xs pl
    → AreStubsFrom parts.source.now.code.now parts.source.now.graph.now pl (stubs_at parts.board.now parts.taken.now.names.items)
    (served_blocks parts.source.now.code.now pl) (map serving_stub stubs)

-- ---- the plan

-- a placement of the choice, and a plan of the patch range for it
pub record IsPlanOfParts (file : List ℕ) (t : RegionTable) (p : PlainProgramme) (choice : PlainChoice) (parts : ResultParts) (plan : StubPlan) : Type 0 where
  pub pl : ChosenPlacement
  pub placed : IsPlacementFor t (taken_of p choice) pl
  pub programme : pl.programme ≡ p
  pub choice_is : pl.choice ≡ choice
  pub placement : IsChosenPlacement parts.board.now (view_in file) parts.source.now.graph.now parts.source.now.code.now pl
  pub planned : IsPlanFor (view_in file) parts.board.now parts.source.now.graph.now parts.source.now.code.now pl (overlay_plan plan)
  pub ascending : IsStrictlyIncreasing (map serving_home (overlay_plan plan).stubs)
  pub lists : HasLists plan

-- one whose pieces are these copies
pub record IsPlanWith (file : List ℕ) (t : RegionTable) (p : PlainProgramme) (choice : PlainChoice) (parts : ResultParts) (xs : List PlacedCopy) (plan : StubPlan) : Type 0 where
  pub of : IsPlanOfParts file t p choice parts plan
  pub copied : IsPlacedWith parts.source.now parts.regions.now xs of.pl

-- the copies of a choice, and a plan for them
pub record ArePlanned (file : List ℕ) (t : RegionTable) (p : PlainProgramme) (choice : PlainChoice) (parts : ResultParts) (r : PlannedResult) : Type 0 where
  pub copies : AreCopiesOf p choice parts r.copies.items
  pub plan : IsPlanWith file t p choice parts r.copies.items r.plan

-- ---- the result

-- items stand in the scratchpad in a result, by a plan whose copies and stubs it has
pub record IsPlacedBy (file : List ℕ) (t : RegionTable) (p : PlainProgramme) (choice : PlainChoice) (parts : ResultParts) (r : PlacedResult) : Type 0 where
  pub planned : PlannedResult
  pub are : ArePlanned file t p choice parts planned
  pub moves : MovesBy file parts.board.now parts.source.now.graph.now parts.source.now.code.now t (taken_of p choice) are.plan.of.pl (overlay_plan planned.plan) r.bytes.items
  pub copies : r.copies.items ≡ planned.copies.items
  pub stubs : r.stubs.items ≡ planned.plan.stubs.items
  pub stub_at : r.stub_at.items ≡ map (serving_place (overlay_plan planned.plan)) (overlay_plan planned.plan).stubs

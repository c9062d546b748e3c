-- What a memory must hold so that the code of a plan, and homes that objects have left, stand in the setup of a choice.
use Rattle.std.specs.Prelude.{◌≡◌, ℕ, ◌+◌, ◌*◌, ◌<◌, ◌≤◌, false, List, All}
use Rattle.rv32im.specs.Memory.{Memory}
use Rattle.elf_reader.specs.File.{PlainView, view_in}
use Rattle.elf_reader.specs.Image.{image_of}
use Rattle.board_config.specs.declared.board.Board.{Board}
use Rattle.object_graph.specs.declared.parts.Graph.{Graph}
use Rattle.cell_values.specs.Objects.{object_of}
use Rattle.cell_values.specs.Stands.{Places}
use Rattle.placement_programme.specs.Plain.{PlainProgramme, PlainChoice}
use Rattle.patch_code.specs.Overlay.{OverlayPlan, switching, CanHold, AreOverlayWords}
use Rattle.patch_code.specs.Served.{HoldsCode}
use Rattle.relocator.specs.declared.slots.Slot.{Slot}
use Rattle.relocator.specs.Placing.{placed, chosen_slots}
use Rattle.result_laws.specs.ChosenJobs.{Images, IsPlanOf}
use Rattle.result_laws.specs.JobLaws.{room_left}
use Rattle.result_laws.specs.PatchLaws.{LiesInPatch}
use Rattle.object_machine.specs.Paired.{at_start}
use Rattle.simulation.specs.Unwritten.{HomesStandStill}
use Rattle.result_laws.specs.Pads.{PlanStands, CanSwitch}
use Rattle.result_laws.specs.HomeLaws.{source_start, unnamed_in}
use Rattle.result_laws.specs.Moved.{IsMovedWord, IsOffWord}
use Rattle.result_laws.specs.OverlaySetup.{overlay_setup}
use Rattle.result_laws.specs.SetupLaws.{IsOverlay}

-- A memory has the bytes of a view `w` at the homes of objects that nothing writes. They are those of the file `v`, but for
-- words of data, which hold the addresses of these places
pub record HoldsHomes (v w : PlainView) (g : Graph) (place : Places) (mem : Memory) : Type 0 where
  pub words : All (IsMovedWord w place) g.data_words.items
  pub bytes : (o i : ℕ) → (object_of g o).writable ≡ false → i < (object_of g o).size
      → All (λ d. IsOffWord ((object_of g o).home + i) d.at) g.data_words.items
      → image_of w.segments ((object_of g o).home + i) ≡ image_of v.segments ((object_of g o).home + i)
  pub same : (o i : ℕ) → (object_of g o).writable ≡ false → i < (object_of g o).size
      → mem ((object_of g o).home + i) ≡ image_of w.segments ((object_of g o).home + i)

-- the words of a plan with the jobs of a choice lie in the patch range, where a memory holds them
pub record HoldsPlan (board : Board) (g : Graph) (slots : List Slot) (images : Images) (regions : ℕ) (plan : OverlayPlan) (words : List ℕ) (mem : Memory) : Type 0 where
  pub can : CanHold plan
  pub are : AreOverlayWords plan words
  pub lies : LiesInPatch board.patch plan
  pub jobs : IsPlanOf g images slots regions (switching plan)
  pub code : HoldsCode mem plan.start.base words

-- where an object that nothing writes is elsewhere, its home stands still, as the program has it at its start
abbrev pub HomesOfChoice : Type 0
HomesOfChoice =
    (file out : List ℕ) (board : Board) (g : Graph) (regions : ℕ) (q : PlainProgramme) (c : PlainChoice) (images : Images)
    (mem : Memory) (input : List ℕ) (r : ℕ) → IsOverlay file board g regions q c images
    → HoldsHomes (view_in file) (view_in out) g (placed g (chosen_slots board q c) r) mem
    → HomesStandStill (unnamed_in file board g) (overlay_setup (view_in file) board g (chosen_slots board q c) images mem) r
    (source_start file board g input) at_start

-- the code of the plan stands in each region of the choice
abbrev pub PlanOfChoice : Type 0
PlanOfChoice =
    (file : List ℕ) (board : Board) (g : Graph) (regions : ℕ) (q : PlainProgramme) (c : PlainChoice) (images : Images)
    (mem : Memory) (plan : OverlayPlan) (words : List ℕ) (r : ℕ) → IsOverlay file board g regions q c images
    → HoldsPlan board g (chosen_slots board q c) images regions plan words mem → r ≤ regions
    → PlanStands plan words (overlay_setup (view_in file) board g (chosen_slots board q c) images mem) r

-- A switch to a region that is entered can be made. At most twelve words run for each byte of the scratchpad that the jobs of
-- the start leave, and 83
abbrev pub ChoiceCanSwitch : Type 0
ChoiceCanSwitch =
    (file out : List ℕ) (board : Board) (g : Graph) (regions : ℕ) (q : PlainProgramme) (c : PlainChoice) (images : Images)
    (mem : Memory) (input : List ℕ) (plan : OverlayPlan) (words : List ℕ) (s r : ℕ)
    → IsOverlay file board g regions q c images
    → HoldsPlan board g (chosen_slots board q c) images regions plan words mem
    → HoldsHomes (view_in file) (view_in out) g (placed g (chosen_slots board q c) r) mem
    → s ≤ regions → 1 ≤ r → r ≤ regions → (s ≡ r → ⊥)
    → CanSwitch (unnamed_in file board g) (overlay_setup (view_in file) board g (chosen_slots board q c) images mem) plan
    (source_start file board g input) at_start (12 * room_left board g images (chosen_slots board q c) + 83) s r

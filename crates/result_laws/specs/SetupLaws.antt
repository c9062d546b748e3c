-- What holds of the setup of a choice with overlay.
use Rattle.std.specs.Prelude.{◌≡◌, ℕ, ◌≤◌, List}
use Rattle.rv32im.specs.Memory.{Memory}
use Rattle.elf_reader.specs.File.{view_in}
use Rattle.board_config.specs.declared.board.Board.{Board}
use Rattle.object_graph.specs.declared.parts.Graph.{Graph}
use Rattle.placement_programme.specs.Plain.{PlainProgramme, PlainChoice}
use Rattle.patch_code.specs.declared.job.CopyJob.{CopyJob}
use Rattle.patch_code.specs.Parts.{SwitchPlan}
use Rattle.patch_code.specs.Switching.{switch_jobs}
use Rattle.relocator.specs.Placing.{chosen_slots}
use Rattle.relocator.specs.Laws.{CanLayOut}
use Rattle.result_laws.specs.ChosenJobs.{Images, IsPlanOf}
use Rattle.result_laws.specs.PatchLaws.{LieInPatch}
use Rattle.simulation.specs.Setups.{Sound}
use Rattle.result_laws.specs.Serves.{JobsServe}
use Rattle.result_laws.specs.Chosen.{IsSetupOf}
use Rattle.result_laws.specs.HomeLaws.{IsAccepted, unnamed_in}
use Rattle.result_laws.specs.OverlaySetup.{image_byte, overlay_setup}

-- a choice for an accepted file that can be laid out. Its images lie in the patch range
pub record IsOverlay (file : List ℕ) (board : Board) (g : Graph) (regions : ℕ) (q : PlainProgramme) (c : PlainChoice) (images : Images) : Type 0 where
  pub accepted : IsAccepted file board g
  pub can : CanLayOut g regions board q c
  pub lie : LieInPatch board.patch (chosen_slots board q c) images

-- objects and code stand as the choice puts them, and no switch changes what else stands still
abbrev pub SetupOfChoice : Type 0
SetupOfChoice =
    (file : List ℕ) (board : Board) (g : Graph) (regions : ℕ) (q : PlainProgramme) (c : PlainChoice) (images : Images)
    (mem : Memory) → IsOverlay file board g regions q c images
    → IsSetupOf (unnamed_in file board g) (overlay_setup (view_in file) board g (chosen_slots board q c) images mem)
    board.spm board.patch g (chosen_slots board q c) images (image_byte images mem) regions

-- the setup meets what the simulation asks of one
abbrev pub ChoiceIsSound : Type 0
ChoiceIsSound =
    (file : List ℕ) (board : Board) (g : Graph) (regions : ℕ) (q : PlainProgramme) (c : PlainChoice) (images : Images)
    (mem : Memory) (r : ℕ) → IsOverlay file board g regions q c images
    → Sound (unnamed_in file board g) (overlay_setup (view_in file) board g (chosen_slots board q c) images mem) r

-- in it the jobs of the choice serve in each switch to a region that is entered
abbrev pub JobsOfChoiceServe : Type 0
JobsOfChoiceServe =
    (file : List ℕ) (board : Board) (g : Graph) (regions : ℕ) (q : PlainProgramme) (c : PlainChoice) (images : Images)
    (mem : Memory) (w : SwitchPlan (List CopyJob)) (s r : ℕ) → IsOverlay file board g regions q c images
    → IsPlanOf g images (chosen_slots board q c) regions w → w.base ≡ board.patch.base
    → s ≤ regions → 1 ≤ r → r ≤ regions → (s ≡ r → ⊥)
    → JobsServe (unnamed_in file board g) (overlay_setup (view_in file) board g (chosen_slots board q c) images mem)
    w.base s r (switch_jobs w s r)

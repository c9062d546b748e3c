-- The words in which the lemmas on a placed result speak.
use Rattle.std.proofs.Common.{ℕ, List}
use Rattle.rv32im.specs.Memory.{Memory}
use Rattle.placement_programme.specs.Plain.{PlainProgramme, PlainChoice}
use Rattle.elf_reader.specs.File.{PlainView, view_in}
use Rattle.board_config.specs.declared.board.Board.{Board}
use Rattle.object_graph.specs.declared.parts.Graph.{Graph}
use Rattle.code_blocks.specs.declared.parts.Code.{Code}
use Rattle.object_machine.specs.Program.{Program}
use Rattle.patch_code.specs.Overlay.{OverlayPlan}
use Rattle.relocator.specs.Placing.{chosen_slots}
use Rattle.relocator.specs.declared.slots.Slot.{Slot}
use Rattle.simulation.specs.Setups.{Setup}
use Rattle.result_laws.specs.ChosenJobs.{Images}
use Rattle.result_laws.specs.OverlaySetup.{overlay_setup}
use Rattle.result_laws.specs.HomeLaws.{program_in, unnamed_in}
use Rattle.result_laws.specs.LiveUnits.{live_at}
use Rattle.result_laws.specs.ChosenPlacement.{ChosenPlacement, slots_in, images_in}
use Rattle.result_laws.specs.PlacedLaws.{IsPlacedResult, setup_of}
use Rattle.result_laws.specs.PlacedForms.{IsFormOf, ArrivesAt}

-- the file and its program, where its objects are numbered or not; the result and what it was made from; and at which
-- addresses the flat machine is at a unit, or comes to one
pub record Setting : Type 1 where
  pub v : PlainView
  pub w : PlainView
  pub p : Program
  pub named : Program
  pub l : Setup
  pub live : ℕ → ℕ → Type 0
  pub plan : OverlayPlan
  pub slots : List Slot
  pub images : Images
  pub form : ℕ → ℕ → ℕ → Type 0
  pub comes : ℕ → ℕ → ℕ → Type 0

abbrev pub setting : (file out : List ℕ) (board : Board) (g : Graph) (c : Code) (pl : ChosenPlacement) → IsPlacedResult file out board g c pl → Setting
setting file out board g c pl result =
    record {
      v = view_in file;
      w = view_in out;
      p = unnamed_in file board g;
      named = program_in file board g;
      l = setup_of file out board g pl;
      live = live_at c;
      plan = result.view.plan;
      slots = slots_in board pl;
      images = images_in pl;
      form = IsFormOf c g pl result.view.plan;
      comes = ArrivesAt c g pl result.view.plan;
    }

-- the file, the slots of a choice, and where things stand for it
pub record ChoiceSetting : Type 0 where
  pub v : PlainView
  pub slots : List Slot
  pub l : Setup

abbrev pub choice_setting : (file : List ℕ) (board : Board) (g : Graph) (q : PlainProgramme) (c : PlainChoice) (images : Images) (mem : Memory) → ChoiceSetting
choice_setting file board g q c images mem =
    record {
      v = view_in file;
      slots = chosen_slots board q c;
      l = overlay_setup (view_in file) board g (chosen_slots board q c) images mem;
    }

-- Setups in which objects and code stand where a choice with overlay puts them.
use Rattle.std.specs.Prelude.{◌≡◌, ◌⊎◌, ℕ, ◌+◌, ◌<◌, ◌≤◌, true, false, List}
use Rattle.elf_reader.specs.File.{PlainView}
use Rattle.board_config.specs.declared.board.Board.{Board}
use Rattle.board_config.specs.declared.board.Range.{Range}
use Rattle.object_graph.specs.declared.parts.Graph.{Graph}
use Rattle.cell_values.specs.Objects.{object_of, objects_of}
use Rattle.placement_programme.specs.Plain.{PlainProgramme, PlainChoice}
use Rattle.patch_code.specs.declared.job.CopyJob.{CopyJob}
use Rattle.patch_code.specs.Parts.{SwitchPlan}
use Rattle.patch_code.specs.Switching.{switch_jobs}
use Rattle.relocator.specs.declared.slots.Slot.{Slot}
use Rattle.relocator.specs.Placing.{placed, chosen_slots}
use Rattle.relocator.specs.Laws.{IsPresent, slot_at}
use Rattle.result_laws.specs.ChosenJobs.{Images, code_number}
use Rattle.result_laws.specs.Memories.{IsOfCode}
use Rattle.result_laws.specs.SwitchLaws.{CanSwitch}
use Rattle.result_laws.specs.PatchLaws.{IsOffPatch}
use Rattle.object_machine.specs.Program.{Program}
use Rattle.simulation.specs.Setups.{Setup}
use Rattle.result_laws.specs.Serves.{IsOfNumber, JobsServe}

-- an address is no control word's, lies outside the scratchpad, and in no writable object at home: no switch writes there
pub record IsUntouched (spm patch : Range) (g : Graph) (a : ℕ) : Type 0 where
  pub control : (a < patch.base) ⊎ (patch.base + 64 ≤ a)
  pub scratchpad : (i : ℕ) → i < spm.size → a ≡ spm.base + i → ⊥
  pub homes : (o i : ℕ) → (object_of g o).writable ≡ true → i < (object_of g o).size → (object_of g o).home + i ≡ a → ⊥

-- a byte stands still while a region is current, and is this one
abbrev pub StandsAs : Setup → ℕ → ℕ → ℕ → Type 0
StandsAs l r a byte = (l.is_still r a ≡ true) × (l.still r a ≡ byte)

-- What stands still while a region is current is a byte of its number; or one that no switch writes, which stands still in
-- all regions, as of code and images in the patch range; or one of a copy of code that is present; or it is at the home of
-- an object that nothing writes, while the object is elsewhere.
pub data StandsByChoice (l : Setup) (spm patch : Range) (g : Graph) (slots : List Slot) (images : Images) (regions r : ℕ) : ℕ → Type 0 where
  OfNumber : (a : ℕ) → IsOfNumber l patch.base r a → StandsByChoice l spm patch g slots images regions r a
  Throughout : (a : ℕ) → IsUntouched spm patch g a → ((s : ℕ) → s ≤ regions → StandsAs l s a (l.still r a))
      → StandsByChoice l spm patch g slots images regions r a
  OfCopy : (k i : ℕ) → IsOfCode slots k → IsPresent r (slot_at slots k).name → i < images.bytes (code_number slots k)
      → StandsByChoice l spm patch g slots images regions r ((slot_at slots k).at + i)
  AtHome : (o i : ℕ) → (object_of g o).writable ≡ false → i < (object_of g o).size
      → (placed g slots r o ≡ (object_of g o).home → ⊥)
      → StandsByChoice l spm patch g slots images regions r ((object_of g o).home + i)

-- The objects of a program have the places of a choice, and its code has the images and copies, of which `code` is byte `i`
-- of item `n`. No switch writes fixed memory.
pub record IsSetupOf (p : Program) (l : Setup) (spm patch : Range) (g : Graph) (slots : List Slot) (images : Images) (code : ℕ → ℕ → ℕ) (regions : ℕ) : Type 0 where
  pub objects : p.objects ≡ objects_of g
  pub place : (r o : ℕ) → r ≤ regions → l.place r o ≡ placed g slots r o
  pub fixed : (a : ℕ) → p.is_fixed a ≡ true → IsUntouched spm patch g a
  pub images_stand : (r k i : ℕ) → r ≤ regions → IsOfCode slots k → i < images.bytes (code_number slots k)
      → StandsAs l r (images.at (code_number slots k) + i) (code (code_number slots k) i)
  pub copies : (r k i : ℕ) → r ≤ regions → IsOfCode slots k → IsPresent r (slot_at slots k).name
      → i < images.bytes (code_number slots k) → StandsAs l r ((slot_at slots k).at + i) (code (code_number slots k) i)
  pub still : (r a : ℕ) → r ≤ regions → l.is_still r a ≡ true → StandsByChoice l spm patch g slots images regions r a

-- the jobs of a choice serve in each switch between its regions, where control words stand in the patch range
abbrev pub ChoicesServe : Type 0
ChoicesServe =
    (v : PlainView) (g : Graph) (regions : ℕ) (board : Board) (q : PlainProgramme) (c : PlainChoice) (images : Images)
    (code : ℕ → ℕ → ℕ) (w : SwitchPlan (List CopyJob)) (p : Program) (l : Setup) (s r : ℕ)
    → CanSwitch v g regions board q c images w s r
    → IsOffPatch board.spm board.patch g (chosen_slots board q c) images → w.base ≡ board.patch.base
    → IsSetupOf p l board.spm board.patch g (chosen_slots board q c) images code regions
    → JobsServe p l w.base s r (switch_jobs w s r)

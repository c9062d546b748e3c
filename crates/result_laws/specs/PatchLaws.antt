-- The jobs of a choice can stand in a plan of the patch range: they write none of its words.
use Rattle.std.specs.Prelude.{◌≡◌, ◌⊎◌, ℕ, ◌+◌, ◌<◌, ◌≤◌, Bool, List, All}
use Rattle.elf_reader.specs.File.{PlainView}
use Rattle.board_config.specs.declared.board.Board.{Board}
use Rattle.board_config.specs.declared.board.Range.{Range}
use Rattle.object_graph.specs.declared.parts.Graph.{Graph}
use Rattle.cell_values.specs.Objects.{object_of}
use Rattle.placement_programme.specs.Plain.{PlainProgramme, PlainChoice}
use Rattle.rv32im.specs.Memory.{Memory}
use Rattle.patch_code.specs.declared.job.CopyJob.{CopyJob}
use Rattle.patch_code.specs.Jobs.{IsJob}
use Rattle.patch_code.specs.Parts.{SwitchPlan}
use Rattle.patch_code.specs.Switching.{switch_jobs}
use Rattle.patch_code.specs.Switches.{Switched}
use Rattle.patch_code.specs.Start.{Spares}
use Rattle.patch_code.specs.Overlay.{OverlayPlan, switching, serving_at, rest_bytes, SparesWords, CanChange}
use Rattle.relocator.specs.declared.slots.Slot.{Slot}
use Rattle.relocator.specs.Placing.{placed, chosen_slots}
use Rattle.relocator.specs.Laws.{IsLaidOut, AreObjectsOff, slot_at}
use Rattle.result_laws.specs.ChosenJobs.{Images, code_number, start_jobs, IsPlanOf}
use Rattle.result_laws.specs.Memories.{IsOfCode, AreImages, IsCurrent, is_moved, IsOffSlots, IsOffHomes}
use Rattle.result_laws.specs.SwitchLaws.{CanStart, CanSwitch}
use Rattle.result_laws.specs.JobLaws.{HaveBytes}

-- neither the scratchpad nor an object at home meets the patch range, and images stand behind its control words
pub record IsOffPatch (spm patch : Range) (g : Graph) (slots : List Slot) (images : Images) : Type 0 where
  pub scratchpad : (i j : ℕ) → i < spm.size → j < patch.size → spm.base + i ≡ patch.base + j → ⊥
  pub homes : AreObjectsOff g (λ o. (object_of g o).home) patch.base patch.size
  pub images_behind : (k : ℕ) → IsOfCode slots k → patch.base + 64 ≤ images.at (code_number slots k)

-- images lie in the patch range behind the control words, have bytes, and fit the slots of their copies
pub record LieInPatch (patch : Range) (slots : List Slot) (images : Images) : Type 0 where
  pub some : (k : ℕ) → IsOfCode slots k → 1 ≤ images.bytes (code_number slots k)
  pub fit : (k : ℕ) → IsOfCode slots k → images.bytes (code_number slots k) ≤ (slot_at slots k).span
  pub from : (k : ℕ) → IsOfCode slots k → patch.base + 64 ≤ images.at (code_number slots k)
  pub to : (k : ℕ) → IsOfCode slots k → images.at (code_number slots k) + images.bytes (code_number slots k) ≤ patch.base + patch.size

-- such images are where the laws of jobs ask for them
abbrev pub ImagesLie : Type 0
ImagesLie =
    (v : PlainView) (board : Board) (g : Graph) (slots : List Slot) (images : Images) → IsLaidOut v board g →
    LieInPatch board.patch slots images →
    AreImages board.spm g slots images × HaveBytes slots images × IsOffPatch board.spm board.patch g slots images

-- all that a plan asks for lies in the patch range
pub record LiesInPatch (patch : Range) (p : OverlayPlan) : Type 0 where
  pub base : p.start.base ≡ patch.base
  pub ends : serving_at p + rest_bytes p ≤ patch.base + patch.size

-- all jobs of the plan can be done, write none of its words, and can be jumped over
pub record JobsSpare : Type 0 where
  pub start : (v : PlainView) (g : Graph) (regions : ℕ) (board : Board) (q : PlainProgramme) (c : PlainChoice)
      (images : Images) (p : OverlayPlan) → CanStart v g regions board q c images →
      HaveBytes (chosen_slots board q c) images → IsOffPatch board.spm board.patch g (chosen_slots board q c) images →
      LiesInPatch board.patch p → p.start.jobs ≡ start_jobs g images (chosen_slots board q c) →
      All IsJob p.start.jobs × All (Spares p.start) p.start.jobs × All (SparesWords p) p.start.jobs
  pub regions : (v : PlainView) (g : Graph) (regions : ℕ) (board : Board) (q : PlainProgramme) (c : PlainChoice)
      (images : Images) (p : OverlayPlan) (i : ℕ) → CanStart v g regions board q c images →
      HaveBytes (chosen_slots board q c) images → IsOffPatch board.spm board.patch g (chosen_slots board q c) images →
      LiesInPatch board.patch p → IsPlanOf g images (chosen_slots board q c) regions (switching p) → i < regions →
      CanChange p i

-- ---- behind a switch of the routine

-- each object's bytes are at its place in `r`, which is current. Nothing else changes but the control words
pub record CameIn (base : ℕ) (g : Graph) (slots : List Slot) (images : Images) (code : ℕ → ℕ → ℕ) (twins : Bool) (s r : ℕ) (old new : Memory) : Type 0 where
  pub moved : (o i : ℕ) → i < (object_of g o).size → new (placed g slots r o + i) ≡ old (placed g slots s o + i)
  pub elsewhere : (a : ℕ) → (a < base) ⊎ (base + 64 ≤ a) → IsOffSlots slots (is_moved twins r s) a →
      IsOffHomes g slots (is_moved twins s r) s a → new a ≡ old a
  pub current : IsCurrent g slots images code r new

-- so it is where the switch routine of a plan has run its jobs, whose control words stand in the patch range
abbrev pub RoutineSwitches : Type 0
RoutineSwitches =
    (v : PlainView) (g : Graph) (regions : ℕ) (board : Board) (q : PlainProgramme) (c : PlainChoice) (images : Images)
    (code : ℕ → ℕ → ℕ) (w : SwitchPlan (List CopyJob)) (s r lo size : ℕ) (old new : Memory) →
    CanSwitch v g regions board q c images w s r →
    IsOffPatch board.spm board.patch g (chosen_slots board q c) images → w.base ≡ board.patch.base →
    IsCurrent g (chosen_slots board q c) images code s old → Switched w.base lo size r (switch_jobs w s r) old new →
    CameIn w.base g (chosen_slots board q c) images code w.twins s r old new

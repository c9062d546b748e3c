-- What the jobs of a choice do.
use Rattle.std.specs.Prelude.{◌≡◌, ℕ, ◌+◌, ◌*◌, ◌<◌, ◌≤◌, List, length}
use Rattle.rv32im.specs.Memory.{Memory}
use Rattle.elf_reader.specs.File.{PlainView}
use Rattle.board_config.specs.declared.board.Board.{Board}
use Rattle.object_graph.specs.declared.parts.Graph.{Graph}
use Rattle.placement_programme.specs.Plain.{PlainProgramme, PlainChoice}
use Rattle.flat_machine.specs.Lines.{HoldsAt}
use Rattle.patch_code.specs.declared.job.CopyJob.{CopyJob}
use Rattle.patch_code.specs.Jobs.{all_copied}
use Rattle.patch_code.specs.Parts.{SwitchPlan}
use Rattle.patch_code.specs.Switching.{switch_jobs}
use Rattle.relocator.specs.Placing.{chosen_slots}
use Rattle.relocator.specs.Laws.{CanLayOut, IsLaidOut, IsPresent, slot_at}
use Rattle.result_laws.specs.ChosenJobs.{Images, code_number, start_jobs, IsPlanOf}
use Rattle.result_laws.specs.Memories.{IsOfCode, AreImages, ImagesStand, IsCurrent, IsSwitched, IsStarted}

-- a choice that is laid out, with images
pub record CanStart (v : PlainView) (g : Graph) (regions : ℕ) (board : Board) (p : PlainProgramme) (c : PlainChoice) (images : Images) : Type 0 where
  pub laid : IsLaidOut v board g
  pub can : CanLayOut g regions board p c
  pub fitting : AreImages board.spm g (chosen_slots board p c) images

-- and a plan of its jobs. `s` and `r` are different regions, and `r` is one that is entered
pub record CanSwitch (v : PlainView) (g : Graph) (regions : ℕ) (board : Board) (p : PlainProgramme) (c : PlainChoice) (images : Images) (w : SwitchPlan (List CopyJob)) (s r : ℕ) : Type 0 where
  pub start : CanStart v g regions board p c images
  pub plan : IsPlanOf g images (chosen_slots board p c) regions w
  pub left : s ≤ regions
  pub some : 1 ≤ r
  pub entered : r ≤ regions
  pub other : s ≡ r → ⊥

-- from a memory in which all objects are at home and images stand, the jobs of the start move each object to its first
-- place, and write nothing else. Region 0 is current then
pub record StartMoves : Type 0 where
  pub started : (v : PlainView) (g : Graph) (regions : ℕ) (board : Board) (p : PlainProgramme) (c : PlainChoice)
      (images : Images) (mem : Memory) → CanStart v g regions board p c images →
      IsStarted g (chosen_slots board p c) mem (all_copied mem (start_jobs g images (chosen_slots board p c)))
  pub current : (v : PlainView) (g : Graph) (regions : ℕ) (board : Board) (p : PlainProgramme) (c : PlainChoice)
      (images : Images) (code : ℕ → ℕ → ℕ) (mem : Memory) → CanStart v g regions board p c images →
      ImagesStand (chosen_slots board p c) images code mem →
      IsCurrent g (chosen_slots board p c) images code 0 (all_copied mem (start_jobs g images (chosen_slots board p c)))

-- the jobs of a switch move each object to its place in the region that is entered, and write nothing else. The region is
-- current then
pub record SwitchesMove : Type 0 where
  pub switched : (v : PlainView) (g : Graph) (regions : ℕ) (board : Board) (p : PlainProgramme) (c : PlainChoice)
      (images : Images) (code : ℕ → ℕ → ℕ) (w : SwitchPlan (List CopyJob)) (s r : ℕ) (mem : Memory) →
      CanSwitch v g regions board p c images w s r → IsCurrent g (chosen_slots board p c) images code s mem →
      IsSwitched g (chosen_slots board p c) w.twins s r mem (all_copied mem (switch_jobs w s r))
  pub current : (v : PlainView) (g : Graph) (regions : ℕ) (board : Board) (p : PlainProgramme) (c : PlainChoice)
      (images : Images) (code : ℕ → ℕ → ℕ) (w : SwitchPlan (List CopyJob)) (s r : ℕ) (mem : Memory) →
      CanSwitch v g regions board p c images w s r → IsCurrent g (chosen_slots board p c) images code s mem →
      IsCurrent g (chosen_slots board p c) images code r (all_copied mem (switch_jobs w s r))

-- while a region is current, the words of an image stand where its copy does, if that is present
abbrev pub CopiesHold : Type 0
CopiesHold =
    (v : PlainView) (g : Graph) (regions : ℕ) (board : Board) (p : PlainProgramme) (c : PlainChoice) (images : Images)
    (code : ℕ → ℕ → ℕ) (r : ℕ) (mem : Memory) (k : ℕ) (words : List ℕ) → CanStart v g regions board p c images →
    IsCurrent g (chosen_slots board p c) images code r mem → IsOfCode (chosen_slots board p c) k →
    IsPresent r (slot_at (chosen_slots board p c) k).name →
    4 * length words ≡ images.bytes (code_number (chosen_slots board p c) k) →
    images.at (code_number (chosen_slots board p c) k) + 4 * length words < 4294967296 →
    HoldsAt mem (images.at (code_number (chosen_slots board p c) k)) words →
    HoldsAt mem (slot_at (chosen_slots board p c) k).at words

-- What the jobs of a choice copy where, and how much room they take.
use Rattle.std.specs.Prelude.{◌≡◌, ◌⊎◌, ℕ, ◌+◌, ◌-◌, ◌<◌, ◌≤◌, true, List, length, slice_index_or, All}
use Rattle.elf_reader.specs.File.{PlainView}
use Rattle.board_config.specs.declared.board.Board.{Board}
use Rattle.board_config.specs.declared.board.Range.{Range}
use Rattle.object_graph.specs.declared.parts.Graph.{Graph}
use Rattle.cell_values.specs.Objects.{object_of}
use Rattle.placement_programme.specs.Plain.{PlainProgramme, PlainChoice}
use Rattle.patch_code.specs.declared.job.CopyJob.{CopyJob}
use Rattle.patch_code.specs.Jobs.{IsJob}
use Rattle.patch_code.specs.Parts.{SwitchPlan}
use Rattle.patch_code.specs.Counts.{FitsRoom, spans}
use Rattle.relocator.specs.declared.slots.Slot.{Slot}
use Rattle.relocator.specs.Slots.{code_slots}
use Rattle.relocator.specs.Placing.{chosen_slots}
use Rattle.relocator.specs.Laws.{slot_at}
use Rattle.result_laws.specs.ChosenJobs.{Images, code_number, start_jobs, IsPlanOf}
use Rattle.result_laws.specs.Memories.{IsOfCode}
use Rattle.result_laws.specs.SwitchLaws.{CanStart}

-- images have bytes, and end below 2 ^ 32
pub record HaveBytes (slots : List Slot) (images : Images) : Type 0 where
  pub some : (k : ℕ) → IsOfCode slots k → 1 ≤ images.bytes (code_number slots k)
  pub ends : (k : ℕ) → IsOfCode slots k → images.at (code_number slots k) + images.bytes (code_number slots k) < 4294967296

-- ---- where jobs copy

-- a job reads an object at home, or an image
pub record ReadsHome (g : Graph) (job : CopyJob) : Type 0 where
  pub o : ℕ
  pub below : o < length g.objects.items
  pub from : job.from ≡ (object_of g o).home
  pub bytes : job.bytes ≡ (object_of g o).size

pub record ReadsImage (slots : List Slot) (images : Images) (job : CopyJob) : Type 0 where
  pub k : ℕ
  pub of : IsOfCode slots k
  pub from : job.from ≡ images.at (code_number slots k)
  pub bytes : job.bytes ≡ images.bytes (code_number slots k)

-- and writes the scratchpad
pub record GoesIn (spm : Range) (g : Graph) (slots : List Slot) (images : Images) (job : CopyJob) : Type 0 where
  pub is : IsJob job
  pub from : spm.base ≤ job.to
  pub to : job.to + job.bytes ≤ spm.base + spm.size
  pub source : ReadsHome g job ⊎ ReadsImage slots images job

-- or it reads the scratchpad, and writes a writable object at home
pub record GoesHome (spm : Range) (g : Graph) (job : CopyJob) : Type 0 where
  pub is : IsJob job
  pub from : spm.base ≤ job.from
  pub to : job.from + job.bytes ≤ spm.base + spm.size
  pub o : ℕ
  pub below : o < length g.objects.items
  pub writable : (object_of g o).writable ≡ true
  pub target : job.to ≡ (object_of g o).home
  pub bytes : job.bytes ≡ (object_of g o).size

-- the jobs of region i + 1 in a plan
pub record AreJobsOf (spm : Range) (g : Graph) (slots : List Slot) (images : Images) (w : SwitchPlan (List CopyJob)) (i : ℕ) : Type 0 where
  pub leave : All (GoesHome spm g) (w.leave i)
  pub enter : All (GoesIn spm g slots images) (w.enter i)
  pub kept_leave : All (GoesHome spm g) (w.kept_leave i)
  pub kept_enter : All (GoesIn spm g slots images) (w.kept_enter i)

-- the bytes of the scratchpad that the jobs of the start leave
abbrev pub room_left : Board → Graph → Images → List Slot → ℕ
room_left board g images slots = board.spm.size - spans (start_jobs g images slots)

-- all jobs of a choice are such. Those of the start take at most the scratchpad's room, and those of each region what is left
pub record JobsFit : Type 0 where
  pub start : (v : PlainView) (g : Graph) (regions : ℕ) (board : Board) (p : PlainProgramme) (c : PlainChoice) (images : Images) →
      CanStart v g regions board p c images → HaveBytes (chosen_slots board p c) images →
      All (GoesIn board.spm g (chosen_slots board p c) images) (start_jobs g images (chosen_slots board p c))
  pub start_room : (v : PlainView) (g : Graph) (regions : ℕ) (board : Board) (p : PlainProgramme) (c : PlainChoice) (images : Images) →
      CanStart v g regions board p c images → spans (start_jobs g images (chosen_slots board p c)) ≤ board.spm.size
  pub regions : (v : PlainView) (g : Graph) (regions : ℕ) (board : Board) (p : PlainProgramme) (c : PlainChoice) (images : Images)
      (w : SwitchPlan (List CopyJob)) (i : ℕ) → CanStart v g regions board p c images →
      HaveBytes (chosen_slots board p c) images → IsPlanOf g images (chosen_slots board p c) regions w → i < regions →
      AreJobsOf board.spm g (chosen_slots board p c) images w i
  pub room : (v : PlainView) (g : Graph) (regions : ℕ) (board : Board) (p : PlainProgramme) (c : PlainChoice) (images : Images)
      (w : SwitchPlan (List CopyJob)) (i : ℕ) → CanStart v g regions board p c images →
      HaveBytes (chosen_slots board p c) images → IsPlanOf g images (chosen_slots board p c) regions w → i < regions →
      FitsRoom w (room_left board g images (chosen_slots board p c)) i

-- ---- numbers

-- the items of code have the slots of code in order
abbrev pub CodeNumbers : Type 0
CodeNumbers =
    (slots : List Slot) (k : ℕ) → IsOfCode slots k →
    (code_number slots k < length (code_slots slots))
    × (slice_index_or (code_slots slots) (code_number slots k) 0 ≡ (slot_at slots k).at)

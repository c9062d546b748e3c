-- The jobs of a choice: what the start stub copies, and what the switch routine copies where a region is left or entered.
use Rattle.std.specs.Prelude.{◌≡◌, ℕ, zero, suc, ◌+◌, ◌%◌, ◌<◌, ◌==◌, Bool, true, false, if◌then◌else◌, List, [], ◌∷◌, ◌++◌, All}
use Rattle.object_graph.specs.declared.parts.Graph.{Graph}
use Rattle.cell_values.specs.Objects.{object_of}
use Rattle.placement_programme.specs.declared.variables.VarName.{VarName}
use Rattle.placement_programme.specs.declared.variables.VarName.TheVariants.{StaticData, StaticCode, OverlayData, OverlayCode, KeptData}
use Rattle.patch_code.specs.declared.job.CopyJob.{CopyJob}
use Rattle.patch_code.specs.Parts.{SwitchPlan}
use Rattle.relocator.specs.declared.slots.Slot.{Slot}
use Rattle.relocator.specs.Slots.{pair_of, is_code}

-- of each item of code, by its number among those of a choice in order: where its image stands, and how many bytes its copy has
pub record Images : Type 0 where
  pub at : ℕ → ℕ
  pub bytes : ℕ → ℕ

-- ---- items

-- what stands in the scratchpad throughout, what is overlaid in a region, and what is kept for its pair
abbrev pub is_static : VarName → Bool
is_static (StaticData object) = true
is_static (StaticCode first last) = true
is_static (OverlayData own object) = false
is_static (OverlayCode own first last) = false
is_static (KeptData pair object) = false

abbrev pub is_overlaid : ℕ → VarName → Bool
is_overlaid region (StaticData object) = false
is_overlaid region (StaticCode first last) = false
is_overlaid region (OverlayData own object) = own == region
is_overlaid region (OverlayCode own first last) = own == region
is_overlaid region (KeptData pair object) = false

abbrev pub is_kept : ℕ → VarName → Bool
is_kept region (StaticData object) = false
is_kept region (StaticCode first last) = false
is_kept region (OverlayData own object) = false
is_kept region (OverlayCode own first last) = false
is_kept region (KeptData pair object) = pair_of region == pair

-- ---- the jobs of one

-- an object from home to its place in a slot; back, where it is writable; and a piece of code from its image
abbrev pub into_slot : Graph → ℕ → ℕ → CopyJob
into_slot g at o =
    record { from = (object_of g o).home; to = at + (object_of g o).home % g.grain; bytes = (object_of g o).size }

abbrev pub back_home : Graph → ℕ → ℕ → CopyJob
back_home g at o =
    record { from = at + (object_of g o).home % g.grain; to = (object_of g o).home; bytes = (object_of g o).size }

abbrev pub from_image : Images → ℕ → ℕ → CopyJob
from_image images n at = record { from = images.at n; to = at; bytes = images.bytes n }

abbrev pub home_jobs : Graph → ℕ → ℕ → List CopyJob
home_jobs g at o = if (object_of g o).writable then back_home g at o ∷ [] else []

-- into a slot, where `n` items of code come before it; and home. Code is not copied back
abbrev pub job_into : Graph → Images → ℕ → ℕ → VarName → CopyJob
job_into g images n at (StaticData o) = into_slot g at o
job_into g images n at (StaticCode first last) = from_image images n at
job_into g images n at (OverlayData own o) = into_slot g at o
job_into g images n at (OverlayCode own first last) = from_image images n at
job_into g images n at (KeptData pair o) = into_slot g at o

abbrev pub jobs_home : Graph → ℕ → VarName → List CopyJob
jobs_home g at (StaticData o) = home_jobs g at o
jobs_home g at (StaticCode first last) = []
jobs_home g at (OverlayData own o) = home_jobs g at o
jobs_home g at (OverlayCode own first last) = []
jobs_home g at (KeptData pair o) = home_jobs g at o

-- ---- those of all that pass a test, in order

abbrev pub next_code : VarName → ℕ → ℕ
next_code name n = if is_code name then suc n else n

abbrev pub entering : (VarName → Bool) → Graph → Images → ℕ → List Slot → List CopyJob
entering which g images n [] = []
entering which g images n (s ∷ ss) =
    (if which s.name then job_into g images n s.at s.name ∷ [] else []) ++ entering which g images (next_code s.name n) ss

abbrev pub leaving : (VarName → Bool) → Graph → List Slot → List CopyJob
leaving which g [] = []
leaving which g (s ∷ ss) = (if which s.name then jobs_home g s.at s.name else []) ++ leaving which g ss

-- the number of the item of code in slot `k`: how many come before it
abbrev pub code_number : List Slot → ℕ → ℕ
code_number [] k = 0
code_number (s ∷ ss) zero = 0
code_number (s ∷ ss) (suc k) = next_code s.name (code_number ss k)

-- ---- plans

-- the start stub copies what stands in the scratchpad throughout
abbrev pub start_jobs : Graph → Images → List Slot → List CopyJob
start_jobs g images slots = entering is_static g images 0 slots

-- objects are kept for pairs only where regions have twins
abbrev pub HasTwins : Bool → VarName → Type 0
HasTwins twins (StaticData object) = Unit {0}
HasTwins twins (StaticCode first last) = Unit {0}
HasTwins twins (OverlayData own object) = Unit {0}
HasTwins twins (OverlayCode own first last) = Unit {0}
HasTwins twins (KeptData pair object) = twins ≡ true

-- a plan of switches has the jobs of a choice with these slots
pub record IsPlanOf (g : Graph) (images : Images) (slots : List Slot) (regions : ℕ) (w : SwitchPlan (List CopyJob)) : Type 0 where
  pub count : w.regions ≡ regions
  pub twins : All (λ s. HasTwins w.twins s.name) slots
  pub leave : (i : ℕ) → i < regions → w.leave i ≡ leaving (is_overlaid (i + 1)) g slots
  pub enter : (i : ℕ) → i < regions → w.enter i ≡ entering (is_overlaid (i + 1)) g images 0 slots
  pub kept_leave : (i : ℕ) → i < regions → w.kept_leave i ≡ leaving (is_kept (i + 1)) g slots
  pub kept_enter : (i : ℕ) → i < regions → w.kept_enter i ≡ entering (is_kept (i + 1)) g images 0 slots

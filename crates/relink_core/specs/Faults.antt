-- The faults of an analysis, in their order.
use Rattle.std.specs.Prelude.{◌≡◌, ◌≢◌, ◌⊎◌, ℕ, ◌==◌, nat_le, Bool, not, if◌then◌else◌, List, Option, Some, None, Result, Ok, Err, option_map}
use Rattle.list_checks.specs.First.{◌or_else◌, unless}
use Rattle.elf_reader.specs.Layout.{program_header_count}
use Rattle.elf_reader.specs.File.{PlainView, view_in}
use Rattle.elf_reader.specs.Faults.{first_fault}
use Rattle.elf_reader.specs.declared.fault.ElfFault.TheVariants as elf
use Rattle.board_config.specs.declared.board.Board.{Board}
use Rattle.object_graph.specs.LayoutFaults.{layout_fault}
use Rattle.object_graph.specs.declared.fault.GraphFault.TheVariants as graph
use Rattle.code_blocks.specs.Blocks.{IsCode, code_fault}
use Rattle.code_blocks.specs.declared.parts.Code.{Code}
use Rattle.code_blocks.specs.declared.fault.CodeFault.TheVariants as code
use Rattle.region_former.specs.Faults.{Fault, plain_fault}
use Rattle.region_former.specs.Regions.{region_fault}
use Rattle.region_former.specs.declared.fault.RegionFault.{RegionFault}
use Rattle.region_former.specs.declared.fault.RegionFault.TheVariants as region
use Rattle.relink_core.specs.declared.fault.AnalyseFault.{AnalyseFault}
use Rattle.relink_core.specs.declared.fault.AnalyseFault.TheVariants as analyse

-- ---- the faults of the parts

-- what becomes of the fault of a part: its want of memory is the analysis's, and every other fault is wrapped
abbrev pub Becomes : {P : Type 0} → P → (P → AnalyseFault) → P → AnalyseFault → Type 0
Becomes memory wrap part fault =
    ((part ≡ memory) × (fault ≡ analyse.Memory)) ⊎ ((part ≢ memory) × (fault ≡ wrap part))

-- a fault is not a part's own want of memory
abbrev pub IsOutermost : AnalyseFault → Type 0
IsOutermost (analyse.Elf part) = part ≢ elf.Memory
IsOutermost (analyse.Graph part) = part ≢ graph.Memory
IsOutermost (analyse.PatchTooSmall need have) = Unit
IsOutermost (analyse.Code part) = part ≢ code.Memory
IsOutermost (analyse.Region part) = part ≢ region.Memory
IsOutermost analyse.Memory = Unit

-- ---- the checks

-- A file has at most 64 program headers, and a result has one more than the program.
abbrev pub headers_fault : ℕ → Option AnalyseFault
headers_fault count = unless (not (count == 64)) (analyse.Elf (elf.OverLimit 2 64))

-- the first fault of a file to which a program header is to be added
abbrev pub file_fault : List ℕ → Option AnalyseFault
file_fault file = option_map analyse.Elf (first_fault file) or_else headers_fault (program_header_count file)

-- How many bytes the patch range has at least: the control words and the start stub without a job are 21
-- words, and a FENCE.I is one more.
abbrev pub least_patch : Bool → ℕ
least_patch fence_i = if fence_i then 88 else 84

abbrev pub patch_fault : Board → Option AnalyseFault
patch_fault board =
    unless (nat_le (least_patch board.fence_i) board.patch.size)
    (analyse.PatchTooSmall (least_patch board.fence_i) board.patch.size)

-- the first fault of where the program lies, with the patch range's size behind the checks of the layout
abbrev pub places_fault : PlainView → Board → Option AnalyseFault
places_fault v board = option_map analyse.Graph (layout_fault v board) or_else patch_fault board

-- the first fault of a program that is read
abbrev pub view_fault : PlainView → Board → Option AnalyseFault
view_fault v board = places_fault v board or_else option_map analyse.Code (code_fault v)

-- the first fault of a file and a board before its regions
abbrev pub analyse_fault : List ℕ → Board → Option AnalyseFault
analyse_fault file board = file_fault file or_else view_fault (view_in file) board

-- ---- the names of regions

-- the first name that a board lists and that stands for no function of a file's code, or for one that was listed
-- before, if there is one
pub record IsRegionFault (file : List ℕ) (board : Board) (fault : Option Fault) : Type 0 where
  pub code : Code
  pub is_code : IsCode (view_in file) code
  pub first : region_fault (view_in file) code board ≡ fault

-- a file and a board have no fault at all
pub record IsFaultless (file : List ℕ) (board : Board) : Type 0 where
  pub before : analyse_fault file board ≡ None
  pub regions : IsRegionFault file board None

-- the first fault of a file and a board: the names of regions come last
pub data IsFirst (file : List ℕ) (board : Board) (fault : AnalyseFault) : Type 0 where
  before_regions : analyse_fault file board ≡ Some fault → IsFirst file board fault
  of_regions : (part : RegionFault) → analyse_fault file board ≡ None → IsRegionFault file board (Some (plain_fault part))
      → fault ≡ analyse.Region part → IsFirst file board fault

-- a result tells of the first fault, or that no memory was left: Ok exactly where there is none
abbrev pub ReportsAnalysis : {T : Type 0} → List ℕ → Board → Result T AnalyseFault → Type 0
ReportsAnalysis file board (Ok value) = IsFaultless file board
ReportsAnalysis file board (Err fault) = (fault ≡ analyse.Memory) ⊎ IsFirst file board fault

-- so does that of the regions of a view's code
pub record IsOfRegions (v : PlainView) (c : Code) (board : Board) (fault : AnalyseFault) : Type 0 where
  pub part : RegionFault
  pub first : region_fault v c board ≡ Some (plain_fault part)
  pub fault_is : fault ≡ analyse.Region part

abbrev pub ReportsRegions : {T : Type 0} → PlainView → Code → Board → Result T AnalyseFault → Type 0
ReportsRegions v c board (Ok value) = region_fault v c board ≡ None
ReportsRegions v c board (Err fault) = (fault ≡ analyse.Memory) ⊎ IsOfRegions v c board fault

-- A file in which the analysis finds no fault keeps its meaning as it is.
use Rattle.std.proofs.Common.{◌≡◌, ℕ, ◌+◌, ◌*◌, ◌≤◌, List, Option, Some, None, option_map, refl, arith}
use Rattle.std.proofs.lemmas.Nat.{mul-le}
use Rattle.list_checks.proofs.FirstLemmas.{both_none}
use Rattle.elf_reader.specs.Layout.{program_header_count}
use Rattle.elf_reader.specs.File.{view_in}
use Rattle.elf_reader.specs.Faults.{first_fault}
use Rattle.board_config.specs.declared.board.Board.{Board}
use Rattle.object_graph.specs.LayoutFaults.{layout_fault}
use Rattle.code_blocks.specs.Blocks.{code_fault}
use Rattle.simulation.proofs.Runs.{keeps_within}
use Rattle.result_laws.specs.HomeLaws.{file_start}
use Rattle.result_laws.proofs.Absolute.{absolute_runs_are_paired}
use Rattle.result_laws.proofs.HomeUnits.{file_keeps}
use Rattle.result_laws.specs.ResultLaws.{most_steps}
use Rattle.relink_core.specs.declared.fault.AnalyseFault.TheVariants as analyse
use Rattle.relink_core.specs.Faults.{headers_fault, file_fault, patch_fault, places_fault, view_fault, analyse_fault}
use Rattle.relink_core.specs.Keeps.{UnmovedFileKeeps, AbsoluteKeepsRuns}

-- ---- bounds

-- two steps for each are within the bound of a result
two_each : (n size : ℕ) → n * 2 ≤ (n + 1) * (12 * size + 256)
two_each n size = mul-le n 2 (n + 1) (12 * size + 256) (omega arith) (omega arith)

-- ---- faults

unwrapped : {E F : Type 0} (wrap : E → F) (fault : Option E) → option_map wrap fault ≡ None → fault ≡ None
unwrapped wrap None none = refl
unwrapped wrap (Some fault) none = absurd (cc)

-- no check of the file, of its layout on a board or of its code fails
pub record Passes (file : List ℕ) (board : Board) : Type 0 where
  pub first : first_fault file ≡ None
  pub layout : layout_fault (view_in file) board ≡ None
  pub code : code_fault (view_in file) ≡ None

pub passes : (file : List ℕ) (board : Board) → analyse_fault file board ≡ None → Passes file board
passes file board none =
    let v = view_in file in
    let all = both_none (file_fault file) (view_fault v board) none in
    let read = both_none (option_map analyse.Elf (first_fault file)) (headers_fault (program_header_count file)) all.0 in
    let viewed = both_none (places_fault v board) (option_map analyse.Code (code_fault v)) all.1 in
    let placed = both_none (option_map analyse.Graph (layout_fault v board)) (patch_fault board) viewed.0 in
    record {
      first = unwrapped analyse.Elf (first_fault file) read.0;
      layout = unwrapped analyse.Graph (layout_fault v board) placed.0;
      code = unwrapped analyse.Code (code_fault v) viewed.1;
    }

-- ---- the laws

pub unmoved_file_keeps : UnmovedFileKeeps
unmoved_file_keeps file board bytes lawful none g input n s graph input_bytes steps =
    let sound = passes file board none in
    keeps_within n (n * 2) ((n + 1) * most_steps board) s (file_start file board input) (two_each n board.spm.size)
    (file_keeps file board g input n s
    (record { bytes = bytes; none = sound.first; lawful = lawful; layout = sound.layout; graph = graph; code = sound.code })
    input_bytes steps)

pub absolute_keeps_runs : AbsoluteKeepsRuns
absolute_keeps_runs file out board absolute keeps g input n s graph bytes steps =
    keeps g input n s graph bytes (absolute_runs_are_paired (view_in file) board g input n s graph absolute steps)

-- A file that is analysed for a board: what its analysis is, and what a run of its program asks.
use Rattle.std.proofs.Common.{◌≡◌, ℕ, ◌≤◌, nat_le, option_map, List, true, None, sym, subst, arith}
use Rattle.std.proofs.lemmas.Bool.Decides.{nat_tests}
use Rattle.list_checks.proofs.FirstLemmas.{both_none, holds}
use Rattle.elf_reader.specs.File.{PlainView, plain_view, view_in, IsFile}
use Rattle.elf_reader.specs.Loadable.{AreBytes}
use Rattle.elf_reader.specs.declared.view.ElfView.{ElfView}
use Rattle.board_config.specs.Board.{IsLawful}
use Rattle.board_config.specs.declared.board.Board.{Board}
use Rattle.loaded_file.specs.Read.{IsRead}
use Rattle.loaded_file.proofs.WordLemmas.{same_view}
use Rattle.object_graph.specs.Graphs.{IsGraph}
use Rattle.object_graph.specs.LayoutFaults.{layout_fault}
use Rattle.object_graph.specs.declared.parts.Graph.{Graph}
use Rattle.code_blocks.specs.Leaders.{is_leader}
use Rattle.code_blocks.proofs.EntryLemmas.{entry_leads}
use Rattle.code_blocks.specs.Blocks.{IsCode, code_fault}
use Rattle.code_blocks.specs.declared.parts.Code.{Code}
use Rattle.dataflow.specs.Tables.{IsTableOf}
use Rattle.block_splitter.specs.Pieces.{ArePieces}
use Rattle.relink_core.specs.Faults.{IsFaultless, file_fault, least_patch, patch_fault, places_fault, view_fault, analyse_fault}
use Rattle.relink_core.specs.Findings.{Findings}
use Rattle.relink_core.specs.Regions.{AreRegions}
use Rattle.relink_core.specs.declared.analysis.Analysis.{Analysis}
use Rattle.relink_core.specs.declared.fault.AnalyseFault.TheVariants as analyse
use Rattle.relink_core.proofs.KeepsLemmas.{passes}
use Rattle.relink_core.specs.Choices.{IsAnalysisOf}

-- ---- what a run asks

pub record MayRun (view : ElfView) (board : Board) (g : Graph) (c : Code) : Type 0 where
  pub read : IsRead view
  pub graph : IsGraph (plain_view view) board g
  pub code : IsCode (plain_view view) c
  pub entry : is_leader (plain_view view) view.entry ≡ true
  pub no_fault : code_fault (plain_view view) ≡ None
  pub room : least_patch board.fence_i ≤ board.patch.size

fitting : (least size : ℕ) → nat_le least size ≡ true → least ≤ size
fitting least size fits = grind (arith, nat_tests, fits)

-- the patch range has room for the start stub
has_room : (file : List ℕ) (board : Board) → analyse_fault file board ≡ None → least_patch board.fence_i ≤ board.patch.size
has_room file board none =
    let v = view_in file in
    let all = both_none (file_fault file) (view_fault v board) none in
    let viewed = both_none (places_fault v board) (option_map analyse.Code (code_fault v)) all.1 in
    let placed = both_none (option_map analyse.Graph (layout_fault v board)) (patch_fault board) viewed.0 in
    let fits = holds (nat_le (least_patch board.fence_i) board.patch.size) (analyse.PatchTooSmall (least_patch board.fence_i) board.patch.size) placed.1 in
    fitting (least_patch board.fence_i) board.patch.size fits

pub may_run : (file : List ℕ) (view : ElfView) (board : Board) (g : Graph) (c : Code) → IsFile file view → analyse_fault file board ≡ None
    → IsGraph (view_in file) board g → IsCode (view_in file) c → MayRun view board g c
may_run file view board g c is none is_graph is_code =
    let found = passes file board none in
    let same = sym (same_view file view is) in
    record {
      read = (file, is, found.first);
      graph = subst (λ (v : PlainView). IsGraph v board g) same is_graph;
      code = subst (λ (v : PlainView). IsCode v c) same is_code;
      entry = entry_leads (plain_view view) (subst (λ (v : PlainView). code_fault v ≡ None) same found.code);
      no_fault = subst (λ (v : PlainView). code_fault v ≡ None) same found.code;
      room = has_room file board none;
    }

-- ---- the analysis

-- what a run asks of it
pub may_state : (file : List ℕ) (board : Board) (a : Analysis) → IsAnalysisOf file board a → MayRun a.view board a.graph a.code
may_state file board a is =
    may_run file a.view board a.graph a.code is.is_file is.passes is.graph is.code

-- what `analyse` tells
pub analysed : (file : List ℕ) (board : Board) (a : Analysis) → AreBytes file → IsLawful board → IsFile file a.view → IsFaultless file board
    → IsGraph (view_in file) board a.graph → IsCode (view_in file) a.code → IsTableOf a.code a.live
    → AreRegions (view_in file) a.code board a.regions → ArePieces a.code a.graph a.pieces.items
    → IsAnalysisOf file board a
analysed file board a bytes lawful is_file no_fault is_graph is_code is_live are_regions are_pieces =
    record {
      bytes = bytes;
      is_file = is_file;
      passes = no_fault.before;
      lawful = lawful;
      graph = is_graph;
      code = is_code;
      live = is_live;
      regions = are_regions;
      pieces = are_pieces;
    }

-- what was found of a file that is analysed
abbrev pub findings : (file : List ℕ) (board : Board) (a : Analysis) → IsAnalysisOf file board a → Findings file board
findings file board a is =
    record {
      graph = a.graph;
      is_graph = is.graph;
      code = a.code;
      is_code = is.code;
      regions = a.regions;
      are_regions = is.regions;
      pieces = a.pieces.items;
      are_pieces = is.pieces;
    }

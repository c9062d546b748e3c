-- What an analysis gives, and what a choice takes.
use Rattle.std.proofs.Common.{◌≡◌, ◌⊎◌, inl, inr, ℕ, ◌<◌, Bool, true, false, nat_le, List, [], ◌∷◌, length, option_map, sym, ap, subst, arith}
use Rattle.std.proofs.lemmas.Bool.{leb-true}
use Rattle.list_checks.proofs.FirstLemmas.{both_none, holds}
use Rattle.elf_reader.specs.Layout.{program_header_count}
use Rattle.elf_reader.specs.File.{PlainView, plain_view, view_in}
use Rattle.elf_reader.specs.Faults.{first_fault}
use Rattle.board_config.specs.declared.board.Board.{Board}
use Rattle.loaded_file.specs.Read.{IsRead}
use Rattle.loaded_file.proofs.WordLemmas.{same_view}
use Rattle.object_graph.specs.LayoutFaults.{layout_fault}
use Rattle.object_graph.specs.Graphs.{IsGraph}
use Rattle.object_graph.specs.declared.parts.Graph.{Graph}
use Rattle.code_blocks.specs.Blocks.{code_fault}
use Rattle.placement_programme.specs.Plain.{PlainProgramme, PlainChoice}
use Rattle.result_laws.specs.HomeLaws.{IsAccepted}
use Rattle.relocator.specs.SiteWords.{site_at, data_word_at}
use Rattle.relocator.proofs.WordLemmas.{site_listed, code_of, word_here}
use Rattle.relink_core.specs.declared.analysis.Analysis.{Analysis}
use Rattle.relink_core.specs.declared.fault.AnalyseFault.TheVariants as analyse
use Rattle.relink_core.specs.Faults.{headers_fault, file_fault, least_patch, patch_fault, places_fault, view_fault}
use Rattle.relink_core.specs.Keeps.{KeepsPaired}
use Rattle.relink_core.specs.Extending.{IsExtendable}
use Rattle.relink_core.specs.Choices.{IsAnalysisOf, KeepsFor, KeepsMeaning}
use Rattle.relink_core.specs.Placed.{Taken}
use Rattle.result_laws.specs.ResultLaws.{KeepsRuns}
use Rattle.placement_programme.specs.Programme.{side_for}
use Rattle.relocator.specs.declared.items.Item.{Item}
use Rattle.relocator.specs.Slots.{items_in, vars_for, items_of}
use Rattle.relink_core.proofs.KeepsLemmas.{passes, unmoved_file_keeps, absolute_keeps_runs}
use Rattle.relink_core.proofs.WritableLemmas.{SitesAreCode}

-- ---- the analysis

pub prepared : (file : List ℕ) (board : Board) (a : Analysis) → IsAnalysisOf file board a → IsExtendable file board a.graph
prepared file board a is =
    let v = view_in file in
    let sound = passes file board is.passes in
    let all = both_none (file_fault file) (view_fault v board) is.passes in
    let read = both_none (option_map analyse.Elf (first_fault file)) (headers_fault (program_header_count file)) all.0 in
    let viewed = both_none (places_fault v board) (option_map analyse.Code (code_fault v)) all.1 in
    let placed = both_none (option_map analyse.Graph (layout_fault v board)) (patch_fault board) viewed.0 in
    record {
      accepted = record {
        bytes = is.bytes;
        none = sound.first;
        lawful = is.lawful;
        layout = sound.layout;
        graph = is.graph;
        code = sound.code;
      };
      headers = read.1;
      patch = leb-true (least_patch board.fence_i) board.patch.size (holds (nat_le (least_patch board.fence_i) board.patch.size) _ placed.1);
    }

pub is_read : (file : List ℕ) (board : Board) (a : Analysis) → IsAnalysisOf file board a → IsRead a.view
is_read file board a is = (file, is.is_file, (prepared file board a is).accepted.none)

pub codes : (file : List ℕ) (board : Board) (g : Graph) → IsAccepted file board g → SitesAreCode (view_in file) g
codes file board g accepted k below =
    code_of (view_in file) (length g.objects.items) (site_at g k) (site_listed (view_in file) g.objects.items g.sites.items k accepted.graph.sites below)

-- each site and each word of data is of an object of the graph
pub record AreGraphs (g : Graph) : Type 0 where
  pub sites : (k : ℕ) → k < length g.sites.items → (site_at g k).object < length g.objects.items
  pub words : (k : ℕ) → k < length g.data_words.items → (data_word_at g k).object < length g.objects.items

pub graphs : (file : List ℕ) (board : Board) (g : Graph) → IsAccepted file board g → AreGraphs g
graphs file board g accepted =
    record {
      sites = λ k below. (site_listed (view_in file) g.objects.items g.sites.items k accepted.graph.sites below).object;
      words = λ k below. word_here (view_in file) g.objects.items g.data_words.items k accepted.graph.data_words below;
    }

-- what the parts of the code ask of an analysis
pub graph_of : (file : List ℕ) (board : Board) (a : Analysis) → IsAnalysisOf file board a → IsGraph (plain_view a.view) board a.graph
graph_of file board a is = subst (λ (v : PlainView). IsGraph v board a.graph) (sym (same_view file a.view is.is_file)) is.graph

-- ---- the meaning

pub no_items : (p : PlainProgramme) (choice : PlainChoice) → choice.take ≡ [] → items_of p choice ≡ []
no_items p choice none = ap (items_in (vars_for (side_for p choice.on))) none

pub file_keeps_meaning : (file : List ℕ) (board : Board) (a : Analysis) (t : Taken) (out : List ℕ) → IsAnalysisOf file board a → t.on ≡ false → t.items ≡ [] → out ≡ file → KeepsMeaning t file out board
file_keeps_meaning file board a t out is off none same =
    subst (λ (on : Bool). KeepsFor on t.items file out board) (sym off)
    (subst (λ (items : List Item). KeepsFor false items file out board) (sym none)
    (let keeps : KeepsPaired file out board =
    subst (λ (x : List ℕ). KeepsPaired file x board) (sym same) (unmoved_file_keeps file board is.bytes is.lawful is.passes) in
    (keeps, λ absolute. absolute_keeps_runs file out board absolute keeps)))

-- where something is taken or overlaid, every run is kept
pub runs_keep_meaning : (on : Bool) (items : List Item) (file out : List ℕ) (board : Board) → (on ≡ true) ⊎ (0 < length items) → KeepsRuns file out board → KeepsFor on items file out board
runs_keep_meaning true items file out board some keeps = keeps
runs_keep_meaning false (i ∷ is) file out board some keeps = keeps
runs_keep_meaning false [] file out board (inl on) keeps = absurd (cc (on))
runs_keep_meaning false [] file out board (inr some) keeps = absurd (omega (arith, some))

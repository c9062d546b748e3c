-- A file that is analysed for a board, of which it is only known that there is one: what a run of its program asks.
use Rattle.std.proofs.Common.{◌≡◌, ℕ, List, length, true, None, sym, subst}
use Rattle.elf_reader.specs.Faults.{first_fault}
use Rattle.elf_reader.specs.File.{PlainView, IsFile, plain_view}
use Rattle.board_config.specs.Board.{IsLawful}
use Rattle.board_config.specs.declared.board.Board.{Board}
use Rattle.loaded_file.specs.Read.{IsRead}
use Rattle.loaded_file.proofs.WordLemmas.{same_view}
use Rattle.object_graph.specs.Graphs.{IsGraph}
use Rattle.code_blocks.specs.Leaders.{is_leader}
use Rattle.code_blocks.specs.Blocks.{IsCode, code_fault}
use Rattle.code_blocks.proofs.EntryLemmas.{entry_leads}
use Rattle.relink_core.specs.Choices.{IsAnalysisOf}
use Rattle.relink_core.specs.declared.analysis.Analysis.{Analysis}
use Rattle.relink_core.proofs.KeepsLemmas.{passes}
use Rattle.program_explanations.proofs.OneProof.{IsGraph-prop, IsCode-prop, IsLawful-prop}
use denote.Struct.Props.{props}
use mathlib.Core.Logic.{∥∥₁_elim}

abbrev pub IsAnalysed : Board → Analysis → Type 0
IsAnalysed board a = ∥ ((file : List ℕ) × IsAnalysisOf file board a) ∥₁

module _ (board : Board) (a : Analysis) (is : IsAnalysed board a) where
  pub is_read : IsRead a.view
  is_read =
      let reads : List ℕ → Type 0 = λ file. IsFile file a.view × (first_fault file ≡ None) in
      let one_proof : IsProp (reads a.view.bytes.now) = hlevel props in
      let both : reads a.view.bytes.now =
      ∥∥₁_elim is one_proof (λ of. subst reads (sym of.1.is_file.bytes) (of.1.is_file, (passes of.0 board of.1.passes).first)) in
      (a.view.bytes.now, both.0, both.1)

  pub is_graph : IsGraph (plain_view a.view) board a.graph
  is_graph =
      ∥∥₁_elim is (IsGraph-prop (plain_view a.view) board a.graph)
      (λ of. subst (λ (v : PlainView). IsGraph v board a.graph) (sym (same_view of.0 a.view of.1.is_file)) of.1.graph)

  pub is_code : IsCode (plain_view a.view) a.code
  is_code =
      ∥∥₁_elim is (IsCode-prop (plain_view a.view) a.code)
      (λ of. subst (λ (v : PlainView). IsCode v a.code) (sym (same_view of.0 a.view of.1.is_file)) of.1.code)

  pub is_lawful : IsLawful board
  is_lawful = ∥∥₁_elim is (IsLawful-prop board) (λ of. of.1.lawful)

  pub begins : is_leader (plain_view a.view) a.view.entry ≡ true
  begins =
      let one_proof : IsProp (is_leader (plain_view a.view) a.view.entry ≡ true) = hlevel props in
      ∥∥₁_elim is one_proof
      (λ of. entry_leads (plain_view a.view)
      (subst (λ (v : PlainView). code_fault v ≡ None) (sym (same_view of.0 a.view of.1.is_file)) (passes of.0 board of.1.passes).code))

  pub one_region_each : length a.regions.of_block.items ≡ length a.code.blocks.items
  one_region_each =
      let one_proof : IsProp (length a.regions.of_block.items ≡ length a.code.blocks.items) = hlevel props in
      ∥∥₁_elim is one_proof (λ of. of.1.regions.is_formed.one_each)

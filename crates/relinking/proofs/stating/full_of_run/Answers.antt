use Rattle.std.proofs.Common.{List, sym, subst}
use Rattle.placement_candidates.specs.FullViews.{plain_full}
use Rattle.block_splitter.specs.declared.piece.Piece.{Piece}
use Rattle.energy_model.specs.Scenes.{scene_of}
use Rattle.placement_candidates.specs.Stated.{AreSomePieces}
use Rattle.placement_candidates.specs.Overlaid.{overlay_layout, IsWholeFull}
use Rattle.relink_core.proofs.KeepsLemmas.{passes}
use Rattle.relinking.proofs.Counting.{unfaulted}
use Rattle.relinking.proofs.StatedLemmas.{some_of_all}
use Rattle.relinking.proofs.Energies.{of_one_file}
use Rattle.relinking.proofs.Analysed.{may_state}
use Rattle.relinking.proofs.FewObjects.{few_objects}
use Rattle.relinking.proofs.stating.full_of_run.Goals as goal

pub whole_full-requires-clause-run : goal.whole_full-requires-clause-run
whole_full-requires-clause-run g c =
    let analysis = c.args.analysis.now in
    let (file, is) = c.requires.analysis in
    let may = may_state file c.args.board.now analysis is in
    let (last, made) = c.in_ok-measured.ensures.ok in (
      analysis.view,
      (
        made.transitions,
        of_one_file analysis.view c.args.board.now analysis.graph analysis.code analysis.regions c.args.input.now c.in_ok-measured.measured.profile last
            may.read is.lawful may.graph may.code may.no_fault may.room may.entry is.regions.is_formed.one_each made,
      ),
    )

pub whole_full-requires-clause-few : goal.whole_full-requires-clause-few
whole_full-requires-clause-few g c =
    let (file, is) = c.requires.analysis in
    let found = passes file c.args.board.now is.passes in
    few_objects _ c.args.board.now c.args.analysis.now.graph is.graph found.layout

pub whole_full-requires-clause-pieces : goal.whole_full-requires-clause-pieces
whole_full-requires-clause-pieces g c =
    let a = c.args.analysis.now in
    let (file, is) = c.requires.analysis in
    subst (λ (ps : List Piece). AreSomePieces a.code a.graph ps) (sym c.deref.ensures.value) (some_of_all a.code a.graph a.pieces.items is.pieces)

pub returns-in-Ok-clause-ok : goal.returns-in-Ok-clause-ok
returns-in-Ok-clause-ok g c =
    let analysis = c.args.analysis.now in
    let (file, is) = c.requires.analysis in
    let may = may_state file c.args.board.now analysis is in
    let (last, made) = c.in_ok-measured.ensures.ok in
    let same = of_one_file analysis.view c.args.board.now analysis.graph analysis.code analysis.regions c.args.input.now c.in_ok-measured.measured.profile last
    may.read is.lawful may.graph may.code may.no_fault may.room may.entry is.regions.is_formed.one_each made in
    let w = scene_of analysis.graph analysis.code analysis.regions c.args.board.now in
    let l = overlay_layout analysis.graph analysis.code analysis.regions c.args.board.now in
    record {
      transitions = made.transitions;
      runs = record { last = last; run = made.run; no_address_fault = unfaulted last.outcome made.no_fault };
      same = same;
      outcome = made.profile.outcome_is;
      full_is = subst (λ (ps : List Piece). IsWholeFull w l c.args.objects.now ps made.transitions (plain_full c.in-Ok.full)) c.deref.ensures.value (c.in-Ok.ensures analysis.view made.transitions same);
    }

use Rattle.std.proofs.Common.{ℕ, List, map, sym, subst}
use Rattle.std.proofs.lemmas.Result.{err_from_is_err_and}
use Rattle.elf_reader.specs.File.{plain_view}
use Rattle.placement_programme.specs.Views.{plain_programme}
use Rattle.placement_candidates.specs.Overlaid.{AreOverlaidObjects}
use Rattle.placement_candidates.specs.FullViews.{plain_full}
use Rattle.relinking.specs.MixOfRuns.{plain_input}
use Rattle.relinking.proofs.StatedLemmas.{some_of_all}
use Rattle.relinking.proofs.MixedRuns.{together, no_memory_first}
use Rattle.relinking.proofs.mixing.programme_of_runs.Goals as goal

pub objects_of-requires : goal.objects_of-requires
objects_of-requires g c = let (file, is) = c.requires.analysis in (file, (c.args.board.now, is))

pub mix_of_runs-requires-clause-overlaid : goal.mix_of_runs-requires-clause-overlaid
mix_of_runs-requires-clause-overlaid g c =
    let a = c.args.analysis.now in
    subst (λ (os : List ℕ). AreOverlaidObjects a.code a.graph a.regions os) (sym c.deref.ensures.value) c.in_ok-objects.ensures

pub returns-in-Ok-clause-ok : goal.returns-in-Ok-clause-ok
returns-in-Ok-clause-ok g c =
    let a = c.args.analysis.now in
    let (file, is) = c.requires.analysis in
    let m = c.in_ok-full.ensures.ok in
    together a.view c.args.board.now a.graph a.code a.regions a.pieces.items c.deref.result.now (map plain_input c.args.inputs.now) m.parts (plain_full c.in_ok-full.full) (plain_programme c.in-Ok.programme)
    c.requires.inputs m.are (some_of_all a.code a.graph a.pieces.items is.pieces)
    (subst (λ (os : List ℕ). AreOverlaidObjects a.code a.graph a.regions os) (sym c.deref.ensures.value) c.in_ok-objects.ensures)
    m.mix c.in-Ok.ensures

pub returns-in_err-objects-clause-err : goal.returns-in_err-objects-clause-err
returns-in_err-objects-clause-err g c =
    let a = c.args.analysis.now in
    let q = err_from_is_err_and c.from_residual.result c.from_residual.ensures.1 in
    rw (q.1, q.2) (no_memory_first (plain_view a.view) c.args.board.now a.graph a.code a.regions (map plain_input c.args.inputs.now) c.requires.inputs)

pub returns-clause-err : goal.returns-clause-err
returns-clause-err g c =
    let a = c.args.analysis.now in
    rw c.from.ensures (no_memory_first (plain_view a.view) c.args.board.now a.graph a.code a.regions (map plain_input c.args.inputs.now) c.requires.inputs)

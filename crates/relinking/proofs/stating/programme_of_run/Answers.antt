use Rattle.std.proofs.Common.{◌∙◌, ℕ, List, sym, ap, subst}
use Rattle.std.proofs.lemmas.Result.{err_from_is_err_and}
use Rattle.elf_reader.specs.File.{plain_view}
use Rattle.placement_programme.specs.Views.{plain_programme}
use Rattle.placement_candidates.specs.Selected.{selected}
use Rattle.placement_candidates.specs.Overlaid.{AreOverlaidObjects}
use Rattle.relinking.proofs.Counting.{no_memory}
use Rattle.relinking.proofs.StatedLemmas.{some_of_all}
use Rattle.relinking.proofs.Energies.{energies_of}
use Rattle.relinking.proofs.stating.programme_of_run.Goals as goal

pub objects_of-requires : goal.objects_of-requires
objects_of-requires g c = (c.requires.0, (c.args.board.now, c.requires.1))

pub full_of_run-requires-clause-overlaid : goal.full_of_run-requires-clause-overlaid
full_of_run-requires-clause-overlaid g c =
    let a = c.args.analysis.now in
    subst (λ (os : List ℕ). AreOverlaidObjects a.code a.graph a.regions os) (sym c.deref.ensures.value) c.in_ok-objects.ensures

pub returns-in-Ok-clause-ok : goal.returns-in-Ok-clause-ok
returns-in-Ok-clause-ok g c =
    let a = c.args.analysis.now in
    let full = c.in_ok-measured.ensures.ok in
    let objects = c.deref.result.now in
    let overlaid = subst (λ (os : List ℕ). AreOverlaidObjects a.code a.graph a.regions os) (sym c.deref.ensures.value) c.in_ok-objects.ensures in
    let programme = c.in-Ok.ensures ∙ ap selected full.full_is.is in
    record {
      states = record {
        transitions = full.transitions;
        last = full.runs.last;
        run = full.runs.run;
        no_address_fault = full.runs.no_address_fault;
        overlaid = objects;
        are_overlaid = overlaid;
        programme_is = programme;
        energies = energies_of a.view c.args.board.now a.graph a.code a.regions a.pieces.items objects c.in_ok-measured.measured.profile full.transitions (plain_programme c.in-Ok.programme) full.same
            (some_of_all a.code a.graph a.pieces.items c.requires.1.pieces) overlaid programme;
      };
      same = full.same;
      outcome = full.outcome;
    }

pub returns-in_err-objects-clause-err : goal.returns-in_err-objects-clause-err
returns-in_err-objects-clause-err g c =
    let a = c.args.analysis.now in
    let q = err_from_is_err_and c.from_residual.result c.from_residual.ensures.1 in
    rw (q.1, q.2) (no_memory (plain_view a.view) c.args.board.now a.graph a.code a.regions c.args.input.now)

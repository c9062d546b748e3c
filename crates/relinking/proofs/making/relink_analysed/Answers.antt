use Rattle.std.proofs.Common.{sym, subst}
use Rattle.elf_reader.specs.File.{PlainView, plain_view}
use Rattle.loaded_file.proofs.WordLemmas.{same_view}
use Rattle.placement_programme.specs.Plain.{PlainProgramme}
use Rattle.placement_programme.specs.Views.{plain_programme}
use Rattle.relinking.specs.MeasuredRuns.{EndsSo}
use Rattle.relinking.specs.ProgrammeOfRun.{StatesProgramme}
use Rattle.relinking.proofs.StatedLemmas.{some_of_all}
use Rattle.relinking.proofs.Relinking.{states_choices}
use Rattle.relinking.proofs.making.relink_analysed.Goals as goal

pub relink_programme-requires-clause-choices : goal.relink_programme-requires-clause-choices
relink_programme-requires-clause-choices g c =
    let a = c.args.analysis.now in
    states_choices (plain_view a.view) c.args.board.now a.graph a.code a.regions a.pieces.items c.args.input.now (plain_programme c.in_ok-measured.measured.programme)
    (some_of_all a.code a.graph a.pieces.items c.requires.1.pieces) c.requires.1.regions.is_formed.one_each c.in_ok-measured.ensures.ok.states

pub returns-in-Ok-clause-ok : goal.returns-in-Ok-clause-ok
returns-in-Ok-clause-ok g c = λ file is.
    let a = c.args.analysis.now in
    let board = c.args.board.now in
    let states = subst (λ (p : PlainProgramme). StatesProgramme (plain_view a.view) board a.graph a.code a.regions a.pieces.items c.args.input.now p) (sym c.in-Ok.ensures.programme) c.in_ok-measured.ensures.ok.states in
    record {
      states = subst (λ (v : PlainView). StatesProgramme v board a.graph a.code a.regions a.pieces.items c.args.input.now (plain_programme c.in-Ok.relinked.programme))
          (same_view file a.view is.is_file) states;
      ended = subst (λ (v : PlainView). EndsSo v board a.graph c.args.input.now c.in_ok-measured.measured.end) (same_view file a.view is.is_file) c.in_ok-measured.ensures.end;
      made = c.in-Ok.ensures.made file is;
    }

use Rattle.std.proofs.Common.{sym, map, subst}
use Rattle.elf_reader.specs.File.{PlainView, plain_view}
use Rattle.loaded_file.proofs.WordLemmas.{same_view}
use Rattle.placement_programme.specs.Plain.{PlainProgramme}
use Rattle.placement_programme.specs.Views.{plain_programme}
use Rattle.relinking.specs.MixOfRuns.{plain_input, StatesTogether}
use Rattle.relinking.proofs.StatedLemmas.{some_of_all}
use Rattle.relinking.proofs.Relinking.{together_choices}
use Rattle.relinking.proofs.MixedRuns.{no_memory_first}
use Rattle.relinking.proofs.making.relink_runs.Goals as goal

pub relink_programme-requires-clause-choices : goal.relink_programme-requires-clause-choices
relink_programme-requires-clause-choices g c =
    let a = c.args.analysis.now in
    let (file, is) = c.requires.analysis in
    together_choices (plain_view a.view) c.args.board.now a.graph a.code a.regions a.pieces.items (map plain_input c.args.inputs.now) (plain_programme c.in_ok-programme.programme)
    (some_of_all a.code a.graph a.pieces.items is.pieces) is.regions.is_formed.one_each c.in_ok-programme.ensures.ok

pub returns-in-Ok-clause-ok : goal.returns-in-Ok-clause-ok
returns-in-Ok-clause-ok g c = λ file is.
    let a = c.args.analysis.now in
    let board = c.args.board.now in
    let inputs = map plain_input c.args.inputs.now in
    let states = subst (λ (p : PlainProgramme). StatesTogether (plain_view a.view) board a.graph a.code a.regions a.pieces.items inputs p) (sym c.in-Ok.ensures.programme) c.in_ok-programme.ensures.ok in
    record {
      states = subst (λ (v : PlainView). StatesTogether v board a.graph a.code a.regions a.pieces.items inputs (plain_programme c.in-Ok.relinked.programme)) (same_view file a.view is.is_file) states;
      made = c.in-Ok.ensures.made file is;
    }

pub returns-in-Err-clause-err : goal.returns-in-Err-clause-err
returns-in-Err-clause-err g c =
    let a = c.args.analysis.now in
    rw c.from.ensures (no_memory_first (plain_view a.view) c.args.board.now a.graph a.code a.regions (map plain_input c.args.inputs.now) c.requires.inputs)

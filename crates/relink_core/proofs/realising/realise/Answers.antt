use Rattle.placement_programme.specs.Views.{plain_programme}
use Rattle.relink_core.proofs.RealisedChoice.{realised, meaning_kept}
use Rattle.relink_core.proofs.realising.realise.Goals as goal

pub unmoved_result-requires : goal.unmoved_result-requires
unmoved_result-requires c = c.takes_nothing.ensures.nothing c.if-takes_nothing.true

pub moved_result-requires : goal.moved_result-requires
moved_result-requires c =
    let (file, is) = c.requires.analysis in
    (file, plain_programme c.args.p.now, is, c.in_ok-taken.ensures, c.takes_nothing.ensures.something c.if-takes_nothing.false)

pub returns-in-Ok-clause-made : goal.returns-in-Ok-clause-made
returns-in-Ok-clause-made c = λ file is. c.in-Ok.ensures file (plain_programme c.args.p.now) is c.in_ok-taken.ensures

pub returns-in-Ok-clause-realises : goal.returns-in-Ok-clause-realises
returns-in-Ok-clause-realises c = λ file is.
    realised file c.args.board.now c.args.a.now _ c.in-Ok.made _ (c.in-Ok.ensures file (plain_programme c.args.p.now) is c.in_ok-taken.ensures).forms

pub returns-in-Ok-clause-keeps : goal.returns-in-Ok-clause-keeps
returns-in-Ok-clause-keeps c = λ file is.
    meaning_kept file c.args.board.now c.args.a.now _ c.in-Ok.made _ is (c.in-Ok.ensures file (plain_programme c.args.p.now) is c.in_ok-taken.ensures).forms

pub returns-in-Ok-clause-stands : goal.returns-in-Ok-clause-stands
returns-in-Ok-clause-stands c =
    let (file, is) = c.requires.analysis in
    (c.in-Ok.ensures file (plain_programme c.args.p.now) is c.in_ok-taken.ensures).stands

pub returns-in-Ok-moved_result-clause-made : goal.returns-in-Ok-moved_result-clause-made
returns-in-Ok-moved_result-clause-made c = λ file is. c.in-Ok-moved_result.ensures file (plain_programme c.args.p.now) is c.in_ok-taken.ensures

pub returns-in-Ok-moved_result-clause-realises : goal.returns-in-Ok-moved_result-clause-realises
returns-in-Ok-moved_result-clause-realises c = λ file is.
    realised file c.args.board.now c.args.a.now _ c.in-Ok-moved_result.made _ (c.in-Ok-moved_result.ensures file (plain_programme c.args.p.now) is c.in_ok-taken.ensures).forms

pub returns-in-Ok-moved_result-clause-keeps : goal.returns-in-Ok-moved_result-clause-keeps
returns-in-Ok-moved_result-clause-keeps c = λ file is.
    meaning_kept file c.args.board.now c.args.a.now _ c.in-Ok-moved_result.made _ is (c.in-Ok-moved_result.ensures file (plain_programme c.args.p.now) is c.in_ok-taken.ensures).forms

pub returns-in-Ok-moved_result-clause-stands : goal.returns-in-Ok-moved_result-clause-stands
returns-in-Ok-moved_result-clause-stands c =
    let (file, is) = c.requires.analysis in
    (c.in-Ok-moved_result.ensures file (plain_programme c.args.p.now) is c.in_ok-taken.ensures).stands

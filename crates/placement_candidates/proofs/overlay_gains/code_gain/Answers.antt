use Rattle.std.proofs.Common.{◌∙◌, FitsSigned, rules}
use Rattle.std.proofs.lemmas.Int.{to_z-of_z}
use mir.Syntax.{w128}
use Rattle.placement_candidates.proofs.overlay_gains.code_gain.Goals as goal

pub piece_gain-requires-clause-piece : goal.piece_gain-requires-clause-piece
piece_gain-requires-clause-piece c =
    let run = c.requires.tally.1.run in
    record { home = run.small_home; copied = run.small_copied; came = run.small_came }

pub piece_gain-requires-clause-entering : goal.piece_gain-requires-clause-entering
piece_gain-requires-clause-entering c =
    let entering = c.requires.tally.1.entering in
    record { checks = entering.small_checks; displaced = entering.small_displaced; first = entering.small_first; came = entering.small_came }

pub returns : goal.returns
returns c = λ p is.
    let fits : FitsSigned w128 c.piece_gain.result = search rules in
    to_z-of_z w128 c.piece_gain.result fits ∙ c.piece_gain.ensures _ _ _ _ _ is.run is.entering

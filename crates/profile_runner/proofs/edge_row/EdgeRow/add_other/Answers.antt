use Rattle.std.proofs.Common.{◌≡◌, ◌∙◌, ◌<◌, List, sym, ap, subst}
use Rattle.std.specs.List.{All}
use Rattle.profile_runner.specs.Tallies.{with_edge, Ascend}
use Rattle.profile_runner.specs.declared.counts.Edge.{Edge}
use Rattle.profile_runner.proofs.edge_row.EdgeRow.add_other.Goals as goal

pub add_here-requires-clause-begun : goal.add_here-requires-clause-begun
add_here-requires-clause-begun c =
    subst (λ (es : List Edge). All (λ e. e.from ≡ c.args.from) es) (sym c.in_ok-spread.ensures) c.requires.begun

pub add_here-requires-clause-ascending : goal.add_here-requires-clause-ascending
add_here-requires-clause-ascending c =
    subst (Ascend 0) (sym c.in_ok-spread.ensures) c.requires.ascending

pub add_here-requires-clause-room : goal.add_here-requires-clause-room
add_here-requires-clause-room c =
    subst (λ (es : List Edge). All (λ e. e.count < 18446744073709551615) es) (sym c.in_ok-spread.ensures) c.requires.room

pub returns-in-Ok : goal.returns-in-Ok
returns-in-Ok c =
    c.in-Ok.ensures ∙ ap (λ (es : List Edge). with_edge es c.args.from c.args.to) c.in_ok-spread.ensures

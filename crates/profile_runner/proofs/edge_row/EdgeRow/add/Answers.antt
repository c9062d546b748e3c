use Rattle.std.proofs.Common.{◌≡◌, ◌∙◌, ◌<◌, List, sym, ap, subst}
use Rattle.std.specs.List.{All}
use Rattle.profile_runner.specs.Tallies.{with_edge, Ascend}
use Rattle.profile_runner.specs.declared.counts.Edge.{Edge}
use Rattle.profile_runner.proofs.edge_row.EdgeRow.add.Goals as goal

pub returns-then-count_listed : goal.returns-then-count_listed
returns-then-count_listed c = c.count_listed.ensures.listed c.if-count_listed.true c.args.from

pub add_other-requires-clause-begun : goal.add_other-requires-clause-begun
add_other-requires-clause-begun c =
    subst (λ (es : List Edge). All (λ e. e.from ≡ c.args.from) es) (sym (c.count_listed.ensures.other c.if-count_listed.false)) c.requires.begun

pub add_other-requires-clause-ascending : goal.add_other-requires-clause-ascending
add_other-requires-clause-ascending c =
    subst (Ascend 0) (sym (c.count_listed.ensures.other c.if-count_listed.false)) c.requires.ascending

pub add_other-requires-clause-room : goal.add_other-requires-clause-room
add_other-requires-clause-room c =
    subst (λ (es : List Edge). All (λ e. e.count < 18446744073709551615) es) (sym (c.count_listed.ensures.other c.if-count_listed.false)) c.requires.room

pub returns-in-Ok : goal.returns-in-Ok
returns-in-Ok c =
    c.in-Ok.ensures ∙ ap (λ (es : List Edge). with_edge es c.args.from c.args.to) (c.count_listed.ensures.other c.if-count_listed.false)

use Rattle.std.proofs.Common.{◌≡◌, ◌∙◌, ◌<◌, List, sym, ap, subst}
use Rattle.std.specs.List.{All}
use Rattle.profile_runner.specs.Tallies.{with_edge, Ascend, edges_of}
use Rattle.profile_runner.specs.declared.counts.Edge.{Edge}
use Rattle.profile_runner.proofs.ManyLemmas.{many_more, count_room}
use Rattle.profile_runner.proofs.edge_row.EdgeRow.add_here.Goals as goal

pub add_count-requires : goal.add_count-requires
add_count-requires c =
    count_room c.in-Many.begun c.args.to c.in-Many.counts.entries
    (subst (λ (es : List Edge). All (λ e. e.count < 18446744073709551615) es) (ap edges_of c.in-Many.is) c.requires.room)

pub returns-in-Ok-add_count : goal.returns-in-Ok-add_count
returns-in-Ok-add_count c =
    let many = ap edges_of c.in-Many.is in
    many_more c.args.from c.in-Many.begun c.args.to c.in-Many.counts.entries c.add_count.new.counts.entries
    (subst (λ (es : List Edge). All (λ e. e.from ≡ c.args.from) es) many c.requires.begun)
    (subst (Ascend 0) many c.requires.ascending)
    c.in-Ok-add_count.ensures
    ∙ ap (λ (es : List Edge). with_edge es c.args.from c.args.to) (sym many)

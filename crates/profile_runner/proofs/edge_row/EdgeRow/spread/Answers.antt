use Rattle.std.proofs.Common.{◌≡◌, ◌∙◌, List, map, sym, ap, subst}
use Rattle.std.specs.List.{All}
use Rattle.profile_runner.specs.Tallies.{counted_from, plain_count, edges_of}
use Rattle.profile_runner.specs.declared.counts.Edge.{Edge}
use Rattle.profile_runner.proofs.ManyLemmas.{many_are}
use Rattle.profile_runner.proofs.edge_row.EdgeRow.spread.Goals as goal

pub returns : goal.returns
returns c =
    let row = c.in-Few.row.items in
    let few : edges_of c.args.self.now ≡ row = ap edges_of c.in-Few.is in
    let counts : c.in_ok-counts-in-Few.counts.entries ≡ map plain_count row = rw c.deref.ensures.value at c.in_ok-counts-in-Few.ensures in
    ap (map (counted_from c.args.from)) counts
    ∙ (many_are c.args.from row (subst (λ (es : List Edge). All (λ e. e.from ≡ c.args.from) es) few c.requires.begun) ∙ sym few)

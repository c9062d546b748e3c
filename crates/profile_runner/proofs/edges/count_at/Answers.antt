use Rattle.std.proofs.Common.{◌≡◌, ◌+◌, set, sym, subst}
use Rattle.profile_runner.specs.declared.counts.Edge.{Edge}
use Rattle.profile_runner.specs.Tallies.{with_edge}
use Rattle.profile_runner.proofs.EdgeLemmas.{found_is}
use Rattle.profile_runner.proofs.edges.count_at.Goals as goal

pub returns : goal.returns
returns c from =
    subst (λ (e : Edge). set c.args.row.now.items c.args.k (record e { count = e.count + 1 }) ≡ with_edge c.args.row.now.items from c.args.to)
    (sym c.index_mut.ensures.value)
    (found_is c.args.row.now.items from c.args.to c.args.k c.index_mut.result.now c.requires.found)

use Rattle.std.proofs.Common.{◌≡◌, ◌∙◌, ◌-◌, suc, List, length, refl, sym, ap, subst, arith}
use Rattle.std.proofs.lemmas.List.{length-map}
use Rattle.profile_runner.specs.Counts.{AreEdges, edges_of}
use Rattle.profile_runner.specs.Tallies.{plain_edges, joined_below}
use Rattle.profile_runner.specs.declared.counts.Edge.{Edge}
use Rattle.profile_runner.specs.declared.edge_row.EdgeRow.{EdgeRow}
use Rattle.profile_runner.proofs.JoinLemmas.{edges_joined}
use Rattle.profile_runner.proofs.joining.profile_of.Goals as goal

pub returns : goal.returns
returns c starts regions last size transitions t some =
    let before : length transitions ≡ suc (length transitions - 1) = omega (arith, some) in
    let rows = plain_edges c.args.tally.edges.items in
    let count : length c.args.tally.edges.items ≡ length starts = sym (length-map c.args.tally.edges.items _) ∙ t.edges_are.height_is in
    let edges : c.in_ok-edges.edges.items ≡ joined_below rows (length starts) =
    c.in_ok-edges.ensures ∙ (ap (λ (es : List EdgeRow). joined_below (plain_edges es) (length es)) c.deref.ensures.value ∙ ap (joined_below rows) count) in
    record {
      steps = t.steps_are;
      outcome_is = refl;
      arrivals = t.arrivals_are;
      edges = subst (λ (es : List Edge). AreEdges es (length starts) (edges_of starts transitions)) (sym edges) (edges_joined rows (length starts) (length transitions) (edges_of starts transitions) t.edges_are);
      last_block = t.block_is (length transitions - 1) before;
      last_units = t.units_are (length transitions - 1) before;
      reads = t.reads_are;
      writes = t.writes_are;
      switches = t.switches_are;
      leaves = t.leaves_are;
      enters = t.enters_are;
    }

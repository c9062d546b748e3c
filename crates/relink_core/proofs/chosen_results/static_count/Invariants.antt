use Rattle.relink_core.proofs.NameLemmas.{CountsStatic}
use Rattle.relink_core.proofs.chosen_results.static_count.Given as goal

abbrev pub invariant-loop-k : goal.invariant-loop-k
invariant-loop-k l = CountsStatic l.names l.k l.count

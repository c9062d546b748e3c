use Rattle.std.proofs.Common.{◌≡◌}
use Rattle.list_checks.specs.Sorted.{sum_below}
use Rattle.energy_model.specs.Copied.{value_from, edge_in, edge_words}
use Rattle.energy_model.proofs.pieces.words_leaving.Given as goal

abbrev pub invariant-loop-j : goal.invariant-loop-j
invariant-loop-j l = l.total ≡ sum_below (λ j. value_from l.a (edge_words l.code l.graph l.range l.a) (edge_in l.profile.edges.items j)) l.j

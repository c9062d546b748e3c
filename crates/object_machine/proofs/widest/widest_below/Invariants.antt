use Rattle.std.proofs.Common.{◌≡◌, ℕ, true}
use Rattle.std.specs.List.{list_any}
use Rattle.object_graph.specs.Sites.{in_range}
use Rattle.object_machine.proofs.widest.widest_below.Given as goal

-- what lies in the widest so far lies in some
abbrev pub invariant-loop-k : goal.invariant-loop-k
invariant-loop-k l = (a : ℕ) → in_range l.widest a ≡ true → list_any (λ r. in_range r a) l.ranges.items ≡ true

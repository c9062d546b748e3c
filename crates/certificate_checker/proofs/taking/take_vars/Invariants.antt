use Rattle.std.proofs.Common.{◌≡◌, ℕ, ◌-◌, ◌≤◌, List, vec_capacity}
use Rattle.certificate_checker.specs.Reading.{vars_at}
use Rattle.certificate_checker.specs.Rooms.{AreTaken}
use Rattle.certificate_checker.proofs.ManyLemmas.{with_front}
use Rattle.certificate_checker.proofs.taking.take_vars.Given as goal

abbrev pub invariant-loop : goal.invariant-loop
invariant-loop l =
    (ks : List ℕ)
    × ((with_front ks (vars_at l.total (l.count - l.counter) l.row_end l.rest) ≡ vars_at l.total l.count 0 l.bytes)
    × AreTaken l.limit l.row_end l.take.items ks
    × (vec_capacity l.fn.take ≤ vec_capacity l.take))

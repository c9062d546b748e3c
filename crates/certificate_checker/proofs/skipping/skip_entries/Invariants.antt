use Rattle.std.proofs.Common.{◌≡◌, ℕ, ◌-◌, List}
use Rattle.certificate_checker.specs.Reading.{entries_at}
use Rattle.certificate_checker.proofs.ManyLemmas.{with_front}
use Rattle.certificate_checker.proofs.skipping.skip_entries.Given as goal

abbrev pub invariant-loop : goal.invariant-loop
invariant-loop l =
    (ms : List (ℕ × ℕ))
    × (with_front ms (entries_at l.total (l.count - l.counter) l.least l.rest) ≡ entries_at l.total l.count 0 l.bytes)

use Rattle.std.proofs.Common.{◌≡◌, ℕ, ◌-◌, ◌≤◌, List}
use Rattle.placement_programme.specs.Views.{plain_side}
use Rattle.certificate_checker.specs.Prices.{priced_at, credits, AreFrom}
use Rattle.certificate_checker.specs.Reading.{entries_at}
use Rattle.certificate_checker.specs.Loading.{IsLoaded}
use Rattle.certificate_checker.proofs.ManyLemmas.{with_front}
use Rattle.certificate_checker.proofs.loading.load_entries.Given as goal

abbrev pub invariant-loop : goal.invariant-loop
invariant-loop l = record {
  read : (ms : List (ℕ × ℕ))
      × ((with_front ms (entries_at l.total (l.count - l.counter) l.loaded.row_end l.rest) ≡ entries_at l.total l.count 0 l.bytes)
      × IsLoaded (plain_side l.pricing.side.now) (priced_at l.pricing.stamp l.prices) l.loaded.row_end l.loaded.bound ms);
  credit : l.loaded.credit ≡ credits (plain_side l.pricing.side.now) l.pricing.marks.now l.pricing.scale (priced_at l.pricing.stamp l.prices);
  stamps : (limit : ℕ) → limit ≤ l.pricing.stamp → AreFrom limit l.fn.prices → AreFrom limit l.prices;
}

use Rattle.std.proofs.Common.{◌≡◌, take}
use Rattle.placement_programme.specs.Views.{plain_side}
use Rattle.certificate_checker.specs.Prices.{priced_at, credits}
use Rattle.certificate_checker.specs.Loading.{IsLoaded}
use Rattle.certificate_checker.proofs.loading.load_rows.Given as goal

abbrev pub invariant-loop-entry : goal.invariant-loop-entry
invariant-loop-entry l = record {
  loaded : IsLoaded (plain_side l.pricing.side.now) (priced_at l.pricing.stamp l.prices) l.loaded.row_end l.loaded.bound (take l.entry-index l.multipliers);
  credit : l.loaded.credit ≡ credits (plain_side l.pricing.side.now) l.pricing.marks.now l.pricing.scale (priced_at l.pricing.stamp l.prices);
}

-- Changes from one region to another, as the code counts them.
use Rattle.std.proofs.Common.{◌≡◌, ℕ, suc, ◌+◌, ◌*◌, ◌≤◌, [], ap, arith}
use Rattle.std.proofs.lemmas.List.{length-map}
use Rattle.profile_runner.specs.Counts.{plain_rows, entry}
use Rattle.profile_runner.specs.declared.counts.Profile.{Profile}
use Rattle.energy_model.specs.Energy.{Scene, switch_words, switch_price}
use Rattle.energy_model.specs.Overlay.{changes_from}
use Rattle.energy_model.specs.OverlayCost.{IsSmallTable}
use Rattle.energy_model.specs.Gains.{HasSwitches}

pub switches_there : (q : Profile) (count s r : ℕ) → IsSmallTable (plain_rows q.switches.items) (suc count) (suc count) → s ≤ count → r ≤ count → HasSwitches q s r
switches_there q count s r table from to =
    let rows = length-map q.switches.items (λ row. row.items) in
    let height = table.height_is in
    let width = table.widths s (omega (arith, from)) in
    record {
      row = omega (arith, rows, height, from);
      column = omega (arith, width, to);
      small = table.small s r (omega (arith, from)) (omega (arith, to));
    }

pub price_is : (w : Scene) (s r words price : ℕ) → words ≡ switch_words w s r → price ≡ words * w.board.prices.main_fetch + 8 * w.board.prices.main_read + 8 * w.board.prices.main_write → price ≡ switch_price w [] s r
price_is w s r words price is sum =
    let fetches = ap (λ n. n * w.board.prices.main_fetch) is in
    omega (arith, fetches, sum)

pub times_is : (a b count price : ℕ) → a ≡ count → b ≡ price → a * b ≡ count * price
times_is a b count price first second = λ i. first i * second i

pub changes_more : (w : Scene) (q : Profile) (s to old more : ℕ) → old ≡ changes_from w q s to → more ≡ entry (plain_rows q.switches.items) s to * switch_price w [] s to → old + more ≡ changes_from w q s (to + 1)
changes_more w q s to old more before here =
    let next : changes_from w q s (to + 1) ≡ changes_from w q s (suc to) = ap (changes_from w q s) (one_more to) in
    omega (arith, before, here, next)
  where
    one_more : (n : ℕ) → n + 1 ≡ suc n
    one_more n = omega arith

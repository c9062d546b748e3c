use Rattle.std.proofs.Common.{◌∙◌, arith}
use Rattle.certificate_checker.proofs.RoomLemmas.{enough_off, enough_on}
use Rattle.certificate_checker.proofs.rooms.Room.new.Goals as goal

pub returns-clause-fits : goal.returns-clause-fits
returns-clause-fits c =
    let p = c.args.p.now in
    let path = c.in_ok-path.ensures in
    let prices = c.in_ok-prices.ensures ∙ c.most_vars-vars.ensures in
    let take = c.in_ok-take.ensures.exact ∙ c.most_vars-vars.ensures in
    record {
      path = omega (arith, path);
      off = c.in_ok-off.ensures;
      off_prices = enough_off _ _ _ prices;
      off_rows = c.in_ok-off_rows.ensures;
      off_take = enough_off _ _ _ take;
      on = c.in_ok-on.ensures;
      on_prices = enough_on _ _ p.on prices;
      on_rows = c.in_ok-on_rows.ensures;
      on_take = enough_on _ _ p.on take;
    }

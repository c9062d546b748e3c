use Rattle.std.proofs.Common.{◌≡◌, ◌∙◌, ℕ, List, Vec, take, drop, ◌++◌, length, sym, ap, subst, arith}
use Rattle.std.proofs.lemmas.List.{take-append-le, take_all}
use Rattle.std.specs.Global.{Global}
use Rattle.region_former.specs.Flow.{block_count}
use Rattle.region_former.specs.Rows.{AreRows}
use Rattle.region_former.proofs.reaching.rows.Goals as goal

pub returns-clause-rows : goal.returns-clause-rows
returns-clause-rows c =
    let code = c.args.code.now in
    let old = c.in_ok-rows.rows in
    let new = c.fill_rows.new.rows in
    let same : length new ≡ old.len = omega (arith, c.fill_rows.auto.rows, ap length c.deref_mut.ensures.value, old.ok.0) in
    let whole : take old.len (new ++ drop (length new) old.items) ≡ new =
    take-append-le old.len new (drop (length new) old.items) (omega (arith, same)) ∙ take_all old.len new (omega (arith, same)) in
    subst (λ (rs : List (Vec ℕ Global)). AreRows code c.args.driver (block_count code) rs) (sym whole) c.in_ok-fill_rows.ensures.rows

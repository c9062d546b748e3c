use Rattle.std.proofs.Common.{◌≡◌, ℕ, [], List, Vec, ap, sym, subst, length, arith}
use Rattle.std.specs.Global.{Global}
use Rattle.std.proofs.lemmas.List.{length_push}
use Rattle.certificate_checker.specs.RowWise.{plain_rows, row_at}
use Rattle.certificate_checker.proofs.RowWiseLemmas.{bare_more}
use Rattle.certificate_checker.proofs.row_wise.empty_rows.Goals as goal

pub loop-preserved : goal.loop-preserved
loop-preserved c =
    let items = c.in_ok-push.ensures.items in
    record {
      count = omega (arith, ap length items, length_push c.loop.rows.items c.new.result, c.loop.invariant.count);
      bare = subst (λ (rows : List (Vec (ℕ × ℕ) Global)). (row : ℕ) → row_at (plain_rows rows) row ≡ []) (sym {A = List (Vec (ℕ × ℕ) Global)} items)
          (bare_more c.loop.rows.items c.new.result c.new.ensures.items c.loop.invariant.bare);
    }

use Rattle.std.proofs.Common.{◌≡◌, length}
use Rattle.region_former.specs.Rows.{AreRows}
use Rattle.region_former.proofs.reaching.fill_rows.Given as goal

abbrev pub invariant-loop-a : goal.invariant-loop-a
invariant-loop-a l = (length l.rows ≡ length l.code.functions.items) × AreRows l.code l.driver l.a l.rows

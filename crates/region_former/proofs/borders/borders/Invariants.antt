use Rattle.std.proofs.Common.{false}
use Rattle.region_former.specs.Borders.{is_border}
use Rattle.region_former.specs.Rows.{Lists}
use Rattle.region_former.proofs.borders.borders.Given as goal

abbrev pub invariant-loop-b : goal.invariant-loop-b
invariant-loop-b l = Lists (is_border l.code l.regions) false l.b l.border.items

use Rattle.std.proofs.Common.{if◌then◌else◌}
use Rattle.region_former.specs.Borders.{region_in, becomes_none}
use Rattle.region_former.specs.Rows.{Lists}
use Rattle.region_former.proofs.borders.without_barred.Given as goal

abbrev pub invariant-loop-b : goal.invariant-loop-b
invariant-loop-b l = Lists
    (λ b. if becomes_none l.code l.has_dead l.regions (region_in l.regions b) then 0 else region_in l.regions b)
    0
    l.b
    l.left.items

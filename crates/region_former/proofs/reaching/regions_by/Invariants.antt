use Rattle.region_former.specs.Propagation.{mark_at, region_by}
use Rattle.region_former.specs.Rows.{Lists}
use Rattle.region_former.proofs.reaching.regions_by.Given as goal

abbrev pub invariant-loop-f : goal.invariant-loop-f
invariant-loop-f l = Lists (λ f. region_by l.regions (mark_at l.marks f)) 0 l.f l.made.items

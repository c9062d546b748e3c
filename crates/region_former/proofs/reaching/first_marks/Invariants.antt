use Rattle.region_former.specs.Propagation.{first_mark}
use Rattle.region_former.specs.Rows.{truth_at, Lists}
use Rattle.region_former.specs.declared.propagation.Reached.TheVariants.{ByNone}
use Rattle.region_former.proofs.reaching.first_marks.Given as goal

abbrev pub invariant-loop-f : goal.invariant-loop-f
invariant-loop-f l = Lists (λ f. first_mark f (truth_at l.roots f)) ByNone l.f l.marks.items

use Rattle.std.proofs.Common.{length, sym, subst}
use Rattle.placement_programme.specs.Bounds.{AscendWithin}
use Rattle.placement_programme.specs.Views.{plain_side}
use Rattle.branch_bound.specs.Assignments.{taken}
use Rattle.branch_bound.proofs.OnesLemmas.{ones_ascend}
use Rattle.branch_bound.proofs.SolveLemmas.{ascend_wider}
use Rattle.branch_bound.proofs.finishing.choice_on_side.Goals as goal

pub returns-clause-range : goal.returns-clause-range
returns-clause-range c =
    let s = plain_side c.args.side.now in
    let few = c.args.side.now.bounds.few_vars in
    subst (λ t. AscendWithin 0 4000 t) (sym c.in_ok-take.ensures)
    (ascend_wider 0 (length s.vars) 4000 (taken s c.deref.result.now) few (ones_ascend (length s.vars) c.deref.result.now))

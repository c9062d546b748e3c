use Rattle.std.proofs.Common.{◌≡◌, ◌+◌, length, sym, subst, arith}
use Rattle.placement_programme.specs.Programme.{gain_at}
use Rattle.placement_programme.specs.Views.{plain_side}
use Rattle.branch_bound.specs.Greatest.{Greatest}
use Rattle.branch_bound.specs.Greedy.{FitsAlone}
use Rattle.branch_bound.proofs.GreatestLemmas.{greatest_new, greatest_old}
use Rattle.branch_bound.proofs.greedy.best_alone.Goals as goal
use Rattle.branch_bound.proofs.greedy.best_alone.Goals.{then-is_better_alone, else-is_better_alone}

pub loop-number-preserved : goal.loop-number-preserved
loop-number-preserved c =
    let s = plain_side c.args.side.now in
    let n = c.loop-number.number in
    elim c.if-is_better_alone.branch [
      | then-is_better_alone w ↦ subst (λ b. Greatest (FitsAlone s) (gain_at s.vars) (n + 1) b) (sym w.best-is) (greatest_new (FitsAlone s) (gain_at s.vars) n (n + 1) c.loop-number.best c.is_better_alone.result (omega arith) c.loop-number.invariant c.is_better_alone.ensures w.if-is_better_alone.true)
      | else-is_better_alone w ↦ subst (λ b. Greatest (FitsAlone s) (gain_at s.vars) (n + 1) b) (sym w.best-is) (greatest_old (FitsAlone s) (gain_at s.vars) n (n + 1) c.loop-number.best c.is_better_alone.result (omega arith) c.loop-number.invariant c.is_better_alone.ensures w.if-is_better_alone.false)
    ]

pub returns : goal.returns
returns c =
    let s = plain_side c.args.side.now in
    let same : c.loop-number.number ≡ length s.vars = omega (arith, c.var_count-number-end.ensures.value, c.loop-number.auto.number-end, c.loop-number-test.false) in
    subst (λ n. Greatest (FitsAlone s) (gain_at s.vars) n c.loop-number.best) same c.loop-number.invariant

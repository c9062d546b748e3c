use Rattle.std.proofs.Common.{◌≡◌, ℕ, ◌<◌, ◌≤◌, sym, subst, arith}
use Rattle.std.proofs.lemmas.Result.{err_from_is_err_and}
use Rattle.object_machine.specs.State.{SourceState}
use Rattle.object_machine.specs.Runs.{Steps}
use Rattle.object_machine.specs.Machine.{state_of}
use Rattle.object_machine.proofs.RunLemmas.{steps_more, steps_to_end}
use Rattle.object_machine.proofs.machine.Source.run.Goals as goal
use Rattle.object_machine.proofs.machine.Source.run.Goals.{else-loop-test, then-loop-test+then-has_ended}

pub loop-preserved : goal.loop-preserved
loop-preserved c p agrees =
    let before = c.loop.invariant p agrees in
    let step = c.in_ok-step.ensures.step p before.0 in
    (step.0, steps_more p c.loop.counter _ _ _ c.in_ok-step.field-0 before.1 step.1)

pub returns-in_err-step-clause-err : goal.returns-in_err-step-clause-err
returns-in_err-step-clause-err c =
    let failed = err_from_is_err_and c.from_residual.result c.from_residual.ensures.1 in
    rw failed.1
    (λ p agrees.
    let before = c.loop.invariant p agrees in
    let none = c.in_err-step.ensures.err p before.0 in
    let less : c.loop.counter < c.args.n = omega arith in
    (none.0, (c.loop.counter, (less, subst (λ (s : SourceState). Steps p c.loop.counter (state_of p c.args.self.now) s) (sym none.1) before.1))))

-- all steps were taken, or the machine has ended and stays as it is
pub returns-clause-steps : goal.returns-clause-steps
returns-clause-steps c p agrees =
    let run = c.loop.invariant p agrees in
    let start = state_of p c.args.self.now in
    let end = state_of p c.loop.self in
    elim c.loop-test.branch [
      | else-loop-test w ↦
          let all : c.loop.counter ≡ c.args.n = omega arith in (run.0, subst (λ (k : ℕ). Steps p k start end) all run.1)
      | then-loop-test+then-has_ended w ↦
          let le : c.loop.counter ≤ c.args.n = omega arith in
          (run.0, steps_to_end p c.loop.counter c.args.n start end le w.if-has_ended.ensures run.1)
    ]

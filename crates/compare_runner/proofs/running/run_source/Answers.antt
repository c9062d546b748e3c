use Rattle.std.proofs.Common.{◌≡◌, ℕ, refl, sym, ◌∙◌, subst, arith}
use Rattle.object_machine.specs.State.{SourceState}
use Rattle.object_machine.specs.Runs.{Steps, HasEnded}
use Rattle.object_machine.specs.Machine.{state_of}
use Rattle.object_machine.proofs.RunLemmas.{steps_more, one_run}
use Rattle.compare_runner.specs.Comparing.{RunsUntil, IsOver}
use Rattle.compare_runner.proofs.UntilLemmas.{runs_none, runs_more, runs_until}
use Rattle.compare_runner.proofs.running.run_source.Goals as goal

pub loop-k-init : goal.loop-k-init
loop-k-init c p agrees =
    let start = state_of p c.args.source.now in
    (agrees, runs_none SourceState (Steps p) IsOver (one_run c.one_instruction.ensures p) start start refl)

pub loop-k-preserved : goal.loop-k-preserved
loop-k-preserved c p agrees =
    let before = c.loop-k.invariant p agrees in
    let step = c.in_ok-step_in.ensures.step p before.0 in
    let start = state_of p c.args.source.now in
    let here = state_of p c.loop-k.source in
    let next = state_of p c.step_in.new.self in (
      step.0,
      runs_more SourceState (Steps p) IsOver (one_run c.one_instruction.ensures p) start c.loop-k.k here next before.1
          (λ over. subst HasEnded (sym (c.outcome.ensures p) ∙ c.if-has_ended.ensures) over)
          (steps_more p c.loop-k.k start here next c.in_ok-step_in.field-0 before.1.ran step.1),
    )

pub returns-then-has_ended : goal.returns-then-has_ended
returns-then-has_ended c p agrees =
    let before = c.loop-k.invariant p agrees in
    let start = state_of p c.args.source.now in
    let here = state_of p c.loop-k.source in
    (before.0, runs_until SourceState (Steps p) IsOver (one_run c.one_instruction.ensures p) c.args.n start c.loop-k.k here before.1 (omega arith) (λ _. subst HasEnded (c.outcome.ensures p) c.if-has_ended.ensures))

pub returns : goal.returns
returns c p agrees =
    let before = c.loop-k.invariant p agrees in
    let start = state_of p c.args.source.now in
    let here = state_of p c.loop-k.source in
    let all : c.loop-k.k ≡ c.args.n = omega arith in
    (before.0, subst (λ (k : ℕ). RunsUntil SourceState (Steps p) IsOver c.args.n start k here) all (runs_until SourceState (Steps p) IsOver (one_run c.one_instruction.ensures p) c.args.n start c.loop-k.k here before.1 (omega arith) (λ less. absurd (omega (arith, all, less)))))

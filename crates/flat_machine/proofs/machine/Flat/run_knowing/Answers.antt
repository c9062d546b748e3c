use Rattle.std.proofs.Common.{◌≡◌, ◌-◌, sym, subst, arith}
use Rattle.std.specs.Bool.{MatchBool}
use Rattle.std.proofs.lemmas.Result.{err_from_is_err_and}
use Rattle.flat_machine.specs.declared.events.FlatOutcome.TheVariants.{GoesOn}
use Rattle.flat_machine.specs.Runs.{Steps, HasEnded}
use Rattle.flat_machine.specs.State.{State}
use Rattle.flat_machine.specs.Machine.{state_of}
use Rattle.flat_machine.proofs.Runs.{steps_left, next_left, ended_left, ended_any_steps}
use Rattle.flat_machine.proofs.machine.Flat.run_knowing.Goals as goal

-- the machine had ended
pub returns-then-has_ended-clause-steps : goal.returns-then-has_ended-clause-steps
returns-then-has_ended-clause-steps g c =
    ended_any_steps c.args.n (state_of g.S.ByteStore.byte_at c.args.self.now) c.if-has_ended.ensures

-- the step that failed was not taken
pub returns-in_err-step_untold-clause-err : goal.returns-in_err-step_untold-clause-err
returns-in_err-step_untold-clause-err g c =
    let few = c.run_near-left.ensures.few in
    let before : State = state_of g.S.ByteStore.byte_at c.args.self.now in
    let steps = steps_left c.args.n c.loop-left.left c.run_near-left.result before (state_of g.S.ByteStore.byte_at c.loop-left.self) (state_of g.S.ByteStore.byte_at c.run_near-left.new.self) c.loop-left.invariant.few few c.loop-left.invariant.steps c.run_near-left.ensures.steps in
    let taken = c.args.n - c.run_near-left.result in
    let p = err_from_is_err_and c.from_residual.result c.from_residual.ensures.1 in
    rw p.1 (taken, (omega arith, subst (λ t. Steps taken before t) (sym c.in_err-step_untold.ensures.err) steps))

-- near steps and one more
pub loop-left-preserved : goal.loop-left-preserved
loop-left-preserved g c =
    let few = c.run_near-left.ensures.few in
    let before : State = state_of g.S.ByteStore.byte_at c.args.self.now in
    let here : State = state_of g.S.ByteStore.byte_at c.run_near-left.new.self in
    let after : State = state_of g.S.ByteStore.byte_at c.step_untold.new.self in
    let steps = steps_left c.args.n c.loop-left.left c.run_near-left.result before (state_of g.S.ByteStore.byte_at c.loop-left.self) here c.loop-left.invariant.few few c.loop-left.invariant.steps c.run_near-left.ensures.steps in
    record {
      few = omega arith;
      steps = next_left c.args.n c.run_near-left.result before here after (omega arith) (omega arith) steps c.in_ok-step_untold.ensures.step;
      going = subst (λ goes. MatchBool goes (after.outcome ≡ GoesOn) (HasEnded after.outcome)) c.if-not-branch.false c.in_ok-step_untold.ensures.goes;
      known = c.in_ok-step_untold.ensures.known;
    }

-- all steps were taken
pub returns-then-left-eq0-clause-steps : goal.returns-then-left-eq0-clause-steps
returns-then-left-eq0-clause-steps g c =
    let few = c.run_near-left.ensures.few in
    let before : State = state_of g.S.ByteStore.byte_at c.args.self.now in
    let here : State = state_of g.S.ByteStore.byte_at c.run_near-left.new.self in
    let steps = steps_left c.args.n c.loop-left.left c.run_near-left.result before (state_of g.S.ByteStore.byte_at c.loop-left.self) here c.loop-left.invariant.few few c.loop-left.invariant.steps c.run_near-left.ensures.steps in
    let all : c.args.n - c.run_near-left.result ≡ c.args.n = omega arith in
    subst (λ k. Steps k before here) all steps

-- the machine has ended and stays as it is
pub returns-then-not-branch-clause-steps : goal.returns-then-not-branch-clause-steps
returns-then-not-branch-clause-steps g c =
    let few = c.run_near-left.ensures.few in
    let before : State = state_of g.S.ByteStore.byte_at c.args.self.now in
    let here : State = state_of g.S.ByteStore.byte_at c.run_near-left.new.self in
    let after : State = state_of g.S.ByteStore.byte_at c.step_untold.new.self in
    let steps = steps_left c.args.n c.loop-left.left c.run_near-left.result before (state_of g.S.ByteStore.byte_at c.loop-left.self) here c.loop-left.invariant.few few c.loop-left.invariant.steps c.run_near-left.ensures.steps in
    let ended : HasEnded after.outcome = subst (λ goes. MatchBool goes (after.outcome ≡ GoesOn) (HasEnded after.outcome)) c.if-not-branch.true c.in_ok-step_untold.ensures.goes in
    ended_left c.args.n (c.run_near-left.result - 1) before after (omega arith) (next_left c.args.n c.run_near-left.result before here after (omega arith) (omega arith) steps c.in_ok-step_untold.ensures.step) ended

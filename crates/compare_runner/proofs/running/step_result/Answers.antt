use Rattle.std.proofs.Common.{◌∙◌, length, ap, sym}
use Rattle.flat_machine.specs.Runs.{Steps}
use Rattle.flat_machine.specs.State.{State}
use Rattle.flat_machine.specs.Machine.{state_of}
use Rattle.flat_machine.proofs.Runs.{steps_more, one_run}
use Rattle.compare_runner.specs.Comparing.{IsFar}
use Rattle.compare_runner.proofs.UntilLemmas.{runs_more}
use Rattle.compare_runner.proofs.FarLemmas.{not_far, goes_on}
use Rattle.compare_runner.proofs.running.step_result.Goals as goal

-- a result that is not run far enough goes on
pub step_telling-requires-clause-going : goal.step_telling-requires-clause-going
step_telling-requires-clause-going g c =
    sym c.outcome.ensures ∙ goes_on c.args.source c.args.written (length c.output.result.now) c.outcome.result c.if-is_enough.ensures

pub loop-preserved : goal.loop-preserved
loop-preserved g c =
    let start = state_of g.S.ByteStore.byte_at c.args.machine.now in
    let here = state_of g.S.ByteStore.byte_at c.loop.machine in
    let next = state_of g.S.ByteStore.byte_at c.step_telling.new.self in
    let step = c.in_ok-step_telling.ensures.step in
    record {
      runs = runs_more State Steps (IsFar c.args.source c.args.written) (one_run c.one_instruction.ensures) start c.loop.counter here next c.loop.invariant.runs
          (not_far c.args.source c.args.written (length c.output.result.now) c.outcome.result here c.outcome.ensures (ap length c.output.ensures) c.if-is_enough.ensures)
          (steps_more c.loop.counter start here next step.event c.loop.invariant.runs.ran step.step);
      known = c.in_ok-step_telling.ensures.known;
    }

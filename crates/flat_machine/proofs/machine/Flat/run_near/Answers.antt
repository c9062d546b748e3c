use Rattle.std.proofs.Common.{◌-◌, arith, subst, sym}
use Rattle.flat_machine.specs.Runs.{Steps}
use Rattle.flat_machine.specs.Machine.{state_of, state_at}
use Rattle.flat_machine.proofs.Runs.{next_left}
use Rattle.flat_machine.proofs.machine.Flat.run_near.Goals as goal

-- one step more
pub loop-left-preserved : goal.loop-left-preserved
loop-left-preserved g c = record {
  some = omega arith;
  few = omega arith;
  steps = next_left c.args.n c.loop-left.left (state_of g.S.ByteStore.byte_at c.args.self.now) (state_at g.S.ByteStore.byte_at c.loop-left.self c.loop-left.pc) (state_at g.S.ByteStore.byte_at c.step_near.new.self c.step_near.new.pc) c.loop-left.invariant.some c.loop-left.invariant.few c.loop-left.invariant.steps c.loop-left-test.ensures.step;
  going = c.step_near.ensures.going;
  known = c.step_near.ensures.known;
}

-- all steps were taken
pub returns-then-left-eq0-clause-steps : goal.returns-then-left-eq0-clause-steps
returns-then-left-eq0-clause-steps g c = next_left c.args.n c.loop-left.left (state_of g.S.ByteStore.byte_at c.args.self.now) (state_at g.S.ByteStore.byte_at c.loop-left.self c.loop-left.pc) (state_at g.S.ByteStore.byte_at c.step_near.new.self c.step_near.new.pc) c.loop-left.invariant.some c.loop-left.invariant.few c.loop-left.invariant.steps c.loop-left-test.ensures.step

-- the next step was not near
pub returns-clause-steps : goal.returns-clause-steps
returns-clause-steps g c =
    subst (λ t. Steps (c.args.n - c.loop-left.left) (state_of g.S.ByteStore.byte_at c.args.self.now) t) (sym c.loop-left-test.ensures.step) c.loop-left.invariant.steps

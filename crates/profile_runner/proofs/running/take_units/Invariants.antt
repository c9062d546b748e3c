use Rattle.std.proofs.Common.{◌≡◌, ◌+◌, ◌-◌, ◌<◌, ◌≤◌, ℕ, suc, None}
use Rattle.object_machine.specs.declared.events.Outcome.TheVariants.{GoesOn}
use Rattle.object_machine.specs.Machine.{state_of}
use Rattle.profile_runner.specs.Tally.{HasLed}
use Rattle.profile_runner.specs.declared.tally.Tally.{Tally}
use Rattle.profile_runner.specs.Taking.{Course, StandsAt, IsBegun, MayTake}
use Rattle.profile_runner.proofs.running.take_units.Given as goal

-- the next unit is of the same block and was begun; what was counted is right where a step was taken
abbrev pub invariant-loop-left : goal.invariant-loop-left
invariant-loop-left l = record {
  few : l.left ≤ l.most;
  begun : (c : Course) (i : ℕ) → MayTake c i l.most l.initial.source l.initial.tally → IsBegun c (i + (l.most - l.left)) (suc (l.most - l.left)) l.source l.tally;
  going : (c : Course) (i : ℕ) → MayTake c i l.most l.initial.source l.initial.tally → (state_of c.program l.source).outcome ≡ GoesOn;
  closed : (c : Course) (i : ℕ) → MayTake c i l.most l.initial.source l.initial.tally → l.left < l.most → (z : Tally) → HasLed None l.tally z → StandsAt c (i + (l.most - l.left)) (l.most - l.left) l.source z None;
}

abbrev pub decreases-loop-left : goal.decreases-loop-left
decreases-loop-left l = l.left

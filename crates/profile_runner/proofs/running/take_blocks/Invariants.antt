use Rattle.std.proofs.Common.{◌≡◌, ℕ, ◌-◌, ◌<◌, ◌≤◌, false, Some, None, length}
use Rattle.object_machine.specs.declared.events.Outcome.TheVariants.{GoesOn}
use Rattle.profile_runner.specs.Transition.{is_going}
use Rattle.code_blocks.specs.Numbers.{starts_of}
use Rattle.object_machine.specs.Program.{Program}
use Rattle.object_machine.specs.Machine.{state_of, IsProgram}
use Rattle.profile_runner.specs.Tally.{IsNew}
use Rattle.profile_runner.specs.Running.{IsSoFar}
use Rattle.profile_runner.specs.Taking.{timed}
use Rattle.profile_runner.proofs.running.take_blocks.Given as goal

abbrev pub invariant-loop-left : goal.invariant-loop-left
invariant-loop-left g l = record {
  few : l.left ≤ l.n;
  before : l.left ≤ l.since;
  short : l.since - l.left ≤ 1073741824;
  led : (p : Program) (k : ℕ) → IsProgram p l.initial.source → l.coming ≡ Some k → (state_of p l.source).outcome ≡ GoesOn;
  ended : (p : Program) → IsProgram p l.initial.source → l.coming ≡ None → 0 < l.left → is_going (state_of p l.source).outcome ≡ false;
  far : (p : Program) (size : ℕ)
      → IsProgram p l.initial.source
      → IsNew (length l.parts.code.now.blocks.items) size l.parts.regions.now.count l.first l.initial.tally
      → IsSoFar (starts_of l.parts.code.now) l.parts.regions.now.of_block.items l.parts.regions.now.count size p (state_of p l.initial.source) (l.n - l.left) l.source (timed (l.n - l.left) (l.since - l.left) l.tally) l.coming;
}

abbrev pub decreases-loop-left : goal.decreases-loop-left
decreases-loop-left g l = l.left

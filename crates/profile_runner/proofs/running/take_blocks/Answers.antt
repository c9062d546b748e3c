use Rattle.std.proofs.Common.{◌≡◌, ◌+◌, ◌-◌, ℕ, Some, length, refl, sym, subst, arith}
use Rattle.code_blocks.specs.Numbers.{starts_of}
use Rattle.object_machine.specs.Program.{Program}
use Rattle.object_machine.specs.Machine.{state_of, IsProgram}
use Rattle.profile_runner.specs.Tally.{IsNew}
use Rattle.profile_runner.specs.Running.{IsSoFar}
use Rattle.profile_runner.specs.Taking.{timed}
use Rattle.profile_runner.proofs.FindLemmas.{starts_count}
use Rattle.profile_runner.proofs.LoopLemmas.{so_far_first, all_taken, all_to_end, not_some}
use Rattle.profile_runner.proofs.TakingLemmas.{course_by, course_is, stands_as, timed_new, may_count}
use Rattle.profile_runner.proofs.running.take_blocks.Goals.{else-loop-left-test, then-loop-left-test+in_default}
use Rattle.profile_runner.proofs.running.take_blocks.Goals as goal

pub loop-left-init : goal.loop-left-init
loop-left-init g c =
    record {
      few = omega arith;
      before = omega arith;
      short = omega arith;
      led = λ p k is at. c.requires.going p;
      ended = λ p is none some. cc;
      far = λ p size is new.
          let starts = starts_of c.args.parts.now.code.now in
          let regions = c.args.parts.now.regions.now in
          let source = c.args.source.now in
          let none = c.args.n - c.args.n in
          let steps : none ≡ 0 = omega arith in
          let begun = timed_new (length starts) size regions.count c.args.first none none c.args.tally.now steps
          (subst (λ (n : ℕ). IsNew n size regions.count c.args.first c.args.tally.now) (sym (starts_count c.args.parts.now.code.now)) new) in
          subst (λ k. IsSoFar starts regions.of_block.items regions.count size p (state_of p source) k source (timed none none c.args.tally.now) (Some c.args.first)) (sym steps)
          (so_far_first starts regions.of_block.items regions.count size c.args.first p source (timed none none c.args.tally.now) is begun (c.requires.begins p is));
    }

pub count_units-requires : goal.count_units-requires
count_units-requires g c =
    let starts = starts_of c.args.parts.now.code.now in
    let regions = c.args.parts.now.regions.now in
    let l = c.loop-left in
    let few = l.invariant.few in
    let p = c.requires.machine.some in
    let size = c.requires.nothing.0 in
    let s = state_of p c.args.source.now in
    let course = course_is c.args.parts.now.code.now regions size c.args.source.now p s c.requires.machine c.requires.machine.is c.requires.regions in
    let far = l.invariant.far p size c.requires.machine.is c.requires.nothing.1 in (
      course_by starts regions.of_block.items regions.count size p s,
      (
        c.args.n - l.left,
        (
          l.since - l.left,
          may_count starts regions.of_block.items regions.count size (c.args.n - l.left) (l.since - l.left) l.left p s l.source l.tally c.in-Some.block l.coming c.in-Some.is course far (l.invariant.led p c.in-Some.block c.requires.machine.is c.in-Some.is) (omega arith) (omega arith),
        ),
      ),
    )

pub loop-left-smaller : goal.loop-left-smaller
loop-left-smaller g c =
    let starts = starts_of c.args.parts.now.code.now in
    let regions = c.args.parts.now.regions.now in
    let l = c.loop-left in
    let few = l.invariant.few in
    let p = c.requires.machine.some in
    let size = c.requires.nothing.0 in
    let s = state_of p c.args.source.now in
    let course = course_is c.args.parts.now.code.now regions size c.args.source.now p s c.requires.machine c.requires.machine.is c.requires.regions in
    let far = l.invariant.far p size c.requires.machine.is c.requires.nothing.1 in
    (c.in_ok-rest.ensures (course_by starts regions.of_block.items regions.count size p s) (c.args.n - l.left) (l.since - l.left)
    (may_count starts regions.of_block.items regions.count size (c.args.n - l.left) (l.since - l.left) l.left p s l.source l.tally c.in-Some.block l.coming c.in-Some.is course far (l.invariant.led p c.in-Some.block c.requires.machine.is c.in-Some.is) (omega arith) (omega arith))).some

pub loop-left-preserved : goal.loop-left-preserved
loop-left-preserved g c =
    let starts = starts_of c.args.parts.now.code.now in
    let regions = c.args.parts.now.regions.now in
    let l = c.loop-left in
    let few = l.invariant.few in
    let rest = c.in_ok-rest.rest in
    let counted = λ (p : Program) (size : ℕ) (is : IsProgram p c.args.source.now) (new : IsNew (length c.args.parts.now.code.now.blocks.items) size regions.count c.args.first c.args.tally.now).
    let s = state_of p c.args.source.now in
    let course = course_is c.args.parts.now.code.now regions size c.args.source.now p s c.requires.machine is c.requires.regions in
    c.in_ok-rest.ensures (course_by starts regions.of_block.items regions.count size p s) (c.args.n - l.left) (l.since - l.left)
    (may_count starts regions.of_block.items regions.count size (c.args.n - l.left) (l.since - l.left) l.left p s l.source l.tally c.in-Some.block l.coming c.in-Some.is course (l.invariant.far p size is new) (l.invariant.led p c.in-Some.block is c.in-Some.is) (omega arith) (omega arith)) in
    let size = c.requires.nothing.0 in
    let new = c.requires.nothing.1 in
    let one = counted c.requires.machine.some size c.requires.machine.is new in
    let less = one.some in
    record {
      few = omega (arith, few, less);
      before = omega (arith, less);
      short = one.short;
      led = λ p k is at. (counted p size is new).led k at;
      ended = λ p is none some. (counted p size is new).ended none some;
      far = λ p size is new.
          let s = state_of p c.args.source.now in
          stands_as (course_by starts regions.of_block.items regions.count size p s) ((c.args.n - l.left) + (l.left - rest)) (c.args.n - rest) (l.left - rest) (l.left - rest) c.count_units.new.source c.count_units.new.tally c.in_ok-rest.next
          (omega (arith, few, less)) refl
          (counted p size is new).far;
    }

pub returns-clause-program : goal.returns-clause-program
returns-clause-program g c p is =
    (c.loop-left.invariant.far p c.requires.nothing.0 is c.requires.nothing.1).is

pub returns-clause-run : goal.returns-clause-run
returns-clause-run g c p size is new =
    let starts = starts_of c.args.parts.now.code.now in
    let regions = c.args.parts.now.regions.now in
    let l = c.loop-left in
    let s = state_of p c.args.source.now in
    let taken = c.args.n - l.left in
    let t = timed taken (l.since - l.left) l.tally in
    let far = l.invariant.far p size is new in
    elim c.loop-left-test.branch [
      | else-loop-left-test w ↦
          let none = w.loop-left-test in
          all_taken starts regions.of_block.items regions.count size p s taken c.args.n l.source t l.coming far (omega arith)
      | then-loop-left-test+in_default w ↦
          let some = w.loop-left-test.true in
          let none = not_some l.coming w.in_default.not-Some in
          all_to_end starts regions.of_block.items regions.count size p s taken c.args.n l.source t l.coming far (omega arith) (l.invariant.ended p is none some)
    ]

use Rattle.std.proofs.Common.{◌≡◌, ℕ, sym, ap, subst, arith}
use Rattle.flat_machine.specs.Machine.{state_of}
use Rattle.compare_runner.specs.declared.seeking.LastStep.{LastStep}
use Rattle.compare_runner.specs.Seeking.{IsThere, Finds, StopsNotBelow}
use Rattle.compare_runner.proofs.SeekLemmas.{nothing_sought, seek_more, sought_there, sought_nowhere}
use Rattle.compare_runner.proofs.seeking.seek.Goals as goal

pub loop-k-init : goal.loop-k-init
loop-k-init g c =
    nothing_sought c.args.patch.now c.args.next.now (state_of g.S.ByteStore.byte_at c.args.flat.now) c.args.before c.requires.outcome

pub loop-k-preserved : goal.loop-k-preserved
loop-k-preserved g c =
    let start = state_of g.S.ByteStore.byte_at c.args.flat.now in
    let here = state_of g.S.ByteStore.byte_at c.loop-k.flat in
    let next = state_of g.S.ByteStore.byte_at c.step.new.self in
    let last = c.loop-k.last in
    seek_more c.one_instruction.ensures c.args.patch.now c.args.next.now c.args.before.patched start c.loop-k.k here next last c.last_step-last.result c.in_ok-event.event c.loop-k.invariant
    (λ there. c.if-is_there.ensures (subst (λ (pc : ℕ). IsThere c.args.next.now last.patched last.outcome pc) (sym c.at.ensures) there))
    c.in_ok-event.ensures.step (ap (λ (x : LastStep). x.patched) c.last_step-last.ensures) (ap (λ (x : LastStep). x.outcome) c.last_step-last.ensures)

pub returns-then-is_there : goal.returns-then-is_there
returns-then-is_there g c =
    let start = state_of g.S.ByteStore.byte_at c.args.flat.now in
    let here = state_of g.S.ByteStore.byte_at c.loop-k.flat in
    let last = c.loop-k.last in (
      c.loop-k-test.true,
      sought_there c.one_instruction.ensures c.args.patch.now c.args.next.now c.args.before.patched start c.loop-k.k here last c.loop-k.invariant
          (subst (λ (pc : ℕ). IsThere c.args.next.now last.patched last.outcome pc) c.at.ensures c.if-is_there.ensures),
    )

pub returns : goal.returns
returns g c =
    let start = state_of g.S.ByteStore.byte_at c.args.flat.now in
    let here = state_of g.S.ByteStore.byte_at c.loop-k.flat in
    let all : c.loop-k.k ≡ c.args.bound = omega arith in
    subst (λ (k : ℕ). StopsNotBelow (Finds c.args.patch.now c.args.next.now c.args.before.patched) k start) all
    (sought_nowhere c.one_instruction.ensures c.args.patch.now c.args.next.now c.args.before.patched start c.loop-k.k here c.loop-k.last c.loop-k.invariant)

use Rattle.std.proofs.Common.{refl, ap}
use Rattle.flat_machine.specs.Machine.{state_of}
use Rattle.compare_runner.specs.declared.seeking.LastStep.{LastStep}
use Rattle.compare_runner.proofs.SeekLemmas.{came_found, never_found}
use Rattle.compare_runner.proofs.seeking.seek_next.Goals as goal

pub returns-in-Some : goal.returns-in-Some
returns-in-Some g c =
    let start = state_of g.S.ByteStore.byte_at c.args.flat.now in
    let behind = state_of g.S.ByteStore.byte_at c.step.new.self in
    let end = state_of g.S.ByteStore.byte_at c.seek.new.flat in
    came_found c.one_instruction.ensures c.args.patch.now c.args.next.now c.args.most start behind c.in_ok-first.first c.in_ok-first.ensures.step c.last_step.result.patched _ c.in-Some.more end _
    (ap (λ (x : LastStep). x.patched) c.last_step.ensures) c.in-Some.is c.in_ok-more.ensures refl refl

pub returns-in-None : goal.returns-in-None
returns-in-None g c =
    let start = state_of g.S.ByteStore.byte_at c.args.flat.now in
    let behind = state_of g.S.ByteStore.byte_at c.step.new.self in
    let end = state_of g.S.ByteStore.byte_at c.seek.new.flat in
    never_found c.one_instruction.ensures c.args.patch.now c.args.next.now c.args.most start behind c.in_ok-first.first c.in_ok-first.ensures.step c.last_step.result.patched _ end
    (ap (λ (x : LastStep). x.patched) c.last_step.ensures) c.in-None.is c.in_ok-more.ensures

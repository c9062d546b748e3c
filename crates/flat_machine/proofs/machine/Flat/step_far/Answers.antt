use Rattle.std.proofs.Common.{◌≡◌, ◌∙◌, sym, subst, ap}
use Rattle.flat_machine.specs.State.{State}
use Rattle.flat_machine.specs.Step.{performed, accessed}
use Rattle.flat_machine.specs.Known.{TellsStep}
use Rattle.flat_machine.specs.Machine.{state_of}
use Rattle.flat_machine.proofs.Tables.{known_step}
use Rattle.flat_machine.proofs.machine.Flat.step_far.Goals as goal

pub returns-in_ok-perform_far-in-Some-clause-step : goal.returns-in_ok-perform_far-in-Some-clause-step
returns-in_ok-perform_far-in-Some-clause-step g c =
    let s = state_of g.S.ByteStore.byte_at c.args.self.now in
    let t = state_of g.S.ByteStore.byte_at c.perform_far.new.self in
    let same = c.fetch.ensures.state in
    let i = c.in-Some.i in
    let told : c.access_of-access.result ≡ accessed s i = c.access_of-access.ensures ∙ ap (λ (x : State). accessed x i) same in
    subst (λ access. TellsStep s access t) (sym told)
    (known_step s t i c.requires.going c.in-Some.ensures.told (c.in_ok-perform_far-in-Some.ensures.state ∙ ap (λ (x : State). performed x i) same))

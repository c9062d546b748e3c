use Rattle.std.proofs.Common.{◌∙◌, ℕ, refl, ap}
use Rattle.flat_machine.specs.Machine as flat
use Rattle.object_machine.specs.Machine.{state_of}
use Rattle.profile_runner.proofs.RunLemmas.{performed}
use Rattle.compare_runner.specs.declared.forms.Sought.{Sought}
use Rattle.compare_runner.specs.Comings.{region_behind}
use Rattle.compare_runner.specs.Stepping.{traced_by}
use Rattle.compare_runner.proofs.StepLemmas.{told_found, traces}
use Rattle.compare_runner.proofs.stepping.trace_step.Goals as goal

pub returns : goal.returns
returns g c p is =
    let w = traced_by p c.args.of.now in
    let region = c.args.region.now in
    let s = state_of p c.args.source.now in
    let s' = state_of p c.step.new.self in
    let t = flat.state_of g.S.ByteStore.byte_at c.args.flat.now in
    let t' = flat.state_of g.S.ByteStore.byte_at c.seek_next.new.flat in
    let e = c.in_ok-event.event in
    let step = c.in_ok-event.ensures.step p is in
    let did = performed s.outcome p s s' e (c.requires.going p) step.1 in
    let sought : Sought = record { units = c.args.of.now.units; from = region; to = c.region_behind-to.result; home = c.at-pc.result } in
    let home_is = c.at-pc.ensures p in
    let to_is = c.region_behind-to.ensures ∙ ap (λ (a : ℕ). region_behind w.starts w.regions region a) home_is in
    let told =
    told_found w region s s' did.0 e did.1 sought refl refl to_is home_is c.args.of.now.board.now.patch c.next_by-next.result c.most_steps.result c.at-at.result t t' c.in_ok-came.came c.told_behind.result
    refl c.next_by-next.ensures c.most_steps.ensures.is c.at-at.ensures c.in_ok-came.ensures c.told_behind.ensures in
    (step.0, traces w region s s' did.0 e did.1 sought refl refl to_is home_is t t' c.region_behind-to.result c.told_behind.result to_is told)

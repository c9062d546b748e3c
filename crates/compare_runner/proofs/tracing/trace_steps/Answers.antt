use Rattle.std.proofs.Common.{◌≡◌, ◌∙◌, ℕ, false, sym, subst, arith}
use Rattle.elf_reader.specs.File.{plain_view}
use Rattle.flat_machine.specs.Machine as flat
use Rattle.object_machine.specs.Machine.{state_of}
use Rattle.object_machine.specs.Runs.{HasEnded}
use Rattle.compare_runner.specs.Marks.{step_text}
use Rattle.compare_runner.specs.Stepping.{traced_by}
use Rattle.compare_runner.proofs.TraceLemmas.{TracedAll, none_traced, traced_more, all_traced, traced_to_end, traced_to_lost, step_told}
use Rattle.compare_runner.proofs.tracing.trace_steps.Goals as goal

pub loop-k-init : goal.loop-k-init
loop-k-init g c p is =
    let line = step_text (plain_view c.args.of.now.view.now) c.args.of.now.graph.now.objects.items in
    (is, none_traced (traced_by p c.args.of.now) line c.args.n c.args.region (state_of p c.args.source.now) (flat.state_of g.S.ByteStore.byte_at c.args.flat.now) c.args.text.now.items)

pub trace_step-requires-clause-going : goal.trace_step-requires-clause-going
trace_step-requires-clause-going g c p = sym (c.outcome.ensures p) ∙ c.if-has_ended.ensures

pub loop-k-preserved : goal.loop-k-preserved
loop-k-preserved g c p is =
    let before = c.loop-k.invariant p is in
    let step = c.in_ok-step.ensures p before.0 in (
      step.0,
      traced_more _ _ _ _ _ _ _ _ _ _ _ _ before.1 _ _ _ c.in-Some.step _ (sym (c.outcome.ensures p) ∙ c.if-has_ended.ensures)
          (step_told _ _ _ _ _ _ _ _ _ c.in-Some.is step.1) c.in_ok-push_step-in-Some.ensures,
    )

pub returns-then-has_ended : goal.returns-then-has_ended
returns-then-has_ended g c p is =
    let before = c.loop-k.invariant p is in
    let all = traced_to_end _ _ _ _ _ _ _ _ _ _ _ _ before.1 (omega arith) (subst HasEnded (c.outcome.ensures p) c.if-has_ended.ensures) in
    (all.steps, (all.traces, all.text_is))

pub returns-in-None : goal.returns-in-None
returns-in-None g c p is =
    let before = c.loop-k.invariant p is in
    let step = c.in_ok-step.ensures p before.0 in
    let all =
    traced_to_lost _ _ _ _ _ _ _ _ _ _ _ _ before.1 _ _ _ c.loop-k-test.true (sym (c.outcome.ensures p) ∙ c.if-has_ended.ensures)
    (step_told _ _ _ _ _ _ _ _ _ c.in-None.is step.1) in
    (all.steps, (all.traces, all.text_is))

pub returns : goal.returns
returns g c p is =
    let w = traced_by p c.args.of.now in
    let line = step_text (plain_view c.args.of.now.view.now) c.args.of.now.graph.now.objects.items in
    let s = state_of p c.args.source.now in
    let t = flat.state_of g.S.ByteStore.byte_at c.args.flat.now in
    let before = c.loop-k.invariant p is in
    let number : c.loop-k.k ≡ c.args.n = omega arith in
    let all = subst (λ (k : ℕ). TracedAll w line c.args.n c.args.region s t c.args.text.now.items c.loop-k.text.items k false) number
    (all_traced w line c.args.n c.args.region s t c.args.text.now.items c.loop-k.k _ _ _ c.loop-k.text.items before.1 number) in
    (all.steps, (all.traces, all.text_is))

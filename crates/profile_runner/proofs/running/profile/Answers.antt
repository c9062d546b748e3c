use Rattle.std.proofs.Common.{◌≡◌, ◌∙◌, ℕ, length, sym, subst, arith, Some}
use Rattle.code_blocks.specs.Numbers.{starts_of}
use Rattle.object_machine.specs.Machine.{state_of}
use Rattle.profile_runner.specs.Tallies.{IsBlockAt}
use Rattle.profile_runner.specs.Tally.{IsNew}
use Rattle.profile_runner.specs.Taking.{timed}
use Rattle.profile_runner.proofs.LoopLemmas.{machine_of, begins_at, goes_at_first, not_some, tells_fault, tells_profile}
use Rattle.profile_runner.proofs.running.profile.Goals as goal

pub first_block-first-requires-clause-begins : goal.first_block-first-requires-clause-begins
first_block-first-requires-clause-begins g c =
    begins_at c.args.parts.now.graph.now c.args.parts.now.code.now c.args.source.now c.at.result c.requires.started c.at.ensures

pub take_blocks-requires-clause-machine : goal.take_blocks-requires-clause-machine
take_blocks-requires-clause-machine g c = machine_of c.args.parts.now.graph.now c.args.parts.now.code.now c.args.source.now c.requires.started

pub take_blocks-requires-clause-begins : goal.take_blocks-requires-clause-begins
take_blocks-requires-clause-begins g c p is =
    subst (λ (a : ℕ). IsBlockAt (starts_of c.args.parts.now.code.now) a (Some c.first_block-first.result)) (c.at.ensures p) c.first_block-first.ensures

pub take_blocks-requires-clause-going : goal.take_blocks-requires-clause-going
take_blocks-requires-clause-going g c p =
    goes_at_first c.args.parts.now.graph.now c.args.parts.now.code.now c.args.source.now p c.requires.started

pub returns-in-Some-clause-run : goal.returns-in-Some-clause-run
returns-in-Some-clause-run g c p is =
    let code = c.args.parts.now.code.now in
    let graph = c.args.parts.now.graph.now in
    let regions = c.args.parts.now.regions.now in
    let first = c.first_block-first.result in
    let blocks : c.len-blocks.result ≡ length code.blocks.items = omega (arith, c.len-blocks.ensures, code.blocks.ok.0) in
    let objects : c.len-objects.result ≡ length graph.objects.items = omega (arith, c.len-objects.ensures, graph.objects.ok.0) in
    let new = subst (λ (k : ℕ). IsNew (length code.blocks.items) k regions.count first c.in_ok-tally.tally) objects
    (subst (λ (k : ℕ). IsNew k c.len-objects.result regions.count first c.in_ok-tally.tally) blocks c.in_ok-tally.ensures) in
    let all = c.in_ok-steps.ensures.run p (length graph.objects.items) is new in
    tells_fault (starts_of code) regions.of_block.items regions.count (length graph.objects.items) p c.args.n (state_of p c.args.source.now) c.take_blocks.new.source (timed c.in_ok-steps.steps c.in_ok-steps.units c.take_blocks.new.tally) c.in-Some.fault c.outcome.result (c.outcome.ensures p) (sym c.in-Some.ensures) all

pub returns-in-Ok-clause-run : goal.returns-in-Ok-clause-run
returns-in-Ok-clause-run g c p is =
    let code = c.args.parts.now.code.now in
    let graph = c.args.parts.now.graph.now in
    let regions = c.args.parts.now.regions.now in
    let first = c.first_block-first.result in
    let blocks : c.len-blocks.result ≡ length code.blocks.items = omega (arith, c.len-blocks.ensures, code.blocks.ok.0) in
    let objects : c.len-objects.result ≡ length graph.objects.items = omega (arith, c.len-objects.ensures, graph.objects.ok.0) in
    let new = subst (λ (k : ℕ). IsNew (length code.blocks.items) k regions.count first c.in_ok-tally.tally) objects
    (subst (λ (k : ℕ). IsNew k c.len-objects.result regions.count first c.in_ok-tally.tally) blocks c.in_ok-tally.ensures) in
    let all = c.in_ok-steps.ensures.run p (length graph.objects.items) is new in
    let none = sym c.fault_of.ensures ∙ not_some c.fault_of.result c.in_default.not-Some in
    tells_profile (starts_of code) regions.of_block.items regions.count (length graph.objects.items) p c.args.n (state_of p c.args.source.now) c.take_blocks.new.source (timed c.in_ok-steps.steps c.in_ok-steps.units c.take_blocks.new.tally) c.in-Ok.profile c.outcome.result c.outcome-2.result (c.outcome.ensures p) none (c.outcome-2.ensures p) c.requires.some
    (goes_at_first graph code c.args.source.now p c.requires.started) all
    (λ transitions tally some. c.in-Ok.ensures (starts_of code) regions.of_block.items regions.count (length graph.objects.items) transitions tally some)

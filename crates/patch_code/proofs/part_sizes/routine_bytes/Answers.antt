use Rattle.std.proofs.Common.{◌≡◌, ap, arith}
use Rattle.patch_code.specs.Counts.{first_words}
use Rattle.patch_code.specs.Overlay.{switching}
use Rattle.patch_code.specs.StubPlans.{overlay_plan}
use Rattle.patch_code.proofs.SizeLemmas.{first_within, some_words}
use Rattle.patch_code.proofs.part_sizes.routine_bytes.Goals as goal

pub region_words-words-requires-clause-small : goal.region_words-words-requires-clause-small
region_words-words-requires-clause-small c =
    let all = some_words (overlay_plan c.args.plan.now) c.if-plan-eq0.false in
    let within = first_within (switching (overlay_plan c.args.plan.now)) c.args.plan.now.regions c.loop-i.i c.loop-i-test.true in
    let small = c.requires.small in
    omega (arith, all, within, small)

pub overflow_add-words-in-loop-i : goal.overflow_add-words-in-loop-i
overflow_add-words-in-loop-i c =
    let all = some_words (overlay_plan c.args.plan.now) c.if-plan-eq0.false in
    let within = first_within (switching (overlay_plan c.args.plan.now)) c.args.plan.now.regions c.loop-i.i c.loop-i-test.true in
    let small = c.requires.small in
    let so_far = c.loop-i.invariant in
    let here = c.region_words-words.ensures in
    omega (arith, all, within, small, so_far, here)

pub overflow_mul-result : goal.overflow_mul-result
overflow_mul-result c =
    let all = some_words (overlay_plan c.args.plan.now) c.if-plan-eq0.false in
    let past = c.loop-i-test.false in
    let end = c.loop-i.auto.i-end in
    let last : c.loop-i.i ≡ c.args.plan.now.regions = omega (arith, past, end) in
    let same = ap (λ n. first_words (switching (overlay_plan c.args.plan.now)) n) last in
    let small = c.requires.small in
    let so_far = c.loop-i.invariant in
    omega (arith, all, same, small, so_far)

pub returns : goal.returns
returns c =
    let all = some_words (overlay_plan c.args.plan.now) c.if-plan-eq0.false in
    let past = c.loop-i-test.false in
    let end = c.loop-i.auto.i-end in
    let last : c.loop-i.i ≡ c.args.plan.now.regions = omega (arith, past, end) in
    let same = ap (λ n. first_words (switching (overlay_plan c.args.plan.now)) n) last in
    let so_far = c.loop-i.invariant in
    omega (arith, all, same, so_far)

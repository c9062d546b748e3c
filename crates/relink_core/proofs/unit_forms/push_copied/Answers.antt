use Rattle.std.proofs.Common.{◌≡◌, ◌<◌, subst, arith}
use Rattle.relink_core.specs.Copies.{copied_in}
use Rattle.relink_core.specs.UnitSets.{Gains, Upto, CopiedForm}
use Rattle.relink_core.proofs.UnitSetLemmas.{gains_more, gains_first}
use Rattle.relink_core.proofs.UnitSteps.{unit_count, unit_ends, next_unit, as_many, copied_unit, first_unit}
use Rattle.relink_core.proofs.unit_forms.push_copied.Goals as goal

pub loop-k-init : goal.loop-k-init
loop-k-init c =
    let s = c.args.source.now in
    let x = c.args.copy.now in
    let b = c.args.b in (
      gains_first (CopiedForm (copied_in s x) c.args.region b) c.args.units.now.items,
      first_unit s x b c.requires.copy c.requires.held c.block_place-at.result (c.block_place-at.ensures s c.requires.copy),
    )

pub overflow_mul-at : goal.overflow_mul-at
overflow_mul-at c =
    let s = c.args.source.now in
    let x = c.args.copy.now in
    let b = c.args.b in
    let many = as_many s x b c.requires.copy c.requires.held c.index-block.result.now c.index-block.ensures in
    let below : c.loop-k.k < unit_count s x b c.requires.copy c.requires.held = omega (arith, many, c.loop-k-test.true, c.len-k-end.ensures, c.index-block.result.now.units.ok.0) in
    let ends = unit_ends s x b c.requires.copy c.requires.held c.loop-k.k below in
    let size = c.unit_words.ensures in
    omega (arith, ends, size)

pub overflow_add-at : goal.overflow_add-at
overflow_add-at c =
    let s = c.args.source.now in
    let x = c.args.copy.now in
    let b = c.args.b in
    let many = as_many s x b c.requires.copy c.requires.held c.index-block.result.now c.index-block.ensures in
    let below : c.loop-k.k < unit_count s x b c.requires.copy c.requires.held = omega (arith, many, c.loop-k-test.true, c.len-k-end.ensures, c.index-block.result.now.units.ok.0) in
    let ends = unit_ends s x b c.requires.copy c.requires.held c.loop-k.k below in
    let size = c.unit_words.ensures in
    let at = c.loop-k.invariant.1 in
    omega (arith, ends, size, at)

pub loop-k-preserved : goal.loop-k-preserved
loop-k-preserved c =
    let s = c.args.source.now in
    let x = c.args.copy.now in
    let b = c.args.b in
    let k = c.loop-k.k in (
      gains_more k (CopiedForm (copied_in s x) c.args.region b) _ _ _ c.loop-k.invariant.0
          (copied_unit s x b c.requires.copy c.requires.held c.index-block.result.now k c.loop-k.at c.args.region _ _ c.index-block.ensures c.loop-k.invariant.1 c.in_ok-push_unit.ensures),
      next_unit s x b c.requires.copy c.requires.held k c.loop-k.at c.unit_words.result c.loop-k.invariant.1 c.unit_words.ensures,
    )

pub returns : goal.returns
returns c =
    let s = c.args.source.now in
    let x = c.args.copy.now in
    let b = c.args.b in
    let many = as_many s x b c.requires.copy c.requires.held c.index-block.result.now c.index-block.ensures in
    let all : c.loop-k.k ≡ unit_count s x b c.requires.copy c.requires.held = omega (arith, many, c.loop-k-test.false, c.loop-k.auto.k-end, c.len-k-end.ensures, c.index-block.result.now.units.ok.0) in
    subst (λ m. Gains (Upto m (CopiedForm (copied_in s x) c.args.region b)) c.args.units.now.items c.loop-k.units.items) all c.loop-k.invariant.0

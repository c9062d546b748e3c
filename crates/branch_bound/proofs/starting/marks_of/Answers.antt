use Rattle.std.proofs.Common.{◌∙◌, ◌+◌, length, length-set, get_or, refl, arith}
use Rattle.placement_programme.specs.Views.{plain_side}
use Rattle.placement_programme.proofs.AscendLemmas.{number_below}
use Rattle.certificate_checker.specs.declared.fixings.Fixing.TheVariants.{One}
use Rattle.branch_bound.proofs.ChoiceLemmas.{marked_more}
use Rattle.branch_bound.proofs.starting.marks_of.Goals as goal

pub index_mut-requires : goal.index_mut-requires
index_mut-requires c =
    let s = plain_side c.args.side.now in
    let below = number_below 0 (length s.vars) c.args.take.now c.loop-number.number-index 0 c.requires c.loop-number-test.true in
    let long = c.loop-number.invariant.long in
    let len = c.loop-number.marks.ok.0 in
    omega (arith, below, long, len)

pub loop-number-preserved : goal.loop-number-preserved
loop-number-preserved c =
    let s = plain_side c.args.side.now in
    let i = c.loop-number.number-index in
    let k = get_or c.args.take.now i 0 in
    let below = number_below 0 (length s.vars) c.args.take.now i 0 c.requires c.loop-number-test.true in
    let long = c.loop-number.invariant.long in
    record {
      long = length-set c.loop-number.marks.items k One ∙ long;
      exact = marked_more s c.args.take.now i (i + 1) k c.loop-number.marks.items (omega arith) c.loop-number-test.true refl (omega (arith, below, long)) c.loop-number.invariant;
    }

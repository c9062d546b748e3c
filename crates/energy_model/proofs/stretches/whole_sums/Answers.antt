use Rattle.std.proofs.Common.{arith}
use Rattle.energy_model.proofs.StretchLemmas.{no_whole, whole_more, whole_few}
use Rattle.energy_model.proofs.stretches.whole_sums.Goals as goal

pub loop-k-init : goal.loop-k-init
loop-k-init c = λ g counts listed. no_whole c.args.code.now g c.args.profile.now c.args.b

pub added-sums-requires : goal.added-sums-requires
added-sums-requires c =
    let (g, (counts, listed)) = c.requires.code in
    let inside = c.requires.inside in
    let test = c.loop-k-test.true in
    whole_few c.args.code.now g c.args.profile.now c.args.b c.loop-k.k c.loop-k.sums c.whole_terms-more.result counts (omega (arith, inside, test)) (c.loop-k.invariant g counts listed) (c.whole_terms-more.ensures g counts listed)

pub loop-k-preserved : goal.loop-k-preserved
loop-k-preserved c = λ g counts listed.
    whole_more c.args.code.now g c.args.profile.now c.args.b c.loop-k.k c.loop-k.sums c.whole_terms-more.result c.added-sums.result (c.loop-k.invariant g counts listed) (c.whole_terms-more.ensures g counts listed) c.added-sums.ensures

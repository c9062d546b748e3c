-- The gain loses nothing as a number of 128 bits.
use Rattle.std.proofs.Common.{arith}
use Rattle.std.proofs.lemmas.Int.{fits_signed_from_abs, to_z-of_z}
use mir.Syntax.{w128}
use Rattle.placement_candidates.proofs.OneMoreLemmas.{total_small}
use Rattle.placement_candidates.proofs.one_more.more_var.Goals as goal

pub with_more-requires-clause-gain : goal.with_more-requires-clause-gain
with_more-requires-clause-gain c =
    let gain = c.index-var.result.now.gain in
    let small = total_small c.args.total.now c.args.k c.index-var.result.now c.requires.inside c.index-var.ensures in
    rw (to_z-of_z w128 gain (fits_signed_from_abs w128 gain (omega (arith, small)))) small

use Rattle.std.proofs.Common.{arith}
use Rattle.placement_candidates.proofs.SitedLemmas.{stands_more}
use Rattle.placement_candidates.proofs.region_sites.region_addresses.Goals as goal

pub loop-b-preserved : goal.loop-b-preserved
loop-b-preserved c a =
    stands_more c.args.code.now c.args.regions.now.of_block.items c.loop-b.b a c.region_of.result c.index.result.now c.loop-b.addresses.items c.push_block.new.addresses.items (omega (arith, c.loop-b-test.true, c.len-b-end.ensures)) c.index.ensures c.region_of.ensures (c.loop-b.invariant a) (c.in_ok-push_block.ensures a)

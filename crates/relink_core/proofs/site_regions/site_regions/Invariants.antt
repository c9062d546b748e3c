use Rattle.relink_core.proofs.UnitWords.{AreRegionsBelow}
use Rattle.relink_core.proofs.site_regions.site_regions.Given as goal

abbrev pub invariant-loop-k : goal.invariant-loop-k
invariant-loop-k l = AreRegionsBelow l.code l.regions.of_block.now l.graph l.k l.region_at_site.items

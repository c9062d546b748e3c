use Rattle.std.proofs.Common.{◌≡◌, min}
use Rattle.code_blocks.specs.Blocks.{count_below}
use Rattle.region_former.specs.Reaching.{root_region}
use Rattle.region_former.specs.Rows.{truth_at, Lists}
use Rattle.region_former.proofs.reaching.number_roots.Given as goal

abbrev pub invariant-loop-k : goal.invariant-loop-k
invariant-loop-k l = record {
  count : l.count ≡ min (count_below (truth_at l.roots) l.k) 8;
  regions : Lists (root_region (truth_at l.roots)) 0 l.k l.of_function.items;
}

use Rattle.code_blocks.specs.Leads.{owner_at}
use Rattle.region_former.specs.Rows.{Lists}
use Rattle.region_former.specs.Made.{region_for}
use Rattle.region_former.proofs.forming.block_regions.Given as goal

abbrev pub invariant-loop-b : goal.invariant-loop-b
invariant-loop-b l = Lists (λ b. region_for l.of_function (owner_at l.code b)) 0 l.b l.formed.items

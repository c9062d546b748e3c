use Rattle.std.proofs.Common.{◌≡◌, ℕ, ◌||◌, take}
use Rattle.std.specs.List.{list_any}
use Rattle.code_blocks.specs.Early.{has}
use Rattle.region_former.specs.Rows.{leads_there}
use Rattle.region_former.proofs.reaching.add_entered.Given as goal

abbrev pub invariant-loop-address : goal.invariant-loop-address
invariant-loop-address l = (g : ℕ) → has l.row.items g ≡ (has l.initial.row.items g || list_any (leads_there l.code l.driver g) (take l.address-index l.addresses))

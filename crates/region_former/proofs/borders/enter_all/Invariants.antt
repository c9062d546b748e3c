use Rattle.std.proofs.Common.{◌≡◌, ℕ, ◌<◌, ◌==◌, ◌&&◌, ◌||◌, not, take, length}
use Rattle.std.specs.List.{list_any}
use Rattle.code_blocks.specs.Numbers.{start_at}
use Rattle.region_former.specs.Flow.{block_count}
use Rattle.region_former.specs.Borders.{region_in}
use Rattle.region_former.specs.Rows.{truth_at}
use Rattle.region_former.proofs.borders.enter_all.Given as goal

abbrev pub invariant-loop-address : goal.invariant-loop-address
invariant-loop-address l = record {
  len : length l.entered ≡ length l.initial.entered;
  marked : (b : ℕ) → b < block_count l.code
      → truth_at l.entered b
      ≡ (truth_at l.initial.entered b
      || (list_any (λ x. x == start_at l.code b) (take l.address-index l.addresses)
      && not (region_in l.regions l.a == region_in l.regions b)));
}

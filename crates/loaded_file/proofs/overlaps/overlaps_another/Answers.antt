use Rattle.std.proofs.Common.{rules, ◌≡◌, ◌∙◌, nat_lt, ◌||◌}
use Rattle.loaded_file.specs.ByteRanges.{byte_range_at, furthest_end_below, reaches_next}
use Rattle.loaded_file.proofs.OverlapLemmas.{seen_in_sweep}
use Rattle.loaded_file.proofs.overlaps.overlaps_another.Goals as goal

pub returns-then-from-furthest_end : goal.returns-then-from-furthest_end
returns-then-from-furthest_end c =
    let xs = c.args.ranges.now in
    let k = c.args.k in
    let near : nat_lt c.from.result c.args.furthest_end ≡ (nat_lt (byte_range_at xs k).home (furthest_end_below xs k) || reaches_next xs k) = search rules in
    near ∙ seen_in_sweep xs c.requires.ascending c.requires.filled k c.requires.below

pub returns-else-from-furthest_end : goal.returns-else-from-furthest_end
returns-else-from-furthest_end c =
    let xs = c.args.ranges.now in
    let k = c.args.k in
    let near : c.reaches_next.result ≡ (nat_lt (byte_range_at xs k).home (furthest_end_below xs k) || reaches_next xs k) = search rules in
    near ∙ seen_in_sweep xs c.requires.ascending c.requires.filled k c.requires.below

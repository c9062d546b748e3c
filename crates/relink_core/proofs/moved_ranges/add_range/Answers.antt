use Rattle.std.proofs.Common.{◌∙◌, ◌==◌, ◌&&◌, if◌then◌else◌, ℕ, Some, None, sym, ap}
use Rattle.list_checks.specs.First.{◌or_else◌}
use Rattle.relink_core.specs.Making.{start_place}
use Rattle.relink_core.specs.MovedRanges.{place_of_range}
use Rattle.relink_core.proofs.MovedRangeLemmas.{range_added, range_kept}
use Rattle.relink_core.proofs.moved_ranges.add_range.Goals as goal

pub returns-in_ok-insert : goal.returns-in_ok-insert
returns-in_ok-insert c home n =
    let old = place_of_range c.args.ranges.now home n in
    let bytes = c.bytes_of-bytes.result in
    range_added bytes c.start_place.result c.args.ranges.now c.insert.new.self home n (sym c.contains_key.ensures ∙ c.if-not-contains_key.true) c.in_ok-insert.ensures.updates
    ∙ ap (λ (p : ℕ). old or_else (if (bytes.0 == home) && (bytes.1 == n) then Some p else None)) c.start_place.ensures
    ∙ ap (λ (b : ℕ × ℕ). old or_else (if (b.0 == home) && (b.1 == n) then Some (start_place c.args.places.now c.args.object) else None)) c.bytes_of-bytes.ensures

pub returns-else-not-contains_key : goal.returns-else-not-contains_key
returns-else-not-contains_key c home n =
    let old = place_of_range c.args.ranges.now home n in
    let bytes = c.bytes_of-bytes.result in
    let place = start_place c.args.places.now c.args.object in
    range_kept bytes place c.args.ranges.now home n (sym c.contains_key.ensures ∙ c.if-not-contains_key.false)
    ∙ ap (λ (b : ℕ × ℕ). old or_else (if (b.0 == home) && (b.1 == n) then Some place else None)) c.bytes_of-bytes.ensures

use Rattle.std.proofs.Common.{refl, sym, arith}
use Rattle.placement_candidates.specs.OverlayCounted.{scene_in}
use Rattle.placement_candidates.proofs.PieceLemmas.{part_entries}
use Rattle.placement_candidates.proofs.overlay_parts.part_of.Goals as goal

pub returns-clause-is : goal.returns-clause-is
returns-clause-is c =
    let entries = part_entries (scene_in c.args.m.now) c.args.piece.now in
    let bytes = c.patch_bytes.ensures in
    record { first = refl; last = refl; span = sym c.code_span.ensures; patch = omega (arith, entries, bytes) }

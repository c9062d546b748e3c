use Rattle.std.proofs.Common.{map}
use Rattle.placement_programme.specs.Plain.{plain_var}
use Rattle.placement_candidates.specs.FullViews.{plain_full_side}
use Rattle.placement_candidates.proofs.SelectLemmas.{parts_within}
use Rattle.placement_candidates.proofs.selecting.select_side.Goals as goal

pub side_of-requires : goal.side_of-requires
side_of-requires c =
    parts_within (plain_full_side c.args.side.now) c.in_ok-rows.rows.items (map plain_var c.in_ok-vars.vars.items) c.in_ok-rows.ensures c.in_ok-vars.ensures c.args.side.now.bounds

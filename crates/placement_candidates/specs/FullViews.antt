-- What a programme with all its candidates, and a side of it, are as plain lists and numbers.
use Rattle.std.specs.Prelude.{map, option_map}
use Rattle.placement_programme.specs.Plain.{PlainFullSide, PlainFull}
use Rattle.placement_candidates.specs.FullVars.{plain_full_var}
use Rattle.placement_candidates.specs.declared.full_sides.FullSide.{FullSide}
use Rattle.placement_candidates.specs.declared.full_sides.Full.{Full}

abbrev pub plain_full_side : FullSide → PlainFullSide
plain_full_side s = record { fixed = s.fixed; rows = s.rows.items; vars = map plain_full_var s.vars.items }

abbrev pub plain_full : Full → PlainFull
plain_full f = record { base = f.base; off = plain_full_side f.off; on = option_map plain_full_side f.on }

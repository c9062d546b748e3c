-- What a programme, a side and a choice of the code are as plain lists and numbers.
use Rattle.std.specs.Prelude.{map, option_map}
use Rattle.placement_programme.specs.Plain.{PlainSide, PlainProgramme, PlainChoice, plain_var}
use Rattle.placement_programme.specs.declared.sides.Side.{Side}
use Rattle.placement_programme.specs.declared.sides.Programme.{Programme}
use Rattle.placement_programme.specs.declared.choices.Choice.{Choice}

abbrev pub plain_side : Side → PlainSide
plain_side s = record { fixed = s.fixed; rows = s.rows.items; vars = map plain_var s.vars.items }

abbrev pub plain_programme : Programme → PlainProgramme
plain_programme p = record { base = p.base; off = plain_side p.off; on = option_map plain_side p.on }

abbrev pub plain_choice : Choice → PlainChoice
plain_choice c = record { on = c.on; take = c.take.items }

-- Beside each upper part of an address: what made it. It decides nothing of a run; it tells alone which word
-- the upper part is where an AUIPC keeps its own.
use Rattle.std.specs.Prelude.{ℕ, ◌==◌, Bool, true, false, not, ◌&&◌, ◌||◌, Option, Some, None, if◌then◌else◌}
use Rattle.rv32im.specs.Operations.{takes_low_bits}
use Rattle.rv32im.specs.declared.instructions.RegKind.{RegKind}
use Rattle.cell_values.specs.Objects.{Objects, low_of}
use Rattle.cell_values.specs.declared.values.Val.{Val}
use Rattle.cell_values.specs.declared.values.Val.TheVariants.{Hi}

-- a LUI, the AUIPC at an address, or parts of several put together
pub data Origin : Type 0 where
  ByLui : Origin
  ByAuipc : ℕ → Origin
  Mixed : Origin

abbrev pub same_origin : Origin → Origin → Bool
same_origin ByLui ByLui = true
same_origin (ByAuipc a) (ByAuipc b) = a == b
same_origin Mixed Mixed = true
same_origin one other = false

-- the origin of a word that is made of four parts with these origins
abbrev pub joined_origin : Origin → Origin → Origin → Origin → Origin
joined_origin a b c d = if same_origin a b && same_origin a c && same_origin a d then a else Mixed

-- a value is an upper part that no LUI made
abbrev pub is_by_lui : Origin → Bool
is_by_lui ByLui = true
is_by_lui origin = false

abbrev pub is_by_auipc : Origin → Val → Bool
is_by_auipc origin (Hi o d) = not (is_by_lui origin)
is_by_auipc origin x = false

abbrev pub is_known : Option ℕ → Bool
is_known (Some n) = true
is_known None = false

-- one takes the low bits of an upper part that no LUI made
abbrev pub takes_low : Objects → RegKind → Origin → Val → Origin → Val → Bool
takes_low os kind m x n y =
    takes_low_bits kind
    && (is_by_auipc m x && is_known (low_of os y) || is_by_auipc n y && is_known (low_of os x))

-- What the units of a block do together with a register.
use Rattle.std.specs.Prelude.{ℕ, ◌<◌, List, length}
use Rattle.code_blocks.specs.declared.parts.Unit.{Unit}
use Rattle.dataflow.specs.Live.{unit_in, Uses, Defines}

-- none of the first `count` units defines `x`
abbrev pub NoneDefines : List Unit → ℕ → ℕ → Type 0
NoneDefines us count x = (k : ℕ) → k < count → Defines (unit_in us k) x → ⊥

-- one of the first `count` units uses `x`, and none before it defines `x`
pub record UsedFirst (us : List Unit) (count x : ℕ) : Type 0 where
  pub k : ℕ
  pub below : k < count
  pub uses : Uses (unit_in us k) x
  pub before : NoneDefines us k x

-- there are units, and none of them defines `x`
pub record PassesOver (us : List Unit) (x : ℕ) : Type 0 where
  pub some : 0 < length us
  pub none : NoneDefines us (length us) x

-- What a table of live registers tells.
use Rattle.std.specs.Prelude.{◌≡◌, ◌↔◌, ℕ, ◌<◌, ◌≤◌, List, Option, MatchOption}
use Rattle.rv32im.specs.RegSet.{IsIn}
use Rattle.rv32im.specs.declared.instructions.RegSet.{RegSet}
use Rattle.reach_graph.specs.Reaching.{HasMark, word_at}
use Rattle.code_blocks.specs.Numbers.{starts_of}
use Rattle.code_blocks.specs.declared.parts.Code.{Code}
use Rattle.code_blocks.specs.Leads.{IsBlockOf}
use Rattle.dataflow.specs.Live.{LiveAt, Live}
use Rattle.dataflow.specs.declared.table.LiveTable.{LiveTable}

-- words that tell which registers are live where each block begins
abbrev pub AreLive : Code → List ℕ → Type 0
AreLive c words = (b x : ℕ) → IsBlockOf c b → x < 32 → HasMark (word_at words b) x ↔ LiveAt c x b 0

-- the table is that of a program
pub record IsTableOf (c : Code) (t : LiveTable) : Type 0 where
  pub leaders : t.leaders.items ≡ starts_of c
  pub live : AreLive c t.live.items

-- `x` isn't live where the block at `leader` begins, and isn't to be avoided
pub record IsFree (c : Code) (leader : ℕ) (avoid : RegSet) (x : ℕ) : Type 0 where
  pub dead : Live c leader x → ⊥
  pub allowed : IsIn avoid x → ⊥

-- none of the registers from 5 up to `end` is free
abbrev pub NoneFree : Code → ℕ → RegSet → ℕ → Type 0
NoneFree c leader avoid end = (x : ℕ) → 5 ≤ x → x < end → IsFree c leader avoid x → ⊥

-- the least of x5 to x31 that is free, if one is
pub record IsLeastFree (c : Code) (leader : ℕ) (avoid : RegSet) (r : ℕ) : Type 0 where
  pub from : 5 ≤ r
  pub below : r < 32
  pub free : IsFree c leader avoid r
  pub least : NoneFree c leader avoid r

abbrev pub IsLeastDead : Code → ℕ → RegSet → Option ℕ → Type 0
IsLeastDead c leader avoid o = MatchOption o (NoneFree c leader avoid 32) (IsLeastFree c leader avoid)

-- When the first unit of a block can be displaced from its home.
use Rattle.std.specs.Prelude.{◌≡◌, ℕ, true, false, List, [], ◌∷◌, length, slice_index_or, All}
use Rattle.code_blocks.specs.Early.{has}
use Rattle.code_blocks.specs.Leads.{units_at, no_unit, links_base}
use Rattle.code_blocks.specs.Numbers.{starts_of, end_at}
use Rattle.code_blocks.specs.declared.parts.Code.{Code}
use Rattle.code_blocks.specs.declared.ends.End.{End}
use Rattle.code_blocks.specs.declared.ends.End.TheVariants.{Branch, Jump, Call, Tail}

-- where a unit that ends a block goes by a known address, and what is behind a branch
abbrev pub known_targets : End → List ℕ
known_targets (Branch target next) = target ∷ next ∷ []
known_targets (Jump target) = target ∷ []
known_targets (Call target back link) = target ∷ []
known_targets (Tail target) = target ∷ []
known_targets other = []

-- The first unit of block `b` doesn't link in its own base; and where it is the whole block, blocks begin at the known
-- addresses to which it goes. Its word may mean nothing.
pub record CanDisplace (c : Code) (b : ℕ) : Type 0 where
  pub links : links_base (slice_index_or (units_at c b) 0 no_unit).instr ≡ false
  pub leads : length (units_at c b) ≡ 1 → All (λ a. has (starts_of c) a ≡ true) (known_targets (end_at c b))

-- Programmes that differ in what their runs cost, and their mix: the sums of these costs, by weight.
use Rattle.std.specs.Prelude.{◌≡◌, ℕ, ◌*◌, ◌^◌, ◌<◌, ◌≤◌, ℤ, pos, ◌+ℤ◌, ◌*ℤ◌, List, [], ◌∷◌, map, length, Option, Some, None}
use Rattle.std.specs.List.{All, flat_map, sum_by}
use Rattle.placement_programme.specs.Plain.{PlainFullSide, PlainFull}
use Rattle.placement_candidates.specs.FullViews.{plain_full}
use Rattle.placement_candidates.specs.Selected.{var_in}
use Rattle.placement_candidates.specs.Stated.{IsSmallSide}
use Rattle.placement_candidates.specs.Overlaid.{IsSmallOn}
use Rattle.placement_candidates.specs.declared.part.Part.{Part}

-- what one of several runs states, and its weight; and the same of one side
pub record PlainPart : Type 0 where
  pub weight : ℕ
  pub full : PlainFull

pub record SidePart : Type 0 where
  pub weight : ℕ
  pub side : PlainFullSide

abbrev pub plain_part : Part → PlainPart
plain_part p = record { weight = p.weight; full = plain_full p.full }

-- ---- the sides of the parts

abbrev pub off_part : PlainPart → SidePart
off_part p = record { weight = p.weight; side = p.full.off }

abbrev pub off_sides : List PlainPart → List SidePart
off_sides parts = map off_part parts

-- those with overlay, of the parts that have one
abbrev pub on_part : ℕ → Option PlainFullSide → List SidePart
on_part weight None = []
on_part weight (Some side) = record { weight = weight; side = side } ∷ []

abbrev pub on_sides : List PlainPart → List SidePart
on_sides parts = flat_map (λ p. on_part p.weight p.full.on) parts

-- ---- sums by weight

-- what variable `k` of a side saves
abbrev pub gain_of : PlainFullSide → ℕ → ℤ
gain_of side k = (var_in side.vars k).gain

abbrev pub mixed_fixed : List SidePart → ℕ
mixed_fixed sides = sum_by (λ s. s.weight * s.side.fixed) sides

abbrev pub mixed_gain : List SidePart → ℕ → ℤ
mixed_gain [] k = pos 0
mixed_gain (s ∷ ss) k = pos s.weight *ℤ gain_of s.side k +ℤ mixed_gain ss k

-- ---- the mix

-- two sides have the same rows, and variables for the same items with the same weights, in the same order
pub record AreAlike (one other : PlainFullSide) : Type 0 where
  pub rows : one.rows ≡ other.rows
  pub names : map (λ v. v.name) one.vars ≡ map (λ v. v.name) other.vars
  pub weights : map (λ v. v.weights) one.vars ≡ map (λ v. v.weights) other.vars

-- a side is like that of each part, but that its fixed cost and its gains are the sums of theirs
pub record IsMixedSide (sides : List SidePart) (mixed : PlainFullSide) : Type 0 where
  pub alike : All (λ s. AreAlike s.side mixed) sides
  pub fixed : mixed.fixed ≡ mixed_fixed sides
  pub gains : (k : ℕ) → k < length mixed.vars → gain_of mixed k ≡ mixed_gain sides k

-- there is a side with overlay where each part has one, and none where none has
abbrev pub IsMixedOn : List PlainPart → Option PlainFullSide → Type 0
IsMixedOn parts None = All (λ p. p.full.on ≡ None) parts
IsMixedOn parts (Some mixed) = (length (on_sides parts) ≡ length parts) × IsMixedSide (on_sides parts) mixed

pub record IsMix (parts : List PlainPart) (mixed : PlainFull) : Type 0 where
  pub base : mixed.base ≡ sum_by (λ p. p.weight * p.full.base) parts
  pub off : IsMixedSide (off_sides parts) mixed.off
  pub on : IsMixedOn parts mixed.on

-- ---- what may be mixed

-- a part's weight is from 1 to 1,000, and its sums are small
pub record IsSmallPart (p : PlainPart) : Type 0 where
  pub some : 1 ≤ p.weight
  pub most : p.weight ≤ 1000
  pub base : p.full.base < 2 ^ 90
  pub off : IsSmallSide p.full.off
  pub on : IsSmallOn p.full.on

-- two parts are of one program and one board
abbrev pub AreAlikeOn : Option PlainFullSide → Option PlainFullSide → Type 0
AreAlikeOn None None = Unit {0}
AreAlikeOn None (Some other) = ⊥
AreAlikeOn (Some one) None = ⊥
AreAlikeOn (Some one) (Some other) = AreAlike one other

pub record AreOfOneProgram (one other : PlainPart) : Type 0 where
  pub off : AreAlike one.full.off other.full.off
  pub on : AreAlikeOn one.full.on other.full.on

-- 1 to 16 parts
pub record CanMix (parts : List PlainPart) : Type 0 where
  pub some : 1 ≤ length parts
  pub few : length parts ≤ 16
  pub small : All IsSmallPart parts
  pub alike : All (λ p. All (AreOfOneProgram p) parts) parts

-- Which words a value may be, where the objects stand at some places.
use Rattle.std.specs.Prelude.{◌≡◌, ◌⊎◌, ℕ, ◌+◌, ◌*◌, ◌%◌, ◌<◌, Bool, true, false, Option, Some, None}
use Rattle.rv32im.specs.Words.{plus, minus, upper_half, byte_of}
use Rattle.cell_values.specs.Objects.{Objects, IsGrain}
use Rattle.cell_values.specs.declared.values.Val.{Val}
use Rattle.cell_values.specs.declared.values.Val.TheVariants.{Int, Addr, Hi, Low, Piece, Unknown}
use Rattle.cell_values.specs.declared.values.Cell.{Cell}
use Rattle.cell_values.specs.declared.values.Cell.TheVariants.{Byte, Part, Mist}
use Rattle.cell_values.specs.Origins.{Origin, ByLui, ByAuipc, Mixed}

-- the place of each object
abbrev pub Places : Type 0
Places = ℕ → ℕ

-- places at which objects may stand: as their homes modulo the grain, behind address 0 and below 2 ^ 32, and
-- no two objects share a byte
pub record Fit (os : Objects) (place : Places) : Type 0 where
  pub grain : IsGrain os.grain
  pub congruent : (o : ℕ) → place o % os.grain ≡ os.home o % os.grain
  pub positive : (o : ℕ) → 0 < place o
  pub below : (o : ℕ) → place o + os.size o < 4294967296
  pub disjoint : (o p i j : ℕ) → (o ≡ p → ⊥) → i < os.size o → j < os.size p → place o + i ≡ place p + j → ⊥

-- the word of an address, and of the upper part that a LUI makes of it
abbrev pub address_word : Places → ℕ → ℕ → ℕ
address_word place o d = plus (place o) d

abbrev pub upper_word : Places → ℕ → ℕ → ℕ
upper_word place o d = upper_half (address_word place o d) * 4096

-- the word of each upper part by its origin; none where any word may be
abbrev pub Uppers : Type 0
Uppers = Origin → ℕ → ℕ → Option ℕ

-- where each site is a LUI of the object's place
abbrev pub moved_uppers : Places → Uppers
moved_uppers place origin o d = Some (upper_word place o d)

-- where the words of the file stay: an AUIPC makes the upper part of the distance from itself to the place
abbrev pub auipc_word : Places → ℕ → ℕ → ℕ → ℕ
auipc_word place at o d = plus at (upper_half (minus (address_word place o d) at) * 4096)

abbrev pub kept_uppers : Places → Uppers
kept_uppers place ByLui o d = Some (upper_word place o d)
kept_uppers place (ByAuipc at) o d = Some (auipc_word place at o d)
kept_uppers place Mixed o d = None

-- a LUI makes the upper part of the place
abbrev pub MakesByLui : Places → Uppers → Type 0
MakesByLui place up = (o d : ℕ) → up ByLui o d ≡ Some (upper_word place o d)

-- upper parts are words
abbrev pub AreWords : Uppers → Type 0
AreWords up = (m : Origin) (o d w : ℕ) → up m o d ≡ Some w → w < 4294967296

-- where parts of several origins are put together any word may be, or all origins make the same
abbrev pub MixesParts : Uppers → Type 0
MixesParts up = (m : Origin) (o d : ℕ) → (up Mixed o d ≡ None) ⊎ (up Mixed o d ≡ up m o d)

-- a word is one, if it is known
abbrev pub Is : Option ℕ → ℕ → Type 0
Is (Some x) w = w ≡ x
Is None w = Unit {0}

-- a byte is byte `k` of one
abbrev pub IsByte : Option ℕ → ℕ → ℕ → Type 0
IsByte (Some x) k b = b ≡ byte_of x k
IsByte None k b = Unit {0}

-- the word whose bytes parts are
abbrev pub whole : Places → Uppers → Origin → Bool → ℕ → ℕ → Option ℕ
whole place up origin true o d = up origin o d
whole place up origin false o d = Some (address_word place o d)

-- a word is one that the value may be
abbrev pub Stands : Objects → Places → Uppers → Origin → Val → ℕ → Type 0
Stands os place up origin (Int n) w = w ≡ n
Stands os place up origin (Addr o d) w = w ≡ address_word place o d
Stands os place up origin (Hi o d) w = Is (up origin o d) w
Stands os place up origin (Low n) w = w % os.grain ≡ n % os.grain
Stands os place up origin (Piece hi o d k) w = IsByte (whole place up origin hi o d) k (w % 256)
Stands os place up origin Unknown w = Unit {0}

-- a byte is one that the cell may be
abbrev pub CellStands : Places → Uppers → Origin → Cell → ℕ → Type 0
CellStands place up origin (Byte n) b = b ≡ n
CellStands place up origin (Part hi o d k) b = IsByte (whole place up origin hi o d) k b
CellStands place up origin Mist b = Unit {0}

-- the byte or the offset in a cell is a byte or a word
abbrev pub CellHoldsWord : Cell → Type 0
CellHoldsWord (Byte b) = b < 256
CellHoldsWord (Part hi o d k) = d < 4294967296
CellHoldsWord Mist = Unit {0}

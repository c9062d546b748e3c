-- Memory while a region is current, and what a switch does to it.
use Rattle.std.specs.Prelude.{◌≡◌, ℕ, ◌+◌, ◌<◌, ◌≤◌, ◌==◌, Bool, true, false, not, ◌&&◌, ◌||◌, List, length}
use Rattle.rv32im.specs.Memory.{Memory}
use Rattle.board_config.specs.declared.board.Range.{Range}
use Rattle.object_graph.specs.declared.parts.Graph.{Graph}
use Rattle.cell_values.specs.Objects.{object_of}
use Rattle.placement_programme.specs.declared.variables.VarName.{VarName}
use Rattle.relocator.specs.declared.slots.Slot.{Slot}
use Rattle.relocator.specs.Slots.{pair_of, is_code}
use Rattle.relocator.specs.Placing.{puts, placed}
use Rattle.relocator.specs.Laws.{IsPresent, slot_at}
use Rattle.result_laws.specs.ChosenJobs.{Images, is_static, is_overlaid, is_kept, code_number}

-- ---- images

-- slot `k` is one of code
abbrev pub IsOfCode : List Slot → ℕ → Type 0
IsOfCode slots k = (k < length slots) × (is_code (slot_at slots k).name ≡ true)

-- copies fit their slots, and no image meets the scratchpad or an object at home
pub record AreImages (spm : Range) (g : Graph) (slots : List Slot) (images : Images) : Type 0 where
  pub fit : (k : ℕ) → IsOfCode slots k → images.bytes (code_number slots k) ≤ (slot_at slots k).span
  pub off_scratchpad : (k i j : ℕ) → IsOfCode slots k → i < images.bytes (code_number slots k) → j < spm.size →
      images.at (code_number slots k) + i ≡ spm.base + j → ⊥
  pub off_homes : (k i o j : ℕ) → IsOfCode slots k → i < images.bytes (code_number slots k) → j < (object_of g o).size →
      (object_of g o).home + j ≡ images.at (code_number slots k) + i → ⊥

-- ---- while a region is current

-- `code` is byte `i` of the copy of item `n`: images stand, and copies of what is present
abbrev pub ImagesStand : List Slot → Images → (ℕ → ℕ → ℕ) → Memory → Type 0
ImagesStand slots images code mem =
    (k i : ℕ) → IsOfCode slots k → i < images.bytes (code_number slots k) →
    mem (images.at (code_number slots k) + i) ≡ code (code_number slots k) i

abbrev pub CopiesStand : List Slot → Images → (ℕ → ℕ → ℕ) → ℕ → Memory → Type 0
CopiesStand slots images code region mem =
    (k i : ℕ) → IsOfCode slots k → IsPresent region (slot_at slots k).name → i < images.bytes (code_number slots k) →
    mem ((slot_at slots k).at + i) ≡ code (code_number slots k) i

-- and objects that aren't writable have at home the bytes that they have at their places
pub record IsCurrent (g : Graph) (slots : List Slot) (images : Images) (code : ℕ → ℕ → ℕ) (region : ℕ) (mem : Memory) : Type 0 where
  pub still : (o i : ℕ) → (object_of g o).writable ≡ false → i < (object_of g o).size →
      mem ((object_of g o).home + i) ≡ mem (placed g slots region o + i)
  pub images_stand : ImagesStand slots images code mem
  pub copies : CopiesStand slots images code region mem

-- ---- switches

-- what is kept for the pair of two regions stays in a switch between them, where regions have twins
abbrev pub stays : Bool → ℕ → ℕ → Bool
stays twins one other = twins && (pair_of one == pair_of other)

-- what a switch moves in the region `r`, where `other` is the other region
abbrev pub is_moved : Bool → ℕ → ℕ → VarName → Bool
is_moved twins r other name = is_overlaid r name || (is_kept r name && not (stays twins r other))

-- an address of no slot of what passes a test
abbrev pub IsOffSlots : List Slot → (VarName → Bool) → ℕ → Type 0
IsOffSlots slots which a =
    (k i : ℕ) → k < length slots → which (slot_at slots k).name ≡ true → i < (slot_at slots k).span → (slot_at slots k).at + i ≡ a → ⊥

-- nor one at home of a writable object that stands in such a slot in a region
abbrev pub IsOffHomes : Graph → List Slot → (VarName → Bool) → ℕ → ℕ → Type 0
IsOffHomes g slots which region a =
    (k o i : ℕ) → k < length slots → which (slot_at slots k).name ≡ true → puts (slot_at slots k).name region o ≡ true →
    (object_of g o).writable ≡ true → i < (object_of g o).size → (object_of g o).home + i ≡ a → ⊥

-- the memory `new` behind a switch from `s` to `r`: each object's bytes are at its place in `r`, and no other byte changes
pub record IsSwitched (g : Graph) (slots : List Slot) (twins : Bool) (s r : ℕ) (old new : Memory) : Type 0 where
  pub moved : (o i : ℕ) → i < (object_of g o).size → new (placed g slots r o + i) ≡ old (placed g slots s o + i)
  pub elsewhere : (a : ℕ) → IsOffSlots slots (is_moved twins r s) a → IsOffHomes g slots (is_moved twins s r) s a → new a ≡ old a

-- behind the start: each object's bytes are at its first place as they were at home, and no other byte changes
pub record IsStarted (g : Graph) (slots : List Slot) (old new : Memory) : Type 0 where
  pub moved : (o i : ℕ) → i < (object_of g o).size → new (placed g slots 0 o + i) ≡ old ((object_of g o).home + i)
  pub elsewhere : (a : ℕ) → IsOffSlots slots is_static a → new a ≡ old a

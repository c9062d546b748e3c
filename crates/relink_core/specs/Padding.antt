-- Pads: words at the homes of entries that jump to their stubs.
use Rattle.std.specs.Prelude.{◌≡◌, ℕ, ◌<◌, Bool, not, List, ◌++◌, length, slice_index_or}
use Rattle.std.specs.List.{filter}
use Rattle.rv32im.specs.Table.{Means}
use Rattle.rv32im.specs.Sequences.{distance}
use Rattle.rv32im.specs.declared.instructions.Instr.TheVariants.{Jal}
use Rattle.code_blocks.specs.Early.{has}
use Rattle.block_splitter.specs.Copies.{Patch, Reaches}
use Rattle.patch_code.specs.declared.stub_plan.Stub.{Stub}

abbrev pub home_of : Stub → ℕ
home_of s = s.home

-- a jump at each home reaches its stub
abbrev pub ReachAll : List ℕ → List ℕ → Type 0
ReachAll homes stub_at =
    (k : ℕ) → k < length homes → Reaches (slice_index_or homes k 0) (slice_index_or stub_at k 0)

-- a word and its address: a jump from there to a stub
pub record IsPad (home to : ℕ) (p : Patch) : Type 0 where
  pub at : p.0 ≡ home
  pub means : Means p.1 (Jal 0 (distance home to))
  pub small : p.1 < 4294967296

-- one at each home, to its stub
pub record ArePads (homes stub_at : List ℕ) (pads : List Patch) : Type 0 where
  pub many : length pads ≡ length homes
  pub each : (k : ℕ) → k < length homes → IsPad (slice_index_or homes k 0) (slice_index_or stub_at k 0) (slice_index_or pads k (0, 0))

-- no pad stands at the address of a word
abbrev pub is_unpadded : List ℕ → Patch → Bool
is_unpadded homes p = not (has homes p.0)

-- the words at whose addresses no pad stands, and the pads
pub record ArePadded (words : List Patch) (homes stub_at : List ℕ) (padded : List Patch) : Type 0 where
  pub pads : List Patch
  pub are : ArePads homes stub_at pads
  pub whole : padded ≡ filter (is_unpadded homes) words ++ pads

-- The blocks of a choice of both sides that stubs serve: those by which control enters a region, and those of copies to which
-- it may come from outside their copy.
use Rattle.std.specs.Prelude.{◌≡◌, ℕ, ◌+◌, ◌*◌, ◌%◌, ◌<◌, ◌≤◌, Bool, true, false, ◌&&◌, ◌||◌, if◌then◌else◌, List, length, slice_index_or, All}
use Rattle.std.specs.List.{list_any, sum_by}
use Rattle.list_checks.specs.Sorted.{collected}
use Rattle.code_blocks.specs.Numbers.{start_at}
use Rattle.code_blocks.specs.declared.parts.Code.{Code}
use Rattle.dataflow.specs.Overlaid.{region_in, is_border}
use Rattle.block_splitter.specs.declared.unit_kind.UnitKind.{UnitKind}
use Rattle.block_splitter.specs.Forms.{holds_block, body_at, unit_in, is_site, kind_of, displaced_size}
use Rattle.block_splitter.specs.Pieces.{HasTemporary, is_entry}
use Rattle.block_splitter.specs.Copies.{ReachesTargets, IsDisplaced}
use Rattle.patch_code.specs.Serving.{StubBody, runs_words}
use Rattle.relink_core.specs.declared.code_regions.CodeRegions.{CodeRegions}
use Rattle.relink_core.specs.declared.copy_source.CopySource.{CopySource}
use Rattle.relink_core.specs.declared.placed_copy.PlacedCopy.{PlacedCopy}
use Rattle.relink_core.specs.declared.serving_plan.ServingPlan.{ServingPlan}
use Rattle.relink_core.specs.Copies.{IsSource, IsPlacedCopy}

-- ---- which blocks

-- a copy has block `b`, and control may come to it from outside the copy
abbrev pub copy_has : ℕ → PlacedCopy → Bool
copy_has b x = holds_block b x.range

abbrev pub enters_copy : Code → ℕ → PlacedCopy → Bool
enters_copy c b x = holds_block b x.range && is_entry c x.range b

abbrev pub is_copied : List PlacedCopy → ℕ → Bool
is_copied copies b = list_any (copy_has b) copies

-- a stub serves block `b`
abbrev pub needs_stub : Code → CodeRegions → List PlacedCopy → ℕ → Bool
needs_stub c regions copies b = is_border regions.border.now b || list_any (enters_copy c b) copies

-- these blocks, in order
abbrev pub stub_blocks : Code → CodeRegions → List PlacedCopy → List ℕ
stub_blocks c regions copies = collected (needs_stub c regions copies) (λ b. b) (length c.blocks.items)

-- ---- their sizes

-- the region for which the stub of block `b` tests, if it tests for one
abbrev pub region_tested : CodeRegions → ℕ → ℕ
region_tested regions b =
    if is_border regions.border.now b then region_in regions.of_block.now b else 0

-- how many bytes the test takes, and the whole stub
abbrev pub test_size : CodeRegions → ℕ → ℕ
test_size regions b = if is_border regions.border.now b then 88 else 0

-- the kind of the first unit of block `b`
abbrev pub first_kind : CopySource → ℕ → UnitKind
first_kind s b = kind_of (is_site s.graph.now) (body_at s.code.now.blocks.items b) 0

abbrev pub body_size : CopySource → List PlacedCopy → ℕ → ℕ
body_size s copies b = if is_copied copies b then 8 else 4 * displaced_size (first_kind s b)

abbrev pub stub_size : CopySource → CodeRegions → List PlacedCopy → ℕ → ℕ
stub_size s regions copies b = test_size regions b + body_size s copies b

-- ---- what is asked

-- the first unit of block `b`, displaced to `at`, reaches where it leads
abbrev pub ReachesFrom : CopySource → ℕ → ℕ → Type 0
ReachesFrom s b at = ReachesTargets at ((unit_in (body_at s.code.now.blocks.items b) 0).at + 4) (first_kind s b)

-- where control enters a region there is one, and a register that a jump may write
pub record IsEnteredAt (s : CopySource) (regions : CodeRegions) (b : ℕ) : Type 0 where
  pub some : 0 < region_in regions.of_block.now b
  pub free : HasTemporary s.code.now (start_at s.code.now b) 0

-- stubs of some blocks, one behind the other from `first` on, end by `limit`. Displaced units reach their targets from
-- there
pub record HasRoomFor (s : CopySource) (regions : CodeRegions) (copies : List PlacedCopy) (first limit : ℕ) (blocks : List ℕ) : Type 0 where
  pub ends : first + sum_by (stub_size s regions copies) blocks ≤ limit
  pub reach : (b at : ℕ) → is_border regions.border.now b ≡ true → is_copied copies b ≡ false → first ≤ at → at % 4 ≡ 0 →
      at + 4 * displaced_size (first_kind s b) ≤ limit → ReachesFrom s b at

-- ---- a table of copies

abbrev pub copy_at : List PlacedCopy → ℕ → PlacedCopy → PlacedCopy
copy_at copies n d = slice_index_or copies n d

-- copy `n` is one of the first `m` and has block `b`; or none of these has it, and `n` is a number that tells so
pub data IsCopyNumber (copies : List PlacedCopy) (none m b n : ℕ) : Type 0 where
  Copied : n < m → ((d : PlacedCopy) → copy_has b (copy_at copies n d) ≡ true) → IsCopyNumber copies none m b n
  Uncopied : n ≡ none → ((k : ℕ) (d : PlacedCopy) → k < m → copy_has b (copy_at copies k d) ≡ false) → IsCopyNumber copies none m b n

-- a table has the number of a copy for each of so many blocks
pub record HasCopyNumbers (copies : List PlacedCopy) (m blocks : ℕ) (numbers : List ℕ) : Type 0 where
  pub each_block : length numbers ≡ blocks
  pub is_number : (b : ℕ) → b < blocks → IsCopyNumber copies (length copies) m b (slice_index_or numbers b 0)

pub record IsServingPlan (w : ServingPlan) : Type 0 where
  pub source : IsSource w.source.now
  pub copies : All (IsPlacedCopy w.source.now) w.copies.now
  pub borders : (b : ℕ) → b < length w.source.now.code.now.blocks.items → is_border w.regions.now.border.now b ≡ true → IsEnteredAt w.source.now w.regions.now b
  pub numbers : HasCopyNumbers w.copies.now (length w.copies.now) (length w.source.now.code.now.blocks.items) w.numbers.items

-- a block of the code that is served
pub record NeedsStub (w : ServingPlan) (b : ℕ) : Type 0 where
  pub below : b < length w.source.now.code.now.blocks.items
  pub served : needs_stub w.source.now.code.now w.regions.now w.copies.now b ≡ true

-- ---- parts of a stub

-- a copy is one of a list, and has block `b`
pub record HasCopy (copies : List PlacedCopy) (b : ℕ) (x : PlacedCopy) : Type 0 where
  pub number : ℕ
  pub listed : number < length copies
  pub there : copy_at copies number x ≡ x
  pub has_it : copy_has b x ≡ true

-- a body has the words of the first unit of block `b`, displaced to `at`
pub record RunsDisplaced (s : CopySource) (at b : ℕ) (body : StubBody) : Type 0 where
  pub words : List ℕ
  pub runs : body ≡ runs_words words
  pub are : IsDisplaced s.sites.now at (unit_in (body_at s.code.now.blocks.items b) 0) (first_kind s b) words

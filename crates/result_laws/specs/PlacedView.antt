-- What the memory of a result holds when it is loaded, for a choice of what stands in the scratchpad.
use Rattle.std.specs.Prelude.{◌≡◌, ℕ, ◌<◌, Bool, true, false, ◌&&◌, ◌||◌, ◌==◌, if◌then◌else◌, List, length, map, All, Contains}
use Rattle.std.specs.List.{list_any}
use Rattle.list_checks.specs.Tests.{any_below}
use Rattle.elf_reader.specs.File.{PlainView}
use Rattle.elf_reader.specs.Image.{image_of}
use Rattle.elf_reader.specs.Loadable.{AreLoadable}
use Rattle.loaded_file.specs.Code.{image_word}
use Rattle.rv32im.specs.Table.{Means}
use Rattle.rv32im.specs.Sequences.{distance}
use Rattle.rv32im.specs.declared.instructions.Instr.TheVariants.{Jal}
use Rattle.board_config.specs.declared.board.Board.{Board}
use Rattle.flat_machine.specs.Lines.{HoldsAt}
use Rattle.object_graph.specs.Sites.{in_range, holds_changed_byte}
use Rattle.object_graph.specs.declared.parts.Graph.{Graph}
use Rattle.code_blocks.specs.declared.parts.Code.{Code}
use Rattle.code_blocks.specs.Numbers.{start_at}
use Rattle.dataflow.specs.Overlaid.{region_in, is_border}
use Rattle.block_splitter.specs.Forms.{holds_block, body_at, is_site, kind_of}
use Rattle.block_splitter.specs.Pieces.{IsTemporary, is_entry}
use Rattle.block_splitter.specs.Copies.{address_of, words_before, IsDisplaced}
use Rattle.patch_code.specs.Start.{StartPlan, start_at as stub_start}
use Rattle.patch_code.specs.Layout.{image_places}
use Rattle.patch_code.specs.Serving.{ServingStub, jumps_to, runs_words}
use Rattle.patch_code.specs.Overlay.{OverlayPlan, switching, serving_place, overlay_images_at, CanHold, AreOverlayWords}
use Rattle.patch_code.specs.Served.{body_at as stub_body_at}
use Rattle.result_laws.specs.ChosenJobs.{start_jobs, IsPlanOf}
use Rattle.result_laws.specs.PatchLaws.{LiesInPatch}
use Rattle.result_laws.specs.Moved.{IsMovedSite, IsMovedWord, IsOffWord}
use Rattle.result_laws.specs.LiveUnits.{StandsThere, code_unit}
use Rattle.result_laws.specs.PlacedPieces.{PlacedPiece}
use Rattle.result_laws.specs.ChosenPlacement.{ChosenPlacement, slots_in, places_in, piece_of, images_in, copy_in}

-- ---- entries

-- control may come to block `b` of a piece from outside it
abbrev pub enters_piece : Code → ℕ → PlacedPiece → Bool
enters_piece c b x = holds_block b x.range && is_entry c x.range b

-- a stub serves block `b`: control enters its region there, or it is an entry of a piece that is taken
abbrev pub is_served : Code → ChosenPlacement → ℕ → Bool
is_served c pl b = is_border pl.borders b || list_any (enters_piece c b) pl.pieces

-- a pad stands at an address: at the first unit of such a block
abbrev pub is_padded : Code → ChosenPlacement → ℕ → Bool
is_padded c pl a = any_below (λ b. is_served c pl b && (start_at c b == a)) (length c.blocks.items)

-- no piece that is taken has block `b`
abbrev pub IsUncopied : ChosenPlacement → ℕ → Type 0
IsUncopied pl b = (n : ℕ) → n < length pl.pieces → holds_block b (piece_of pl n).range ≡ false

-- ---- stubs

-- the body of a block's stub jumps to the copy of the block. Where it has none, it has the words of the block's first unit,
-- which has made room for the pad; they stand at `at`
pub data HasBody (c : Code) (g : Graph) (pl : ChosenPlacement) (at b : ℕ) (stub : ServingStub) : Type 0 where
  ToCopy : (n : ℕ) → n < length pl.pieces → holds_block b (piece_of pl n).range ≡ true
      → stub.body ≡ jumps_to (address_of (copy_in c g pl n) (words_before (copy_in c g pl n) b)) → HasBody c g pl at b stub
  Displaced : (words : List ℕ) → IsUncopied pl b → stub.body ≡ runs_words words
      → IsDisplaced pl.sites at (code_unit c b 0) (kind_of (is_site g) (body_at c.blocks.items b) 0) words → HasBody c g pl at b stub

-- A stub whose body stands at `at` serves block `b`, by a register that is dead where the block begins. It tests for the
-- block's region where control enters that there
pub record Serves (c : Code) (g : Graph) (pl : ChosenPlacement) (at b : ℕ) (stub : ServingStub) : Type 0 where
  pub home : stub.home ≡ start_at c b
  pub free : IsTemporary c (start_at c b) 0 stub.temp
  pub region : stub.region ≡ (if is_border pl.borders b then region_in pl.regions b else 0)
  pub body : HasBody c g pl at b stub

-- it serves a block of the code that is to be served
pub record ServesSome (c : Code) (g : Graph) (pl : ChosenPlacement) (plan : OverlayPlan) (stub : ServingStub) : Type 0 where
  pub block : ℕ
  pub below : block < length c.blocks.items
  pub served : is_served c pl block ≡ true
  pub serves : Serves c g pl (stub_body_at plan stub) block stub

-- a stub of the plan serves block `b`
pub record IsServedBy (c : Code) (g : Graph) (pl : ChosenPlacement) (plan : OverlayPlan) (b : ℕ) : Type 0 where
  pub stub : ServingStub
  pub listed : Contains plan.stubs stub
  pub serves : Serves c g pl (stub_body_at plan stub) b stub

pub record AreStubsOf (c : Code) (g : Graph) (pl : ChosenPlacement) (plan : OverlayPlan) : Type 0 where
  pub each : (b : ℕ) → b < length c.blocks.items → is_served c pl b ≡ true → IsServedBy c g pl plan b
  pub only : All (ServesSome c g pl plan) plan.stubs

-- ---- the patch range

abbrev pub start_plan : PlainView → Board → Graph → ChosenPlacement → StartPlan
start_plan v board g pl =
    record {
      base = board.patch.base;
      entry = v.entry;
      fence_i = board.fence_i;
      jobs = start_jobs g (images_in pl) (slots_in board pl);
    }

abbrev pub image_in : PlacedPiece → ℕ
image_in x = x.image

abbrev pub words_in : PlacedPiece → List ℕ
words_in x = x.words

-- the plan of the patch range has the jobs of the choice, the stubs of its entries and of those of regions, and the images
-- of its pieces
pub record IsPlanFor (v : PlainView) (board : Board) (g : Graph) (c : Code) (pl : ChosenPlacement) (plan : OverlayPlan) : Type 0 where
  pub start : plan.start ≡ start_plan v board g pl
  pub jobs : IsPlanOf g (images_in pl) (slots_in board pl) pl.count (switching plan)
  pub twins : plan.twins ≡ board.twins
  pub stubs : AreStubsOf c g pl plan
  pub images : plan.images ≡ map words_in pl.pieces
  pub places : map image_in pl.pieces ≡ image_places (overlay_images_at plan) plan.images
  pub can : CanHold plan
  pub lies : LiesInPatch board.patch plan

-- ---- the rest

-- the region of the block of the unit at an address; 0 where no unit stands there
pub data HasRegion (c : Code) (regions : List ℕ) (a : ℕ) : ℕ → Type 0 where
  InBlock : (b k : ℕ) → StandsThere c a b k → HasRegion c regions a (region_in regions b)
  Elsewhere : ((b k : ℕ) → StandsThere c a b k → ⊥) → HasRegion c regions a 0

-- an address at which a result has the byte of the file: outside the patch range, the sites, the words of data, the pads,
-- and the bytes of the file that a new file changes
pub record IsUntouched (v : PlainView) (board : Board) (g : Graph) (c : Code) (pl : ChosenPlacement) (a : ℕ) : Type 0 where
  pub patch : in_range board.patch a ≡ false
  pub sites : All (λ s. IsOffWord a s.at) g.sites.items
  pub words : All (λ d. IsOffWord a d.at) g.data_words.items
  pub pads : (b : ℕ) → b < length c.blocks.items → is_served c pl b ≡ true → IsOffWord a (start_at c b)
  pub unchanged : any_below (holds_changed_byte v a) (length v.segments) ≡ false

-- The result `w` of the file `v` begins with the start stub of its plan, which stands in the patch range. Blocks that are
-- served have pads, which lead to their stubs. Other sites make the addresses of the places in the regions of their blocks,
-- and words of data hold those of the places at the start. All else is as in the file.
pub record IsPlacedView (v w : PlainView) (board : Board) (g : Graph) (c : Code) (pl : ChosenPlacement) : Type 0 where
  pub plan : OverlayPlan
  pub words : List ℕ
  pub planned : IsPlanFor v board g c pl plan
  pub are : AreOverlayWords plan words
  pub loadable : AreLoadable w.segments
  pub entry : w.entry ≡ stub_start plan.start
  pub holds : HoldsAt (image_of w.segments) board.patch.base words
  pub pads : All (λ stub. Means (image_word w stub.home) (Jal 0 (distance stub.home (serving_place plan stub)))) plan.stubs
  pub sites : All (λ s. is_padded c pl s.at ≡ false → (r : ℕ) → HasRegion c pl.regions s.at r → IsMovedSite v w (places_in board g pl r) s) g.sites.items
  pub data_words : All (IsMovedWord w (places_in board g pl 0)) g.data_words.items
  pub elsewhere : (a : ℕ) → IsUntouched v board g c pl a → image_of w.segments a ≡ image_of v.segments a

-- Where the words of units stand in a result: homes off the scratchpad and the patch range, copies in the scratchpad, stubs
-- and displaced units in the patch range. Both ranges share no byte, so where a form stands tells which it is.
use Rattle.std.proofs.Common.{◌≡◌, ℕ, ◌+◌, ◌-◌, ◌*◌, ◌<◌, ◌≤◌, true, false, List, length, Some, sym, subst, arith}
use Rattle.std.specs.Prelude.{Contains}
use Rattle.std.proofs.lemmas.Bool.{both_ways}
use Rattle.board_config.specs.declared.board.Board.{Board}
use Rattle.object_graph.specs.Sites.{in_range}
use Rattle.object_graph.specs.declared.parts.Graph.{Graph}
use Rattle.code_blocks.specs.Leaders.{is_call_pair}
use Rattle.code_blocks.proofs.PairLemmas.{pair_is_code}
use Rattle.code_blocks.specs.Numbers.{end_at}
use Rattle.code_blocks.specs.declared.parts.Code.{Code}
use Rattle.block_splitter.specs.Forms.{holds_block, copy_size}
use Rattle.block_splitter.specs.Copies.{Copy, is_inside, kind_in, place_of, address_of}
use Rattle.result_laws.specs.CopyLaws.{falls_to, place_behind}
use Rattle.result_laws.proofs.Setting.{setting}
use Rattle.result_laws.proofs.Places.{unit_fits}
use Rattle.result_laws.proofs.CopiedUnits.{held_below}
use Rattle.patch_code.specs.Start.{start_at as stub_start, start_bytes}
use Rattle.patch_code.specs.Serving.{ServingStub, serving_size}
use Rattle.patch_code.specs.Overlay.{OverlayPlan, serving_place, rest_bytes}
use Rattle.patch_code.specs.Served.{body_at}
use Rattle.result_laws.specs.LiveUnits.{StandsThere}
use Rattle.result_laws.proofs.Kept.{code_kept}
use Rattle.result_laws.proofs.Loaded.{IsKept}
use Rattle.result_laws.proofs.Ranges.{lies_in_range, patch_off_spm}
use Rattle.result_laws.specs.Entries.{RunsIn}
use Rattle.result_laws.specs.ChosenPlacement.{ChosenPlacement, piece_of, copy_in}
use Rattle.result_laws.specs.PlacedView.{is_padded, IsUncopied, Serves}
use Rattle.result_laws.specs.PlacedLaws.{IsPlacedResult}
use Rattle.result_laws.specs.PlacedForms as forms
use Rattle.result_laws.specs.PlacedForms.{StandsAs}
use Rattle.result_laws.proofs.Apart.{home_kept, body_in_patch, copy_in_spm}
use Rattle.result_laws.proofs.Coming.{jump_fits}
use Rattle.result_laws.proofs.CopyWays as ways
use Rattle.result_laws.proofs.Standing.{copy_inside}
use Rattle.result_laws.proofs.StubBodies.{stub_inside}
use Rattle.relink_core.specs.UnitMaps.{piece_region, IsAtHome, IsUnitAt, AtHome, InCopy, InStub}
use Rattle.relink_core.specs.declared.unit_forms.UnitAt.{UnitAt}

-- ---- forms

-- a unit stands at its place in the copy of its block
pub record StandsInCopy (board : Board) (c : Code) (g : Graph) (pl : ChosenPlacement) (x : UnitAt) : Type 0 where
  pub piece : ℕ
  pub block : ℕ
  pub unit : ℕ
  pub inside : piece < length pl.pieces
  pub held : holds_block block (piece_of pl piece).range ≡ true
  pub there : StandsThere c x.home block unit
  pub place : x.at ≡ address_of (copy_in c g pl piece) (place_of (copy_in c g pl piece) block unit)
  pub present : x.region ≡ piece_region board pl piece

-- it is displaced into the body of its block's stub
pub record StandsInStub (c : Code) (g : Graph) (pl : ChosenPlacement) (plan : OverlayPlan) (x : UnitAt) : Type 0 where
  pub block : ℕ
  pub stub : ServingStub
  pub there : StandsThere c x.home block 0
  pub listed : Contains plan.stubs stub
  pub serves : Serves c g pl (body_at plan stub) block stub
  pub uncopied : IsUncopied pl block
  pub place : x.at ≡ body_at plan stub
  pub present : x.region ≡ 0

-- it stands at home, where no pad is
pub record StandsBare (c : Code) (pl : ChosenPlacement) (x : UnitAt) : Type 0 where
  pub home : IsAtHome c x
  pub bare : is_padded c pl x.home ≡ false

-- no form of the unit at `home` stands at an address
abbrev pub IsOff : (board : Board) (c : Code) (g : Graph) (pl : ChosenPlacement) (plan : OverlayPlan) (home a : ℕ) → Type 0
IsOff board c g pl plan home a = (x : UnitAt) → IsUnitAt board c g pl plan x → x.home ≡ home → x.at ≡ a → ⊥

-- where a form stands, a unit does
pub stands_as : (board : Board) (c : Code) (g : Graph) (pl : ChosenPlacement) (plan : OverlayPlan) (x : UnitAt) → IsUnitAt board c g pl plan x → StandsAs c g pl plan x.home x.at
stands_as board c g pl plan x (AtHome home bare) =
    subst (λ (a : ℕ). StandsAs c g pl plan x.home a) (sym home.at) (forms.AtHome x.home home.block home.unit home.there bare)
stands_as board c g pl plan x (InCopy n b k inside held there at region) =
    subst (λ (a : ℕ). StandsAs c g pl plan x.home a) (sym at) (forms.InCopy x.home n b k inside held there)
stands_as board c g pl plan x (InStub b stub there listed serves uncopied at region) =
    subst (λ (a : ℕ). StandsAs c g pl plan x.home a) (sym at) (forms.InStub x.home b stub there listed serves uncopied)

module _ (file out : List ℕ) (board : Board) (g : Graph) (c : Code) (pl : ChosenPlacement) (result : IsPlacedResult file out board g c pl) where
  open (setting file out board g c pl result) use {v, plan}

  -- ---- homes

  -- the home of a unit lies in neither range
  pub home_off : (u b k : ℕ) → StandsThere c u b k → IsKept v board u
  home_off u b k there = home_kept file out board g c pl result u b k there

  -- nor does the second word of a call of two
  pub pair_off : (u : ℕ) → is_call_pair v u ≡ true → IsKept v board (u + 4)
  pair_off u pair = code_kept file board g result.accepted (u + 4) (u + 4) (pair_is_code v u pair).1 (omega arith) (omega arith)

  -- ---- copies

  -- each word of a copy lies in the scratchpad
  pub word_in_spm : (n k : ℕ) → n < length pl.pieces → k < length (piece_of pl n).words → in_range board.spm (address_of (copy_in c g pl n) k) ≡ true
  word_in_spm n k inside below = copy_inside file out board g c pl result n inside (4 * k) (omega (arith, below))

  module _ (n b : ℕ) (inside : n < length pl.pieces) (held : holds_block b (piece_of pl n).range ≡ true) where
    abbrev copy : Copy
    copy = copy_in c g pl n

    -- the words of a unit are words of it
    pub unit_within : (u k : ℕ) → StandsThere c u b k → place_of copy b k + copy_size (is_inside copy) (kind_in copy b k) ≤ length (piece_of pl n).words
    unit_within u k there =
        let copied = ways.is_copy file out board g c pl result n inside in
        let below = held_below v copy (piece_of pl n).words (piece_of pl n).starts b copied held in
        let counts = ways.unit_count file out board g c pl result n inside b in
        let is = there.is in
        let fits = unit_fits copy b k held below (omega (arith, counts, is)) in
        let count = copied.copy.count in
        omega (arith, fits, count)

    pub unit_in_spm : (u k i : ℕ) → StandsThere c u b k → i < copy_size (is_inside copy) (kind_in copy b k) → in_range board.spm (address_of copy (place_of copy b k) + 4 * i) ≡ true
    unit_in_spm u k i there small =
        let within = unit_within u k there in
        let same : address_of copy (place_of copy b k + i) ≡ address_of copy (place_of copy b k) + 4 * i = omega arith in
        subst (λ (a : ℕ). in_range board.spm a ≡ true) same (word_in_spm n (place_of copy b k + i) inside (omega (arith, within, small)))

    -- so are the two behind a block from which control falls out of the piece
    pub behind_within : (r next : ℕ) → RunsIn pl.regions b r → falls_to (end_at c b) ≡ Some next → is_inside copy next ≡ false → place_behind copy b + 2 ≤ length (piece_of pl n).words
    behind_within r next runs falls leaves =
        let fits = jump_fits file out board g c pl result (λ q x a. Prim.Unit {0}) n inside r b held runs next falls leaves in
        let whole = fits.0 in
        let two = fits.1 in
        omega (arith, whole, two)

    pub behind_in_spm : (r next i : ℕ) → RunsIn pl.regions b r → falls_to (end_at c b) ≡ Some next → is_inside copy next ≡ false → i < 2 → in_range board.spm (address_of copy (place_behind copy b) + 4 * i) ≡ true
    behind_in_spm r next i runs falls leaves small =
        let within = behind_within r next runs falls leaves in
        let same : address_of copy (place_behind copy b + i) ≡ address_of copy (place_behind copy b) + 4 * i = omega arith in
        subst (λ (a : ℕ). in_range board.spm a ≡ true) same (word_in_spm n (place_behind copy b + i) inside (omega (arith, within, small)))

  -- ---- the patch range

  -- the words of the plan lie there: those of the start stub, of stubs, of the routine, and images
  pub plan_in_patch : (a : ℕ) → stub_start plan.start ≤ a → a < stub_start plan.start + (start_bytes plan.start + rest_bytes plan) → in_range board.patch a ≡ true
  plan_in_patch a from to =
      let base = result.view.planned.lies.base in
      let ends = result.view.planned.lies.ends in
      let size : ℕ = start_bytes plan.start + rest_bytes plan in
      let same : stub_start plan.start + (a - stub_start plan.start) ≡ a = omega (arith, from) in
      subst (λ (x : ℕ). in_range board.patch x ≡ true) same
      (lies_in_range board.patch 0 size (stub_start plan.start) (a - stub_start plan.start) (omega (arith, base)) (omega (arith, ends)) (omega (arith, from, to)))

  pub stub_in_patch : (stub : ServingStub) → Contains plan.stubs stub → (i : ℕ) → i < serving_size stub → in_range board.patch (serving_place plan stub + i) ≡ true
  stub_in_patch stub listed i small =
      let inside = stub_inside file out board g c pl result stub listed in
      let from = inside.from in
      let ends = inside.ends in
      plan_in_patch (serving_place plan stub + i) (omega (arith, from)) (omega (arith, ends, small))

  -- ---- both ranges

  pub ranges_apart : (a : ℕ) → in_range board.spm a ≡ true → in_range board.patch a ≡ true → ⊥
  ranges_apart a spm patch = both_ways (in_range board.spm a) (patch_off_spm v board a result.accepted.layout patch) spm

  home_apart : (x : UnitAt) → IsAtHome c x → IsKept v board x.at
  home_apart x at = subst (IsKept v board) (sym at.at) (home_off x.home at.block at.unit at.there)

  copy_apart : (x : UnitAt) (n b k : ℕ) → n < length pl.pieces → holds_block b (piece_of pl n).range ≡ true → StandsThere c x.home b k → x.at ≡ address_of (copy_in c g pl n) (place_of (copy_in c g pl n) b k) → in_range board.spm x.at ≡ true
  copy_apart x n b k inside held there at =
      subst (λ (a : ℕ). in_range board.spm a ≡ true) (sym at) (copy_in_spm file out board g c pl result x.home n b k inside held there)

  stub_apart : (x : UnitAt) (b : ℕ) (stub : ServingStub) → StandsThere c x.home b 0 → Contains plan.stubs stub → Serves c g pl (body_at plan stub) b stub → IsUncopied pl b → x.at ≡ body_at plan stub → in_range board.patch x.at ≡ true
  stub_apart x b stub there listed serves uncopied at =
      subst (λ (a : ℕ). in_range board.patch a ≡ true) (sym at) (body_in_patch file out board g c pl result x.home b stub there listed serves uncopied)

  -- ---- which form stands at an address

  -- in the scratchpad one in a copy
  pub only_copy : (x : UnitAt) → IsUnitAt board c g pl plan x → in_range board.spm x.at ≡ true → StandsInCopy board c g pl x
  only_copy x (AtHome home bare) inside = absurd (both_ways (in_range board.spm x.at) (home_apart x home).spm inside)
  only_copy x (InCopy n b k below held there at region) inside =
      record { piece = n; block = b; unit = k; inside = below; held = held; there = there; place = at; present = region }
  only_copy x (InStub b stub there listed serves uncopied at region) inside =
      absurd (ranges_apart x.at inside (stub_apart x b stub there listed serves uncopied at))

  -- in the patch range a displaced unit
  pub only_stub : (x : UnitAt) → IsUnitAt board c g pl plan x → in_range board.patch x.at ≡ true → StandsInStub c g pl plan x
  only_stub x (AtHome home bare) inside = absurd (both_ways (in_range board.patch x.at) (home_apart x home).patch inside)
  only_stub x (InCopy n b k below held there at region) inside =
      absurd (ranges_apart x.at (copy_apart x n b k below held there at) inside)
  only_stub x (InStub b stub there listed serves uncopied at region) inside =
      record { block = b; stub = stub; there = there; listed = listed; serves = serves; uncopied = uncopied; place = at; present = region }

  -- and elsewhere one at home
  pub only_home : (x : UnitAt) → IsUnitAt board c g pl plan x → IsKept v board x.at → StandsBare c pl x
  only_home x (AtHome home bare) kept = record { home = home; bare = bare }
  only_home x (InCopy n b k below held there at region) kept =
      absurd (both_ways (in_range board.spm x.at) kept.spm (copy_apart x n b k below held there at))
  only_home x (InStub b stub there listed serves uncopied at region) kept =
      absurd (both_ways (in_range board.patch x.at) kept.patch (stub_apart x b stub there listed serves uncopied at))

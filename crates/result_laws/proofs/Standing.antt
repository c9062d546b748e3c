-- What stands still in a result while a region is current: at home and in the patch range the bytes of its image, and in the
-- copies that are present their words. Sites make the addresses of the places in that region.
use Rattle.std.proofs.Common.{◌≡◌, ◌∙◌, ◌⊎◌, inl, inr, ℕ, ◌+◌, ◌*◌, ◌%◌, ◌<◌, ◌≤◌, ◌==◌, true, false, ◌&&◌, List, length, slice_index, slice_index_or, None, Some, sym, ap, subst, arith}
use Rattle.std.specs.Prelude.{Contains}
use Rattle.std.proofs.lemmas.Bool.{cases_lt, both_ways}
use Rattle.std.proofs.lemmas.Bool.Decides.{nat_tests}
use Rattle.std.proofs.lemmas.List.{length-map}
use Rattle.std.proofs.lemmas.List.Elements.{All-contains, Contains-get_or}
use Rattle.rv32im.specs.Words.{plus}
use Rattle.rv32im.specs.Memory.{Memory, word_at}
use Rattle.list_checks.proofs.TestLemmas.{any_at}
use Rattle.elf_reader.specs.Image.{image_of}
use Rattle.board_config.specs.Board.{mapped_ranges}
use Rattle.board_config.specs.declared.board.Board.{Board}
use Rattle.flat_machine.specs.Mapping as mapping
use Rattle.flat_machine.specs.Mapping.{all_mapped}
use Rattle.flat_machine.specs.Lines.{HoldsAt}
use Rattle.loaded_file.specs.Code.{is_code_word, image_word}
use Rattle.object_graph.specs.declared.parts.Site.{Site}
use Rattle.object_graph.specs.declared.parts.SiteKind.{SiteKind}
use Rattle.object_graph.specs.Sites.{in_range}
use Rattle.object_graph.specs.declared.parts.Graph.{Graph}
use Rattle.code_blocks.proofs.LeaderLemmas.{left_passes, both_pass, leader_is_code}
use Rattle.code_blocks.specs.Numbers.{start_at}
use Rattle.code_blocks.specs.declared.parts.Code.{Code}
use Rattle.object_machine.specs.Program.{Target, target_at}
use Rattle.dataflow.specs.Overlaid.{region_in, site_means, IsInRegion}
use Rattle.block_splitter.specs.Forms.{holds_block}
use Rattle.block_splitter.specs.Copies.{word_of_unit}
use Rattle.cell_values.specs.Stands.{address_word}
use Rattle.patch_code.specs.Layout.{image_places}
use Rattle.patch_code.specs.Overlay.{OverlayPlan, overlay_images_at}
use Rattle.patch_code.proofs.WholePlaces.{overlay_stands_so}
use Rattle.relocator.specs.declared.slots.Slot.{Slot}
use Rattle.relocator.specs.SiteWords.{IsSiteWord}
use Rattle.relocator.specs.Laws.{IsLaidOut, LiesWithin, IsPresent, slot_at}
use Rattle.result_laws.specs.ChosenJobs.{code_number}
use Rattle.result_laws.specs.Memories.{IsOfCode}
use Rattle.result_laws.proofs.Setting.{setting}
use Rattle.result_laws.proofs.JobChosen.{among, slot_ends}
use Rattle.result_laws.specs.Chosen.{StandsAs}
use Rattle.simulation.specs.Setups.{Setup}
use Rattle.simulation.specs.Units.{StandsAt}
use Rattle.result_laws.specs.Home.{is_code_byte}
use Rattle.result_laws.specs.Moved.{IsMovedSite, IsOffWord}
use Rattle.result_laws.specs.PlacedPieces.{PlacedPiece, piece_bytes}
use Rattle.result_laws.specs.OverlaySetup.{is_stub_byte}
use Rattle.result_laws.specs.LiveUnits.{code_unit, StandsThere, UnitsStand}
use Rattle.result_laws.specs.HomeLaws.{unnamed_in}
use Rattle.result_laws.proofs.HomeNumbers.{same_number}
use Rattle.result_laws.proofs.HomeSound.{loadable}
use Rattle.result_laws.proofs.Words.{all_from, even_passes, code_even, code_below, stands_home, same_word}
use Rattle.result_laws.proofs.CodeUnits.{begins, units_stand}
use Rattle.result_laws.proofs.CodeWords.{HasSiteWord, listed_word, site_word, off_others, off_words}
use Rattle.result_laws.proofs.Kept.{code_kept}
use Rattle.result_laws.proofs.Loaded.{IsKept}
use Rattle.result_laws.proofs.Ranges.{lies_in_range, spm_mapped, patch_mapped, patch_lawful, spm_lawful}
use Rattle.result_laws.proofs.SetupParts.{stub_in_patch, memory_byte, off_control}
use Rattle.result_laws.specs.SetupLaws.{IsOverlay}
use Rattle.result_laws.proofs.OfChoice.{stub_stands}
use Rattle.result_laws.proofs.OfChoice as choice
use Rattle.result_laws.specs.Entries.{RunsIn}
use Rattle.result_laws.specs.ChosenPlacement.{ChosenPlacement, piece_of, slots_in, places_in, StandsInSlot}
use Rattle.result_laws.specs.PlacedView.{words_in, is_served, is_padded, HasRegion, InBlock, Elsewhere}
use Rattle.result_laws.specs.PlacedLaws.{IsPlacedResult}
use Rattle.result_laws.proofs.MovingObjects.{stays_or_moves}
use Rattle.result_laws.proofs.PlacedChosen.{piece_chosen, piece_image, is_overlay, holds_plan}
use Rattle.result_laws.proofs.InRegions.{numbered, piece_present}

-- a word that stands still, by its bytes
stands_word : (l : Setup) (r a w : ℕ) → a % 4 ≡ 0 → a + 3 < 4294967296 → ((i : ℕ) → i < 4 → l.is_still r (a + i) ≡ true) → ((i : ℕ) → i < 4 → mapping.is_mapped l.map (a + i) ≡ true) → word_at (l.still r) a ≡ w → StandsAt l r a w
stands_word l r a w even low still mapped word =
    record {
      fetched = both_pass (a % 4 == 0) (all_mapped l.map a 4) (even_passes a even) (all_from l.map a 4 mapped);
      still = λ i below.
          let same : plus a i ≡ a + i = omega (arith, low, below) in
          subst (λ (b : ℕ). l.is_still r b ≡ true) (sym same) (still i below);
      word = word;
    }

-- the slot of a piece, by number
pub record HasSlot (board : Board) (pl : ChosenPlacement) (n : ℕ) : Type 0 where
  pub k : ℕ
  pub of : IsOfCode (slots_in board pl) k
  pub number : code_number (slots_in board pl) k ≡ n
  pub stands : StandsInSlot pl.regions (slot_at (slots_in board pl) k) (piece_of pl n)

module _ (file out : List ℕ) (board : Board) (g : Graph) (c : Code) (pl : ChosenPlacement) (result : IsPlacedResult file out board g c pl) where
  open (setting file out board g c pl result) use {v, w, l, slots, images}

  abbrev mem : Memory
  mem = image_of w.segments

  is : IsOverlay file board g pl.count pl.programme pl.choice images
  is = is_overlay file out board g c pl result

  pub laid : IsLaidOut v board g
  laid = record { lawful = result.accepted.lawful; layout = result.accepted.layout; graph = result.accepted.graph }

  -- ---- code at home

  kept_still : (r a : ℕ) → IsKept v board a → l.still r a ≡ mem a
  kept_still r a kept =
      memory_byte file board g pl.count pl.programme pl.choice images mem is r a
      (off_control file board g pl.count pl.programme pl.choice images mem is a kept.patch) kept.spm

  home_word : (r u : ℕ) → is_code_word v u ≡ true → word_at (l.still r) u ≡ image_word w u
  home_word r u code =
      let below = code_below v u (loadable file board g result.accepted) code in
      same_word (l.still r) mem u u (omega (arith, below)) (omega (arith, below))
      (λ i small. kept_still r (u + i) (code_kept file board g result.accepted u (u + i) code (omega arith) (omega (arith, small))))

  pub home_stands : (r u x : ℕ) → is_code_word v u ≡ true → image_word w u ≡ x → StandsAt l r u x
  home_stands r u x code there =
      let home = stands_home v board g r u result.accepted.layout (loadable file board g result.accepted) code in
      record {
        fetched = home.fetched;
        still = λ i below. left_passes (is_code_byte v (plus u i)) _ (home.still i below);
        word = home_word r u code ∙ there;
      }

  -- ---- the patch range

  stub_byte : (a : ℕ) → board.patch.base + 64 ≤ a → a < board.patch.base + board.patch.size → is_stub_byte board a ≡ true
  stub_byte a from to = grind (arith, nat_tests, from, to)

  -- words of it stand still
  pub patch_stands : (r at : ℕ) (words : List ℕ) (k : ℕ) → at % 4 ≡ 0 → board.patch.base + 64 ≤ at → at + 4 * length words ≤ board.patch.base + board.patch.size → HoldsAt mem at words → k < length words → StandsAt l r (at + 4 * k) (slice_index words k)
  patch_stands r at words k even from to holds below =
      let lawful = (patch_lawful board result.accepted.lawful).within in
      let low : at + 4 * k + 3 < 4294967296 = omega (arith, to, below, lawful) in
      let stub : (i : ℕ) → i < 4 → is_stub_byte board (at + 4 * k + i) ≡ true =
      λ i small. stub_byte (at + 4 * k + i) (omega (arith, from)) (omega (arith, to, below, small)) in
      let byte : (i : ℕ) → i < 4 → StandsAs l r (at + 4 * k + i) (mem (at + 4 * k + i)) =
      λ i small. stub_stands file board g pl.count pl.programme pl.choice images mem is r (at + 4 * k + i) (stub i small) in
      stands_word l r (at + 4 * k) (slice_index words k) (omega (arith, even)) low (λ i small. (byte i small).0)
      (λ i small. patch_mapped board (at + 4 * k + i) (stub_in_patch board (at + 4 * k + i) (stub i small)))
      (same_word (l.still r) mem (at + 4 * k) (at + 4 * k) low low (λ i small. (byte i small).1) ∙ holds k below)

  -- ---- copies

  pub slot_of : (n : ℕ) → n < length pl.pieces → HasSlot board pl n
  slot_of n inside =
      let many = result.placement.many in
      let found = numbered slots n (omega (arith, inside, many)) in
      record {
        k = found.0;
        of = found.1.0;
        number = found.1.1;
        stands = subst (λ (m : ℕ). StandsInSlot pl.regions (slot_at slots found.0) (piece_of pl m)) found.1.1 (result.placement.stand found.0 found.1.0);
      }

  module _ (n : ℕ) (inside : n < length pl.pieces) where
    abbrev x : PlacedPiece
    x = piece_of pl n

    pub slot : HasSlot board pl n
    slot = slot_of n inside

    abbrev s : Slot
    s = slot_at slots slot.k

    -- it is in the scratchpad while the region is current
    abbrev pub IsHere : ℕ → Type 0
    IsHere r = IsPresent r s.name

    pub piece_here : (r b : ℕ) → holds_block b x.range ≡ true → RunsIn pl.regions b r → IsHere r
    piece_here r b held runs =
        piece_present pl.regions pl.count r b s.name x.range (among v g pl.count board pl.programme pl.choice laid result.placement.can slot.k slot.of.0)
        slot.stands.named held runs

    -- and lies there wholly
    lies : LiesWithin board.spm s
    lies = slot_ends v g pl.count board pl.programme pl.choice laid result.placement.can slot.k slot.of.0

    -- so do the copy's bytes
    pub copy_inside : (i : ℕ) → i < piece_bytes x → in_range board.spm (x.at + i) ≡ true
    copy_inside i below =
        let at = slot.stands.at in
        let room = slot.stands.room in
        let from = lies.from in
        let to = lies.to in
        lies_in_range board.spm 0 (piece_bytes x) x.at i (omega (arith, at, from)) (omega (arith, at, room, to)) below

    copy_mapped_at : (i : ℕ) → i < piece_bytes x → mapping.is_mapped (mapped_ranges board) (x.at + i) ≡ true
    copy_mapped_at i below = spm_mapped board (x.at + i) (copy_inside i below)

    pub copy_low : x.at + piece_bytes x < 4294967296
    copy_low =
        let at = slot.stands.at in
        let room = slot.stands.room in
        let to = lies.to in
        let lawful = (spm_lawful board result.accepted.lawful).within in
        omega (arith, at, room, to, lawful)

    -- its image has its words
    image_holds : HoldsAt mem x.image x.words
    image_holds =
        let plan : OverlayPlan = result.view.plan in
        let image = piece_image file out board g c pl result n inside in
        let planned = result.view.planned in
        let count = ap (λ (xs : List (List ℕ)). length xs) planned.images ∙ length-map pl.pieces words_in in
        let held =
        overlay_stands_so.images plan result.view.words mem result.view.are (holds_plan file out board g c pl result).code n (omega (arith, inside, count)) in
        subst (λ (a : ℕ). HoldsAt mem a x.words) (sym image.place)
        (subst (λ (ws : List ℕ). HoldsAt mem (slice_index (image_places (overlay_images_at plan) plan.images) n) ws) image.words held)

    module _ (r : ℕ) (here : IsHere r) where
      copy_byte : (i : ℕ) → i < piece_bytes x → StandsAs l r (x.at + i) (mem (x.image + i))
      copy_byte i below =
          let fits : i < piece_bytes (piece_of pl (code_number slots slot.k)) =
          subst (λ (m : ℕ). i < piece_bytes (piece_of pl m)) (sym slot.number) below in
          let stands = choice.copy_stands file board g pl.count pl.programme pl.choice images mem is r slot.k i slot.of here fits in
          subst (λ (a : ℕ). StandsAs l r (a + i) (mem (x.image + i))) (sym slot.stands.at)
          (subst (λ (m : ℕ). StandsAs l r (s.at + i) (mem ((piece_of pl m).image + i))) slot.number stands)

      -- a copy holds its words
      pub copy_holds : HoldsAt (l.still r) x.at x.words
      copy_holds k below =
          let low = copy_low in
          let ends = (piece_image file out board g c pl result n inside).to in
          let lawful = (patch_lawful board result.accepted.lawful).within in
          same_word (l.still r) mem (x.at + 4 * k) (x.image + 4 * k) (omega (arith, low, below)) (omega (arith, ends, lawful, below))
          (λ i small.
          let at : x.at + 4 * k + i ≡ x.at + (4 * k + i) = omega arith in
          let there : x.image + (4 * k + i) ≡ x.image + 4 * k + i = omega arith in
          ap (l.still r) at ∙ ((copy_byte (4 * k + i) (omega (arith, below, small))).1 ∙ ap mem there))
          ∙ image_holds k below

      pub copy_still : (i : ℕ) → i < piece_bytes x → l.is_still r (x.at + i) ≡ true
      copy_still i below = (copy_byte i below).0

      pub copy_mapped : (i : ℕ) → i < piece_bytes x → mapping.is_mapped (mapped_ranges board) (x.at + i) ≡ true
      copy_mapped i below = copy_mapped_at i below

      -- each word of it stands still
      pub copy_stands : (k : ℕ) → k < length x.words → StandsAt l r (x.at + 4 * k) (slice_index x.words k)
      copy_stands k below =
          let low = copy_low in
          let even = (piece_chosen file out board g c pl result n inside).aligned in
          let at : (i : ℕ) → x.at + (4 * k + i) ≡ x.at + 4 * k + i = λ i. omega arith in
          stands_word l r (x.at + 4 * k) (slice_index x.words k) (omega (arith, even)) (omega (arith, low, below))
          (λ i small. subst (λ (a : ℕ). l.is_still r a ≡ true) (at i) (copy_still (4 * k + i) (omega (arith, below, small))))
          (λ i small. subst (λ (a : ℕ). mapping.is_mapped (mapped_ranges board) a ≡ true) (at i) (copy_mapped_at (4 * k + i) (omega (arith, below, small))))
          (copy_holds k below)

  -- ---- words of code

  -- no other pad covers a word of code
  pads_off : (u a : ℕ) → is_code_word v u ≡ true → is_padded c pl u ≡ false → u ≤ a → a < u + 4 → (b : ℕ) → b < length c.blocks.items → is_served c pl b ≡ true → IsOffWord a (start_at c b)
  pads_off u a code none above under b below served =
      let there = leader_is_code v (start_at c b) (begins file board g c result.accepted result.code b below) in
      let even = code_even v u code in
      let even_there = code_even v (start_at c b) there in
      elim (cases_lt u (start_at c b)) [
        | inl before ↦ inl (omega (arith, before, even, even_there, under))
        | inr from ↦ elim (cases_lt (start_at c b) u) [
          | inl behind ↦ inr (omega (arith, behind, even, even_there, above))
          | inr to ↦
              let same : start_at c b ≡ u = omega (arith, from, to) in
              let here : is_padded c pl (start_at c b) ≡ true =
              any_at (λ d. is_served c pl d && (start_at c d == start_at c b)) (length c.blocks.items) b below
              (both_pass (is_served c pl b) (start_at c b == start_at c b) served (same_number (start_at c b))) in
              absurd (both_ways (is_padded c pl u) none (subst (λ (m : ℕ). is_padded c pl m ≡ true) same here))
        ]
      ]

  kept_byte : (u a : ℕ) → is_code_word v u ≡ true → is_padded c pl u ≡ false → target_at g.sites.items u ≡ None → u ≤ a → a < u + 4 → mem a ≡ image_of v.segments a
  kept_byte u a code bare none above under =
      let kept = code_kept file board g result.accepted u a code above under in
      result.view.elsewhere a
      (record {
        patch = kept.patch;
        sites = off_others file board g result.accepted u a code none above under;
        words = off_words file board g result.accepted u a code above under;
        pads = pads_off u a code bare above under;
        unchanged = kept.unchanged;
      })

  -- a word that no pad covers and that is no site is the file's own
  pub kept_word : (u : ℕ) → is_code_word v u ≡ true → is_padded c pl u ≡ false → target_at g.sites.items u ≡ None → image_word w u ≡ image_word v u
  kept_word u code bare none =
      let below = code_below v u (loadable file board g result.accepted) code in
      same_word mem (image_of v.segments) u u (omega (arith, below)) (omega (arith, below))
      (λ i small. kept_byte u (u + i) code bare none (omega arith) (omega (arith, small)))

  -- ---- sites

  units : UnitsStand v (unnamed_in file board g) c
  units = units_stand file board g c result.accepted result.code

  -- where no region is a site's, none of its blocks has one
  no_region : (a q : ℕ) → HasRegion c pl.regions a q → q ≡ 0 → (block unit : ℕ) → StandsThere c a block unit → 0 < region_in pl.regions block → ⊥
  no_region a _ (InBlock b k stands) none block unit there some =
      let same = (units.one a b k block unit stands there).0 in
      let here : region_in pl.regions b ≡ region_in pl.regions block = ap (λ (d : ℕ). region_in pl.regions d) same in
      omega (arith, none, some, here)
  no_region a _ (Elsewhere alone) none block unit there some = alone block unit there

  -- while a site's region or, where it has none, any is current, its object is at one place
  pub site_place : (r q : ℕ) (s : Site) → Contains g.sites.items s → HasRegion c pl.regions s.at q → (q ≡ 0) ⊎ (q ≡ r) → places_in board g pl q s.object ≡ places_in board g pl r s.object
  site_place r q s listed region (inr same) = ap (λ (m : ℕ). places_in board g pl m s.object) same
  site_place r q s listed region (inl none) =
      elim (stays_or_moves c g pl.regions pl.borders q r s.object slots result.placement.moving) [
        | inl same ↦ same
        | inr may ↦
            let site : IsInRegion c pl.regions s =
            All-contains (λ (t : Site). site_means s.object t ≡ true → IsInRegion c pl.regions t) g.sites.items s may.in_regions listed (same_number s.object) in
            absurd (no_region s.at q region none site.block site.unit (record { is = site.is_unit; at = site.there }) site.region)
      ]

  -- a site that no pad covers makes the address of that place
  pub site_there : (r u q : ℕ) (t : Target) → HasRegion c pl.regions u q → (q ≡ 0) ⊎ (q ≡ r) → is_padded c pl u ≡ false → target_at g.sites.items u ≡ Some t → HasSiteWord v w (places_in board g pl r) u t
  site_there r u q t region runs bare at =
      site_word v w (places_in board g pl r) g.sites.items u t
      (λ k d below same.
      let s : Site = slice_index_or g.sites.items k d in
      let here : HasRegion c pl.regions s.at q = subst (λ (a : ℕ). HasRegion c pl.regions a q) (sym same) region in
      let made : IsMovedSite v w (places_in board g pl q) s =
      result.view.sites k d below (subst (λ (a : ℕ). is_padded c pl a ≡ false) (sym same) bare) q here in
      subst (λ (m : ℕ). IsSiteWord s.kind (plus m s.offset) (image_word v s.at) (image_word w s.at)) (site_place r q s (Contains-get_or g.sites.items k d below) here runs) made) at

  -- the word that stands elsewhere for a unit at a site makes it too
  pub unit_site : (r u b k : ℕ) (t : Target) → StandsThere c u b k → RunsIn pl.regions b r → target_at g.sites.items u ≡ Some t → (part : SiteKind) × IsSiteWord part (address_word (places_in board g pl r) t.object t.offset) (image_word v u) (word_of_unit pl.sites (code_unit c b k))
  unit_site r u b k t stands runs at =
      listed_word (places_in board g pl r) g.sites.items u t (image_word v u) (word_of_unit pl.sites (code_unit c b k))
      (λ m d below same.
      let s : Site = slice_index_or g.sites.items m d in
      let contained = Contains-get_or g.sites.items m d below in
      let there : StandsThere c s.at b k = subst (λ (a : ℕ). StandsThere c a b k) (sym same) stands in
      let made = result.placement.sites.rewritten b k s there contained in
      subst (λ (a : ℕ). IsSiteWord s.kind (address_word (places_in board g pl r) s.object s.offset) (image_word v a) (word_of_unit pl.sites (code_unit c b k))) same
      (subst (λ (m : ℕ). IsSiteWord s.kind (plus m s.offset) (image_word v s.at) (word_of_unit pl.sites (code_unit c b k)))
      (site_place r (region_in pl.regions b) s contained (InBlock b k there) runs) made)) at

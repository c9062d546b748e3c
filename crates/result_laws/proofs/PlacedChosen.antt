-- The choice of a result can be laid out, its images lie in the patch range with the words of its plan, and homes that
-- objects leave have the bytes of the file.
use Rattle.std.proofs.Common.{◌≡◌, ◌∙◌, inl, inr, ℕ, zero, suc, ◌+◌, ◌*◌, ◌<◌, ◌≤◌, List, [], ◌∷◌, length, slice_index, slice_index_or, refl, sym, ap, subst, arith}
use Rattle.std.specs.List.{concat, list_any}
use Rattle.std.proofs.lemmas.Bool.{both_ways}
use Rattle.std.proofs.lemmas.List.{get_or-map, length-map, length-append}
use Rattle.std.proofs.lemmas.List.Folds.{list_any_at}
use Rattle.rv32im.specs.Words.{plus, byte_of}
use Rattle.rv32im.specs.Memory.{Memory, word_at}
use Rattle.elf_reader.specs.File.{PlainView}
use Rattle.elf_reader.specs.Image.{image_of}
use Rattle.board_config.specs.declared.board.Board.{Board}
use Rattle.object_graph.specs.declared.parts.DataWord.{DataWord}
use Rattle.object_graph.specs.declared.parts.Graph.{Graph}
use Rattle.code_blocks.specs.declared.parts.Code.{Code}
use Rattle.dataflow.specs.Overlaid.{word_means}
use Rattle.block_splitter.specs.Copies.{Copy, is_inside, kind_in}
use Rattle.block_splitter.proofs.FieldLemmas.{has_unit}
use Rattle.block_splitter.proofs.CopySizeLemmas.{holds, range_is, some_word}
use Rattle.result_laws.proofs.Setting.{setting}
use Rattle.result_laws.proofs.Places.{unit_fits}
use Rattle.cell_values.specs.Objects.{object_of}
use Rattle.cell_values.specs.Stands.{Places}
use Rattle.patch_code.specs.Layout.{image_places}
use Rattle.patch_code.specs.Overlay.{overlay_images_at}
use Rattle.result_laws.specs.ChosenJobs.{code_number}
use Rattle.result_laws.specs.Memories.{IsOfCode}
use Rattle.result_laws.specs.PatchLaws.{LieInPatch}
use Rattle.result_laws.proofs.JobNumbers.{code_numbers_so}
use Rattle.simulation.specs.Setups.{Sound}
use Rattle.result_laws.specs.Moved.{IsMovedWord}
use Rattle.result_laws.specs.PlacedPieces.{PlacedPiece, piece_bytes}
use Rattle.result_laws.proofs.HomeSound.{sound_home}
use Rattle.result_laws.proofs.Kept.{object_kept}
use Rattle.result_laws.specs.SetupLaws.{IsOverlay}
use Rattle.result_laws.specs.Plans.{HoldsHomes, HoldsPlan}
use Rattle.result_laws.proofs.Copies.{same_numbers}
use Rattle.result_laws.proofs.SoundChoice.{choice_is_sound}
use Rattle.result_laws.specs.ChosenPlacement.{ChosenPlacement, places_in, no_piece, piece_of, copy_with, IsChosenPiece}
use Rattle.result_laws.specs.PlacedView.{image_in, words_in}
use Rattle.result_laws.specs.PlacedLaws.{IsPlacedResult}
use Rattle.result_laws.proofs.Elsewhere.{data_left}
use Rattle.result_laws.proofs.MovingObjects.{stays_or_moves}

-- ---- images

-- images one behind the other lie between the first one's beginning and the last one's end
record IsWithin (at : ℕ) (images : List (List ℕ)) (n : ℕ) : Type 0 where
  from : at ≤ slice_index_or (image_places at images) n 0
  to : slice_index_or (image_places at images) n 0 + 4 * length (slice_index_or images n []) ≤ at + 4 * length (concat images)

image_within : (at : ℕ) (images : List (List ℕ)) (n : ℕ) → n < length images → IsWithin at images n
image_within at [] n below = absurd (omega (arith, below))
image_within at (image ∷ images) zero below =
    let both = length-append image (concat images) in
    record { from = omega arith; to = omega (arith, both) }
image_within at (image ∷ images) (suc n) below =
    let both = length-append image (concat images) in
    let rest = image_within (at + 4 * length image) images n (omega (arith, below)) in
    let from = rest.from in
    let to = rest.to in
    record { from = omega (arith, from); to = omega (arith, to, both) }

-- ---- words of data

moved_word : (w : PlainView) (place other : Places) (d : DataWord) → place d.object ≡ other d.object → IsMovedWord w place d → IsMovedWord w other d
moved_word w place other d same moved k below = moved k below ∙ ap (λ (a : ℕ). byte_of (plus a d.offset) k) same

module _ (file out : List ℕ) (board : Board) (g : Graph) (c : Code) (pl : ChosenPlacement) (result : IsPlacedResult file out board g c pl) where
  open (setting file out board g c pl result) use {v, w, p, l, plan, slots, images}

  abbrev image : Memory
  image = image_of w.segments

  -- ---- pieces

  pub piece_chosen : (n : ℕ) → n < length pl.pieces → IsChosenPiece c g pl.regions pl.sites (piece_of pl n)
  piece_chosen n inside = result.placement.pieces n no_piece inside

  -- the number of a piece of code is that of one that is taken
  pub number_below : (k : ℕ) → IsOfCode slots k → code_number slots k < length pl.pieces
  number_below k of =
      let number = (code_numbers_so slots k of).0 in
      let many = result.placement.many in
      omega (arith, number, many)

  -- it has a word
  piece_some : (n : ℕ) → n < length pl.pieces → 1 ≤ piece_bytes (piece_of pl n)
  piece_some n inside =
      let x : PlacedPiece = piece_of pl n in
      let cp : Copy = copy_with c g pl.sites x in
      let chosen = piece_chosen n inside in
      let range = range_is c x.range chosen.copied.shape in
      let ordered = range.ordered in
      let last = range.below in
      let below : x.range.first < length c.blocks.items = omega (arith, ordered, last) in
      let held = holds x.range.first x.range (omega arith) ordered in
      let fits = unit_fits cp x.range.first 0 held below (has_unit v c x.range.first result.code below) in
      let some = some_word (is_inside cp) (kind_in cp x.range.first 0) in
      let count = chosen.copy.count in
      omega (arith, fits, some, count)

  -- its image stands in the patch range, behind the control words
  pub record HasImage (n : ℕ) : Type 0 where
    pub place : (piece_of pl n).image ≡ slice_index_or (image_places (overlay_images_at plan) plan.images) n 0
    pub words : slice_index_or plan.images n [] ≡ (piece_of pl n).words
    pub from : board.patch.base + 64 ≤ (piece_of pl n).image
    pub to : (piece_of pl n).image + piece_bytes (piece_of pl n) ≤ board.patch.base + board.patch.size

  pub piece_image : (n : ℕ) → n < length pl.pieces → HasImage n
  piece_image n inside =
      let planned = result.view.planned in
      let place : (piece_of pl n).image ≡ slice_index_or (image_places (overlay_images_at plan) plan.images) n 0 =
      sym (get_or-map image_in pl.pieces n no_piece 0 inside) ∙ ap (λ (xs : List ℕ). slice_index_or xs n 0) planned.places in
      let words : slice_index_or plan.images n [] ≡ (piece_of pl n).words =
      ap (λ (xs : List (List ℕ)). slice_index_or xs n []) planned.images ∙ get_or-map words_in pl.pieces n no_piece [] inside in
      let many = ap (λ (xs : List (List ℕ)). length xs) planned.images ∙ length-map pl.pieces words_in in
      let within = image_within (overlay_images_at plan) plan.images n (omega (arith, inside, many)) in
      let from = within.from in
      let to = within.to in
      let size : length (slice_index_or plan.images n []) ≡ length (piece_of pl n).words = ap (λ (xs : List ℕ). length xs) words in
      let base = planned.lies.base in
      let ends = planned.lies.ends in
      record {
        place = place;
        words = words;
        from = omega (arith, from, place, base);
        to = omega (arith, to, place, size, ends);
      }

  images_lie : LieInPatch board.patch slots images
  images_lie =
      record {
        some = λ k of. piece_some (code_number slots k) (number_below k of);
        fit = λ k of. (result.placement.stand k of).room;
        from = λ k of. (piece_image (code_number slots k) (number_below k of)).from;
        to = λ k of. (piece_image (code_number slots k) (number_below k of)).to;
      }

  -- ---- the choice

  pub is_overlay : IsOverlay file board g pl.count pl.programme pl.choice images
  is_overlay = record { accepted = result.accepted; can = result.placement.can; lie = images_lie }

  pub holds_plan : HoldsPlan board g slots images pl.count plan result.view.words image
  holds_plan =
      let planned = result.view.planned in
      record {
        can = planned.can;
        are = result.view.are;
        lies = planned.lies;
        jobs = planned.jobs;
        code = λ k from below.
            subst (λ (a : ℕ). word_at image (a + 4 * k) ≡ slice_index result.view.words k) (sym planned.lies.base)
            (result.view.holds k below);
      }

  -- ---- homes

  -- an object whose address a word of data holds has one place
  data_stays : (r k : ℕ) (d : DataWord) → k < length g.data_words.items → places_in board g pl 0 (slice_index_or g.data_words.items k d).object ≡ places_in board g pl r (slice_index_or g.data_words.items k d).object
  data_stays r k d below =
      let word : DataWord = slice_index_or g.data_words.items k d in
      elim (stays_or_moves c g pl.regions pl.borders 0 r word.object slots result.placement.moving) [
        | inl same ↦ same
        | inr overlaid ↦
            let holds = list_any_at (word_means word.object) g.data_words.items k d below (same_numbers word.object word.object refl) in
            absurd (both_ways (list_any (word_means word.object) g.data_words.items) overlaid.no_word holds)
      ]

  pub holds_homes : (r : ℕ) → HoldsHomes v w g (places_in board g pl r) image
  holds_homes r =
      record {
        words = λ k d below.
            moved_word w (places_in board g pl 0) (places_in board g pl r) (slice_index_or g.data_words.items k d) (data_stays r k d below)
            (result.view.data_words k d below);
        bytes = λ o i unwritable below off.
            data_left file out board g c pl result ((object_of g o).home + i) (object_kept file board g result.accepted o i below)
            ((sound_home file board g result.accepted).still_off_objects o i below) off;
        same = λ o i unwritable below. refl;
      }

  -- ---- the setup

  pub sound : (r : ℕ) → Sound p l r
  sound r = choice_is_sound file board g pl.count pl.programme pl.choice images image r is_overlay

-- What a taken variable puts into the patch range is at most what it weighs there.
use Rattle.std.proofs.Common.{◌≡◌, ◌∙◌, ℕ, ◌+◌, ◌*◌, Bool, true, false, not, ◌&&◌, List, [], ◌∷◌, length, map, refl, sym, ap, arith, if◌then◌else◌}
use Rattle.std.specs.List.{sum_by, filter}
use Rattle.std.proofs.lemmas.List.Sums.{sum_by-cons}
use Rattle.list_checks.specs.Sorted.{sum_below, collected}
use Rattle.object_graph.specs.declared.parts.Graph.{Graph}
use Rattle.code_blocks.specs.declared.parts.Code.{Code}
use Rattle.dataflow.specs.Overlaid.{is_border}
use Rattle.block_splitter.specs.declared.block_range.BlockRange.{BlockRange}
use Rattle.block_splitter.specs.declared.piece.Piece.{Piece}
use Rattle.block_splitter.specs.Forms.{holds_block, is_site, copy_words}
use Rattle.block_splitter.specs.Pieces.{is_entry, IsPiece, range_of}
use Rattle.block_splitter.specs.Copies.{Patch}
use Rattle.placement_programme.specs.Rows.{Part}
use Rattle.result_laws.specs.PlacedPieces.{PlacedPiece, piece_bytes}
use Rattle.result_laws.specs.Choices.{displaced_at, IsPartFor}
use Rattle.result_laws.specs.ChosenPlacement.{IsChosenPiece}
use Rattle.result_laws.specs.PlacedView.{enters_piece}
use Rattle.relink_core.proofs.Sums.{collected_summed, sum_each}
use Rattle.relink_core.proofs.StubSizes.{border_at, jump_bytes, saved_bytes}

-- the jumps to all entries of a piece, and the displaced words that these replace, in bytes
abbrev pub jumps_of : Code → PlacedPiece → ℕ
jumps_of c x = sum_below (λ b. jump_bytes c b x) (length c.blocks.items)

abbrev pub saves_of : Graph → Code → List Bool → PlacedPiece → ℕ
saves_of g c borders x = sum_below (λ b. saved_bytes g c borders b x) (length c.blocks.items)

-- ---- a piece

abbrev entries_of : Code → PlacedPiece → List ℕ
entries_of c x = collected (λ b. enters_piece c b x) (λ b. b) (length c.blocks.items)

-- those that are borders and those that aren't
split_entries : (borders : List Bool) (f : ℕ → ℕ) (bs : List ℕ) → length (filter (λ b. not (is_border borders b)) bs) + length (map f (filter (is_border borders) bs)) ≡ length bs
split_entries borders f [] = refl
split_entries borders f (b ∷ bs) = by (is_border borders b) refl (split_entries borders f bs)
  where
    by : (t : Bool) → is_border borders b ≡ t → length (filter (λ b. not (is_border borders b)) bs) + length (map f (filter (is_border borders) bs)) ≡ length bs → length (filter (λ b. not (is_border borders b)) (b ∷ bs)) + length (map f (filter (is_border borders) (b ∷ bs))) ≡ length (b ∷ bs)
    by true is rest = rw is (omega (arith, rest))
    by false is rest = rw is (omega (arith, rest))

words_summed : (g : Graph) (c : Code) (borders : List Bool) (bs : List ℕ) → sum_by (λ words. 4 * words) (map (displaced_at g c) (filter (is_border borders) bs)) ≡ sum_by (border_at g c borders) bs
words_summed g c borders [] = refl
words_summed g c borders (b ∷ bs) = by (is_border borders b) refl (words_summed g c borders bs)
  where
    by : (t : Bool) → is_border borders b ≡ t → sum_by (λ words. 4 * words) (map (displaced_at g c) (filter (is_border borders) bs)) ≡ sum_by (border_at g c borders) bs → sum_by (λ words. 4 * words) (map (displaced_at g c) (filter (is_border borders) (b ∷ bs))) ≡ sum_by (border_at g c borders) (b ∷ bs)
    by true is rest =
        let here = sum_by-cons (border_at g c borders) b bs in
        let own : border_at g c borders b ≡ 4 * displaced_at g c b = ap (λ (t : Bool). if t then 4 * displaced_at g c b else 0) is in
        let kept : filter (is_border borders) (b ∷ bs) ≡ b ∷ filter (is_border borders) bs = rw is refl in
        let moved = ap (λ (xs : List ℕ). sum_by (λ words. 4 * words) (map (displaced_at g c) xs)) kept in
        let one = sum_by-cons (λ words. 4 * words) (displaced_at g c b) (map (displaced_at g c) (filter (is_border borders) bs)) in
        omega (arith, here, own, moved, one, rest)
    by false is rest =
        let here = sum_by-cons (border_at g c borders) b bs in
        let own : border_at g c borders b ≡ 0 = ap (λ (t : Bool). if t then 4 * displaced_at g c b else 0) is in
        let kept : filter (is_border borders) (b ∷ bs) ≡ filter (is_border borders) bs = rw is refl in
        let moved = ap (λ (xs : List ℕ). sum_by (λ words. 4 * words) (map (displaced_at g c) xs)) kept in
        omega (arith, here, own, moved, rest)

module _ (g : Graph) (c : Code) (borders : List Bool) (regions : List ℕ) (sites : List Patch) where
  -- a piece's part, and the copy
  pub record IsPriced (part : Part) (x : PlacedPiece) : Type 0 where
    pub copied : part.copied ≡ piece_bytes x
    pub jumps : jumps_of c x ≡ 8 * (part.plain_entries + length part.border_entries)
    pub saves : saves_of g c borders x ≡ sum_by (λ words. 4 * words) part.border_entries

  pub priced : (piece : Piece) (part : Part) (x : PlacedPiece) → IsPiece c g piece → IsPartFor g c borders piece part → IsChosenPiece c g regions sites x → x.range ≡ record { first = part.first; last = part.last } → IsPriced part x
  priced piece part x is of chosen range =
      let same : x.range ≡ range_of piece = range ∙ (λ i. record { first = of.first i; last = of.last i }) in
      let entries : entries_of c x ≡ piece.entries.items =
      ap (λ (r : BlockRange). collected (λ b. holds_block b r && is_entry c r b) (λ b. b) (length c.blocks.items)) same ∙ sym is.entries in
      let split = split_entries borders (displaced_at g c) piece.entries.items in
      let border = ap (λ (xs : List ℕ). length xs) of.border in
      let plain = of.plain in
      let eights = collected_summed (λ b. enters_piece c b x) (λ b. 8) (length c.blocks.items) in
      let each = sum_each 8 (entries_of c x) in
      let count = ap (λ (xs : List ℕ). length xs) entries in
      let saved = collected_summed (λ b. enters_piece c b x) (border_at g c borders) (length c.blocks.items) in
      let moved = ap (sum_by (border_at g c borders)) entries in
      let words = words_summed g c borders piece.entries.items in
      let given = ap (sum_by (λ words. 4 * words)) of.border in
      let bytes = of.copied in
      let size = is.bytes in
      let copy = chosen.copy.count in
      let copy_size = ap (λ (r : BlockRange). copy_words (is_site g) c.blocks.items r) same in
      record {
        copied = omega (arith, bytes, size, copy, copy_size);
        jumps = omega (arith, eights, each, count, split, border, plain);
        saves = omega (arith, saved, moved, words, given);
      }

-- Where the images and the copies of pieces lie.
use Rattle.std.proofs.Common.{◌≡◌, ℕ, zero, suc, ◌+◌, ◌*◌, ◌<◌, ◌≤◌, Bool, true, false, List, [], ◌∷◌, length, map, drop, get_or, refl, ap, arith, if◌then◌else◌}
use Rattle.std.specs.List.{All, sum_by}
use Rattle.std.proofs.lemmas.List.Sums.{sum_by-cons}
use Rattle.list_checks.proofs.SumLemmas.{sum_rises}
use Rattle.elf_reader.specs.File.{PlainView}
use Rattle.object_graph.specs.declared.parts.Graph.{Graph}
use Rattle.code_blocks.specs.Blocks.{IsCode}
use Rattle.code_blocks.specs.declared.parts.Code.{Code}
use Rattle.block_splitter.specs.declared.block_range.BlockRange.{BlockRange}
use Rattle.block_splitter.specs.Forms.{is_site, body_at, copy_size, copy_words}
use Rattle.block_splitter.specs.Pieces.{IsRange}
use Rattle.block_splitter.specs.Copies.{Copy, is_inside, kind_in}
use Rattle.block_splitter.proofs.FieldLemmas.{has_unit}
use Rattle.block_splitter.proofs.CopySizeLemmas.{holds, some_word, held_words, words_more}
use Rattle.patch_code.specs.Layout.{image_places}
use Rattle.relocator.specs.declared.slots.Slot.{Slot}
use Rattle.relocator.specs.Slots.{is_code, code_slots}
use Rattle.result_laws.specs.ChosenJobs.{code_number}
use Rattle.result_laws.specs.Memories.{IsOfCode}
use Rattle.result_laws.specs.PlacedPieces.{PlacedPiece, piece_bytes}
use Rattle.result_laws.specs.PlacedView.{image_in, words_in}

-- the blocks of a range have a word, and so has their copy
pub some_copied : (v : PlainView) (c : Code) (g : Graph) (r : BlockRange) → IsCode v c → IsRange c r → 0 < copy_words (is_site g) c.blocks.items r
some_copied v c g r code range =
    let x : Copy = record { code = c; graph = g; range = r; at = 0; sites = [] } in
    let b = r.first in
    let below = range.below in
    let ordered = range.ordered in
    let inside = holds b r (omega arith) ordered in
    let more = words_more x b inside in
    let some = has_unit v c b code (omega (arith, below, ordered)) in
    let one = some_word (is_inside x) (kind_in x b 0) in
    let whole = sum_rises (held_words x) (suc b) (length c.blocks.items) (omega (arith, below, ordered)) in
    let block = sum_rises (λ k. copy_size (is_inside x) (kind_in x b k)) 1 (length (body_at c.blocks.items b).units) some in
    omega (arith, more, one, whole, block)

-- ---- images one behind the other

-- the image of a piece lies among all of them
pub record LiesAmong (low high : ℕ) (x : PlacedPiece) : Type 0 where
  pub from : low ≤ x.image
  pub to : x.image + piece_bytes x ≤ high

pub images_among : (at : ℕ) (xs : List PlacedPiece) → map image_in xs ≡ image_places at (map words_in xs) → All (LiesAmong at (at + sum_by piece_bytes xs)) xs
images_among at [] places k d below = absurd (omega (arith, below))
images_among at (x ∷ xs) places zero d below =
    let here : x.image ≡ at = ap (λ (ns : List ℕ). get_or ns 0 0) places in
    let one = sum_by-cons piece_bytes x xs in
    record { from = omega (arith, here); to = omega (arith, here, one) }
images_among at (x ∷ xs) places (suc k) d below =
    let rest : map image_in xs ≡ image_places (at + 4 * length x.words) (map words_in xs) = ap (λ (ns : List ℕ). drop 1 ns) places in
    let later = images_among (at + 4 * length x.words) xs rest k d (omega (arith, below)) in
    let from = later.from in
    let to = later.to in
    let one = sum_by-cons piece_bytes x xs in
    record { from = omega (arith, from); to = omega (arith, to, one) }

-- ---- slots of pieces

-- the slot of an item of code
pub record HasSlot (slots : List Slot) (n : ℕ) : Type 0 where
  pub k : ℕ
  pub of : IsOfCode slots k
  pub number : code_number slots k ≡ n

pub slot_of : (slots : List Slot) (n : ℕ) → n < length (code_slots slots) → HasSlot slots n
slot_of [] n below = absurd (omega (arith, below))
slot_of (s ∷ ss) n below = by (is_code s.name) refl n below (λ m inside. slot_of ss m inside)
  where
    later : (b : Bool) → is_code s.name ≡ b → (m : ℕ) → HasSlot ss m → HasSlot (s ∷ ss) (if b then suc m else m)
    later b is m has =
        let inside = has.of.0 in
        record {
          k = suc has.k;
          of = (omega (arith, inside), has.of.1);
          number = (λ i. if is i then suc (has.number i) else has.number i);
        }

    by : (b : Bool) → is_code s.name ≡ b → (n : ℕ) → n < length (code_slots (s ∷ ss)) → ((m : ℕ) → m < length (code_slots ss) → HasSlot ss m) → HasSlot (s ∷ ss) n
    by false is n below rest =
        let count : length (code_slots (s ∷ ss)) ≡ length (code_slots ss) = ap (λ (b : Bool). length (if b then s.at ∷ code_slots ss else code_slots ss)) is in
        later false is n (rest n (omega (arith, below, count)))
    by true is zero below rest = record { k = 0; of = (omega arith, is); number = refl }
    by true is (suc n) below rest =
        let count : length (code_slots (s ∷ ss)) ≡ suc (length (code_slots ss)) = ap (λ (b : Bool). length (if b then s.at ∷ code_slots ss else code_slots ss)) is in
        later true is n (rest n (omega (arith, below, count)))

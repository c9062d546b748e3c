-- Lists of jobs by region, and images, one more at a time.
use Rattle.std.proofs.Common.{◌≡◌, ◌∙◌, ℕ, ◌+◌, ◌*◌, ◌<◌, List, [], ◌∷◌, ◌++◌, length, slice_index_or, map, drop, ap, sym, arith}
use Rattle.std.specs.List.{sum_by}
use Rattle.std.proofs.lemmas.List.{drop_more, append_assoc, length-append}
use Rattle.std.proofs.lemmas.List.Sums.{sum_by-cons}
use Rattle.patch_code.specs.Layout.{image_places}
use Rattle.relink_core.specs.declared.placed_copy.PlacedCopy.{PlacedCopy}
use Rattle.relink_core.specs.Naming.{copied_words, copied_bytes}

-- the images so far, and what is left
pub record ArePlaced (first : ℕ) (copies : List PlacedCopy) (k : ℕ) (places : List ℕ) (at : ℕ) : Type 0 where
  pub left : places ++ image_places at (map copied_words (drop k copies)) ≡ image_places first (map copied_words copies)
  pub room : at + sum_by copied_bytes (drop k copies) ≡ first + sum_by copied_bytes copies
  pub many : length places ≡ k

-- the next one has room
pub next_room : (first : ℕ) (copies : List PlacedCopy) (k : ℕ) (places : List ℕ) (at : ℕ) (copy : PlacedCopy) → k < length copies → copy ≡ slice_index_or copies k copy → ArePlaced first copies k places at → at + copied_bytes copy + sum_by copied_bytes (drop (k + 1) copies) ≡ first + sum_by copied_bytes copies
next_room first copies k places at copy below is placed =
    let parts : drop k copies ≡ copy ∷ drop (k + 1) copies =
    drop_more copies k copy below ∙ ap (λ (x : PlacedCopy). x ∷ drop (k + 1) copies) (sym is) in
    let sum : sum_by copied_bytes (drop k copies) ≡ copied_bytes copy + sum_by copied_bytes (drop (k + 1) copies) =
    ap (sum_by copied_bytes) parts ∙ sum_by-cons copied_bytes copy (drop (k + 1) copies) in
    omega (arith, placed.room, sum)

pub one_placed : (first : ℕ) (copies : List PlacedCopy) (k : ℕ) (places : List ℕ) (at : ℕ) (copy : PlacedCopy) (more : List ℕ) (len : ℕ) → k < length copies → copy ≡ slice_index_or copies k copy → ArePlaced first copies k places at → more ≡ places ++ at ∷ [] → len ≡ length (copied_words copy) → ArePlaced first copies (k + 1) more (at + 4 * len)
one_placed first copies k places at copy more len below is placed pushed counted =
    let rest = map copied_words (drop (k + 1) copies) in
    let parts : drop k copies ≡ copy ∷ drop (k + 1) copies =
    drop_more copies k copy below ∙ ap (λ (x : PlacedCopy). x ∷ drop (k + 1) copies) (sym is) in
    let behind : at + 4 * len ≡ at + copied_bytes copy = ap (λ (n : ℕ). at + 4 * n) counted in
    record {
      left = ap (λ (xs : List ℕ). xs ++ image_places (at + 4 * len) rest) pushed
          ∙ append_assoc places (at ∷ []) (image_places (at + 4 * len) rest)
          ∙ ap (λ (n : ℕ). places ++ at ∷ image_places n rest) behind
          ∙ ap (λ (xs : List PlacedCopy). places ++ image_places at (map copied_words xs)) (sym parts)
          ∙ placed.left;
      room = ap (λ (n : ℕ). n + sum_by copied_bytes (drop (k + 1) copies)) behind ∙ next_room first copies k places at copy below is placed;
      many = ap (λ (xs : List ℕ). length xs) pushed ∙ length-append places (at ∷ []) ∙ ap (λ (n : ℕ). n + 1) placed.many;
    }

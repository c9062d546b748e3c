-- Texts that go on with further pieces.
use Rattle.std.proofs.Common.{◌≡◌, ◌⊎◌, inl, inr, ℕ, zero, suc, ◌+◌, ◌<◌, ◌≤◌, min, List, [], ◌∷◌, ◌++◌, map, take, drop, length, get_or, None, sym, ap, ◌∙◌, true, false, arith, append-nil}
use Rattle.std.specs.List.{flat_map}
use Rattle.std.proofs.lemmas.Grind.{flat_map-append}
use Rattle.elf_reader.specs.File.{plain_segment}
use Rattle.elf_reader.specs.Loadable.{IsLoadable, AreLoadable}
use Rattle.elf_reader.specs.declared.view.Segment.{Segment}
use Rattle.hex_image.specs.Runs.{PlainRun, run_at}
use Rattle.hex_image.specs.Records.{line_of}
use Rattle.hex_image.specs.Text.{is_cut, pieces_from, piece_records, tail_records, text_with}
use Rattle.hex_image.specs.declared.writing.HexText.{HexText}
use Rattle.hex_image.proofs.PieceLemmas.{first_piece}

-- a segment of those that can be loaded
pub loadable_at : (segments : List Segment) (k : ℕ) (d : Segment) → AreLoadable (map plain_segment segments) → k < length segments → IsLoadable (plain_segment (get_or segments k d))
loadable_at [] k d all below = absurd (omega arith)
loadable_at (s ∷ ss) zero d all below = all 0 (plain_segment s) (omega arith)
loadable_at (s ∷ ss) (suc k) d all below = loadable_at ss k d (λ j e h. all (suc j) e (omega arith)) (omega arith)

pub loadable_placed : (segments : List Segment) (k : ℕ) (d : Segment) → AreLoadable (map plain_segment segments) → k < length segments → (get_or segments k d).vaddr + length (get_or segments k d).bytes.now ≤ 4294967296
loadable_placed segments k d all below =
    let load = loadable_at segments k d all below in
    let fits = load.fits in
    let ends = load.ends in
    omega arith

-- a text that took the first piece of some bytes goes on with the others
pub text_after_piece : (old new first_text : HexText) (first address size : ℕ) (bytes : List ℕ) (front : List PlainRun → List PlainRun)
    → ((more : List PlainRun) → text_with old (pieces_from first address bytes ++ more) ≡ text_with first_text (front more))
    → ((more : List PlainRun) → text_with new more ≡ text_with old (run_at address (take size bytes) ∷ more))
    → pieces_from first address bytes ≡ run_at address (take size bytes) ∷ pieces_from first (address + size) (drop size bytes)
    → (more : List PlainRun) → text_with new (pieces_from first (address + size) (drop size bytes) ++ more) ≡ text_with first_text (front more)
text_after_piece old new first_text first address size bytes front before taken pieces more =
    taken (pieces_from first (address + size) (drop size bytes) ++ more) ∙ ap (λ ps. text_with old (ps ++ more)) (sym pieces) ∙ before more

-- the first `size` bytes are a piece, where that many come before a cut or all of them do
pub piece_before : (first address until size : ℕ) (bytes : List ℕ) → 0 < until → 0 < length bytes → size ≡ min until (length bytes)
    → ((k : ℕ) → 0 < k → k < until → is_cut first (address + k) ≡ false) → is_cut first (address + until) ≡ true
    → pieces_from first address bytes ≡ run_at address (take size bytes) ∷ pieces_from first (address + size) (drop size bytes)
piece_before first address until size bytes some filled is_min inside cut =
    let ends : (size ≡ length bytes) ⊎ (size ≡ until) = grind arith in
    first_piece first address bytes size (omega arith) (omega arith) (λ k lower upper. inside k lower (omega arith))
    (elim ends [ inl all ↦ inl all | inr at_cut ↦ inr (rw at_cut cut) ])

-- the text of all pieces, and then the last records
pub whole_text : (items : List ℕ) (pieces : List PlainRun) (entry : ℕ) → items ++ [] ≡ [] ++ flat_map line_of (piece_records None (pieces ++ []))
    → items ++ flat_map line_of (tail_records entry) ≡ flat_map line_of (piece_records None pieces ++ tail_records entry)
whole_text items pieces entry e =
    let same : items ≡ flat_map line_of (piece_records None pieces) = sym (append-nil items) ∙ e ∙ ap (λ ps. flat_map line_of (piece_records None ps)) (append-nil pieces) in
    rw same (sym (flat_map-append line_of (piece_records None pieces) (tail_records entry)))

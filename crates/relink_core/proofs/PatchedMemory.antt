-- What the memory of a result holds whose words are patched and that has a new segment in the patch range.
use Rattle.std.proofs.Common.{◌≡◌, ◌∙◌, ℕ, ◌+◌, ◌*◌, ◌<◌, ◌≤◌, false, List, map, length, get_or, slice_index, Some, None, sym, ap, subst, arith, inl, inr, zero, suc, [], ◌∷◌, ◌++◌, mod-eq_of_lt, refl}
use Rattle.std.specs.List.{All}
use Rattle.std.proofs.lemmas.List.{length-map, get_or-map}
use Rattle.rv32im.specs.Words.{byte_of, plus, word_of}
use Rattle.rv32im.specs.Memory.{Memory, word_at}
use Rattle.elf_reader.specs.File.{PlainView, view_in}
use Rattle.elf_reader.specs.Faults.{first_fault}
use Rattle.elf_reader.specs.Image.{image_of}
use Rattle.elf_writer.specs.Pieces.{word_bytes, words_bytes}
use Rattle.elf_writer.specs.declared.parts.Patch.{Patch}
use Rattle.elf_writer.specs.declared.parts.SymbolMove.{SymbolMove}
use Rattle.elf_writer.specs.Parts.{NewSegment}
use Rattle.elf_writer.specs.View.{written_segments}
use Rattle.elf_writer.specs.Changes.{within}
use Rattle.elf_writer.specs.Images.{StandsAt, IsOutside, IsOffPatches}
use Rattle.elf_writer.specs.Conditions.{IsWritable}
use Rattle.elf_writer.proofs.ImageLemmas.{new_bytes_loaded}
use Rattle.elf_writer.proofs.PatchLemmas.{words_loaded, others_loaded}
use Rattle.list_checks.specs.Tests.{any_below}
use Rattle.board_config.specs.declared.board.Range.{Range}
use Rattle.flat_machine.specs.Lines.{HoldsAt}
use Rattle.object_graph.specs.Sites.{in_range, holds_changed_byte}
use Rattle.result_laws.specs.Moved.{IsOffWord}
use Rattle.std.proofs.lemmas.Bool.Decides.{nat_tests}
use Rattle.relink_core.specs.Making.{patch_of}
use Rattle.relink_core.proofs.PatchPlaces.{HoldsWord, patch_stands}
use Rattle.relink_core.proofs.WritableLemmas.{length_bytes}

-- ---- words as bytes

rebuilt : (w : ℕ) → w < 4294967296 → word_of (byte_of w 0) (byte_of w 1) (byte_of w 2) (byte_of w 3) ≡ w
rebuilt w small = omega (arith, small)

pub byte_in_word : (w i : ℕ) → i < 4 → slice_index (word_bytes w) i ≡ byte_of w i
byte_in_word w zero below = refl
byte_in_word w (suc zero) below = refl
byte_in_word w (suc (suc zero)) below = refl
byte_in_word w (suc (suc (suc zero))) below = refl
byte_in_word w (suc (suc (suc (suc n)))) below = absurd (omega (arith, below))

-- four bytes in memory are a word
pub word_from : (mem : Memory) (a w : ℕ) → a + 4 ≤ 4294967296 → w < 4294967296 → ((i : ℕ) → i < 4 → mem (a + i) ≡ byte_of w i) → word_at mem a ≡ w
word_from mem a w fits small bytes =
    let one : plus a 1 ≡ a + 1 = mod-eq_of_lt (omega (arith, fits)) in
    let two : plus a 2 ≡ a + 2 = mod-eq_of_lt (omega (arith, fits)) in
    let three : plus a 3 ≡ a + 3 = mod-eq_of_lt (omega (arith, fits)) in
    let none : a ≡ a + 0 = omega arith in
    let b0 : mem a ≡ byte_of w 0 = ap mem none ∙ bytes 0 (omega arith) in
    let b1 : mem (plus a 1) ≡ byte_of w 1 = ap mem one ∙ bytes 1 (omega arith) in
    let b2 : mem (plus a 2) ≡ byte_of w 2 = ap mem two ∙ bytes 2 (omega arith) in
    let b3 : mem (plus a 3) ≡ byte_of w 3 = ap mem three ∙ bytes 3 (omega arith) in
    let whole : word_at mem a ≡ word_of (byte_of w 0) (byte_of w 1) (byte_of w 2) (byte_of w 3) =
    λ i. word_of (b0 i) (b1 i) (b2 i) (b3 i) in
    whole ∙ rebuilt w small

-- byte `i` of word `k` of some words
pub byte_in_words : (words : List ℕ) (k i : ℕ) → k < length words → i < 4 → slice_index (words_bytes words) (4 * k + i) ≡ byte_of (slice_index words k) i
byte_in_words [] k i below inside = absurd (omega (arith, below))
byte_in_words (w ∷ ws) zero i below inside =
    let here : 0 + i ≡ i = omega arith in
    first_four w (words_bytes ws) i inside
  where
    first_four : (w : ℕ) (rest : List ℕ) (i : ℕ) → i < 4 → slice_index (word_bytes w ++ rest) (4 * 0 + i) ≡ byte_of w i
    first_four w rest zero below = refl
    first_four w rest (suc zero) below = refl
    first_four w rest (suc (suc zero)) below = refl
    first_four w rest (suc (suc (suc zero))) below = refl
    first_four w rest (suc (suc (suc (suc n)))) below = absurd (omega (arith, below))
byte_in_words (w ∷ ws) (suc k) i below inside =
    let rest = byte_in_words ws k i (omega (arith, below)) inside in
    let place : 4 * suc k + i ≡ suc (suc (suc (suc (4 * k + i)))) = omega arith in
    ap (slice_index (words_bytes (w ∷ ws))) place ∙ rest

-- ---- disjoint addresses

pub off_word : (x a : ℕ) → IsOffWord a x → within x 4 a ≡ false
off_word x a (inl before) = grind (arith, nat_tests, before)
off_word x a (inr behind) = grind (arith, nat_tests, behind)

pub off_patch : (base size a n : ℕ) → in_range (record { base = base; size = size }) a ≡ false → n ≤ size → within base n a ≡ false
off_patch base size a n off part = grind (arith, nat_tests, off, part)

-- ---- the memory

-- each word stands in a loaded section
abbrev pub AreHeld : PlainView → List (ℕ × ℕ) → Type 0
AreHeld v entries = (j : ℕ) (d : ℕ × ℕ) → j < length entries → (k : ℕ) × HoldsWord v (get_or entries j d).0 k

module _ (file : List ℕ) (patch : Range) (entries : List (ℕ × ℕ)) (s : NewSegment) (moves : List SymbolMove) (none : first_fault file ≡ None) (held : AreHeld (view_in file) entries) (writable : IsWritable (view_in file) (map (patch_of (view_in file)) entries) (Some s) moves) (base : s.base ≡ patch.base) (inside : length s.content ≤ patch.size) where
  abbrev v : PlainView
  v = view_in file

  abbrev patches : List Patch
  patches = map (patch_of v) entries

  abbrev pub memory : Memory
  memory = image_of (written_segments v patches (Some s) moves)

  patch_at : (j : ℕ) (d : Patch) (e : ℕ × ℕ) → j < length entries → get_or patches j d ≡ patch_of v (get_or entries j e)
  patch_at j d e below = get_or-map (patch_of v) entries j e d below

  entry_stands : (j : ℕ) (d : Patch) → j < length entries → (k : ℕ) × StandsAt v (get_or patches j d) k (get_or entries j (0, 0)).0
  entry_stands j d below =
      let e = get_or entries j (0, 0) in
      let there = held j (0, 0) below in
      let stands = patch_stands file e there.0 none there.1 in
      (there.0, subst (λ (p : Patch). StandsAt v p there.0 e.0) (sym (patch_at j d (0, 0) below)) stands)

  -- an entry's word stands at its address
  pub entry_loaded : (j i : ℕ) → j < length entries → i < 4 → memory ((get_or entries j (0, 0)).0 + i) ≡ byte_of (get_or entries j (0, 0)).1 i
  entry_loaded j i below small =
      let e = get_or entries j (0, 0) in
      let d = patch_of v e in
      let stands = entry_stands j d below in
      let count : length patches ≡ length entries = length-map entries (patch_of v) in
      words_loaded file patches (Some s) moves j d stands.0 e.0 i none writable (omega (arith, count, below)) stands.1 small
      ∙ ap (λ (p : Patch). slice_index (word_bytes p.word) i) (patch_at j d (0, 0) below)
      ∙ byte_in_word e.1 i small

  -- all else stays
  pub rest_stays : (a : ℕ) → in_range patch a ≡ false → All (λ e. IsOffWord a e.0) entries → any_below (holds_changed_byte v a) (length v.segments) ≡ false → memory a ≡ image_of v.segments a
  rest_stays a off_range off_entries unchanged =
      let outside : IsOutside (Some s) a =
      subst (λ (b : ℕ). within b (length s.content) a ≡ false) (sym base)
      (off_patch patch.base patch.size a (length s.content) off_range inside) in
      let count : length patches ≡ length entries = length-map entries (patch_of v) in
      let off : IsOffPatches v patches a =
      λ j d below.
      let there : j < length entries = omega (arith, count, below) in
      let stands = entry_stands j d there in
      (stands.0, (get_or entries j (0, 0)).0, stands.1, off_word (get_or entries j (0, 0)).0 a (off_entries j (0, 0) there)) in
      others_loaded file patches (Some s) moves a none writable outside off unchanged

  -- the words of the new segment stand from the beginning of the patch range on
  pub segment_loaded : (words : List ℕ) → s.content ≡ words_bytes words → All (λ w. w < 4294967296) words → patch.base + patch.size < 4294967296 → HoldsAt memory patch.base words
  segment_loaded words content small ends k below =
      let size = length_bytes words in
      let all = ap (λ (bytes : List ℕ). length bytes) content in
      let w = slice_index words k in
      let at = patch.base + 4 * k in
      word_from memory at w (omega (arith, size, all, inside, below, ends)) (small k 0 below)
      (λ i less.
      let place : at + i ≡ s.base + (4 * k + i) = omega (arith, base) in
      ap memory place
      ∙ new_bytes_loaded file patches s moves (4 * k + i) none writable (omega (arith, size, all, below, less))
      ∙ ap (λ (bytes : List ℕ). slice_index bytes (4 * k + i)) content
      ∙ byte_in_words words k i below less)

-- Words with pads among them may be written: each stands in a loaded section, and no two share a byte of the file.
use Rattle.std.proofs.Common.{◌≡◌, ◌∙◌, ◌⊎◌, inl, inr, ℕ, ◌+◌, ◌<◌, ◌≤◌, true, List, map, length, get_or, None, sym, ap, subst, arith}
use Rattle.std.specs.List.{All, AllPairs, filter}
use Rattle.std.specs.List.Sorted.{IsStrictlyIncreasing}
use Rattle.std.proofs.lemmas.Bool.{cases_order}
use Rattle.std.proofs.lemmas.List.{get_or-map, get_or_default, length-map}
use Rattle.std.proofs.lemmas.List.Elements.{All-append, All-filter, All-map, filter_passes}
use Rattle.std.proofs.lemmas.List.Folds.{list_any_at}
use Rattle.std.proofs.lemmas.List.Kept.{AllPairs-filter, AllPairs-from_increasing}
use Rattle.list_checks.proofs.TestLemmas.{not_true}
use Rattle.elf_reader.specs.File.{PlainView, view_in}
use Rattle.elf_reader.specs.Faults.{first_fault}
use Rattle.elf_writer.specs.declared.parts.Patch.{Patch}
use Rattle.elf_writer.specs.Conditions.{PatchesLoadedWord, ArePatchesDisjoint}
use Rattle.board_config.specs.declared.board.Board.{Board}
use Rattle.loaded_file.specs.Code.{is_code_word}
use Rattle.object_graph.specs.Graphs.{IsGraph}
use Rattle.object_graph.specs.declared.parts.Graph.{Graph}
use Rattle.code_blocks.specs.Early.{has}
use Rattle.code_blocks.proofs.ListLemmas.{has_at}
use Rattle.relocator.specs.declared.places.Places.{Places}
use Rattle.relocator.specs.SiteWords.{is_entry, AreSiteWords}
use Rattle.result_laws.proofs.Words.{code_even}
use Rattle.relink_core.specs.Padding.{is_unpadded, ArePadded}
use Rattle.relink_core.specs.Making.{patch_of}
use Rattle.relink_core.proofs.BlockOrder.{pairs_append}
use Rattle.relink_core.proofs.PatchPlaces.{HoldsWord, HoldsNoCode, code_kept, data_kept, sections_differ, patch_stands, stands_loaded, stand_apart, stand_disjoint}
use Rattle.relink_core.proofs.WritableLemmas.{SitesAreCode, entry_itself}

-- ---- one word

-- a word and its address are of code, or of data
abbrev pub IsPlaced : PlainView → ℕ × ℕ → Type 0
IsPlaced v e = (is_code_word v e.0 ≡ true) ⊎ ((k : ℕ) × HoldsNoCode v e.0 k)

pub placed_held : (v : PlainView) (e : ℕ × ℕ) → IsPlaced v e → (k : ℕ) × HoldsWord v e.0 k
placed_held v e (inl code) = let kept = code_kept v e.0 code in (kept.0, kept.1.word)
placed_held v e (inr kept) = (kept.0, kept.1.word)

-- two words of which one ends before the other begins
before_other : (file : List ℕ) (e f : ℕ × ℕ) → first_fault file ≡ None → IsPlaced (view_in file) e → IsPlaced (view_in file) f → e.0 + 4 ≤ f.0 → ArePatchesDisjoint (patch_of (view_in file) e) (patch_of (view_in file) f)
before_other file e f none one other order =
    let v = view_in file in
    let first = placed_held v e one in
    let last = placed_held v f other in
    stand_disjoint v (patch_of v e) (patch_of v f) first.0 last.0 e.0 f.0 first.1.below last.1.below (patch_stands file e first.0 none first.1) (patch_stands file f last.0 none last.1) order

other_way : (p q : Patch) → ArePatchesDisjoint p q → ArePatchesDisjoint q p
other_way p q (inl before) = inr before
other_way p q (inr behind) = inl behind

-- a word and a pad at another address
beside_pad : (file : List ℕ) (e f : ℕ × ℕ) → first_fault file ≡ None → IsPlaced (view_in file) e → is_code_word (view_in file) f.0 ≡ true → (e.0 ≡ f.0 → ⊥) → ArePatchesDisjoint (patch_of (view_in file) e) (patch_of (view_in file) f)
beside_pad file e f none (inl code) pad differ =
    let v = view_in file in
    let even = code_even v e.0 code in
    let even_pad = code_even v f.0 pad in
    elim (cases_order e.0 f.0) [
      | inl same ↦ absurd (differ same)
      | inr order ↦ elim order [
        | inl before ↦ before_other file e f none (inl code) (inl pad) (omega (arith, before, even, even_pad))
        | inr behind ↦ other_way (patch_of v f) (patch_of v e) (before_other file f e none (inl pad) (inl code) (omega (arith, behind, even, even_pad)))
      ]
    ]
beside_pad file e f none (inr kept) pad differ =
    let v = view_in file in
    let code = code_kept v f.0 pad in
    stand_apart v (patch_of v e) (patch_of v f) kept.0 code.0 e.0 f.0 code.1.word.below
    (λ same. sections_differ v f.0 e.0 code.0 kept.0 code.1 kept.1 (sym same))
    (patch_stands file e kept.0 none kept.1.word) (patch_stands file f code.0 none code.1.word)

-- ---- all

module _ (file : List ℕ) (board : Board) (g : Graph) (places : Places) (regions : List ℕ) (words : List (ℕ × ℕ)) (homes stub_at : List ℕ) (padded : List (ℕ × ℕ)) (none : first_fault file ≡ None) (graph : IsGraph (view_in file) board g) (codes : SitesAreCode (view_in file) g) (new : AreSiteWords (view_in file) g places regions words) (homes_code : All (λ a. is_code_word (view_in file) a ≡ true) homes) (ascending : IsStrictlyIncreasing homes) (is : ArePadded words homes stub_at padded) where
  abbrev v : PlainView
  v = view_in file

  abbrev kept : List (ℕ × ℕ)
  kept = filter (is_unpadded homes) words

  abbrev pads : List (ℕ × ℕ)
  pads = is.pads

  words_placed : All (IsPlaced v) words
  words_placed j d below =
      let e = get_or words j d in
      elim (new.only e.0 e.1 (list_any_at (is_entry e.0 e.1) words j d below (entry_itself e))) [
        | inl site ↦ inl (subst (λ (a : ℕ). is_code_word v a ≡ true) site.1.1 (codes site.0 site.1.0))
        | inr word ↦
            let held = data_kept v board g word.0 graph word.1.0 in
            inr (held.0, subst (λ (a : ℕ). HoldsNoCode v a held.0) word.1.1 held.1)
      ]

  kept_placed : All (IsPlaced v) kept
  kept_placed = All-filter (is_unpadded homes) (IsPlaced v) words words_placed

  kept_ordered : AllPairs (λ d e. d.0 + 4 ≤ e.0) kept
  kept_ordered = AllPairs-filter (λ (d e : ℕ × ℕ). d.0 + 4 ≤ e.0) (is_unpadded homes) words new.disjoint

  count_pads : length pads ≡ length homes
  count_pads = is.are.many

  pad_home : (k : ℕ) (d : ℕ × ℕ) → k < length pads → (get_or pads k d).0 ≡ get_or homes k 0
  pad_home k d below =
      let inside : k < length homes = omega (arith, below, count_pads) in
      ap (λ (e : ℕ × ℕ). e.0) (get_or_default pads k d (0, 0) below) ∙ (is.are.each k inside).at

  pad_code : (k : ℕ) (d : ℕ × ℕ) → k < length pads → is_code_word v (get_or pads k d).0 ≡ true
  pad_code k d below =
      subst (λ (a : ℕ). is_code_word v a ≡ true) (sym (pad_home k d below)) (homes_code k 0 (omega (arith, below, count_pads)))

  pads_placed : All (IsPlaced v) pads
  pads_placed k d below = inl (pad_code k d below)

  pads_ordered : AllPairs (λ d e. d.0 + 4 ≤ e.0) pads
  pads_ordered i j d before below =
      let first : i < length pads = omega (arith, before, below) in
      let less = AllPairs-from_increasing homes ascending i j 0 before (omega (arith, below, count_pads)) in
      let one = pad_home i d first in
      let other = pad_home j d below in
      let even = code_even v (get_or pads i d).0 (pad_code i d first) in
      let even_other = code_even v (get_or pads j d).0 (pad_code j d below) in
      omega (arith, less, one, other, even, even_other)

  -- a word that is kept stands at no pad
  kept_off : (i j : ℕ) (d : ℕ × ℕ) → i < length kept → j < length pads → (get_or kept i d).0 ≡ (get_or pads j d).0 → ⊥
  kept_off i j d inside within same =
      let passes = filter_passes (is_unpadded homes) words i d inside in
      let none_there = not_true (has homes (get_or kept i d).0) passes in
      let home : (get_or kept i d).0 ≡ get_or homes j 0 = same ∙ pad_home j d within in
      let there : has homes (get_or kept i d).0 ≡ true = subst (λ (a : ℕ). has homes a ≡ true) (sym home) (has_at homes j 0 (omega (arith, within, count_pads))) in
      absurd (cc (none_there, there))

  pub all_placed : All (IsPlaced v) padded
  all_placed = subst (All (IsPlaced v)) (sym is.whole) (All-append (IsPlaced v) kept pads kept_placed pads_placed)

  abbrev Apart : ℕ × ℕ → ℕ × ℕ → Type 0
  Apart e f = ArePatchesDisjoint (patch_of v e) (patch_of v f)

  all_apart : AllPairs Apart padded
  all_apart =
      subst (AllPairs Apart) (sym is.whole)
      (pairs_append Apart kept pads
      (λ i j d before below. before_other file (get_or kept i d) (get_or kept j d) none (kept_placed i d (omega (arith, before, below))) (kept_placed j d below) (kept_ordered i j d before below))
      (λ i j d before below. before_other file (get_or pads i d) (get_or pads j d) none (pads_placed i d (omega (arith, before, below))) (pads_placed j d below) (pads_ordered i j d before below))
      (λ i j d inside within. beside_pad file (get_or kept i d) (get_or pads j d) none (kept_placed i d inside) (pad_code j d within) (kept_off i j d inside within)))

  -- so their patches may be written
  pub padded_loaded : All (PatchesLoadedWord v) (map (patch_of v) padded)
  padded_loaded =
      All-map (PatchesLoadedWord v) (patch_of v) padded
      (λ j d below.
      let e = get_or padded j d in
      let held = placed_held v e (all_placed j d below) in
      stands_loaded v (patch_of v e) held.0 e.0 held.1.below (patch_stands file e held.0 none held.1))

  pub padded_apart : AllPairs ArePatchesDisjoint (map (patch_of v) padded)
  padded_apart i j d before below =
      let count = length-map padded (patch_of v) in
      let inside : j < length padded = omega (arith, below, count) in
      let first : i < length padded = omega (arith, before, inside) in
      subst (λ (p : Patch). ArePatchesDisjoint p (get_or (map (patch_of v) padded) j d)) (sym (get_or-map (patch_of v) padded i (0, 0) d first))
      (subst (λ (p : Patch). ArePatchesDisjoint (patch_of v (get_or padded i (0, 0))) p) (sym (get_or-map (patch_of v) padded j (0, 0) d inside)) (all_apart i j (0, 0) before inside))

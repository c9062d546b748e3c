-- The new words as a list.
use Rattle.std.proofs.Common.{◌≡◌, ◌∙◌, ◌⊎◌, inl, inr, ℕ, zero, suc, ◌+◌, ◌-◌, ◌<◌, ◌≤◌, ◌==◌, Bool, true, false, ◌||◌, List, [], ◌∷◌, ◌++◌, length, get_or, length-append, refl, sym, ap, subst, arith}
use Rattle.std.specs.List.{list_any}
use Rattle.std.proofs.lemmas.Bool.{cases_lt, eqb-true}
use Rattle.std.proofs.lemmas.Bool.Decides.{nat_tests}
use Rattle.std.proofs.lemmas.List.{length_push, get_or_append_left, get_or-append_right, get_or_push}
use Rattle.std.proofs.lemmas.List.Folds.{list_any_at, list_any-append}
use Rattle.list_checks.specs.Tests.{ranges_overlap}
use Rattle.list_checks.proofs.TestLemmas.{either, both}
use Rattle.elf_reader.specs.File.{PlainView}
use Rattle.board_config.specs.declared.board.Board.{Board}
use Rattle.object_graph.specs.declared.parts.Graph.{Graph}
use Rattle.object_graph.specs.Graphs.{IsGraph}
use Rattle.object_graph.specs.Gathered.{AreSeparate, AreInOrder}
use Rattle.relocator.specs.declared.places.Places.{Places}
use Rattle.relocator.specs.SiteWords.{site_at, data_word_at, word_address, IsNewAtSite, is_entry, has_entry, AreSiteWords}
use Rattle.relocator.specs.Gathering.{entry_of, AreOfSites, AreOfWords, address_of}
use Rattle.relocator.proofs.WordLemmas.{site_listed, word_listed, site_off_word}

-- ---- one more

last_or_before : (k n : ℕ) → k < n + 1 → (k < n) ⊎ (k ≡ n)
last_or_before k n below = elim (cases_lt k n) [
  | inl before ↦ inl before
  | inr behind ↦ inr (omega (arith, below, behind))
]

before_push : (entries : List (ℕ × ℕ)) (e : ℕ × ℕ) (n k : ℕ) → length entries ≡ n → k < n → entry_of (entries ++ e ∷ []) k ≡ entry_of entries k
before_push entries e n k long before = get_or_append_left entries (e ∷ []) (0, 0) k (omega (arith, long, before))

pub site_more : (v : PlainView) (g : Graph) (places : Places) (region_at : List ℕ) (n : ℕ) (entries more : List (ℕ × ℕ)) (e : ℕ × ℕ) → more ≡ entries ++ e ∷ [] → e.0 ≡ (site_at g n).at → IsNewAtSite v g places region_at n e.1 → AreOfSites v g places region_at n entries → AreOfSites v g places region_at (n + 1) more
site_more v g places region_at n entries more e grown at new are = subst (λ (es : List (ℕ × ℕ)). AreOfSites v g places region_at (n + 1) es) (sym grown) (record {
  long = length_push entries e ∙ (let long = are.long in omega (arith, long));
  at = λ k below. at_place k below (last_or_before k n below);
  word = λ k below. word_place k below (last_or_before k n below);
})
  where
    here : entry_of (entries ++ e ∷ []) n ≡ e
    here = get_or_push entries e (0, 0) n are.long

    at_place : (k : ℕ) → k < n + 1 → (k < n) ⊎ (k ≡ n) → (entry_of (entries ++ e ∷ []) k).0 ≡ (site_at g k).at
    at_place k below (inl before) = ap (λ (x : ℕ × ℕ). x.0) (before_push entries e n k are.long before) ∙ are.at k before
    at_place k below (inr last) = subst (λ (j : ℕ). (entry_of (entries ++ e ∷ []) j).0 ≡ (site_at g j).at) (sym last) (ap (λ (x : ℕ × ℕ). x.0) here ∙ at)

    word_place : (k : ℕ) → k < n + 1 → (k < n) ⊎ (k ≡ n) → IsNewAtSite v g places region_at k (entry_of (entries ++ e ∷ []) k).1
    word_place k below (inl before) = subst (λ (x : ℕ × ℕ). IsNewAtSite v g places region_at k x.1) (sym (before_push entries e n k are.long before)) (are.word k before)
    word_place k below (inr last) =
        subst (λ (j : ℕ). IsNewAtSite v g places region_at j (entry_of (entries ++ e ∷ []) j).1) (sym last)
        (subst (λ (x : ℕ × ℕ). IsNewAtSite v g places region_at n x.1) (sym here) new)

-- ---- none meet

-- the entry of a site stands before that of a word of data
separate_at : (v : PlainView) (board : Board) (g : Graph) (places : Places) (region_at : List ℕ) (xs ys : List (ℕ × ℕ)) → IsGraph v board g → AreOfSites v g places region_at (length g.sites.items) xs → AreOfWords g places (length g.data_words.items) ys
    → (i j : ℕ) → i < j → j < length xs + length ys → ranges_overlap (entry_of (xs ++ ys) i).0 4 (entry_of (xs ++ ys) j).0 4 ≡ false
separate_at v board g places region_at xs ys is sites words i j before below =
    elim (cases_lt j (length xs)) [
      | inl first ↦
          let here = at_site i (omega (arith, before, first)) in
          let there = at_site j first in
          let order : (site_at g i).at + 4 ≤ (site_at g j).at = is.sites.disjoint i j _ before (omega (arith, first, count)) in
          behind_none (entry_of (xs ++ ys) i).0 (entry_of (xs ++ ys) j).0 (omega (arith, here, there, order))
      | inr second ↦
          let there = at_word j second below in
          elim (cases_lt i (length xs)) [
            | inl first ↦
                let here = at_site i first in
                let site = site_listed v g.objects.items g.sites.items i is.sites (omega (arith, first, count)) in
                let word = word_listed v g.objects.items g.data_words.items (j - length xs) is.data_words (omega (arith, second, below, word_count)) in
                let none = site_off_word v (length g.objects.items) (site_at g i) (data_word_at g (j - length xs)) site word in
                grind (arith, nat_tests, here, there, none)
            | inr also ↦
                let here = at_word i also (omega (arith, before, below)) in
                let order : (data_word_at g (i - length xs)).at + 4 ≤ (data_word_at g (j - length xs)).at = is.data_words.disjoint (i - length xs) (j - length xs) _ (omega (arith, before, also)) (omega (arith, second, below, word_count)) in
                behind_none (entry_of (xs ++ ys) i).0 (entry_of (xs ++ ys) j).0 (omega (arith, here, there, order))
          ]
    ]
  where
    count : length xs ≡ length g.sites.items
    count = sites.long

    word_count : length ys ≡ length g.data_words.items
    word_count = words.long

    behind_none : (a b : ℕ) → a + 4 ≤ b → ranges_overlap a 4 b 4 ≡ false
    behind_none a b order = grind (arith, nat_tests, order)

    at_site : (k : ℕ) → k < length xs → (entry_of (xs ++ ys) k).0 ≡ (site_at g k).at
    at_site k first = ap (λ (x : ℕ × ℕ). x.0) (get_or_append_left xs ys (0, 0) k first) ∙ sites.at k (omega (arith, first, count))

    at_word : (k : ℕ) → length xs ≤ k → k < length xs + length ys → (entry_of (xs ++ ys) k).0 ≡ (data_word_at g (k - length xs)).at
    at_word k second below = ap (λ (x : ℕ × ℕ). x.0) (get_or-append_right xs ys (length xs) k (0, 0) refl second) ∙ words.at (k - length xs) (omega (arith, second, below, word_count))

pub all_separate : (v : PlainView) (board : Board) (g : Graph) (places : Places) (region_at : List ℕ) (xs ys : List (ℕ × ℕ)) → IsGraph v board g → AreOfSites v g places region_at (length g.sites.items) xs → AreOfWords g places (length g.data_words.items) ys → AreSeparate address_of (xs ++ ys)
all_separate v board g places region_at xs ys is sites words i j d before below =
    let long = length-append xs ys in
    let none = separate_at v board g places region_at xs ys is sites words i j before (omega (arith, long, below)) in
    subst (λ (x : ℕ × ℕ). ranges_overlap x.0 4 (get_or (xs ++ ys) j d).0 4 ≡ false) (any_default (xs ++ ys) i (0, 0) d (omega (arith, before, below)))
    (subst (λ (x : ℕ × ℕ). ranges_overlap (entry_of (xs ++ ys) i).0 4 x.0 4 ≡ false) (any_default (xs ++ ys) j (0, 0) d below) none)
  where
    any_default : (es : List (ℕ × ℕ)) (k : ℕ) (d e : ℕ × ℕ) → k < length es → get_or es k d ≡ get_or es k e
    any_default [] k d e below = absurd (omega (arith, below))
    any_default (x ∷ es) zero d e below = refl
    any_default (x ∷ es) (suc k) d e below = any_default es k d e (omega (arith, below))

-- ---- sorted

-- the place of an element that passes
any_place : (test : ℕ × ℕ → Bool) (es : List (ℕ × ℕ)) → list_any test es ≡ true → (k : ℕ) × ((k < length es) × (test (entry_of es k) ≡ true))
any_place test [] found = absurd (cc)
any_place test (e ∷ es) found = elim (either (test e) (list_any test es) found) [
  | inl first ↦ (0, (omega arith, first))
  | inr later ↦
      let there = any_place test es later in
      let below = there.1.0 in
      (suc there.0, (omega (arith, below), there.1.1))
]

entry_passes : (a w : ℕ) (e : ℕ × ℕ) → e.0 ≡ a → e.1 ≡ w → is_entry a w e ≡ true
entry_passes a w e at word = grind (arith, nat_tests, at, word)

left_or : (a b : Bool) → a ≡ true → a || b ≡ true
left_or a b is = rw is refl

right_or : (a b : Bool) → b ≡ true → a || b ≡ true
right_or true b is = refl
right_or false b is = is

pub are_site_words : (v : PlainView) (g : Graph) (places : Places) (region_at : List ℕ) (xs ys zs : List (ℕ × ℕ)) → AreOfSites v g places region_at (length g.sites.items) xs → AreOfWords g places (length g.data_words.items) ys
    → AreInOrder address_of zs → ((test : ℕ × ℕ → Bool) → list_any test zs ≡ list_any test (xs ++ ys))
    → AreSiteWords v g places region_at zs
are_site_words v g places region_at xs ys zs sites words order same = record {
  disjoint = order;
  sites = λ k below.
      let e = entry_of xs k in
      let long = sites.long in
      let passes = entry_passes (site_at g k).at e.1 e (sites.at k below) refl in
      let among = list_any_at (is_entry (site_at g k).at e.1) xs k (0, 0) (omega (arith, long, below)) passes in
      (e.1, (whole (site_at g k).at e.1 (left_or _ (list_any (is_entry (site_at g k).at e.1) ys) among), sites.word k below));
  data_words = λ k below.
      let e = entry_of ys k in
      let long = words.long in
      let a : ℕ = (data_word_at g k).at in
      let w : ℕ = word_address g places k in
      let passes = entry_passes a w e (words.at k below) (words.word k below) in
      let among = list_any_at (is_entry a w) ys k (0, 0) (omega (arith, long, below)) passes in
      whole a w (right_or (list_any (is_entry a w) xs) (list_any (is_entry a w) ys) among);
  only = λ a w has.
      let parted = sym (list_any-append (is_entry a w) xs ys) ∙ sym (same (is_entry a w)) ∙ has in
      elim (either (list_any (is_entry a w) xs) (list_any (is_entry a w) ys) parted) [
        | inl first ↦
            let found = any_place (is_entry a w) xs first in
            let k = found.0 in
            let parts = both ((entry_of xs k).0 == a) ((entry_of xs k).1 == w) found.1.1 in
            let long = sites.long in
            let inside = found.1.0 in
            let below : k < length g.sites.items = omega (arith, long, inside) in
            inl (
              k,
              (
                below,
                sym (sites.at k below) ∙ eqb-true (entry_of xs k).0 a parts.0,
                subst (λ (n : ℕ). IsNewAtSite v g places region_at k n) (eqb-true (entry_of xs k).1 w parts.1) (sites.word k below),
              ),
            )
        | inr second ↦
            let found = any_place (is_entry a w) ys second in
            let k = found.0 in
            let parts = both ((entry_of ys k).0 == a) ((entry_of ys k).1 == w) found.1.1 in
            let long = words.long in
            let inside = found.1.0 in
            let below : k < length g.data_words.items = omega (arith, long, inside) in
            inr (
              k,
              (
                below,
                sym (words.at k below) ∙ eqb-true (entry_of ys k).0 a parts.0,
                sym (eqb-true (entry_of ys k).1 w parts.1) ∙ words.word k below,
              ),
            )
      ];
}
  where
    whole : (a w : ℕ) → list_any (is_entry a w) xs || list_any (is_entry a w) ys ≡ true → has_entry zs a w ≡ true
    whole a w among = same (is_entry a w) ∙ list_any-append (is_entry a w) xs ys ∙ among

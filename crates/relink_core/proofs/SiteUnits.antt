-- Units of the code at sites: each has the new word of its site.
use Rattle.std.proofs.Common.{◌≡◌, ◌∙◌, inl, inr, ℕ, zero, suc, ◌+◌, ◌<◌, ◌≤◌, ◌==◌, Bool, true, false, if◌then◌else◌, List, [], ◌∷◌, map, length, get_or, None, sym, ap, subst, arith}
use Rattle.std.specs.List.{AllPairs, list_any}
use Rattle.std.specs.List.Sorted.{IsStrictlyIncreasing}
use Rattle.std.proofs.lemmas.Bool.{eqb-true, eq-eqb}
use Rattle.std.proofs.lemmas.Bool.Decides.{nat_tests}
use Rattle.std.proofs.lemmas.List.{get_or-map, length-map}
use Rattle.std.proofs.lemmas.List.Folds.{list_any_at}
use Rattle.list_checks.proofs.TestLemmas.{both, same_tests}
use Rattle.list_checks.proofs.StepLemmas.{any_place}
use Rattle.elf_reader.specs.File.{PlainView, view_in}
use Rattle.elf_reader.specs.Faults.{first_fault}
use Rattle.board_config.specs.declared.board.Board.{Board}
use Rattle.loaded_file.specs.Code.{is_code_word}
use Rattle.object_graph.specs.Graphs.{IsGraph}
use Rattle.object_graph.specs.Lookups.{stands_at}
use Rattle.object_graph.specs.declared.parts.Graph.{Graph}
use Rattle.code_blocks.specs.Blocks.{IsCode}
use Rattle.code_blocks.specs.Leads.{no_unit}
use Rattle.code_blocks.specs.declared.parts.Unit.{Unit}
use Rattle.code_blocks.specs.declared.parts.Code.{Code}
use Rattle.block_splitter.specs.Forms.{is_site, body_at, unit_in}
use Rattle.block_splitter.specs.Copies.{Patch, address_in, word_of_unit, HasSites}
use Rattle.relocator.specs.declared.places.Places.{Places}
use Rattle.result_laws.specs.HomeLaws.{IsAccepted, unnamed_in}
use Rattle.result_laws.specs.LiveUnits.{UnitsStand}
use Rattle.result_laws.proofs.CodeUnits.{body_units, code_units_stand}
use Rattle.relocator.specs.SiteWords.{no_site, site_at, is_entry, has_entry, IsNewAtSite, AreSiteWords}
use Rattle.relink_core.proofs.PatchPlaces.{data_off_code}
use Rattle.relink_core.proofs.WritableLemmas.{entry_itself}

-- ---- units

-- each unit stands at a word of code
abbrev pub AreUnitsCode : PlainView → Code → Type 0
AreUnitsCode v c =
    (b k : ℕ) → b < length c.blocks.items → k < length (body_at c.blocks.items b).units → is_code_word v (unit_in (body_at c.blocks.items b) k).at ≡ true

pub units_code : (file : List ℕ) (board : Board) (g : Graph) (c : Code) → IsAccepted file board g → IsCode (view_in file) c → AreUnitsCode (view_in file) c
units_code file board g c accepted code b k below inside =
    let stand : UnitsStand (view_in file) (unnamed_in file board g) c = code_units_stand file board g c accepted code in
    let same = body_units c.blocks.items b in
    subst (λ (us : List Unit). is_code_word (view_in file) (get_or us k no_unit).at ≡ true) (sym same)
    (stand.code b k (subst (λ (us : List Unit). k < length us) same inside))

-- ---- words of sites

-- entries that ascend by address
pub entries_rise : (words : List Patch) → AllPairs (λ d e. d.0 + 4 ≤ e.0) words → IsStrictlyIncreasing (map address_in words)
entries_rise words order k below =
    let count = length-map words address_in in
    let next : k + 1 < length words = omega (arith, below, count) in
    let first = get_or-map address_in words k (0, 0) 0 (omega (arith, next)) in
    let second = get_or-map address_in words (k + 1) (0, 0) 0 next in
    let order_here = order k (k + 1) (0, 0) (omega arith) next in
    omega (arith, first, second, order_here)

entry_there : (words : List Patch) (a w : ℕ) → has_entry words a w ≡ true → (j : ℕ) × ((j < length words) × (((get_or words j (0, 0)).0 ≡ a) × ((get_or words j (0, 0)).1 ≡ w)))
entry_there words a w has =
    let (j, (below, is)) = any_place (is_entry a w) words (0, 0) has in
    let e = get_or words j (0, 0) in
    let parts = both (e.0 == a) (e.1 == w) is in
    (j, (below, (eqb-true e.0 a parts.0, eqb-true e.1 w parts.1)))

-- the word of a unit is that of the entry at its address
pub word_found : (words : List Patch) (u : Unit) (j : ℕ) → AllPairs (λ d e. d.0 + 4 ≤ e.0) words → j < length words → (get_or words j (0, 0)).0 ≡ u.at → word_of_unit words u ≡ (get_or words j (0, 0)).1
word_found [] u j order below same = absurd (omega (arith, below))
word_found (p ∷ ps) u zero order below same =
    let here : (p.0 == u.at) ≡ true = eq-eqb p.0 u.at same in
    ap (λ (b : Bool). if b then p.1 else word_of_unit ps u) here
word_found (p ∷ ps) u (suc j) order below same =
    let less = order 0 (suc j) (0, 0) (omega arith) below in
    let there : (p.0 == u.at) ≡ false = grind (arith, nat_tests, less, same) in
    ap (λ (b : Bool). if b then p.1 else word_of_unit ps u) there
    ∙ word_found ps u j (λ i k d before inside. order (suc i) (suc k) d (omega (arith, before)) (omega (arith, inside))) (omega (arith, below)) same

module _ (file : List ℕ) (board : Board) (g : Graph) (c : Code) (places : Places) (regions : List ℕ) (words : List Patch) (none : first_fault file ≡ None) (graph : IsGraph (view_in file) board g) (units : AreUnitsCode (view_in file) c) (new : AreSiteWords (view_in file) g places regions words) where
  abbrev v : PlainView
  v = view_in file

  listed : (a : ℕ) → is_code_word v a ≡ true → list_any (λ p. address_in p == a) words ≡ is_site g a
  listed a code = same_tests (list_any (λ (p : Patch). address_in p == a) words) (is_site g a) forth back
    where
      forth : list_any (λ p. address_in p == a) words ≡ true → is_site g a ≡ true
      forth any =
          let (j, (below, passes)) = any_place (λ (p : Patch). address_in p == a) words (0, 0) any in
          let e = get_or words j (0, 0) in
          let at = eqb-true e.0 a passes in
          elim (new.only e.0 e.1 (list_any_at (is_entry e.0 e.1) words j (0, 0) below (entry_itself e))) [
            | inl site ↦ list_any_at (stands_at a) g.sites.items site.0 no_site site.1.0 (eq-eqb (site_at g site.0).at a (site.1.1 ∙ at))
            | inr word ↦ absurd (data_off_code file board g word.0 a none graph word.1.0 code (word.1.1 ∙ at))
          ]

      back : is_site g a ≡ true → list_any (λ p. address_in p == a) words ≡ true
      back any =
          let (k, (below, passes)) = any_place (stands_at a) g.sites.items no_site any in
          let at = eqb-true (site_at g k).at a passes in
          let (w, (has, is)) = new.sites k below in
          let (j, (inside, (there, value))) = entry_there words (site_at g k).at w has in
          list_any_at (λ (p : Patch). address_in p == a) words j (0, 0) inside (eq-eqb (get_or words j (0, 0)).0 a (there ∙ at))

  pub has_sites : HasSites c g words
  has_sites = record { ascending = entries_rise words new.disjoint; others = λ b k block unit. listed (unit_in (body_at c.blocks.items b) k).at (units b k block unit) }

  -- the unit at a site has the site's word
  pub site_word : (b k : ℕ) (i : ℕ) → i < length g.sites.items → (site_at g i).at ≡ (unit_in (body_at c.blocks.items b) k).at → IsNewAtSite v g places regions i (word_of_unit words (unit_in (body_at c.blocks.items b) k))
  site_word b k i below same =
      let u = unit_in (body_at c.blocks.items b) k in
      let (w, (has, is)) = new.sites i below in
      let (j, (inside, (there, value))) = entry_there words (site_at g i).at w has in
      let found = word_found words u j new.disjoint inside (there ∙ same) in
      subst (IsNewAtSite v g places regions i) (sym (found ∙ value)) is

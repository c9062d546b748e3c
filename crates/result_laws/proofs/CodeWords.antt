-- The words of code in a result: those of sites make the addresses of the places, and all others are the file's own.
use Rattle.std.proofs.Common.{◌≡◌, ◌∙◌, ℕ, ◌+◌, ◌*◌, ◌/◌, ◌%◌, ◌<◌, ◌≤◌, ◌==◌, true, false, List, [], ◌∷◌, length, slice_index_or, Option, Some, None, refl, sym, subst, arith}
use Rattle.std.specs.Prelude.{All}
use Rattle.std.proofs.lemmas.Bool.{both_ways, cond_both, eqb-true}
use Rattle.std.proofs.lemmas.Bool.Decides.{nat_tests}
use Rattle.std.proofs.lemmas.List.Elements.{All-head, All-tail}
use Rattle.std.proofs.lemmas.List.Folds.{list_any_at}
use Rattle.list_checks.specs.Tests.{ranges_overlap}
use Rattle.elf_reader.specs.File.{PlainView, view_in}
use Rattle.board_config.specs.declared.board.Board.{Board}
use Rattle.loaded_file.specs.Code.{is_code_word, image_word}
use Rattle.loaded_file.specs.Records.{reloc_at}
use Rattle.object_graph.specs.declared.parts.Site.{Site}
use Rattle.object_graph.specs.declared.parts.SiteKind.{SiteKind}
use Rattle.object_graph.specs.declared.parts.DataWord.{DataWord}
use Rattle.object_graph.specs.declared.parts.Graph.{Graph}
use Rattle.object_graph.proofs.CodeLemmas.{data_off_code}
use Rattle.object_graph.proofs.SiteLemmas.{site_code}
use Rattle.cell_values.specs.Objects.{object_of}
use Rattle.cell_values.specs.Stands.{Places, address_word}
use Rattle.object_machine.specs.Program.{Target, target_at}
use Rattle.result_laws.specs.Home.{is_code_byte}
use Rattle.result_laws.specs.HomeLaws.{IsAccepted}
use Rattle.cell_values.proofs.GraphObjects.{object_moves}
use Rattle.object_machine.proofs.SiteLemmas.{found_target}
use Rattle.result_laws.proofs.Sites.{SiteBy, by_high, by_wide, by_store, by_pair, by_low, itself, site_of}
use Rattle.result_laws.proofs.HomeStart.{word_given}
use Rattle.result_laws.proofs.Words.{code_even, off_or_in}
use Rattle.relocator.specs.SiteWords.{IsSiteWord}
use Rattle.result_laws.specs.Moved.{IsMovedSite, IsOffWord}

-- ---- sites are words of code

module _ (v : PlainView) (home n offset u : ℕ) where
  code_there : (j : ℕ) → (reloc_at v j).at ≡ u → is_code_word v (reloc_at v j).at ≡ true → is_code_word v u ≡ true
  code_there j at code = subst (λ (a : ℕ). is_code_word v a ≡ true) at code

  code_by : SiteBy v home n offset u → is_code_word v u ≡ true
  code_by (by_high j makes) = code_there j makes.at (site_code v home n j makes.means.below makes.site)
  code_by (by_wide j makes) = code_there j makes.at (site_code v home n j makes.means.below makes.site)
  code_by (by_store j makes) = code_there j makes.at (site_code v home n j makes.means.below makes.site)
  code_by (by_pair j high) = code_there j high.makes.at (site_code v home n j high.makes.means.below high.makes.site)
  code_by (by_low j i low) = code_there j low.at (site_code v home n j low.below low.site)

-- an address in an aligned word
pub in_word : (a u : ℕ) → u % 4 ≡ 0 → u ≤ a → a < u + 4 → a / 4 * 4 ≡ u
in_word a u even from to = omega (arith, even, from, to)

-- the word of a site, by its address
abbrev pub HasSiteWord : PlainView → PlainView → Places → ℕ → Target → Type 0
HasSiteWord v w place u t =
    (part : SiteKind) × IsSiteWord part (address_word place t.object t.offset) (image_word v u) (image_word w u)

some_same : (t t' : Target) → Some t ≡ Some t' → t ≡ t'
some_same t t' is = cc

-- it is found where it is the word of each site of the list at the address
pub listed_word : (place : Places) (sites : List Site) (u : ℕ) (t : Target) (old new : ℕ) → All (λ (s : Site). s.at ≡ u → IsSiteWord s.kind (address_word place s.object s.offset) old new) sites → target_at sites u ≡ Some t → (part : SiteKind) × IsSiteWord part (address_word place t.object t.offset) old new
listed_word place [] u t old new all found = absurd (cc)
listed_word place (s ∷ sites) u t old new all found =
    cond_both (s.at == u) (Some (record { object = s.object; offset = s.offset })) (target_at sites u)
    (λ (o : Option Target). o ≡ Some t → (part : SiteKind) × IsSiteWord part (address_word place t.object t.offset) old new)
    (λ here is.
    let same = some_same (record { object = s.object; offset = s.offset }) t is in
    subst (λ (x : Target). (part : SiteKind) × IsSiteWord part (address_word place x.object x.offset) old new) same
    (s.kind, All-head (λ (q : Site). q.at ≡ u → IsSiteWord q.kind (address_word place q.object q.offset) old new) s sites all (eqb-true s.at u here)))
    (λ other is. listed_word place sites u t old new (All-tail (λ (q : Site). q.at ≡ u → IsSiteWord q.kind (address_word place q.object q.offset) old new) s sites all) is)
    found

pub site_word : (v w : PlainView) (place : Places) (sites : List Site) (u : ℕ) (t : Target) → All (λ (s : Site). s.at ≡ u → IsMovedSite v w place s) sites → target_at sites u ≡ Some t → HasSiteWord v w place u t
site_word v w place sites u t all found =
    listed_word place sites u t (image_word v u) (image_word w u)
    (λ k d below same.
    let s : Site = slice_index_or sites k d in
    subst (λ (a : ℕ). IsSiteWord s.kind (address_word place s.object s.offset) (image_word v a) (image_word w a)) same (all k d below same)) found

module _ (file : List ℕ) (board : Board) (g : Graph) (accepted : IsAccepted file board g) where
  abbrev v : PlainView
  v = view_in file

  listed_target : (k : ℕ) (d : Site) → k < length g.sites.items → target_at g.sites.items (slice_index_or g.sites.items k d).at ≡ Some (record { object = (slice_index_or g.sites.items k d).object; offset = (slice_index_or g.sites.items k d).offset })
  listed_target k d below =
      let s : Site = slice_index_or g.sites.items k d in
      found_target g.sites.items s.at s accepted.graph.sites.disjoint (list_any_at _ g.sites.items k d below (itself s)) refl

  pub target_code : (u : ℕ) (t : Target) → target_at g.sites.items u ≡ Some t → is_code_word v u ≡ true
  target_code u t at =
      code_by v (object_of g t.object).home (object_of g t.object).size t.offset u (site_of v g u t accepted.graph.sites at).by

  -- ---- off sites

  -- an address that is none of code
  pub off_sites : (a : ℕ) → is_code_byte v a ≡ false → All (λ (s : Site). IsOffWord a s.at) g.sites.items
  off_sites a none k d below =
      let s : Site = slice_index_or g.sites.items k d in
      let code = target_code s.at (record { object = s.object; offset = s.offset }) (listed_target k d below) in
      off_or_in a s.at
      (λ from to.
      let here : is_code_byte v a ≡ true =
      subst (λ (b : ℕ). is_code_word v b ≡ true) (sym (in_word a s.at (code_even v s.at code) from to)) code in
      both_ways (is_code_byte v a) none here)

  -- one in a word of code that is no site
  pub off_others : (u a : ℕ) → is_code_word v u ≡ true → target_at g.sites.items u ≡ None → u ≤ a → a < u + 4 → All (λ (s : Site). IsOffWord a s.at) g.sites.items
  off_others u a code none above under k d below =
      let s : Site = slice_index_or g.sites.items k d in
      let target = listed_target k d below in
      let there = target_code s.at (record { object = s.object; offset = s.offset }) target in
      let even = code_even v u code in
      let even_there = code_even v s.at there in
      off_or_in a s.at
      (λ from to.
      let same : s.at ≡ u = omega (arith, even, even_there, above, under, from, to) in
      let at : target_at g.sites.items u ≡ Some (record { object = s.object; offset = s.offset }) =
      subst (λ (b : ℕ). target_at g.sites.items b ≡ Some (record { object = s.object; offset = s.offset })) same target in
      let wrong : None ≡ Some (record { object = s.object; offset = s.offset }) = sym none ∙ at in
      absurd (cc))

  -- ---- off words of data

  disjoint_off : (a u at : ℕ) → ranges_overlap at 4 u 4 ≡ false → u ≤ a → a < u + 4 → at ≤ a → a < at + 4 → ⊥
  disjoint_off a u at disjoint above under from to = both_ways (ranges_overlap at 4 u 4) disjoint (grind (arith, nat_tests, above, under, from, to))

  pub off_words : (u a : ℕ) → is_code_word v u ≡ true → u ≤ a → a < u + 4 → All (λ (d : DataWord). IsOffWord a d.at) g.data_words.items
  off_words u a code above under k e below =
      let d : DataWord = slice_index_or g.data_words.items k e in
      let given = word_given file board g accepted d k e below refl in
      let home : ℕ = (object_of g d.object).home in
      let n : ℕ = (object_of g d.object).size in
      let moves = object_moves v board g d.object accepted.graph.objects given.1.below in
      let disjoint = data_off_code file board home n given.0 u accepted.none moves given.1.means code in
      let here : ranges_overlap d.at 4 u 4 ≡ false = subst (λ (x : ℕ). ranges_overlap x 4 u 4 ≡ false) given.1.at disjoint in
      off_or_in a d.at (λ from to. disjoint_off a u d.at here above under from to)

-- The site at an address, and the objects of sites and words.
use Rattle.std.proofs.Common.{◌≡◌, inl, inr, ℕ, suc, ◌+◌, ◌<◌, ◌≤◌, ◌==◌, nat_lt, Bool, true, false, ◌&&◌, List, [], ◌∷◌, length, slice_index_or, Option, Some, None, MatchOption, refl, sym, ◌∙◌, arith}
use Rattle.std.specs.List.{AllPairs, list_any}
use Rattle.std.proofs.lemmas.Bool.{eqb-true, eq-eqb, cases_eq}
use Rattle.std.proofs.lemmas.Bool.Decides.{nat_tests}
use Rattle.std.proofs.lemmas.List.Folds.{list_any_at}
use Rattle.list_checks.proofs.TestLemmas.{either, both, neither}
use Rattle.list_checks.specs.Tests.{any_below}
use Rattle.list_checks.proofs.StepLemmas.{any_place}
use Rattle.object_graph.specs.declared.parts.Site.{Site}
use Rattle.object_graph.specs.declared.parts.SiteKind.{SiteKind}
use Rattle.object_graph.specs.declared.parts.SiteKind.TheVariants.{Hi, LowI, LowS}
use Rattle.object_graph.specs.declared.parts.DataWord.{DataWord}
use Rattle.object_graph.specs.declared.parts.Graph.{Graph}
use Rattle.object_graph.specs.Graphs.{same_part, same_site, same_word, is_word_of_list, gives_word}
use Rattle.object_graph.specs.Lookups.{IsSomeGraph, stands_at}
use Rattle.dataflow.specs.Points.{site_at}

-- none stands there
no_site : (sites : List Site) (a : ℕ) → list_any (stands_at a) sites ≡ false → site_at sites a ≡ None
no_site [] a none = refl
no_site (s ∷ sites) a none =
    let parts = neither (s.at == a) (list_any (stands_at a) sites) none in
    rw parts.0 (no_site sites a parts.1)

same_kind : (one other : SiteKind) → same_part one other ≡ true → one ≡ other
same_kind Hi Hi same = refl
same_kind LowI LowI same = refl
same_kind LowS LowS same = refl
same_kind one other same = cc

record Alike (s t : Site) : Type 0 where
  at : s.at ≡ t.at
  kind : s.kind ≡ t.kind
  object : s.object ≡ t.object
  offset : s.offset ≡ t.offset

alike : (s t : Site) → same_site s t ≡ true → Alike s t
alike s t same =
    let whole = both ((s.at == t.at) && same_part s.kind t.kind && (s.object == t.object)) (s.offset == t.offset) same in
    let front = both ((s.at == t.at) && same_part s.kind t.kind) (s.object == t.object) whole.0 in
    let first = both (s.at == t.at) (same_part s.kind t.kind) front.0 in
    record {
      at = eqb-true s.at t.at first.0;
      kind = same_kind s.kind t.kind first.1;
      object = eqb-true s.object t.object front.1;
      offset = eqb-true s.offset t.offset whole.1;
    }

some_site : (s t : Site) → Alike s t → Some t ≡ Some s
some_site s t are = λ z. Some (record { at = sym are.at z; kind = sym are.kind z; object = sym are.object z; offset = sym are.offset z })

-- later sites stand elsewhere
later : (s t : Site) (sites : List Site) → AllPairs (λ x y. x.at + 4 ≤ y.at) (s ∷ sites) → list_any (same_site t) sites ≡ true → t.at ≡ s.at → ⊥
later s t sites disjoint found same =
    let (k, at) = any_place (same_site t) sites s found in
    let below = at.0 in
    let there = (alike t (slice_index_or sites k s) at.1).at in
    let far = disjoint 0 (suc k) s (omega arith) (omega (arith, below)) in
    omega (arith, there, far, same)

rest_disjoint : (s : Site) (sites : List Site) → AllPairs (λ x y. x.at + 4 ≤ y.at) (s ∷ sites) → AllPairs (λ x y. x.at + 4 ≤ y.at) sites
rest_disjoint s sites disjoint i j d lower below = disjoint (suc i) (suc j) d (omega (arith, lower)) (omega (arith, below))

one_site : (sites : List Site) (a : ℕ) (s : Site) → AllPairs (λ x y. x.at + 4 ≤ y.at) sites → list_any (same_site s) sites ≡ true → s.at ≡ a → site_at sites a ≡ Some s
one_site [] a s disjoint found at = cc
one_site (t ∷ sites) a s disjoint found at =
    elim (cases_eq t.at a) [
      | inl here ↦
          let is : (t.at == a) ≡ true = grind (arith, nat_tests, here) in
          rw is (elim (either (same_site s t) (list_any (same_site s) sites) found) [
            | inl same ↦ some_site s t (alike s t same)
            | inr rest ↦ absurd (later t s sites disjoint rest (omega (arith, here, at)))
          ])
      | inr other ↦
          let is : (t.at == a) ≡ false = grind (arith, nat_tests, other) in
          rw is (elim (either (same_site s t) (list_any (same_site s) sites) found) [
            | inl same ↦ let there = (alike s t same).at in absurd (other (omega (arith, there, at)))
            | inr rest ↦ one_site sites a s (rest_disjoint t sites disjoint) rest at
          ])
    ]

-- what a graph finds
pub site_found : (g : Graph) (a : ℕ) (o : Option Site) → IsSomeGraph g → MatchOption o (list_any (stands_at a) g.sites.items ≡ false) (λ s. (list_any (same_site s) g.sites.items ≡ true) × (s.at ≡ a)) → site_at g.sites.items a ≡ o
site_found g a None some found = no_site g.sites.items a found
site_found g a (Some s) some found = one_site g.sites.items a s some.2.sites.disjoint found.0 found.1

-- ---- words of data

pub true_and : (a b : Bool) → a ≡ true → b ≡ true → a && b ≡ true
true_and true b is also = also
true_and false b is also = cc

same_itself : (d : DataWord) → same_word d d ≡ true
same_itself d =
    true_and ((d.at == d.at) && (d.object == d.object)) (d.offset == d.offset)
    (true_and (d.at == d.at) (d.object == d.object) (eq-eqb d.at d.at refl) (eq-eqb d.object d.object refl))
    (eq-eqb d.offset d.offset refl)

pub word_inside : (g : Graph) (i : ℕ) (d : DataWord) → IsSomeGraph g → i < length g.data_words.items → (slice_index_or g.data_words.items i d).object < length g.objects.items
word_inside g i d some inside =
    let (v, board, is) = some in
    let w = slice_index_or g.data_words.items i d in
    let here : list_any (same_word w) g.data_words.items ≡ true = list_any_at (same_word w) g.data_words.items i d inside (same_itself w) in
    let test : is_word_of_list v g.objects.items w ≡ true = sym (is.data_words.exact w) ∙ here in
    let below = (both (nat_lt w.object (length g.objects.items)) (any_below (gives_word v g.objects.items w) (length v.relocs)) test).0 in
    grind (arith, nat_tests, below)

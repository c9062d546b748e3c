-- The site at an address.
use Rattle.std.proofs.Common.{◌≡◌, inl, inr, ℕ, suc, ◌+◌, ◌≤◌, ◌==◌, nat_lt, true, false, ◌&&◌, List, [], ◌∷◌, length, slice_index_or, Option, Some, None, MatchOption, refl, sym, ◌∙◌, arith}
use Rattle.std.specs.List.{AllPairs, list_any}
use Rattle.std.proofs.lemmas.Bool.{eqb-true, cases_eq}
use Rattle.std.proofs.lemmas.Bool.Decides.{nat_tests}
use Rattle.list_checks.proofs.TestLemmas.{either, both, neither}
use Rattle.list_checks.specs.Tests.{any_below}
use Rattle.list_checks.proofs.StepLemmas.{any_place}
use Rattle.object_graph.specs.declared.parts.Site.{Site}
use Rattle.object_graph.specs.declared.parts.Graph.{Graph}
use Rattle.object_graph.specs.Graphs.{same_part, same_site, is_site_of_list, gives_site}
use Rattle.object_graph.specs.Lookups.{IsSomeGraph, stands_at}
use Rattle.object_machine.specs.Program.{target_at}
use Rattle.object_machine.specs.Units.{target_of, FitsSite}

-- none stands there
pub no_target : (sites : List Site) (a : ℕ) → list_any (stands_at a) sites ≡ false → target_at sites a ≡ None
no_target [] a none = refl
no_target (s ∷ sites) a none =
    let parts = neither (s.at == a) (list_any (stands_at a) sites) none in
    rw parts.0 (no_target sites a parts.1)

-- one that is the same has the same object and offset
same_target : (s t : Site) → same_site s t ≡ true → (s.object ≡ t.object) × ((s.offset ≡ t.offset) × (s.at ≡ t.at))
same_target s t same =
    let whole = both ((s.at == t.at) && same_part s.kind t.kind && (s.object == t.object)) (s.offset == t.offset) same in
    let front = both ((s.at == t.at) && same_part s.kind t.kind) (s.object == t.object) whole.0 in
    let first = both (s.at == t.at) (same_part s.kind t.kind) front.0 in
    (eqb-true s.object t.object front.1, (eqb-true s.offset t.offset whole.1, eqb-true s.at t.at first.0))

some_target : (s t : Site) → same_site s t ≡ true → target_of (Some t) ≡ target_of (Some s)
some_target s t same =
    let parts = same_target s t same in
    λ z. Some (record { object = sym parts.0 z; offset = sym parts.1.0 z })

-- later sites stand elsewhere
later : (s t : Site) (sites : List Site) → AllPairs (λ x y. x.at + 4 ≤ y.at) (s ∷ sites) → list_any (same_site t) sites ≡ true → t.at ≡ s.at → ⊥
later s t sites disjoint found same =
    let (k, at) = any_place (same_site t) sites s found in
    let below = at.0 in
    let there = (same_target t (slice_index_or sites k s) at.1).1.1 in
    let far = disjoint 0 (suc k) s (omega arith) (omega (arith, below)) in
    omega (arith, there, far, same)

rest_disjoint : (s : Site) (sites : List Site) → AllPairs (λ x y. x.at + 4 ≤ y.at) (s ∷ sites) → AllPairs (λ x y. x.at + 4 ≤ y.at) sites
rest_disjoint s sites disjoint i j d lower below = disjoint (suc i) (suc j) d (omega (arith, lower)) (omega (arith, below))

pub found_target : (sites : List Site) (a : ℕ) (s : Site) → AllPairs (λ x y. x.at + 4 ≤ y.at) sites → list_any (same_site s) sites ≡ true → s.at ≡ a → target_at sites a ≡ target_of (Some s)
found_target [] a s disjoint found at = cc
found_target (t ∷ sites) a s disjoint found at =
    elim (cases_eq t.at a) [
      | inl here ↦
          let is : (t.at == a) ≡ true = grind (arith, nat_tests, here) in
          rw is (elim (either (same_site s t) (list_any (same_site s) sites) found) [
            | inl same ↦ some_target s t same
            | inr rest ↦ absurd (later t s sites disjoint rest (omega (arith, here, at)))
          ])
      | inr other ↦
          let is : (t.at == a) ≡ false = grind (arith, nat_tests, other) in
          rw is (elim (either (same_site s t) (list_any (same_site s) sites) found) [
            | inl same ↦ let there = (same_target s t same).1.1 in absurd (other (omega (arith, there, at)))
            | inr rest ↦ found_target sites a s (rest_disjoint t sites disjoint) rest at
          ])
    ]

-- what a graph finds
pub site_found : (g : Graph) (a : ℕ) (o : Option Site) → IsSomeGraph g → MatchOption o (list_any (stands_at a) g.sites.items ≡ false) (λ s. (list_any (same_site s) g.sites.items ≡ true) × (s.at ≡ a)) → target_at g.sites.items a ≡ target_of o
site_found g a None some found = no_target g.sites.items a found
site_found g a (Some s) some found = found_target g.sites.items a s some.2.sites.disjoint found.0 found.1

pub site_named : (g : Graph) (a : ℕ) (o : Option Site) → IsSomeGraph g → MatchOption o (list_any (stands_at a) g.sites.items ≡ false) (λ s. (list_any (same_site s) g.sites.items ≡ true) × (s.at ≡ a)) → FitsSite (length g.objects.items) o
site_named g a None some found = tt
site_named g a (Some s) some found =
    let (v, board, is) = some in
    let test : is_site_of_list v g.objects.items s ≡ true = sym (is.sites.exact s) ∙ found.0 in
    let below = (both (nat_lt s.object (length g.objects.items)) (any_below (gives_site v g.objects.items s) (length v.relocs)) test).0 in
    grind (arith, nat_tests, below)

-- The objects that have sites, all of them in blocks with regions.
use Rattle.std.proofs.Common.{◌≡◌, ◌∙◌, ◌⊎◌, inl, inr, ℕ, ◌+◌, ◌<◌, nat_lt, Bool, true, false, not, ◌&&◌, ◌||◌, List, [], ◌∷◌, length, slice_index_or, refl, sym, ap, subst, arith}
use Rattle.std.specs.Prelude.{◌↔◌}
use Rattle.std.specs.List.{list_any}
use Rattle.std.proofs.lemmas.Bool.{cases_eq, eq-eqb}
use Rattle.std.proofs.lemmas.Bool.Decides.{nat_tests}
use Rattle.std.proofs.lemmas.List.{get_or-map}
use Rattle.std.proofs.lemmas.List.Folds.{list_any_at}
use Rattle.list_checks.specs.Sorted.{is_number}
use Rattle.list_checks.proofs.StepLemmas.{any_place}
use Rattle.list_checks.proofs.TestLemmas.{both, either, not_true}
use Rattle.object_graph.specs.declared.parts.Site.{Site}
use Rattle.object_graph.specs.declared.parts.Graph.{Graph}
use Rattle.code_blocks.specs.Leads.{units_in, units_at, no_unit}
use Rattle.code_blocks.specs.declared.parts.Block.{Block}
use Rattle.code_blocks.specs.declared.parts.Code.{Code}
use Rattle.dataflow.specs.Points.{unit_of}
use Rattle.dataflow.proofs.FactLemmas.{unit_in_block}
use Rattle.dataflow.specs.Overlaid.{region_in, site_means, IsInRegion}
use Rattle.dataflow.specs.Exposed.{mark_at}
use Rattle.placement_candidates.specs.Found.{stands_at, HasAddress, StandsInRegion, strays, IsSited, AreSited}

two : (b : Bool) → (b ≡ true) ⊎ (b ≡ false)
two true = inl refl
two false = inr refl

never_both : (b : Bool) → b ≡ true → b ≡ false → ⊥
never_both b on off = absurd cc

-- ---- addresses of units

pub none_stands : (c : Code) (regions addresses : List ℕ) (a : ℕ) → addresses ≡ [] → HasAddress addresses a ↔ StandsInRegion c regions 0 a
none_stands c regions addresses a empty = (
  λ has. absurd (never_both false (sym (ap (list_any (is_number a)) empty) ∙ has) refl),
  λ stands. let below = stands.below in absurd (omega (arith, below)),
)

pub stands_more : (c : Code) (regions : List ℕ) (b a region : ℕ) (block : Block) (old new : List ℕ) → b < length c.blocks.items → block ≡ slice_index_or c.blocks.items b block → region ≡ region_in regions b
    → HasAddress old a ↔ StandsInRegion c regions b a → list_any (is_number a) new ≡ (list_any (is_number a) old || (nat_lt 0 region && list_any (stands_at a) (units_in block)))
    → HasAddress new a ↔ StandsInRegion c regions (b + 1) a
stands_more c regions b a region block old new inside is of_region before step =
    let units : units_at c b ≡ units_in block = get_or-map units_in c.blocks.items b block [] inside ∙ ap units_in (sym is) in (
      λ has. elim (either (list_any (is_number a) old) (nat_lt 0 region && list_any (stands_at a) (units_in block)) (sym step ∙ has)) [
        | inl earlier ↦
            let s = before.0 earlier in
            let below = s.below in
            record { block = s.block; below = omega (arith, below); stands = s.stands; region = s.region }
        | inr here ↦
            let parts = both (nat_lt 0 region) (list_any (stands_at a) (units_in block)) here in
            let some = parts.0 in
            let positive : 0 < region = grind (arith, nat_tests, some) in
            record {
              block = b;
              below = omega arith;
              stands = ap (list_any (stands_at a)) units ∙ parts.1;
              region = omega (arith, positive, of_region);
            }
      ],
      λ s. step ∙ elim (cases_eq s.block b) [
        | inl same ↦
            let there : list_any (stands_at a) (units_in block) ≡ true = ap (list_any (stands_at a)) (sym units) ∙ ap (λ (n : ℕ). list_any (stands_at a) (units_at c n)) (sym same) ∙ s.stands in
            let own : 0 < region_in regions b = subst (λ (n : ℕ). 0 < region_in regions n) same s.region in
            let positive : nat_lt 0 region ≡ true = grind (arith, nat_tests, own, of_region) in
            rw (positive, there) (last (list_any (is_number a) old))
        | inr other ↦
            let below = s.below in
            let earlier : list_any (is_number a) old ≡ true = before.1 (record { block = s.block; below = omega (arith, below, other); stands = s.stands; region = s.region }) in
            rw earlier refl
      ],
    )
  where
    last : (b : Bool) → (b || true) ≡ true
    last true = refl
    last false = refl

-- ---- sites in blocks with regions

stands_there : (c : Code) (regions : List ℕ) (n : ℕ) (s : Site) → StandsInRegion c regions n s.at → IsInRegion c regions s
stands_there c regions n s stands =
    let (k, place) = any_place (stands_at s.at) (units_at c stands.block) no_unit stands.stands in
    let is = place.1 in
    record {
      block = stands.block;
      unit = k;
      is_unit = place.0;
      there = grind (arith, nat_tests, is);
      region = stands.region;
    }

there_stands : (c : Code) (regions : List ℕ) (s : Site) → IsInRegion c regions s → StandsInRegion c regions (length c.blocks.items) s.at
there_stands c regions s is = record {
  block = is.block;
  below = unit_in_block c is.block is.unit is.is_unit;
  stands = list_any_at (stands_at s.at) (units_at c is.block) is.unit no_unit is.is_unit (eq-eqb s.at (unit_of c is.block is.unit).at (sym is.there));
  region = is.region;
}

module _ (c : Code) (g : Graph) (regions addresses : List ℕ) (exact : (a : ℕ) → HasAddress addresses a ↔ StandsInRegion c regions (length c.blocks.items) a) where
  sited : (o : ℕ) → list_any (site_means o) g.sites.items ≡ true → list_any (strays addresses o) g.sites.items ≡ false → IsSited c g regions o
  sited o has none = record {
    has_site = has;
    in_regions = λ k d below means.
        let s = slice_index_or g.sites.items k d in
        elim (two (list_any (is_number s.at) addresses)) [
          | inl on ↦ stands_there c regions (length c.blocks.items) s ((exact s.at).0 on)
          | inr off ↦ absurd (never_both (list_any (strays addresses o) g.sites.items) (list_any_at (strays addresses o) g.sites.items k d below (rw (means, off) refl)) none)
        ];
  }

  no_strays : (o : ℕ) → IsSited c g regions o → list_any (strays addresses o) g.sites.items ≡ false
  no_strays o is =
      elim (two (list_any (strays addresses o) g.sites.items)) [
        | inl on ↦
            let d = some_site g.sites.items (strays addresses o) on in
            let (k, place) = any_place (strays addresses o) g.sites.items d on in
            let s = slice_index_or g.sites.items k d in
            let parts = both (site_means o s) (not (list_any (is_number s.at) addresses)) place.1 in
            let stands = (exact s.at).1 (there_stands c regions s (is.in_regions k d place.0 parts.0)) in
            absurd (never_both (not (list_any (is_number s.at) addresses)) parts.1 (ap not stands))
        | inr off ↦ off
      ]
    where
      some_site : (sites : List Site) (test : Site → Bool) → list_any test sites ≡ true → Site
      some_site [] test on = absurd (never_both false on refl)
      some_site (s ∷ sites) test on = s

  pub are_sited : (marks : List Bool) → length marks ≡ length g.objects.items
      → ((o : ℕ) → o < length g.objects.items → mark_at marks o ≡ (list_any (site_means o) g.sites.items && not (list_any (strays addresses o) g.sites.items))) → AreSited c g regions marks
  are_sited marks size told = record {
    size = size;
    each = λ o below. (
      λ mark.
          let parts = both (list_any (site_means o) g.sites.items) (not (list_any (strays addresses o) g.sites.items)) (sym (told o below) ∙ mark) in
          sited o parts.0 (not_true (list_any (strays addresses o) g.sites.items) parts.1),
      λ is. told o below ∙ rw (is.has_site, no_strays o is) refl,
    );
  }

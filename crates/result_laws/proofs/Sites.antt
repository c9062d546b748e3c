-- The sites of a graph: which relocation gives each.
use Rattle.std.proofs.Common.{◌≡◌, ◌∙◌, inl, inr, ℕ, ◌<◌, ◌==◌, nat_lt, nat_le, true, ◌&&◌, ◌||◌, List, [], ◌∷◌, length, Some, refl, sym, ap, subst, arith}
use Rattle.std.specs.List.{list_any}
use Rattle.std.proofs.lemmas.Bool.{cond_both, eqb-true, ltb-true}
use Rattle.std.proofs.lemmas.Bool.Decides.{nat_tests}
use Rattle.list_checks.specs.Tests.{any_below}
use Rattle.list_checks.proofs.TestLemmas.{either, both, any_found, any_at}
use Rattle.elf_reader.specs.File.{PlainView}
use Rattle.loaded_file.specs.Records.{reloc_at, counts}
use Rattle.object_graph.specs.Rewritable.{is_meant, displacement, is_rewritable_high, is_rewritable_low, is_rewritable_pair, names_high}
use Rattle.object_graph.specs.Fixed.{leads_to, gives_pair, is_site_of}
use Rattle.object_graph.specs.Graphs.{makes_part, gives_directly, gives_low_of, gives_offset, object_at, no_object, gives_site, is_site_of_list, same_part, same_site, IsSites}
use Rattle.object_graph.specs.Laws.{MeansBy}
use Rattle.object_graph.specs.declared.parts.Object.{Object}
use Rattle.object_graph.specs.declared.parts.SiteKind.{SiteKind}
use Rattle.object_graph.specs.declared.parts.SiteKind.TheVariants.{Hi, LowI, LowS}
use Rattle.object_graph.specs.declared.parts.Site.{Site}
use Rattle.object_graph.specs.declared.parts.Graph.{Graph}
use Rattle.object_graph.proofs.RewritableLemmas.{high_parts, low_parts, pair_parts}
use Rattle.code_blocks.proofs.LeaderLemmas.{left_passes, right_passes, both_pass}
use Rattle.cell_values.specs.Objects.{absent_object, object_of}
use Rattle.object_machine.specs.Program.{Target, target_at}
use Rattle.object_machine.proofs.SiteLemmas.{found_target}
use Rattle.result_laws.proofs.HomeNumbers.{same_number}
use Rattle.result_laws.proofs.Lists.{same_element}

-- ---- sites in their list

-- a site of the list, at an address and of a target
pub record SiteIn (sites : List Site) (u : ℕ) (t : Target) : Type 0 where
  pub site : Site
  pub there : list_any (same_site site) sites ≡ true
  pub at : site.at ≡ u
  pub object : site.object ≡ t.object
  pub offset : site.offset ≡ t.offset

same_kind : (k : SiteKind) → same_part k k ≡ true
same_kind Hi = refl
same_kind LowI = refl
same_kind LowS = refl

pub itself : (s : Site) → same_site s s ≡ true
itself s =
    both_pass ((s.at == s.at) && same_part s.kind s.kind && (s.object == s.object)) (s.offset == s.offset)
    (both_pass ((s.at == s.at) && same_part s.kind s.kind) (s.object == s.object)
    (both_pass (s.at == s.at) (same_part s.kind s.kind) (same_number s.at) (same_kind s.kind)) (same_number s.object))
    (same_number s.offset)

some_same : (t t' : Target) → Some t ≡ Some t' → t ≡ t'
some_same t t' is = cc

pub site_found : (sites : List Site) (u : ℕ) (t : Target) → target_at sites u ≡ Some t → SiteIn sites u t
site_found [] u t found = absurd (cc)
site_found (s ∷ sites) u t found =
    cond_both (s.at == u) (Some (record { object = s.object; offset = s.offset })) (target_at sites u)
    (λ o. o ≡ Some t → SiteIn (s ∷ sites) u t)
    (λ here is.
    let same : record { object = s.object; offset = s.offset } ≡ t = some_same (record { object = s.object; offset = s.offset }) t is in
    record {
      site = s;
      there = left_passes (same_site s s) (list_any (same_site s) sites) (itself s);
      at = eqb-true s.at u here;
      object = ap (λ (x : Target). x.object) same;
      offset = ap (λ (x : Target). x.offset) same;
    })
    (λ other is.
    let later = site_found sites u t is in
    record {
      site = later.site;
      there = right_passes (same_site later.site s) (list_any (same_site later.site) sites) later.there;
      at = later.at;
      object = later.object;
      offset = later.offset;
    })
    found

-- ---- relocations

-- relocation `j` of this kind makes by itself a part of the address `offset` bytes behind `home`
pub record Makes (v : PlainView) (kind home n offset u j : ℕ) : Type 0 where
  pub means : MeansBy v kind home n j
  pub at : (reloc_at v j).at ≡ u
  pub behind : displacement v home (reloc_at v j) ≡ offset
  pub leads : leads_to v home n j ≡ true
  pub site : is_site_of v home n j ≡ true

-- that of an AUIPC whose low parts fit it
pub record MakesHigh (v : PlainView) (home n offset u i : ℕ) : Type 0 where
  pub makes : Makes v 23 home n offset u i
  pub pair : is_rewritable_pair v (reloc_at v i) ≡ true

-- relocation `j` makes the low part of the AUIPC of relocation `i`
pub record MakesLow (v : PlainView) (home n offset u j i : ℕ) : Type 0 where
  pub below : j < length v.relocs
  pub counted : counts v (reloc_at v j) ≡ true
  pub at : (reloc_at v j).at ≡ u
  pub names : names_high v (reloc_at v i) (reloc_at v j) ≡ true
  pub high : MakesHigh v home n offset (reloc_at v i).at i
  pub site : is_site_of v home n j ≡ true

pub data SiteBy (v : PlainView) (home n offset u : ℕ) : Type 0 where
  by_high : (j : ℕ) → Makes v 26 home n offset u j → SiteBy v home n offset u
  by_wide : (j : ℕ) → Makes v 27 home n offset u j → SiteBy v home n offset u
  by_store : (j : ℕ) → Makes v 28 home n offset u j → SiteBy v home n offset u
  by_pair : (j : ℕ) → MakesHigh v home n offset u j → SiteBy v home n offset u
  by_low : (j i : ℕ) → MakesLow v home n offset u j i → SiteBy v home n offset u

pub leads_means : (v : PlainView) (kind home n j : ℕ) → j < length v.relocs → (reloc_at v j).kind ≡ kind → leads_to v home n j ≡ true → MeansBy v kind home n j
leads_means v kind home n j below is leads =
    let r = reloc_at v j in
    let two = both (counts v r && is_meant v home n r) (nat_le (displacement v home r) n) leads in
    let one = both (counts v r) (is_meant v home n r) two.0 in
    record { below = below; is_kind = is; counted = one.0; meant = one.1 }

-- a relocation of a rewritable kind gives a site by itself
direct_site : (v : PlainView) (home n j : ℕ) → leads_to v home n j ≡ true → is_rewritable_high v (reloc_at v j) || is_rewritable_low v (reloc_at v j) || is_rewritable_pair v (reloc_at v j) ≡ true → is_site_of v home n j ≡ true
direct_site v home n j leads sound =
    left_passes (leads_to v home n j && (is_rewritable_high v (reloc_at v j) || is_rewritable_low v (reloc_at v j) || is_rewritable_pair v (reloc_at v j)))
    (counts v (reloc_at v j) && any_below (gives_pair v home n j) (length v.relocs))
    (both_pass (leads_to v home n j) _ leads sound)

directly : (v : PlainView) (home n offset u j : ℕ) → j < length v.relocs → (reloc_at v j).at ≡ u → gives_directly v home n offset j ≡ true → SiteBy v home n offset u
directly v home n offset u j below at gives =
    let r = reloc_at v j in
    let high = is_rewritable_high v r in
    let low = is_rewritable_low v r in
    let pair = is_rewritable_pair v r in
    let two = both (leads_to v home n j && (high || low || pair)) (displacement v home r == offset) gives in
    let one = both (leads_to v home n j) (high || low || pair) two.0 in
    let site = direct_site v home n j one.0 one.1 in
    let far = eqb-true (displacement v home r) offset two.1 in
    let makes : (kind : ℕ) → r.kind ≡ kind → Makes v kind home n offset u j =
    λ kind is. record { means = leads_means v kind home n j below is one.0; at = at; behind = far; leads = one.0; site = site } in
    elim (either (high || low) pair one.1) [
      | inr third ↦ by_pair j (record { makes = makes 23 (pair_parts v r third).kind; pair = third })
      | inl front ↦ elim (either high low front) [
        | inl first ↦ by_high j (makes 26 (high_parts v r first).kind)
        | inr second ↦ elim (low_parts v r second).low [
          | inl wide ↦ by_wide j (makes 27 wide.0)
          | inr half ↦ by_store j (makes 28 half.0)
        ]
      ]
    ]

-- the low part of an AUIPC gives a site
pub low_gives : (v : PlainView) (home n j i : ℕ) → i < length v.relocs → counts v (reloc_at v j) ≡ true → leads_to v home n i ≡ true → is_rewritable_pair v (reloc_at v i) ≡ true → names_high v (reloc_at v i) (reloc_at v j) ≡ true → is_site_of v home n j ≡ true
low_gives v home n j i below counted leads pair names =
    right_passes (leads_to v home n j && (is_rewritable_high v (reloc_at v j) || is_rewritable_low v (reloc_at v j) || is_rewritable_pair v (reloc_at v j)))
    (counts v (reloc_at v j) && any_below (gives_pair v home n j) (length v.relocs))
    (both_pass (counts v (reloc_at v j)) (any_below (gives_pair v home n j) (length v.relocs)) counted
    (any_at (gives_pair v home n j) (length v.relocs) i below
    (both_pass (leads_to v home n i && is_rewritable_pair v (reloc_at v i)) (names_high v (reloc_at v i) (reloc_at v j))
    (both_pass (leads_to v home n i) (is_rewritable_pair v (reloc_at v i)) leads pair) names)))

by_its_high : (v : PlainView) (home n offset u j : ℕ) → j < length v.relocs → (reloc_at v j).at ≡ u → counts v (reloc_at v j) ≡ true → any_below (gives_low_of v home n offset j) (length v.relocs) ≡ true → SiteBy v home n offset u
by_its_high v home n offset u j below at counted given =
    let found = any_found (gives_low_of v home n offset j) (length v.relocs) given in
    let i = found.0 in
    let r = reloc_at v i in
    let names = names_high v r (reloc_at v j) in
    let three = both (leads_to v home n i && is_rewritable_pair v r && names) (displacement v home r == offset) found.2 in
    let two = both (leads_to v home n i && is_rewritable_pair v r) names three.0 in
    let one = both (leads_to v home n i) (is_rewritable_pair v r) two.0 in
    by_low j i
    (record {
      below = below;
      counted = counted;
      at = at;
      names = two.1;
      high = record {
        makes = record {
          means = leads_means v 23 home n i found.1 (pair_parts v r one.1).kind one.0;
          at = refl;
          behind = eqb-true (displacement v home r) offset three.1;
          leads = one.0;
          site = direct_site v home n i one.0 (right_passes (is_rewritable_high v r || is_rewritable_low v r) (is_rewritable_pair v r) one.1);
        };
        pair = one.1;
      };
      site = low_gives v home n j i found.1 counted one.0 one.1 two.1;
    })

offset_by : (v : PlainView) (home n offset u j : ℕ) → j < length v.relocs → (reloc_at v j).at ≡ u → gives_offset v home n offset j ≡ true → SiteBy v home n offset u
offset_by v home n offset u j below at gives =
    let r = reloc_at v j in
    let low = any_below (gives_low_of v home n offset j) (length v.relocs) in
    elim (either (gives_directly v home n offset j) (counts v r && low) gives) [
      | inl direct ↦ directly v home n offset u j below at direct
      | inr named ↦ let parts = both (counts v r) low named in by_its_high v home n offset u j below at parts.0 parts.1
    ]

-- ---- the sites of a graph

-- a site of a graph is of one of its objects, and a relocation gives it
pub record IsSiteOf (v : PlainView) (g : Graph) (u : ℕ) (t : Target) : Type 0 where
  pub below : t.object < length g.objects.items
  pub by : SiteBy v (object_of g t.object).home (object_of g t.object).size t.offset u

pub object_same : (g : Graph) (o : ℕ) → o < length g.objects.items → object_at g.objects.items o ≡ object_of g o
object_same g o below = same_element g.objects.items o no_object absent_object below

pub site_of : (v : PlainView) (g : Graph) (u : ℕ) (t : Target) → IsSites v g.objects.items g.sites.items → target_at g.sites.items u ≡ Some t → IsSiteOf v g u t
site_of v g u t is found =
    let there = site_found g.sites.items u t found in
    let s : Site = there.site in
    let given = sym (is.exact s) ∙ there.there in
    let parts = both (nat_lt s.object (length g.objects.items)) _ given in
    let below = ltb-true s.object (length g.objects.items) parts.0 in
    let by = any_found (gives_site v g.objects.items s) (length v.relocs) parts.1 in
    let r = reloc_at v by.0 in
    let two = both ((r.at == s.at) && makes_part s.kind r.kind) _ by.2 in
    let one = both (r.at == s.at) (makes_part s.kind r.kind) two.0 in
    let at : r.at ≡ u = eqb-true r.at s.at one.0 ∙ there.at in
    let whole : SiteBy v (object_at g.objects.items s.object).home (object_at g.objects.items s.object).size s.offset u =
    offset_by v (object_at g.objects.items s.object).home (object_at g.objects.items s.object).size s.offset u by.0 by.1 at two.1 in
    let as_of : SiteBy v (object_of g s.object).home (object_of g s.object).size s.offset u =
    subst (λ (x : Object). SiteBy v x.home x.size s.offset u) (object_same g s.object below) whole in
    let by_object : SiteBy v (object_of g t.object).home (object_of g t.object).size s.offset u =
    subst (λ (o : ℕ). SiteBy v (object_of g o).home (object_of g o).size s.offset u) there.object as_of in
    record {
      below = subst (λ (o : ℕ). o < length g.objects.items) there.object below;
      by = subst (λ (d : ℕ). SiteBy v (object_of g t.object).home (object_of g t.object).size d u) there.offset by_object;
    }

-- the AUIPC of a relocation is a site
pub high_target : (v : PlainView) (g : Graph) (t : Target) (i : ℕ) → IsSites v g.objects.items g.sites.items → t.object < length g.objects.items → MakesHigh v (object_of g t.object).home (object_of g t.object).size t.offset (reloc_at v i).at i → target_at g.sites.items (reloc_at v i).at ≡ Some t
high_target v g t i is below high =
    let r = reloc_at v i in
    let s : Site = record { at = r.at; kind = Hi; object = t.object; offset = t.offset } in
    let kind : makes_part Hi r.kind ≡ true = let is_kind = high.makes.means.is_kind in grind (arith, nat_tests, is_kind) in
    let same = object_same g t.object below in
    let far : (displacement v (object_of g t.object).home r == t.offset) ≡ true = let is_far = high.makes.behind in grind (arith, nat_tests, is_far) in
    let direct : gives_directly v (object_of g t.object).home (object_of g t.object).size t.offset i ≡ true =
    both_pass (leads_to v (object_of g t.object).home (object_of g t.object).size i && (is_rewritable_high v r || is_rewritable_low v r || is_rewritable_pair v r)) _
    (both_pass (leads_to v (object_of g t.object).home (object_of g t.object).size i) _ high.makes.leads (right_passes (is_rewritable_high v r || is_rewritable_low v r) (is_rewritable_pair v r) high.pair)) far in
    let gives : gives_offset v (object_of g t.object).home (object_of g t.object).size t.offset i ≡ true = left_passes _ _ direct in
    let as_at : gives_offset v (object_at g.objects.items t.object).home (object_at g.objects.items t.object).size t.offset i ≡ true =
    subst (λ (x : Object). gives_offset v x.home x.size t.offset i ≡ true) (sym same) gives in
    let passes : gives_site v g.objects.items s i ≡ true =
    both_pass ((r.at == r.at) && makes_part Hi r.kind) _ (both_pass (r.at == r.at) (makes_part Hi r.kind) (same_number r.at) kind) as_at in
    let listed : is_site_of_list v g.objects.items s ≡ true =
    both_pass (nat_lt t.object (length g.objects.items)) _ (grind (arith, nat_tests, below)) (any_at (gives_site v g.objects.items s) (length v.relocs) i high.makes.means.below passes) in
    found_target g.sites.items s.at s is.disjoint (is.exact s ∙ listed) refl

-- Which AUIPC a low part names, and what relocation gives the site there.
use Rattle.std.proofs.Common.{◌≡◌, inl, inr, ℕ, ◌<◌, ◌==◌, Bool, true, false, ◌&&◌, if◌then◌else◌, length, Some, None, refl, sym, subst, arith}
use Rattle.std.proofs.lemmas.Bool.{eqb-true}
use Rattle.std.proofs.lemmas.Bool.Decides.{nat_tests}
use Rattle.list_checks.specs.First.{first_below}
use Rattle.list_checks.specs.Tests.{ranges_overlap}
use Rattle.list_checks.proofs.TestLemmas.{both}
use Rattle.rv32im.specs.Fields.{opcode_of}
use Rattle.elf_reader.specs.File.{PlainView}
use Rattle.board_config.specs.declared.board.Board.{Board}
use Rattle.loaded_file.specs.Code.{image_word}
use Rattle.loaded_file.specs.Records.{reloc_at, counts, symbol_of}
use Rattle.object_graph.specs.Rewritable.{is_pair_low, names_high}
use Rattle.object_graph.specs.Fixed.{is_movable}
use Rattle.object_graph.specs.Graphs.{IsObjects, IsSites}
use Rattle.object_graph.specs.Laws.{StoresAtLower, HasLower, GivesSite, LoadsUpper, lead, reach}
use Rattle.object_graph.specs.declared.parts.Graph.{Graph}
use Rattle.object_graph.proofs.LeadLemmas.{high_sites_lead, low_sites_lead, low_stores_lead, paired_sites_lead}
use Rattle.object_graph.proofs.SiteLemmas.{sites_disjoint}
use Rattle.code_blocks.proofs.LeaderLemmas.{both_pass}
use Rattle.cell_values.specs.Objects.{object_of}
use Rattle.object_machine.specs.Program.{Target, target_at, named_by}
use Rattle.result_laws.proofs.Lists.{first_at}
use Rattle.cell_values.proofs.GraphObjects.{object_moves}
use Rattle.result_laws.proofs.Sites.{MakesHigh, MakesLow, SiteBy, by_high, by_wide, by_store, by_pair, by_low, low_gives, site_of}

-- ---- relocations that name an AUIPC

-- relocation `j` at `u` is the low part of the AUIPC at `a`
pub record Names (v : PlainView) (u a j : ℕ) : Type 0 where
  pub below : j < length v.relocs
  pub counted : counts v (reloc_at v j) ≡ true
  pub low : is_pair_low (reloc_at v j).kind ≡ true
  pub at : (reloc_at v j).at ≡ u
  pub value : (symbol_of v (reloc_at v j)).value ≡ a

names_by : (v : PlainView) (u a j : ℕ) (test : Bool) → j < length v.relocs → counts v (reloc_at v j) && is_pair_low (reloc_at v j).kind && ((reloc_at v j).at == u) ≡ test → (if test then Some (symbol_of v (reloc_at v j)).value else None) ≡ Some a → Names v u a j
names_by v u a j true below passes is =
    let r = reloc_at v j in
    let two = both (counts v r && is_pair_low r.kind) (r.at == u) passes in
    let one = both (counts v r) (is_pair_low r.kind) two.0 in
    let same : (symbol_of v r).value ≡ a = cc in
    record { below = below; counted = one.0; low = one.1; at = eqb-true r.at u two.1; value = same }
names_by v u a j false below passes is = absurd (cc)

names_parts : (v : PlainView) (u a j : ℕ) → j < length v.relocs → named_by v u j ≡ Some a → Names v u a j
names_parts v u a j below named =
    names_by v u a j (counts v (reloc_at v j) && is_pair_low (reloc_at v j).kind && ((reloc_at v j).at == u)) below refl named

pub named_found : (v : PlainView) (u a : ℕ) → first_below (named_by v u) (length v.relocs) ≡ Some a → (j : ℕ) × Names v u a j
named_found v u a named =
    let found = first_at (named_by v u) (length v.relocs) a named in
    (found.0, names_parts v u a found.0 found.1.0 found.1.1)

pub names_some : (v : PlainView) (u j : ℕ) → counts v (reloc_at v j) ≡ true → is_pair_low (reloc_at v j).kind ≡ true → (reloc_at v j).at ≡ u → named_by v u j ≡ Some (symbol_of v (reloc_at v j)).value
names_some v u j counted low at =
    let r = reloc_at v j in
    let here : (r.at == u) ≡ true = grind (arith, nat_tests, at) in
    let passes =
    both_pass (counts v r && is_pair_low r.kind) (r.at == u) (both_pass (counts v r) (is_pair_low r.kind) counted low) here in
    rw passes refl

-- ---- the site of an AUIPC

no_lower : (w a : ℕ) → HasLower w a → opcode_of w ≡ 23 → ⊥
no_lower w a (inl adds) is = let other = adds.0 in omega (arith, is, other)
no_lower w a (inr loads) is = let other = loads.1.0 in omega (arith, is, other)

no_store : (w a : ℕ) → StoresAtLower w a → opcode_of w ≡ 23 → ⊥
no_store w a stores is = let other = stores.1.0 in omega (arith, is, other)

no_upper : (w a : ℕ) → LoadsUpper w a → opcode_of w ≡ 23 → ⊥
no_upper w a loads is = let other = loads.0 in omega (arith, is, other)

module _ (v : PlainView) (board : Board) (home n offset u : ℕ) (movable : is_movable v board home n ≡ true) (auipc : opcode_of (image_word v u) ≡ 23) where
  at_reloc : (j : ℕ) → (reloc_at v j).at ≡ u → opcode_of (image_word v (reloc_at v j).at) ≡ 23
  at_reloc j at = subst (λ (a : ℕ). opcode_of (image_word v a) ≡ 23) (sym at) auipc

  no_low_of : (j i : ℕ) → MakesLow v home n offset u j i → ⊥
  no_low_of j i low =
      let pairs = paired_sites_lead v board home n i movable low.high.makes.means in
      elim (pairs.lows j low.below low.counted low.names).part [
        | inl wide ↦ no_lower (image_word v (reloc_at v j).at) (reach v home i) wide.1 (at_reloc j low.at)
        | inr half ↦ no_store (image_word v (reloc_at v j).at) (reach v home i) half.1 (at_reloc j low.at)
      ]

  -- it is of a relocation of an AUIPC
  pub auipc_by : SiteBy v home n offset u → (i : ℕ) × MakesHigh v home n offset u i
  auipc_by (by_pair i high) = (i, high)
  auipc_by (by_high j makes) =
      absurd (no_upper (image_word v (reloc_at v j).at) (lead v home j) (high_sites_lead v board home n j movable makes.means).part (at_reloc j makes.at))
  auipc_by (by_wide j makes) =
      absurd (no_lower (image_word v (reloc_at v j).at) (lead v home j) (low_sites_lead v board home n j movable makes.means).part (at_reloc j makes.at))
  auipc_by (by_store j makes) =
      absurd (no_store (image_word v (reloc_at v j).at) (lead v home j) (low_stores_lead v board home n j movable makes.means).part (at_reloc j makes.at))
  auipc_by (by_low j i low) = absurd (no_low_of j i low)

-- a relocation that names an AUIPC which is a site of an object gives a site of that object
pub named_gives : (v : PlainView) (board : Board) (g : Graph) (u a j : ℕ) (t : Target) → IsObjects v board g.objects.items → IsSites v g.objects.items g.sites.items → Names v u a j → target_at g.sites.items a ≡ Some t → opcode_of (image_word v a) ≡ 23 → GivesSite v board j
named_gives v board g u a j t objects sites names there auipc =
    let home : ℕ = (object_of g t.object).home in
    let n : ℕ = (object_of g t.object).size in
    let site = site_of v g a t sites there in
    let movable = object_moves v board g t.object objects site.below in
    let high = auipc_by v board home n t.offset a movable auipc site.by in
    let i = high.0 in
    let value = names.value in
    let at = high.1.makes.at in
    let named : names_high v (reloc_at v i) (reloc_at v j) ≡ true =
    both_pass (is_pair_low (reloc_at v j).kind) ((symbol_of v (reloc_at v j)).value == (reloc_at v i).at) names.low (grind (arith, nat_tests, value, at)) in
    record {
      below = names.below;
      home = home;
      bytes = n;
      movable = movable;
      site = low_gives v home n j i high.1.makes.means.below names.counted high.1.makes.leads high.1.pair named;
    }

same_overlaps : (a b u : ℕ) → a ≡ u → b ≡ u → ranges_overlap a 4 b 4 ≡ true
same_overlaps a b u first second = grind (arith, nat_tests, first, second)

-- two relocations that give sites at one word are the same
pub one_at : (v : PlainView) (board : Board) (u i j : ℕ) → GivesSite v board i → GivesSite v board j → (reloc_at v i).at ≡ u → (reloc_at v j).at ≡ u → i ≡ j
one_at v board u i j gives other at at' =
    sites_disjoint v board i j gives other (same_overlaps (reloc_at v i).at (reloc_at v j).at u at at')

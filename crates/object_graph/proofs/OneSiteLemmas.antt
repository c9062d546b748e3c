-- One relocation gives a site of one place in one object.
use Rattle.std.proofs.Common.{◌≡◌, ◌∙◌, ◌⊎◌, inl, inr, ℕ, ◌+◌, ◌<◌, ◌==◌, nat_le, Bool, true, false, ◌&&◌, ◌||◌, length, refl, sym, subst, arith}
use Rattle.std.proofs.lemmas.Bool.{eqb-true, both_ways}
use Rattle.std.proofs.lemmas.Bool.Decides.{nat_tests}
use Rattle.list_checks.specs.Tests.{any_below, ranges_overlap}
use Rattle.list_checks.proofs.TestLemmas.{either, both, any_found, any_at}
use Rattle.elf_reader.specs.File.{PlainView}
use Rattle.elf_reader.specs.declared.view.Reloc.{Reloc}
use Rattle.board_config.specs.declared.board.Board.{Board}
use Rattle.loaded_file.specs.Records.{reloc_at, counts, symbol_of, target}
use Rattle.loaded_file.specs.Ranges.{is_of, inside}
use Rattle.loaded_file.proofs.RangeLemmas.{of_parts}
use Rattle.object_graph.specs.Rewritable.{is_meant, displacement, is_rewritable_high, is_rewritable_low, is_pair_low, names_high, is_rewritable_pair}
use Rattle.object_graph.specs.Fixed.{leads_to, gives_pair, is_site_of, is_movable}
use Rattle.object_graph.specs.Sites.{is_site}
use Rattle.object_graph.specs.Graphs.{gives_directly, gives_low_of, gives_offset}
use Rattle.object_graph.specs.Laws.{GivesSite, OneObjectASite, OneOffsetASite}
use Rattle.object_graph.proofs.MovableLemmas.{objects_disjoint}
use Rattle.object_graph.proofs.RewritableLemmas.{high_parts, low_parts, pair_parts}
use Rattle.object_graph.proofs.SiteLemmas.{sites_disjoint}

inside_overlaps : (home n home' n' a : ℕ) → inside home n a ≡ true → inside home' n' a ≡ true → ranges_overlap home n home' n' ≡ true
inside_overlaps home n home' n' a first second = grind (arith, nat_tests, first, second)

-- two objects that one relocation means are the same, or share a byte
pub meant_both : (v : PlainView) (home n home' n' : ℕ) (r : Reloc) → (ranges_overlap home n home' n' ≡ false) ⊎ ((home ≡ home') × (n ≡ n')) → is_meant v home n r ≡ true → is_meant v home' n' r ≡ true → (home ≡ home') × (n ≡ n')
meant_both v home n home' n' r disjoint first second =
    let s = symbol_of v r in
    let a = target v r in
    let by_section = either (is_of v home n s) ((s.kind == 3) && inside home n a) first in
    let by_section' = either (is_of v home' n' s) ((s.kind == 3) && inside home' n' a) second in
    elim by_section [
      | inl own ↦
          let of = of_parts v home n s own in
          let kind = of.range.kind in
          elim by_section' [
            | inl own' ↦ let of' = of_parts v home' n' s own' in (sym of.value ∙ of'.value, sym of.size ∙ of'.size)
            | inr other ↦
                let wrong = eqb-true s.kind 3 (both (s.kind == 3) (inside home' n' a) other).0 in
                absurd (omega (arith, kind, wrong))
          ]
      | inr other ↦
          let parts = both (s.kind == 3) (inside home n a) other in
          let kind = eqb-true s.kind 3 parts.0 in
          elim by_section' [
            | inl own' ↦ let wrong = (of_parts v home' n' s own').range.kind in absurd (omega (arith, kind, wrong))
            | inr other' ↦
                let parts' = both (s.kind == 3) (inside home' n' a) other' in
                elim disjoint [
                  | inl none ↦ absurd (both_ways _ none (inside_overlaps home n home' n' a parts.1 parts'.1))
                  | inr same ↦ same
                ]
          ]
    ]

-- relocation `j` gives sites by itself
abbrev pub gives_own : PlainView → ℕ → Bool
gives_own v j =
    is_rewritable_high v (reloc_at v j) || is_rewritable_low v (reloc_at v j) || is_rewritable_pair v (reloc_at v j)

-- so it is of one of four kinds
pub own_kind : (v : PlainView) (j : ℕ) → gives_own v j ≡ true → is_pair_low (reloc_at v j).kind ≡ false
own_kind v j own =
    let r = reloc_at v j in
    let high = is_rewritable_high v r in
    let low = is_rewritable_low v r in
    elim (either (high || low) (is_rewritable_pair v r) own) [
      | inr third ↦ let is = (pair_parts v r third).kind in grind (arith, nat_tests, is)
      | inl front ↦ elim (either high low front) [
        | inl first ↦ let is = (high_parts v r first).kind in grind (arith, nat_tests, is)
        | inr second ↦ elim (low_parts v r second).low [
          | inl wide ↦ let is = wide.0 in grind (arith, nat_tests, is)
          | inr half ↦ let is = half.0 in grind (arith, nat_tests, is)
        ]
      ]
    ]

-- the relocation whose target is the address that a site makes: its own, or that of the AUIPC
pub record Source (v : PlainView) (home n j : ℕ) : Type 0 where
  pub by : ℕ
  pub leads : leads_to v home n by ≡ true
  pub kind : ((by ≡ j) × (gives_own v j ≡ true)) ⊎ ((by < length v.relocs) × (is_rewritable_pair v (reloc_at v by) ≡ true) × (names_high v (reloc_at v by) (reloc_at v j) ≡ true))

abbrev by_own : (v : PlainView) (home n j : ℕ) → leads_to v home n j && gives_own v j ≡ true → Source v home n j
by_own v home n j own =
    let parts = both (leads_to v home n j) (gives_own v j) own in
    record { by = j; leads = parts.0; kind = inl (refl, parts.1) }

abbrev by_pair : (v : PlainView) (home n j i : ℕ) → i < length v.relocs → gives_pair v home n j i ≡ true → Source v home n j
by_pair v home n j i below gives =
    let r = reloc_at v i in
    let whole = both (leads_to v home n i && is_rewritable_pair v r) (names_high v r (reloc_at v j)) gives in
    let front = both (leads_to v home n i) (is_rewritable_pair v r) whole.0 in
    record { by = i; leads = front.0; kind = inr (below, front.1, whole.1) }

pub source_of : (v : PlainView) (home n j : ℕ) → is_site_of v home n j ≡ true → Source v home n j
source_of v home n j site =
    let given = any_below (gives_pair v home n j) (length v.relocs) in
    elim (either (leads_to v home n j && gives_own v j) (counts v (reloc_at v j) && given) site) [
      | inl own ↦ by_own v home n j own
      | inr pair ↦
          let (i, below, gives) = any_found (gives_pair v home n j) (length v.relocs) (both (counts v (reloc_at v j)) given pair).1 in
          by_pair v home n j i below gives
    ]

-- the same, where it leads to this place
pub record SourceAt (v : PlainView) (home n offset j : ℕ) : Type 0 where
  pub source : Source v home n j
  pub far : displacement v home (reloc_at v source.by) ≡ offset

pub source_at : (v : PlainView) (home n offset j : ℕ) → gives_offset v home n offset j ≡ true → SourceAt v home n offset j
source_at v home n offset j gives =
    let given = any_below (gives_low_of v home n offset j) (length v.relocs) in
    elim (either (gives_directly v home n offset j) (counts v (reloc_at v j) && given) gives) [
      | inl own ↦
          let parts = both (leads_to v home n j && gives_own v j) (displacement v home (reloc_at v j) == offset) own in
          record { source = by_own v home n j parts.0; far = eqb-true _ _ parts.1 }
      | inr pair ↦
          let (i, below, low) = any_found (gives_low_of v home n offset j) (length v.relocs) (both (counts v (reloc_at v j)) given pair).1 in
          let parts = both (gives_pair v home n j i) (displacement v home (reloc_at v i) == offset) low in
          record { source = by_pair v home n j i below parts.0; far = eqb-true _ _ parts.1 }
    ]

pub meant_by : (v : PlainView) (home n i : ℕ) → leads_to v home n i ≡ true → is_meant v home n (reloc_at v i) ≡ true
meant_by v home n i leads =
    let r = reloc_at v i in
    let front = both (counts v r && is_meant v home n r) (nat_le (displacement v home r) n) leads in
    (both (counts v r) (is_meant v home n r) front.0).1

-- an AUIPC of a pair gives a site
made_site : (leads high low pair rest : Bool) → leads ≡ true → pair ≡ true → leads && (high || low || pair) || rest ≡ true
made_site leads high low pair rest first last = grind (arith, first, last)

pair_gives : (v : PlainView) (board : Board) (home n i : ℕ) → i < length v.relocs → is_movable v board home n ≡ true → leads_to v home n i ≡ true → is_rewritable_pair v (reloc_at v i) ≡ true → GivesSite v board i
pair_gives v board home n i below movable leads pair =
    let r = reloc_at v i in
    record {
      below = below;
      home = home;
      bytes = n;
      movable = movable;
      site = made_site (leads_to v home n i) (is_rewritable_high v r) (is_rewritable_low v r) (is_rewritable_pair v r) (counts v r && any_below (gives_pair v home n i) (length v.relocs)) leads pair;
    }

named_place : (v : PlainView) (high low : Reloc) → names_high v high low ≡ true → (is_pair_low low.kind ≡ true) × ((symbol_of v low).value ≡ high.at)
named_place v high low names =
    let parts = both (is_pair_low low.kind) ((symbol_of v low).value == high.at) names in
    (parts.0, eqb-true _ _ parts.1)

same_word_overlaps : (a b : ℕ) → a ≡ b → ranges_overlap a 4 b 4 ≡ true
same_word_overlaps a b same = grind (arith, nat_tests, same)

-- two sites of one relocation have one source
same_source : (v : PlainView) (board : Board) (home n home' n' j : ℕ) → is_movable v board home n ≡ true → is_movable v board home' n' ≡ true → (s : Source v home n j) → (t : Source v home' n' j) → s.by ≡ t.by
same_source v board home n home' n' j movable movable' s t =
    elim s.kind [
      | inl own ↦ elim t.kind [
        | inl own' ↦ own.0 ∙ sym own'.0
        | inr pair' ↦ absurd (both_ways _ (own_kind v j own.1) (named_place v (reloc_at v t.by) (reloc_at v j) pair'.2).0)
      ]
      | inr pair ↦
          let here = named_place v (reloc_at v s.by) (reloc_at v j) pair.2 in
          elim t.kind [
            | inl own' ↦ absurd (both_ways _ (own_kind v j own'.1) here.0)
            | inr pair' ↦
                let there = named_place v (reloc_at v t.by) (reloc_at v j) pair'.2 in
                sites_disjoint v board s.by t.by (pair_gives v board home n s.by pair.0 movable s.leads pair.1)
                (pair_gives v board home' n' t.by pair'.0 movable' t.leads pair'.1)
                (same_word_overlaps (reloc_at v s.by).at (reloc_at v t.by).at (sym here.1 ∙ there.1))
          ]
    ]

pub one_object : OneObjectASite
one_object v board home n home' n' j first second =
    let one = both (is_movable v board home n) (is_site_of v home n j) first in
    let other = both (is_movable v board home' n') (is_site_of v home' n' j) second in
    let s = source_of v home n j one.1 in
    let t = source_of v home' n' j other.1 in
    let same = same_source v board home n home' n' j one.0 other.0 s t in
    let meant' = subst (λ (i : ℕ). is_meant v home' n' (reloc_at v i) ≡ true) (sym same) (meant_by v home' n' t.by t.leads) in
    meant_both v home n home' n' (reloc_at v s.by) (objects_disjoint v board home n home' n' one.0 other.0) (meant_by v home n s.by s.leads) meant'

pub one_offset : OneOffsetASite
one_offset v board home n offset offset' j movable first second =
    let s = source_at v home n offset j first in
    let t = source_at v home n offset' j second in
    let same = same_source v board home n home n j movable movable s.source t.source in
    sym s.far ∙ subst (λ (i : ℕ). displacement v home (reloc_at v i) ≡ offset') (sym same) t.far

-- a relocation that gives a site of some place gives a site
pub site_given : (v : PlainView) (home n offset j : ℕ) → gives_offset v home n offset j ≡ true → is_site_of v home n j ≡ true
site_given v home n offset j gives =
    let given = any_below (gives_low_of v home n offset j) (length v.relocs) in
    let pairs = any_below (gives_pair v home n j) (length v.relocs) in
    let leads = leads_to v home n j && gives_own v j in
    elim (either (gives_directly v home n offset j) (counts v (reloc_at v j) && given) gives) [
      | inl own ↦
          first_given leads (counts v (reloc_at v j) && pairs) (both leads (displacement v home (reloc_at v j) == offset) own).0
      | inr pair ↦
          let parts = both (counts v (reloc_at v j)) given pair in
          let (i, below, low) = any_found (gives_low_of v home n offset j) (length v.relocs) parts.1 in
          let here = (both (gives_pair v home n j i) (displacement v home (reloc_at v i) == offset) low).0 in
          second_given leads (counts v (reloc_at v j)) pairs parts.0 (any_at (gives_pair v home n j) (length v.relocs) i below here)
    ]
  where
    first_given : (a b : Bool) → a ≡ true → a || b ≡ true
    first_given a b first = grind (arith, first)

    second_given : (a b c : Bool) → b ≡ true → c ≡ true → a || b && c ≡ true
    second_given a b c second third = grind (arith, second, third)

-- Which relocations give a site of some object, and that an object shares a word just where one of its own
-- relocations tells so.
use Rattle.std.proofs.Common.{◌≡◌, ◌∙◌, inl, inr, ℕ, ◌<◌, ◌==◌, nat_lt, nat_le, Bool, true, false, not, ◌&&◌, List, length, refl, sym, ap, subst, arith}
use Rattle.std.specs.List.{count_by}
use Rattle.std.proofs.lemmas.Bool.{eq-eqb, eqb-true}
use Rattle.list_checks.specs.Tests.{any_below}
use Rattle.list_checks.proofs.TestLemmas.{either, both, same_tests, any_found, any_at}
use Rattle.elf_reader.specs.File.{PlainView}
use Rattle.elf_reader.specs.declared.view.Reloc.{Reloc}
use Rattle.loaded_file.specs.Records.{symbol_at, reloc_at, counts, symbol_of}
use Rattle.loaded_file.specs.Ranges.{has_range, is_symbol_of, is_range}
use Rattle.loaded_file.proofs.RangeLemmas.{of_parts}
use Rattle.loaded_file.proofs.ByteRangeLemmas.{both_made}
use Rattle.object_graph.specs.Rewritable.{is_meant, displacement, is_rewritable_pair, is_pair_low, names_high}
use Rattle.list_checks.specs.Sorted.{is_number, count_below}
use Rattle.list_checks.proofs.SortedLemmas.{two_places}
use Rattle.object_graph.specs.Fixed.{leads_to, gives_pair, is_site_of, is_site_by, shares_word, is_shared_by, is_shared}
use Rattle.object_graph.specs.Meant.{is_direct}
use Rattle.object_graph.specs.Shares.{leads_some, is_high_by, at_number, is_low_of_some, gives_some, gives_by, repeats_at, is_shared_low, shares_from, is_shared_from, shares_a_word}
use Rattle.object_graph.proofs.MeaningLeads.{or_left, or_right, leads_to_symbol, leads_is}

-- a test of numbers, turned round
turned : (a b : ℕ) → (a == b) ≡ true → (b == a) ≡ true
turned a b same = eq-eqb b a (sym (eqb-true a b same))

turn : (a b : ℕ) → (a == b) ≡ (b == a)
turn a b = same_tests (a == b) (b == a) (turned a b) (turned b a)

leads_at : (v : PlainView) (i k : ℕ) → k < length v.symbols → has_range v (symbol_at v k) ≡ true → leads_to v (symbol_at v k).value (symbol_at v k).size i ≡ true → leads_some v i ≡ true
leads_at v i k below has leads =
    sym (leads_is v i) ∙ any_at (leads_to_symbol v i) (length v.symbols) k below (both_made (has_range v (symbol_at v k)) (leads_to v (symbol_at v k).value (symbol_at v k).size i) has leads)

-- ---- a site of some object

-- a site of the object of a symbol
into_some : (v : PlainView) (j k : ℕ) → k < length v.symbols → has_range v (symbol_at v k) ≡ true → is_site_of v (symbol_at v k).value (symbol_at v k).size j ≡ true → gives_some v j ≡ true
into_some v j k below has site =
    let t = symbol_at v k in
    let r = reloc_at v j in
    let a = (symbol_of v r).value in
    let own = leads_to v t.value t.size j && is_direct v j in
    let low = counts v r && any_below (gives_pair v t.value t.size j) (length v.relocs) in
    elim (either own low site) [
      | inl direct ↦
          let parts = both (leads_to v t.value t.size j) (is_direct v j) direct in
          or_left (is_direct v j && leads_some v j) (is_low_of_some v j) (both_made (is_direct v j) (leads_some v j) parts.1 (leads_at v j k below has parts.0))
      | inr paired ↦
          let parts = both (counts v r) (any_below (gives_pair v t.value t.size j) (length v.relocs)) paired in
          let (i, within, gives) = any_found (gives_pair v t.value t.size j) (length v.relocs) parts.1 in
          let h = reloc_at v i in
          let last = both (leads_to v t.value t.size i && is_rewritable_pair v h) (names_high v h r) gives in
          let first = both (leads_to v t.value t.size i) (is_rewritable_pair v h) last.0 in
          let names = both (is_pair_low r.kind) (a == h.at) last.1 in
          let high = both_made (is_rewritable_pair v h && leads_some v i) (at_number a h.at) (both_made (is_rewritable_pair v h) (leads_some v i) first.1 (leads_at v i k below has first.0)) names.1 in
          let some = any_at (is_high_by v (at_number a)) (length v.relocs) i within high in
          or_right (is_direct v j && leads_some v j) (is_low_of_some v j) (both_made (counts v r && is_pair_low r.kind) (any_below (is_high_by v (at_number a)) (length v.relocs)) (both_made (counts v r) (is_pair_low r.kind) parts.0 names.0) some)
    ]

site_by : (v : PlainView) (j k : ℕ) → k < length v.symbols → has_range v (symbol_at v k) ≡ true → is_site_of v (symbol_at v k).value (symbol_at v k).size j ≡ true → any_below (is_site_by v j) (length v.symbols) ≡ true
site_by v j k below has site =
    any_at (is_site_by v j) (length v.symbols) k below (both_made (has_range v (symbol_at v k)) (is_site_of v (symbol_at v k).value (symbol_at v k).size j) has site)

from_some : (v : PlainView) (j : ℕ) → gives_some v j ≡ true → any_below (is_site_by v j) (length v.symbols) ≡ true
from_some v j gives =
    let r = reloc_at v j in
    let a = (symbol_of v r).value in
    elim (either (is_direct v j && leads_some v j) (is_low_of_some v j) gives) [
      | inl direct ↦
          let parts = both (is_direct v j) (leads_some v j) direct in
          let (k, below, leads) = any_found (leads_to_symbol v j) (length v.symbols) (leads_is v j ∙ parts.1) in
          let t = symbol_at v k in
          let to = both (has_range v t) (leads_to v t.value t.size j) leads in
          site_by v j k below to.0 (or_left (leads_to v t.value t.size j && is_direct v j) (counts v r && any_below (gives_pair v t.value t.size j) (length v.relocs)) (both_made (leads_to v t.value t.size j) (is_direct v j) to.1 parts.0))
      | inr paired ↦
          let parts = both (counts v r && is_pair_low r.kind) (any_below (is_high_by v (at_number a)) (length v.relocs)) paired in
          let low = both (counts v r) (is_pair_low r.kind) parts.0 in
          let (i, within, high) = any_found (is_high_by v (at_number a)) (length v.relocs) parts.1 in
          let h = reloc_at v i in
          let last = both (is_rewritable_pair v h && leads_some v i) (at_number a h.at) high in
          let first = both (is_rewritable_pair v h) (leads_some v i) last.0 in
          let (k, below, leads) = any_found (leads_to_symbol v i) (length v.symbols) (leads_is v i ∙ first.1) in
          let t = symbol_at v k in
          let to = both (has_range v t) (leads_to v t.value t.size i) leads in
          let names = both_made (is_pair_low r.kind) (a == h.at) low.1 last.1 in
          let pair = both_made (leads_to v t.value t.size i && is_rewritable_pair v h) (names_high v h r) (both_made (leads_to v t.value t.size i) (is_rewritable_pair v h) to.1 first.0) names in
          let some = any_at (gives_pair v t.value t.size j) (length v.relocs) i within pair in
          site_by v j k below to.0 (or_right (leads_to v t.value t.size j && is_direct v j) (counts v r && any_below (gives_pair v t.value t.size j) (length v.relocs)) (both_made (counts v r) (any_below (gives_pair v t.value t.size j) (length v.relocs)) low.0 some))
    ]

into_gives : (v : PlainView) (j : ℕ) → any_below (is_site_by v j) (length v.symbols) ≡ true → gives_some v j ≡ true
into_gives v j found =
    let (k, below, site) = any_found (is_site_by v j) (length v.symbols) found in
    let t = symbol_at v k in
    let parts = both (has_range v t) (is_site_of v t.value t.size j) site in
    into_some v j k below parts.0 parts.1

pub gives_is : (v : PlainView) (j : ℕ) → any_below (is_site_by v j) (length v.symbols) ≡ gives_some v j
gives_is v j = same_tests _ _ (into_gives v j) (from_some v j)

-- what a list of the addresses of all sites tells of two at one
pub twice_at : (v : PlainView) (sites : List ℕ) (j : ℕ) (r : Reloc) (x : ℕ) (b : Bool) → ((test : ℕ → Bool) → count_by test sites ≡ count_below (gives_by v test) (length v.relocs)) → reloc_at v j ≡ r → x ≡ r.at → b ≡ nat_lt 1 (count_by (is_number x) sites) → b ≡ repeats_at v (reloc_at v j).at
twice_at v sites j r x b exact here at is =
    is
    ∙ ap (λ (a : ℕ). nat_lt 1 (count_by (is_number a) sites)) (at ∙ ap (λ (t : Reloc). t.at) (sym here))
    ∙ ap (nat_lt 1) (exact (at_number (reloc_at v j).at))

-- ---- shared words

regrouped : (n here here' gives : Bool) → here ≡ here' → ((n && here) && gives) ≡ (n && (gives && here'))
regrouped true true here' true same = same
regrouped true true here' false same = refl
regrouped true false here' true same = same
regrouped true false here' false same = refl
regrouped false here here' gives same = refl

word_same : (v : PlainView) (j i : ℕ) → shares_word v j i ≡ (not (i == j) && gives_by v (at_number (reloc_at v j).at) i)
word_same v j i =
    ap (λ (b : Bool). not (i == j) && ((reloc_at v i).at == (reloc_at v j).at) && b) (gives_is v i)
    ∙ regrouped (not (i == j)) ((reloc_at v i).at == (reloc_at v j).at) ((reloc_at v j).at == (reloc_at v i).at) (gives_some v i) (turn (reloc_at v i).at (reloc_at v j).at)

any_same : (t u : ℕ → Bool) (n : ℕ) → ((k : ℕ) → t k ≡ u k) → any_below t n ≡ any_below u n
any_same t u n same = λ i. any_below (λ k. same k i) n

-- a site shares its word just where there are two sites at its address
pub word_shared : (v : PlainView) (j : ℕ) → j < length v.relocs → gives_some v j ≡ true → any_below (shares_word v j) (length v.relocs) ≡ repeats_at v (reloc_at v j).at
word_shared v j below gives =
    let at = (reloc_at v j).at in
    any_same (shares_word v j) (λ i. not (i == j) && gives_by v (at_number at) i) (length v.relocs) (word_same v j)
    ∙ sym (two_places (gives_by v (at_number at)) (length v.relocs) j (both_made (gives_some v j) (at_number at at) gives (eq-eqb at at refl)) below)

leads_regrouped : (c m f s : Bool) → c && m && f ≡ true → s ≡ true → c && s && (m && f) ≡ true
leads_regrouped c m f s leads shares = grind (arith, leads, shares)

leads_parts : (c m f s : Bool) → c && s && (m && f) ≡ true → (c && m && f ≡ true) × (s ≡ true)
leads_parts c m f s shares = (grind (arith, shares), grind (arith, shares))

-- relocation `i` leads to the object and gives such a site
made_from : (v : PlainView) (home n i : ℕ) → i < length v.relocs → leads_to v home n i ≡ true → shares_from v i ≡ true → shares_a_word v home n ≡ true
made_from v home n i below leads shares =
    let r = reloc_at v i in
    any_at (is_shared_from v home n) (length v.relocs) i below (leads_regrouped (counts v r) (is_meant v home n r) (nat_le (displacement v home r) n) (shares_from v i) leads shares)

-- the object of symbol `k` has a site at a word with another
shared_in : (v : PlainView) (k : ℕ) → k < length v.symbols → has_range v (symbol_at v k) ≡ true → is_shared v (symbol_at v k).value (symbol_at v k).size ≡ true → shares_a_word v (symbol_at v k).value (symbol_at v k).size ≡ true
shared_in v k below has shared =
    let t = symbol_at v k in
    let (j, within, by) = any_found (is_shared_by v t.value t.size) (length v.relocs) shared in
    let r = reloc_at v j in
    let outer = both (is_site_of v t.value t.size j) (any_below (shares_word v j) (length v.relocs)) by in
    let twice : repeats_at v r.at ≡ true = sym (word_shared v j within (into_some v j k below has outer.0)) ∙ outer.1 in
    let own = leads_to v t.value t.size j && is_direct v j in
    let low = counts v r && any_below (gives_pair v t.value t.size j) (length v.relocs) in
    elim (either own low outer.0) [
      | inl direct ↦
          let parts = both (leads_to v t.value t.size j) (is_direct v j) direct in
          let lows = is_rewritable_pair v r && any_below (is_shared_low v (at_number r.at)) (length v.relocs) in
          made_from v t.value t.size j within parts.0 (or_left (is_direct v j && repeats_at v r.at) lows (both_made (is_direct v j) (repeats_at v r.at) parts.1 twice))
      | inr paired ↦
          let parts = both (counts v r) (any_below (gives_pair v t.value t.size j) (length v.relocs)) paired in
          let (i, inside, gives) = any_found (gives_pair v t.value t.size j) (length v.relocs) parts.1 in
          let h = reloc_at v i in
          let a = (symbol_of v r).value in
          let last = both (leads_to v t.value t.size i && is_rewritable_pair v h) (names_high v h r) gives in
          let first = both (leads_to v t.value t.size i) (is_rewritable_pair v h) last.0 in
          let names = both (is_pair_low r.kind) (a == h.at) last.1 in
          let here = both_made (counts v r) (is_pair_low r.kind) parts.0 names.0 in
          let shares = both_made (counts v r && is_pair_low r.kind && repeats_at v r.at) (at_number h.at a) (both_made (counts v r && is_pair_low r.kind) (repeats_at v r.at) here twice) (turned a h.at names.1) in
          let some = any_at (is_shared_low v (at_number h.at)) (length v.relocs) j within shares in
          made_from v t.value t.size i inside first.0 (or_right (is_direct v i && repeats_at v h.at) (is_rewritable_pair v h && any_below (is_shared_low v (at_number h.at)) (length v.relocs)) (both_made (is_rewritable_pair v h) (any_below (is_shared_low v (at_number h.at)) (length v.relocs)) first.1 some))
    ]

shared_at : (v : PlainView) (k j : ℕ) → k < length v.symbols → has_range v (symbol_at v k) ≡ true → j < length v.relocs → is_site_of v (symbol_at v k).value (symbol_at v k).size j ≡ true → repeats_at v (reloc_at v j).at ≡ true → is_shared v (symbol_at v k).value (symbol_at v k).size ≡ true
shared_at v k j below has within site twice =
    let t = symbol_at v k in
    let words = word_shared v j within (into_some v j k below has site) ∙ twice in
    any_at (is_shared_by v t.value t.size) (length v.relocs) j within (both_made (is_site_of v t.value t.size j) (any_below (shares_word v j) (length v.relocs)) site words)

shared_out : (v : PlainView) (k : ℕ) → k < length v.symbols → has_range v (symbol_at v k) ≡ true → shares_a_word v (symbol_at v k).value (symbol_at v k).size ≡ true → is_shared v (symbol_at v k).value (symbol_at v k).size ≡ true
shared_out v k below has shares =
    let t = symbol_at v k in
    let (i, within, from) = any_found (is_shared_from v t.value t.size) (length v.relocs) shares in
    let h = reloc_at v i in
    let outer = leads_parts (counts v h) (is_meant v t.value t.size h) (nat_le (displacement v t.value h) t.size) (shares_from v i) from in
    let lows = any_below (is_shared_low v (at_number h.at)) (length v.relocs) in
    elim (either (is_direct v i && repeats_at v h.at) (is_rewritable_pair v h && lows) outer.1) [
      | inl own ↦
          let parts = both (is_direct v i) (repeats_at v h.at) own in
          let site = or_left (leads_to v t.value t.size i && is_direct v i) (counts v h && any_below (gives_pair v t.value t.size i) (length v.relocs)) (both_made (leads_to v t.value t.size i) (is_direct v i) outer.0 parts.0) in
          shared_at v k i below has within site parts.1
      | inr low ↦
          let parts = both (is_rewritable_pair v h) lows low in
          let (j, inside, shared) = any_found (is_shared_low v (at_number h.at)) (length v.relocs) parts.1 in
          let r = reloc_at v j in
          let a = (symbol_of v r).value in
          let last = both (counts v r && is_pair_low r.kind && repeats_at v r.at) (at_number h.at a) shared in
          let middle = both (counts v r && is_pair_low r.kind) (repeats_at v r.at) last.0 in
          let first = both (counts v r) (is_pair_low r.kind) middle.0 in
          let names = both_made (is_pair_low r.kind) (a == h.at) first.1 (turned h.at a last.1) in
          let pair = both_made (leads_to v t.value t.size i && is_rewritable_pair v h) (names_high v h r) (both_made (leads_to v t.value t.size i) (is_rewritable_pair v h) outer.0 parts.0) names in
          let some = any_at (gives_pair v t.value t.size j) (length v.relocs) i within pair in
          let site = or_right (leads_to v t.value t.size j && is_direct v j) (counts v r && any_below (gives_pair v t.value t.size j) (length v.relocs)) (both_made (counts v r) (any_below (gives_pair v t.value t.size j) (length v.relocs)) first.0 some) in
          shared_at v k j below has inside site middle.1
    ]

-- of an object of the view
pub shared_is : (v : PlainView) (home n : ℕ) → is_range v home n ≡ true → is_shared v home n ≡ shares_a_word v home n
shared_is v home n range =
    let (k, below, of) = any_found (is_symbol_of v home n) (length v.symbols) range in
    let t = symbol_at v k in
    let own = of_parts v home n t of in
    let same : is_shared v t.value t.size ≡ shares_a_word v t.value t.size = same_tests _ _ (shared_in v k below own.test) (shared_out v k below own.test) in
    subst (λ (m : ℕ). is_shared v home m ≡ shares_a_word v home m) own.size (subst (λ (a : ℕ). is_shared v a t.size ≡ shares_a_word v a t.size) own.value same)

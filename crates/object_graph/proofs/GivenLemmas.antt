-- What one relocation gives.
use Rattle.std.proofs.Common.{◌≡◌, ◌∙◌, ◌⊎◌, inl, inr, ℕ, zero, suc, ◌+◌, ◌<◌, ◌≤◌, ◌==◌, nat_lt, nat_le, Bool, true, false, not, ◌&&◌, ◌||◌, List, length, Option, Some, None, refl, sym, ap, subst, arith}
use Rattle.std.specs.List.{list_any}
use Rattle.std.proofs.lemmas.Bool.{cases_Bool, eqb-true, eq-eqb, ne_eqb, ltb-true, leb-true, both_ways}
use Rattle.std.proofs.lemmas.Bool.Decides.{nat_tests}
use Rattle.list_checks.specs.Tests.{any_below}
use Rattle.list_checks.proofs.TestLemmas.{either, neither, both, same_tests, any_found}
use Rattle.elf_reader.specs.File.{PlainView}
use Rattle.elf_reader.specs.declared.view.Reloc.{Reloc}
use Rattle.loaded_file.specs.Records.{reloc_at, counts, symbol_of}
use Rattle.loaded_file.specs.declared.byte_ranges.ByteRange.{ByteRange}
use Rattle.loaded_file.specs.ByteRanges.{byte_range_at}
use Rattle.object_graph.specs.Rewritable.{is_meant, displacement, is_rewritable_word, is_rewritable_high, is_rewritable_low, is_rewritable_pair, is_pair_low, names_high, is_rewritable_kind}
use Rattle.object_graph.specs.Fixed.{leads_to}
use Rattle.object_graph.specs.declared.leads.Lead.{Lead}
use Rattle.object_graph.specs.declared.parts.SiteKind.{SiteKind}
use Rattle.object_graph.specs.declared.parts.SiteKind.TheVariants.{Hi, LowI, LowS}
use Rattle.object_graph.specs.declared.parts.Site.{Site}
use Rattle.object_graph.specs.declared.parts.DataWord.{DataWord}
use Rattle.object_graph.specs.Graphs.{makes_part, gives_directly, gives_low_of, gives_offset, same_part, same_site, same_word}
use Rattle.object_graph.specs.Gathered.{AreMovable, leads_by, gives_alone, gives_high, gives_low, is_site_in, is_word_in, site_place, AreHighs}
use Rattle.object_graph.proofs.RewritableLemmas.{high_parts, low_parts, pair_parts}
use Rattle.object_graph.proofs.OneSiteLemmas.{gives_own, own_kind, meant_by}
use Rattle.object_graph.proofs.RangeLemmas.{meant_once}

-- ---- leads

-- a lead has these parts
pub record LeadsThere (v : PlainView) (ranges : List ByteRange) (k offset i : ℕ) : Type 0 where
  pub listed : k < length ranges
  pub leads : leads_to v (byte_range_at ranges k).home (byte_range_at ranges k).size i ≡ true
  pub far : displacement v (byte_range_at ranges k).home (reloc_at v i) ≡ offset

pub lead_parts : (v : PlainView) (ranges : List ByteRange) (k offset i : ℕ) → leads_by v ranges k offset i ≡ true → LeadsThere v ranges k offset i
lead_parts v ranges k offset i leads =
    let e = byte_range_at ranges k in
    let far = displacement v e.home (reloc_at v i) == offset in
    let whole = both (nat_lt k (length ranges)) (leads_to v e.home e.size i && far) leads in
    let rest = both (leads_to v e.home e.size i) far whole.1 in
    record { listed = ltb-true _ _ whole.0; leads = rest.0; far = eqb-true (displacement v e.home (reloc_at v i)) offset rest.1 }

near_lead : (v : PlainView) (home n i : ℕ) → leads_to v home n i ≡ true → displacement v home (reloc_at v i) ≤ n
near_lead v home n i leads =
    let r = reloc_at v i in
    leb-true _ _ (both (counts v r && is_meant v home n r) (nat_le (displacement v home r) n) leads).1

-- where the range that is meant ends before the target, there is none
pub lead_far : (v : PlainView) (ranges : List ByteRange) (m : AreMovable v ranges) (place i : ℕ) → place < length ranges → is_meant v (byte_range_at ranges place).home (byte_range_at ranges place).size (reloc_at v i) ≡ true → (byte_range_at ranges place).size < displacement v (byte_range_at ranges place).home (reloc_at v i) → (k o : ℕ) → false ≡ leads_by v ranges k o i
lead_far v ranges m place i below meant far k o =
    elim (cases_Bool (leads_by v ranges k o i)) [
      | inr none ↦ sym none
      | inl leads ↦
          let parts = lead_parts v ranges k o i leads in
          let e = byte_range_at ranges k in
          let same = meant_once v ranges m k place i parts.listed below (meant_by v e.home e.size i parts.leads) meant in
          let near = subst (λ (j : ℕ). displacement v (byte_range_at ranges j).home (reloc_at v i) ≤ (byte_range_at ranges j).size) same (near_lead v e.home e.size i parts.leads) in
          absurd (omega (arith, near, far))
    ]

made_lead : (counted meant near : Bool) → counted ≡ true → meant ≡ true → near ≡ true → counted && meant && near ≡ true
made_lead counted meant near first second third = grind (arith, first, second, third)

listed_lead : (listed leads far : Bool) → listed ≡ true → leads ≡ true → far ≡ true → listed && (leads && far) ≡ true
listed_lead listed leads far first second third = grind (arith, first, second, third)

pub lead_found : (v : PlainView) (ranges : List ByteRange) (m : AreMovable v ranges) (place offset i : ℕ) → place < length ranges → counts v (reloc_at v i) ≡ true → is_meant v (byte_range_at ranges place).home (byte_range_at ranges place).size (reloc_at v i) ≡ true → offset ≡ displacement v (byte_range_at ranges place).home (reloc_at v i) → offset ≤ (byte_range_at ranges place).size → (k o : ℕ) → (place == k) && (offset == o) ≡ leads_by v ranges k o i
lead_found v ranges m place offset i below counted meant far near k o =
    let e = byte_range_at ranges place in
    let r = reloc_at v i in
    let test : nat_le (displacement v e.home r) e.size ≡ true = grind (arith, nat_tests, far, near) in
    let leads = made_lead (counts v r) (is_meant v e.home e.size r) (nat_le (displacement v e.home r) e.size) counted meant test in
    let listed : nat_lt place (length ranges) ≡ true = grind (arith, nat_tests, below) in
    let here : leads_by v ranges place offset i ≡ true = listed_lead (nat_lt place (length ranges)) (leads_to v e.home e.size i) (displacement v e.home r == offset) listed leads (eq-eqb _ _ (sym far)) in
    same_tests ((place == k) && (offset == o)) (leads_by v ranges k o i)
    (λ same.
    let parts = both (place == k) (offset == o) same in
    subst (λ (a : ℕ). leads_by v ranges a o i ≡ true) (eqb-true place k parts.0)
    (subst (λ (b : ℕ). leads_by v ranges place b i ≡ true) (eqb-true offset o parts.1) here))
    (λ other.
    let parts = lead_parts v ranges k o i other in
    let d = byte_range_at ranges k in
    let same = meant_once v ranges m place k i below parts.listed meant (meant_by v d.home d.size i parts.leads) in
    let far' = subst (λ (j : ℕ). offset ≡ displacement v (byte_range_at ranges j).home r) same far in
    both_equal place k offset o same (far' ∙ parts.far))
  where
    both_equal : (a b c d : ℕ) → a ≡ b → c ≡ d → (a == b) && (c == d) ≡ true
    both_equal a b c d first second = grind (arith, nat_tests, first, second)

-- ---- sites of their own

-- which kinds make a part
pub part_kind : (part : SiteKind) (kind : ℕ) → makes_part part kind ≡ true → (kind == 1) ≡ false
part_kind Hi kind makes = grind (arith, nat_tests, makes)
part_kind LowI kind makes = grind (arith, nat_tests, makes)
part_kind LowS kind makes = grind (arith, nat_tests, makes)

pub same_as_itself : (part : SiteKind) → same_part part part ≡ true
same_as_itself Hi = refl
same_as_itself LowI = refl
same_as_itself LowS = refl

no_word : (is a b c d : Bool) → is ≡ false → is && a && b && c && d ≡ false
no_word is a b c d none = grind (arith, none)

other_three : (w h l p : Bool) → w ≡ false → w || h || l || p ≡ h || l || p
other_three w h l p none = rw none refl

-- a rewritable relocation that isn't of a word gives sites by itself
pub own_is : (v : PlainView) (j : ℕ) → ((reloc_at v j).kind == 1) ≡ false → is_rewritable_kind v j ≡ gives_own v j
own_is v j none =
    let r = reloc_at v j in
    other_three (is_rewritable_word v j r) (is_rewritable_high v r) (is_rewritable_low v r) (is_rewritable_pair v r) (no_word (r.kind == 1) _ _ _ _ none)

pub equal_turned : (a b : ℕ) → (a == b) ≡ (b == a)
equal_turned a b = same_tests (a == b) (b == a) (λ same. eq-eqb b a (sym (eqb-true a b same))) (λ same. eq-eqb a b (sym (eqb-true b a same)))

-- the tests of a site in another order
ordered : (a p o f len leads own d a' p' : Bool) → a ≡ a' → p ≡ p' → own ≡ true → o && f ≡ len && (leads && d) → a && p && o && f ≡ len && (a' && p' && (leads && own && d))
ordered true true o f len true true d a' p' first second third rest = rw (← first, ← second) rest
ordered true true o f len false true d a' p' first second third rest = rw (← first, ← second) rest
ordered true true o f len leads false d a' p' first second third rest = cc
ordered true false o f true leads own d a' p' first second third rest = rw (← first, ← second) refl
ordered true false o f false leads own d a' p' first second third rest = refl
ordered false p o f true leads own d a' p' first second third rest = rw (← first) refl
ordered false p o f false leads own d a' p' first second third rest = refl

pub direct_found : (v : PlainView) (ranges : List ByteRange) (at : ℕ) (part : SiteKind) (lead : Lead) (i : ℕ) → at ≡ (reloc_at v i).at → ((p : SiteKind) → same_part p part ≡ makes_part p (reloc_at v i).kind) → is_rewritable_kind v i ≡ true → ((k o : ℕ) → (lead.object == k) && (lead.offset == o) ≡ leads_by v ranges k o i) → (s : Site) → same_site s (record { at = at; kind = part; object = lead.object; offset = lead.offset }) ≡ gives_alone v ranges s i
direct_found v ranges at part lead i is_at makes rewritable leads s =
    let e = byte_range_at ranges s.object in
    let own = sym (own_is v i (part_kind part (reloc_at v i).kind (sym (makes part) ∙ same_as_itself part))) ∙ rewritable in
    let turned = ap (λ (b : Bool). b && (s.offset == lead.offset)) (equal_turned s.object lead.object) ∙ ap (λ (b : Bool). (lead.object == s.object) && b) (equal_turned s.offset lead.offset) in
    ordered (s.at == at) (same_part s.kind part) (s.object == lead.object) (s.offset == lead.offset) (nat_lt s.object (length ranges)) (leads_to v e.home e.size i) (gives_own v i) (displacement v e.home (reloc_at v i) == s.offset) ((reloc_at v i).at == s.at) (makes_part s.kind (reloc_at v i).kind)
    (equal_turned s.at at ∙ ap (λ (a : ℕ). a == s.at) is_at) (makes s.kind) own
    (turned ∙ leads s.object s.offset)

no_own : (len a p leads own d : Bool) → own ≡ false → false ≡ len && (a && p && (leads && own && d))
no_own len a p leads own d none = grind (arith, none)

pub direct_unrewritable : (v : PlainView) (ranges : List ByteRange) (part : SiteKind) (i : ℕ) → ((p : SiteKind) → same_part p part ≡ makes_part p (reloc_at v i).kind) → is_rewritable_kind v i ≡ false → (s : Site) → false ≡ gives_alone v ranges s i
direct_unrewritable v ranges part i makes rewritable s =
    let e = byte_range_at ranges s.object in
    let own = sym (own_is v i (part_kind part (reloc_at v i).kind (sym (makes part) ∙ same_as_itself part))) ∙ rewritable in
    no_own (nat_lt s.object (length ranges)) ((reloc_at v i).at == s.at) (makes_part s.kind (reloc_at v i).kind) (leads_to v e.home e.size i) (gives_own v i) (displacement v e.home (reloc_at v i) == s.offset) own

no_lead : (len a p leads own d : Bool) → false ≡ len && (leads && d) → false ≡ len && (a && p && (leads && own && d))
no_lead len a p true own true none = grind (arith, none)
no_lead len a p true own false none = grind (arith, none)
no_lead len a p false own d none = grind (arith, none)

pub direct_nowhere : (v : PlainView) (ranges : List ByteRange) (i : ℕ) → ((k o : ℕ) → false ≡ leads_by v ranges k o i) → (s : Site) → false ≡ gives_alone v ranges s i
direct_nowhere v ranges i none s =
    let e = byte_range_at ranges s.object in
    no_lead (nat_lt s.object (length ranges)) ((reloc_at v i).at == s.at) (makes_part s.kind (reloc_at v i).kind) (leads_to v e.home e.size i) (gives_own v i) (displacement v e.home (reloc_at v i) == s.offset) (none s.object s.offset)

-- ---- lower parts of pairs

any_same : (t u : ℕ → Bool) (n : ℕ) → ((k : ℕ) → t k ≡ u k) → any_below t n ≡ any_below u n
any_same t u n same = λ i. any_below (λ k. same k i) n

pub any_gated : (a : Bool) (t : ℕ → Bool) (n : ℕ) → any_below (λ k. a && t k) n ≡ a && any_below t n
any_gated true t n = refl
any_gated false t zero = refl
any_gated false t (suc n) = let earlier = any_gated false t n in grind (arith, earlier)

-- the AUIPC of a pair of this place
abbrev high_of : PlainView → Site → ℕ → Site
high_of v s j = record { at = (symbol_of v (reloc_at v j)).value; kind = Hi; object = s.object; offset = s.offset }

pair_is : (v : PlainView) (i : ℕ) → is_rewritable_pair v (reloc_at v i) ≡ ((reloc_at v i).kind == 23) && gives_own v i
pair_is v i =
    let r = reloc_at v i in
    same_tests (is_rewritable_pair v r) ((r.kind == 23) && gives_own v i)
    (λ pair. paired (r.kind == 23) (is_rewritable_high v r || is_rewritable_low v r) (is_rewritable_pair v r) (eq-eqb _ _ (pair_parts v r pair).kind) pair)
    (λ other.
    let parts = both (r.kind == 23) (gives_own v i) other in
    let kind = eqb-true r.kind 23 parts.0 in
    elim (either (is_rewritable_high v r || is_rewritable_low v r) (is_rewritable_pair v r) parts.1) [
      | inr pair ↦ pair
      | inl front ↦ elim (either (is_rewritable_high v r) (is_rewritable_low v r) front) [
        | inl high ↦ let wrong = (high_parts v r high).kind in absurd (omega (arith, kind, wrong))
        | inr low ↦ elim (low_parts v r low).low [
          | inl wide ↦ let wrong = wide.0 in absurd (omega (arith, kind, wrong))
          | inr half ↦ let wrong = half.0 in absurd (omega (arith, kind, wrong))
        ]
      ]
    ])
  where
    paired : (k f p : Bool) → k ≡ true → p ≡ true → k && (f || p) ≡ true
    paired k f p first second = grind (arith, first, second)

-- tests of a pair in another order
drops : (a b rest far : Bool) → a && (b && false && rest && far) ≡ false
drops a b rest far = grind arith

turned_round : (len leads own here far : Bool) → len && (leads && own && here && far) ≡ len && (here && true && (leads && own && far))
turned_round len leads own here far = grind arith

regrouped : (len leads pair low here far k own makes here' : Bool) → low ≡ true → pair ≡ k && own → here ≡ here' → (k ≡ true → makes ≡ true) → len && (leads && pair && (low && here) && far) ≡ k && (len && (here' && makes && (leads && own && far)))
regrouped len leads pair low here far true own makes here' first second third fourth =
    let made = fourth refl in
    rw (first, second, ← third, made) (turned_round len leads own here far)
regrouped len leads pair low here far false own makes here' first second third fourth =
    rw (second) (drops len leads (low && here) far)

upper_kind : (kind : ℕ) → (kind == 23) ≡ true → makes_part Hi kind ≡ true
upper_kind kind is = grind (arith, nat_tests, is)

-- the low part of such an AUIPC, as a test of the AUIPC
low_by_high : (v : PlainView) (ranges : List ByteRange) (s : Site) (j i : ℕ) → is_pair_low (reloc_at v j).kind ≡ true → (nat_lt s.object (length ranges) && gives_low_of v (byte_range_at ranges s.object).home (byte_range_at ranges s.object).size s.offset j i) ≡ gives_high v ranges (high_of v s j) i
low_by_high v ranges s j i low =
    let e = byte_range_at ranges s.object in
    let r = reloc_at v i in
    let a = (symbol_of v (reloc_at v j)).value in
    regrouped (nat_lt s.object (length ranges)) (leads_to v e.home e.size i) (is_rewritable_pair v r) (is_pair_low (reloc_at v j).kind) (a == r.at) (displacement v e.home r == s.offset) (r.kind == 23) (gives_own v i) (makes_part Hi r.kind) (r.at == a) low (pair_is v i) (equal_turned a r.at) (upper_kind r.kind)

-- they are among the AUIPCs of pairs
low_among : (v : PlainView) (ranges : List ByteRange) (highs : List Site) (h : AreHighs v ranges highs) (s : Site) (j : ℕ) → is_pair_low (reloc_at v j).kind ≡ true → (nat_lt s.object (length ranges) && any_below (gives_low_of v (byte_range_at ranges s.object).home (byte_range_at ranges s.object).size s.offset j) (length v.relocs)) ≡ list_any (same_site (high_of v s j)) highs
low_among v ranges highs h s j low =
    let e = byte_range_at ranges s.object in
    let len = nat_lt s.object (length ranges) in
    let test = gives_low_of v e.home e.size s.offset j in
    sym (any_gated len test (length v.relocs))
    ∙ any_same (λ i. len && test i) (gives_high v ranges (high_of v s j)) (length v.relocs) (λ i. low_by_high v ranges s j i low)
    ∙ sym (h.exact (high_of v s j))

no_low : (len at makes c any found : Bool) → len && any ≡ found → found ≡ false → false ≡ len && (at && makes && (c && any))
no_low false at makes c any found is none = refl
no_low true at makes true any found is none = grind (arith, is, none)
no_low true at makes false any found is none = grind (arith, is, none)

only_found : (found : Bool) (a b : ℕ) → a ≡ b → false ≡ found && (a == b) → found ≡ false
only_found found a b same none = grind (arith, nat_tests, same, none)

pub low_nowhere : (v : PlainView) (ranges : List ByteRange) (highs : List Site) (h : AreHighs v ranges highs) (a j : ℕ) → is_pair_low (reloc_at v j).kind ≡ true → (symbol_of v (reloc_at v j)).value ≡ a → ((s : Site) → false ≡ list_any (same_site s) highs && (s.at == a)) → (s : Site) → false ≡ gives_low v ranges s j
low_nowhere v ranges highs h a j low is none s =
    let e = byte_range_at ranges s.object in
    let high = high_of v s j in
    let missing = only_found (list_any (same_site high) highs) high.at a is (none high) in
    no_low (nat_lt s.object (length ranges)) ((reloc_at v j).at == s.at) (makes_part s.kind (reloc_at v j).kind) (counts v (reloc_at v j)) (any_below (gives_low_of v e.home e.size s.offset j) (length v.relocs)) (list_any (same_site high) highs) (low_among v ranges highs h s j low) missing

hi_part : (part : SiteKind) (kind : ℕ) → (kind == 23) ≡ true → makes_part part kind ≡ true → same_part Hi part ≡ true
hi_part Hi kind is makes = refl
hi_part LowI kind is makes = grind (arith, nat_tests, is, makes)
hi_part LowS kind is makes = grind (arith, nat_tests, is, makes)

-- a site among them is of an upper part
high_part : (v : PlainView) (ranges : List ByteRange) (highs : List Site) (h : AreHighs v ranges highs) (s : Site) → list_any (same_site s) highs ≡ true → same_part Hi s.kind ≡ true
high_part v ranges highs h s found =
    let e = byte_range_at ranges s.object in
    let (i, below, gives) = any_found (gives_high v ranges s) (length v.relocs) (sym (h.exact s) ∙ found) in
    let r = reloc_at v i in
    let whole = both (r.kind == 23) (gives_alone v ranges s i) gives in
    let rest = both (nat_lt s.object (length ranges)) ((r.at == s.at) && makes_part s.kind r.kind && gives_directly v e.home e.size s.offset i) whole.1 in
    let front = both ((r.at == s.at) && makes_part s.kind r.kind) (gives_directly v e.home e.size s.offset i) rest.1 in
    hi_part s.kind r.kind whole.0 (both (r.at == s.at) (makes_part s.kind r.kind) front.0).1

ordered_low : (a p o f len any a' p' c : Bool) → a ≡ a' → p ≡ p' → c ≡ true → o && f ≡ len && any → a && p && o && f ≡ len && (a' && p' && (c && any))
ordered_low true true o f len any a' p' c first second third rest = rw (← first, ← second, third) rest
ordered_low true false o f true any a' p' c first second third rest = rw (← first, ← second) refl
ordered_low true false o f false any a' p' c first second third rest = refl
ordered_low false p o f true any a' p' c first second third rest = rw (← first) refl
ordered_low false p o f false any a' p' c first second third rest = refl

last_two : (a p o f found b : Bool) → a ≡ true → p ≡ true → b ≡ true → a && p && o && f ≡ found && b → o && f ≡ found
last_two a p o f true b first second third is = rw (first, second, third) at is
last_two a p o f false b first second third is = rw (first, second) at is

pub low_found : (v : PlainView) (ranges : List ByteRange) (highs : List Site) (h : AreHighs v ranges highs) (a at j : ℕ) (part : SiteKind) (high : Site) → is_pair_low (reloc_at v j).kind ≡ true → (symbol_of v (reloc_at v j)).value ≡ a → at ≡ (reloc_at v j).at → counts v (reloc_at v j) ≡ true → ((p : SiteKind) → same_part p part ≡ makes_part p (reloc_at v j).kind) → ((s : Site) → same_site s high ≡ list_any (same_site s) highs && (s.at == a)) → same_site high high ≡ true → (s : Site) → same_site s (record { at = at; kind = part; object = high.object; offset = high.offset }) ≡ gives_low v ranges s j
low_found v ranges highs h a at j part high low is is_at counted makes found itself s =
    let e = byte_range_at ranges s.object in
    let probe = high_of v s j in
    let here = both (list_any (same_site high) highs) (high.at == a) (sym (found high) ∙ itself) in
    let upper = high_part v ranges highs h high here.0 in
    let stands = eqb-true high.at a here.1 in
    let rest = last_two (probe.at == high.at) (same_part Hi high.kind) (s.object == high.object) (s.offset == high.offset) (list_any (same_site probe) highs) (probe.at == a) (eq-eqb probe.at high.at (is ∙ sym stands)) upper (eq-eqb probe.at a is) (found probe) in
    ordered_low (s.at == at) (same_part s.kind part) (s.object == high.object) (s.offset == high.offset) (nat_lt s.object (length ranges)) (any_below (gives_low_of v e.home e.size s.offset j) (length v.relocs)) ((reloc_at v j).at == s.at) (makes_part s.kind (reloc_at v j).kind) (counts v (reloc_at v j))
    (equal_turned s.at at ∙ ap (λ (b : ℕ). b == s.at) is_at) (makes s.kind) counted (rest ∙ sym (low_among v ranges highs h s j low))

-- ---- any site

own_none : (v : PlainView) (j : ℕ) → is_pair_low (reloc_at v j).kind ≡ true → gives_own v j ≡ false
own_none v j low = elim (cases_Bool (gives_own v j)) [
  | inl own ↦ absurd (both_ways _ (own_kind v j own) low)
  | inr none ↦ none
]

drops_own : (leads own d : Bool) → own ≡ false → leads && own && d ≡ false
drops_own leads own d none = grind (arith, none)

first_drops : (len a p direct rest : Bool) → direct ≡ false → len && (a && p && rest) ≡ len && (a && p && (direct || rest))
first_drops len a p direct rest none = rw none refl

second_drops : (len a p direct c any : Bool) → any ≡ false → len && (a && p && direct) ≡ len && (a && p && (direct || c && any))
second_drops len a p true c any none = refl
second_drops len a p false true any none = rw none refl
second_drops len a p false false any none = refl

pub low_is_site : (v : PlainView) (ranges : List ByteRange) (s : Site) (j : ℕ) → is_pair_low (reloc_at v j).kind ≡ true → gives_low v ranges s j ≡ is_site_in v ranges s j
low_is_site v ranges s j low =
    let e = byte_range_at ranges s.object in
    let far = displacement v e.home (reloc_at v j) == s.offset in
    first_drops (nat_lt s.object (length ranges)) ((reloc_at v j).at == s.at) (makes_part s.kind (reloc_at v j).kind) (gives_directly v e.home e.size s.offset j) (counts v (reloc_at v j) && any_below (gives_low_of v e.home e.size s.offset j) (length v.relocs))
    (drops_own (leads_to v e.home e.size j) (gives_own v j) far (own_none v j low))

none_below : (t : ℕ → Bool) (n : ℕ) → ((k : ℕ) → t k ≡ false) → any_below t n ≡ false
none_below t zero none = refl
none_below t (suc n) none = let earlier = none_below t n none in let here = none n in grind (arith, earlier, here)

drops_name : (a low here far : Bool) → low ≡ false → a && (low && here) && far ≡ false
drops_name true low here far none = rw none refl
drops_name false low here far none = refl

pub alone_is_site : (v : PlainView) (ranges : List ByteRange) (s : Site) (j : ℕ) → is_pair_low (reloc_at v j).kind ≡ false → gives_alone v ranges s j ≡ is_site_in v ranges s j
alone_is_site v ranges s j low =
    let e = byte_range_at ranges s.object in
    let test = gives_low_of v e.home e.size s.offset j in
    second_drops (nat_lt s.object (length ranges)) ((reloc_at v j).at == s.at) (makes_part s.kind (reloc_at v j).kind) (gives_directly v e.home e.size s.offset j) (counts v (reloc_at v j)) (any_below test (length v.relocs))
    (none_below test (length v.relocs) (λ i. drops_name (leads_to v e.home e.size i && is_rewritable_pair v (reloc_at v i)) (is_pair_low (reloc_at v j).kind) ((symbol_of v (reloc_at v j)).value == (reloc_at v i).at) (displacement v e.home (reloc_at v i) == s.offset) low))

-- ---- words of data

pub word_is : (v : PlainView) (i : ℕ) → (reloc_at v i).kind ≡ 1 → is_rewritable_kind v i ≡ true → is_rewritable_word v i (reloc_at v i) ≡ true
word_is v i kind rewritable =
    let r = reloc_at v i in
    let word = is_rewritable_word v i r in
    let high = is_rewritable_high v r in
    let low = is_rewritable_low v r in
    elim (either (word || high || low) (is_rewritable_pair v r) rewritable) [
      | inr last ↦ let wrong = (pair_parts v r last).kind in absurd (omega (arith, kind, wrong))
      | inl front ↦ elim (either (word || high) low front) [
        | inr third ↦ elim (low_parts v r third).low [
          | inl wide ↦ let wrong = wide.0 in absurd (omega (arith, kind, wrong))
          | inr half ↦ let wrong = half.0 in absurd (omega (arith, kind, wrong))
        ]
        | inl first ↦ elim (either word high first) [
          | inr second ↦ let wrong = (high_parts v r second).kind in absurd (omega (arith, kind, wrong))
          | inl one ↦ one
        ]
      ]
    ]

ordered_word : (a o f len leads far word a' : Bool) → a ≡ a' → word ≡ true → o && f ≡ len && (leads && far) → a && o && f ≡ len && (a' && leads && word && far)
ordered_word true o f len true far word a' first second rest = rw (← first, second) rest
ordered_word true o f len false far word a' first second rest = rw (← first) rest
ordered_word false o f true leads far word a' first second rest = rw (← first) refl
ordered_word false o f false leads far word a' first second rest = refl

pub word_found : (v : PlainView) (ranges : List ByteRange) (at : ℕ) (lead : Lead) (i : ℕ) → at ≡ (reloc_at v i).at → (reloc_at v i).kind ≡ 1 → is_rewritable_kind v i ≡ true → ((k o : ℕ) → (lead.object == k) && (lead.offset == o) ≡ leads_by v ranges k o i) → (d : DataWord) → same_word d (record { at = at; object = lead.object; offset = lead.offset }) ≡ is_word_in v ranges d i
word_found v ranges at lead i is_at kind rewritable leads d =
    let e = byte_range_at ranges d.object in
    let turned = ap (λ (b : Bool). b && (d.offset == lead.offset)) (equal_turned d.object lead.object) ∙ ap (λ (b : Bool). (lead.object == d.object) && b) (equal_turned d.offset lead.offset) in
    ordered_word (d.at == at) (d.object == lead.object) (d.offset == lead.offset) (nat_lt d.object (length ranges)) (leads_to v e.home e.size i) (displacement v e.home (reloc_at v i) == d.offset) (is_rewritable_word v i (reloc_at v i)) ((reloc_at v i).at == d.at)
    (equal_turned d.at at ∙ ap (λ (b : ℕ). b == d.at) is_at) (word_is v i kind rewritable) (turned ∙ leads d.object d.offset)

no_word_there : (len a leads word far : Bool) → word ≡ false → false ≡ len && (a && leads && word && far)
no_word_there len a leads word far none = grind (arith, none)

pub word_missing : (v : PlainView) (ranges : List ByteRange) (i : ℕ) → is_rewritable_word v i (reloc_at v i) ≡ false → (d : DataWord) → false ≡ is_word_in v ranges d i
word_missing v ranges i none d =
    let e = byte_range_at ranges d.object in
    no_word_there (nat_lt d.object (length ranges)) ((reloc_at v i).at == d.at) (leads_to v e.home e.size i) (is_rewritable_word v i (reloc_at v i)) (displacement v e.home (reloc_at v i) == d.offset) none

-- none of another kind, or that isn't rewritable
pub word_of_kind : (v : PlainView) (i : ℕ) → ((reloc_at v i).kind ≡ 1 → ⊥) → is_rewritable_word v i (reloc_at v i) ≡ false
word_of_kind v i other = no_word ((reloc_at v i).kind == 1) _ _ _ _ (ne_eqb (reloc_at v i).kind 1 other)

pub word_of_rewritable : (v : PlainView) (i : ℕ) → is_rewritable_kind v i ≡ false → is_rewritable_word v i (reloc_at v i) ≡ false
word_of_rewritable v i none =
    let r = reloc_at v i in
    let word = is_rewritable_word v i r in
    let high = is_rewritable_high v r in
    let low = is_rewritable_low v r in
    (neither word high (neither (word || high) low (neither (word || high || low) (is_rewritable_pair v r) none).0).0).0

no_word_led : (len a leads word far : Bool) → false ≡ len && (leads && far) → false ≡ len && (a && leads && word && far)
no_word_led true a true word far none = grind (arith, none)
no_word_led true a false word far none = grind arith
no_word_led false a leads word far none = refl

pub word_nowhere : (v : PlainView) (ranges : List ByteRange) (i : ℕ) → ((k o : ℕ) → false ≡ leads_by v ranges k o i) → (d : DataWord) → false ≡ is_word_in v ranges d i
word_nowhere v ranges i none d =
    let e = byte_range_at ranges d.object in
    no_word_led (nat_lt d.object (length ranges)) ((reloc_at v i).at == d.at) (leads_to v e.home e.size i) (is_rewritable_word v i (reloc_at v i)) (displacement v e.home (reloc_at v i) == d.offset) (none d.object d.offset)

-- The words of sites can be made anew, and share no byte with words of data.
use Rattle.std.proofs.Common.{◌≡◌, ◌≢◌, ◌∙◌, ◌⊎◌, inl, inr, ℕ, ◌<◌, ◌==◌, nat_lt, nat_le, Bool, true, false, not, ◌&&◌, ◌||◌, List, length, slice_index_or, refl, sym, subst, arith}
use Rattle.std.proofs.lemmas.Bool.{eqb-true, ltb-true}
use Rattle.std.proofs.lemmas.Bool.Decides.{nat_tests}
use Rattle.std.proofs.lemmas.List.{get_or_default}
use Rattle.std.proofs.lemmas.List.Folds.{list_any_at}
use Rattle.list_checks.specs.Tests.{any_below, ranges_overlap}
use Rattle.list_checks.proofs.TestLemmas.{either, both, not_true, any_found, none_at}
use Rattle.rv32im.specs.Fields.{opcode_of, rd_of, rs1_of, rs2_of, u_immediate}
use Rattle.rv32im.specs.Words.{lower_half}
use Rattle.rv32im.specs.declared.instructions.Instr.TheVariants.{Lui, Auipc, Load, Store, OpImm}
use Rattle.rv32im.specs.declared.instructions.ImmKind.TheVariants.{Addi}
use Rattle.elf_reader.specs.File.{PlainView}
use Rattle.elf_reader.specs.declared.view.Reloc.{Reloc}
use Rattle.loaded_file.specs.Code.{is_code_word, image_word}
use Rattle.loaded_file.specs.Records.{reloc_at, counts, target, is_hint, width_of}
use Rattle.object_graph.specs.Rewritable.{is_meant, displacement, holds_data, cuts_range, changes_word, is_rewritable_word, is_rewritable_high, is_rewritable_low, is_rewritable_pair, distance, names_high}
use Rattle.object_graph.specs.Fixed.{leads_to}
use Rattle.loaded_file.proofs.ByteRangeLemmas.{both_made}
use Rattle.object_graph.specs.declared.parts.Object.{Object}
use Rattle.object_graph.specs.declared.parts.SiteKind.{SiteKind}
use Rattle.object_graph.specs.declared.parts.SiteKind.TheVariants.{Hi, LowI, LowS}
use Rattle.object_graph.specs.declared.parts.Site.{Site}
use Rattle.object_graph.specs.declared.parts.DataWord.{DataWord}
use Rattle.object_graph.specs.Graphs.{object_at, makes_part, gives_directly, gives_low_of, gives_offset, gives_site, same_part, same_site, IsSites, gives_word, same_word, IsWords}
use Rattle.object_graph.specs.Laws.{HasLower, StoresAtLower}
use Rattle.object_graph.proofs.RewritableLemmas.{high_parts, low_parts, pair_parts}
use Rattle.object_graph.proofs.LeadLemmas.{has_lower, stores_at_lower, paired_low}
use Rattle.relocator.specs.Gathering.{CanRewrite}
use Rattle.relocator.specs.SiteWords.{no_site, no_word}

-- ---- one instruction

of_lui : (part : SiteKind) (kind w : ℕ) → makes_part part kind ≡ true → kind ≡ 26 → opcode_of w ≡ 55 → CanRewrite part w
of_lui Hi kind w makes is opcode = record { instr = Lui (rd_of w) (u_immediate w); means = (opcode, refl, refl); can = tt }
of_lui LowI kind w makes is opcode = grind (arith, nat_tests, makes, is)
of_lui LowS kind w makes is opcode = grind (arith, nat_tests, makes, is)

of_auipc : (part : SiteKind) (kind w : ℕ) → makes_part part kind ≡ true → kind ≡ 23 → opcode_of w ≡ 23 → CanRewrite part w
of_auipc Hi kind w makes is opcode = record { instr = Auipc (rd_of w) (u_immediate w); means = (opcode, refl, refl); can = tt }
of_auipc LowI kind w makes is opcode = grind (arith, nat_tests, makes, is)
of_auipc LowS kind w makes is opcode = grind (arith, nat_tests, makes, is)

lower_of : (w a : ℕ) → HasLower w a → CanRewrite LowI w
lower_of w a (inl adds) = record { instr = OpImm Addi (rd_of w) (rs1_of w) (lower_half a); means = adds; can = tt }
lower_of w a (inr loads) = record { instr = Load loads.0 (rd_of w) (rs1_of w) (lower_half a); means = loads.1; can = tt }

stored_of : (w a : ℕ) → StoresAtLower w a → CanRewrite LowS w
stored_of w a stores = record { instr = Store stores.0 (rs1_of w) (rs2_of w) (lower_half a); means = stores.1; can = tt }

of_lower : (part : SiteKind) (kind w : ℕ) → makes_part part kind ≡ true → (kind ≡ 27) ⊎ (kind ≡ 24) → CanRewrite LowI w → CanRewrite part w
of_lower Hi kind w makes (inl is) can = grind (arith, nat_tests, makes, is)
of_lower Hi kind w makes (inr is) can = grind (arith, nat_tests, makes, is)
of_lower LowI kind w makes is can = can
of_lower LowS kind w makes (inl is) can = grind (arith, nat_tests, makes, is)
of_lower LowS kind w makes (inr is) can = grind (arith, nat_tests, makes, is)

of_stored : (part : SiteKind) (kind w : ℕ) → makes_part part kind ≡ true → (kind ≡ 28) ⊎ (kind ≡ 25) → CanRewrite LowS w → CanRewrite part w
of_stored Hi kind w makes (inl is) can = grind (arith, nat_tests, makes, is)
of_stored Hi kind w makes (inr is) can = grind (arith, nat_tests, makes, is)
of_stored LowI kind w makes (inl is) can = grind (arith, nat_tests, makes, is)
of_stored LowI kind w makes (inr is) can = grind (arith, nat_tests, makes, is)
of_stored LowS kind w makes is can = can

-- ---- one relocation

-- relocation `j` counts, is of a kind that gives sites, and changes a word of code that can be made anew
pub record Rewrites (v : PlainView) (part : SiteKind) (j : ℕ) : Type 0 where
  pub counted : counts v (reloc_at v j) ≡ true
  pub least : 22 < (reloc_at v j).kind
  pub most : (reloc_at v j).kind < 29
  pub code : is_code_word v (reloc_at v j).at ≡ true
  pub can : CanRewrite part (image_word v (reloc_at v j).at)

made : (v : PlainView) (part : SiteKind) (j : ℕ) → makes_part part (reloc_at v j).kind ≡ true → counts v (reloc_at v j) ≡ true → is_code_word v (reloc_at v j).at ≡ true → CanRewrite part (image_word v (reloc_at v j).at) → Rewrites v part j
made v part j makes counted code can =
    let kinds = site_kinds part (reloc_at v j).kind makes in
    record { counted = counted; least = kinds.0; most = kinds.1; code = code; can = can }
  where
    site_kinds : (part : SiteKind) (kind : ℕ) → makes_part part kind ≡ true → (22 < kind) × (kind < 29)
    site_kinds Hi kind makes = elim (either (kind == 26) (kind == 23) makes) [
      | inl is ↦ let e = eqb-true kind 26 is in (omega (arith, e), omega (arith, e))
      | inr is ↦ let e = eqb-true kind 23 is in (omega (arith, e), omega (arith, e))
    ]
    site_kinds LowI kind makes = elim (either (kind == 27) (kind == 24) makes) [
      | inl is ↦ let e = eqb-true kind 27 is in (omega (arith, e), omega (arith, e))
      | inr is ↦ let e = eqb-true kind 24 is in (omega (arith, e), omega (arith, e))
    ]
    site_kinds LowS kind makes = elim (either (kind == 28) (kind == 25) makes) [
      | inl is ↦ let e = eqb-true kind 28 is in (omega (arith, e), omega (arith, e))
      | inr is ↦ let e = eqb-true kind 25 is in (omega (arith, e), omega (arith, e))
    ]

by_itself : (v : PlainView) (part : SiteKind) (home n offset j : ℕ) → makes_part part (reloc_at v j).kind ≡ true → gives_directly v home n offset j ≡ true → Rewrites v part j
by_itself v part home n offset j makes gives =
    let r = reloc_at v j in
    let w = image_word v r.at in
    let high = is_rewritable_high v r in
    let low = is_rewritable_low v r in
    let pair = is_rewritable_pair v r in
    let two = both (leads_to v home n j && (high || low || pair)) (displacement v home r == offset) gives in
    let one = both (leads_to v home n j) (high || low || pair) two.0 in
    let near = both (counts v r && is_meant v home n r) (nat_le (displacement v home r) n) one.0 in
    let counted = (both (counts v r) (is_meant v home n r) near.0).0 in
    elim (either (high || low) pair one.1) [
      | inr third ↦
          let is = pair_parts v r third in
          made v part j makes counted is.code (of_auipc part r.kind w makes is.kind is.opcode)
      | inl front ↦ elim (either high low front) [
        | inl first ↦
            let is = high_parts v r first in
            made v part j makes counted is.code (of_lui part r.kind w makes is.kind is.opcode)
        | inr second ↦
            let is = low_parts v r second in
            elim is.low [
              | inl wide ↦ made v part j makes counted is.code (of_lower part r.kind w makes (inl wide.0) (lower_of w (target v r) (has_lower w (target v r) wide.1)))
              | inr half ↦ made v part j makes counted is.code (of_stored part r.kind w makes (inl half.0) (stored_of w (target v r) (stores_at_lower w (target v r) half.1)))
            ]
      ]
    ]

by_high : (v : PlainView) (part : SiteKind) (home n offset j : ℕ) → j < length v.relocs → makes_part part (reloc_at v j).kind ≡ true → counts v (reloc_at v j) ≡ true → any_below (gives_low_of v home n offset j) (length v.relocs) ≡ true → Rewrites v part j
by_high v part home n offset j below makes counted given =
    let low = reloc_at v j in
    let w = image_word v low.at in
    let found = any_found (gives_low_of v home n offset j) (length v.relocs) given in
    let r = reloc_at v found.0 in
    let names = names_high v r low in
    let three = both (leads_to v home n found.0 && is_rewritable_pair v r && names) (displacement v home r == offset) found.2 in
    let two = both (leads_to v home n found.0 && is_rewritable_pair v r) names three.0 in
    let pair = pair_parts v r (both (leads_to v home n found.0) (is_rewritable_pair v r) two.0).1 in
    let is = paired_low v r j pair below counted two.1 in
    elim is.part [
      | inl wide ↦ made v part j makes counted is.code (of_lower part low.kind w makes (inr wide.0) (lower_of w (distance v r) wide.1))
      | inr half ↦ made v part j makes counted is.code (of_stored part low.kind w makes (inr half.0) (stored_of w (distance v r) half.1))
    ]

rewrites : (v : PlainView) (part : SiteKind) (home n offset j : ℕ) → j < length v.relocs → makes_part part (reloc_at v j).kind ≡ true → gives_offset v home n offset j ≡ true → Rewrites v part j
rewrites v part home n offset j below makes gives =
    let r = reloc_at v j in
    let low = any_below (gives_low_of v home n offset j) (length v.relocs) in
    elim (either (gives_directly v home n offset j) (counts v r && low) gives) [
      | inl direct ↦ by_itself v part home n offset j makes direct
      | inr named ↦ let parts = both (counts v r) low named in by_high v part home n offset j below makes parts.0 parts.1
    ]

-- ---- sites

same_number : (n : ℕ) → (n == n) ≡ true
same_number n = grind (arith, nat_tests)

same_kind : (k : SiteKind) → same_part k k ≡ true
same_kind Hi = refl
same_kind LowI = refl
same_kind LowS = refl

itself : (s : Site) → same_site s s ≡ true
itself s =
    both_made ((s.at == s.at) && same_part s.kind s.kind && (s.object == s.object)) (s.offset == s.offset)
    (both_made ((s.at == s.at) && same_part s.kind s.kind) (s.object == s.object)
    (both_made (s.at == s.at) (same_part s.kind s.kind) (same_number s.at) (same_kind s.kind)) (same_number s.object))
    (same_number s.offset)

-- a site of the list, and the relocation that gives it
pub record IsListed (v : PlainView) (count : ℕ) (s : Site) : Type 0 where
  pub object : s.object < count
  pub by : ℕ
  pub below : by < length v.relocs
  pub at : (reloc_at v by).at ≡ s.at
  pub rewrites : Rewrites v s.kind by

pub site_listed : (v : PlainView) (objects : List Object) (sites : List Site) (k : ℕ) → IsSites v objects sites → k < length sites → IsListed v (length objects) (slice_index_or sites k no_site)
site_listed v objects sites k is below =
    let s = slice_index_or sites k no_site in
    let given = sym (is.exact s) ∙ list_any_at (same_site s) sites k no_site below (itself s) in
    let parts = both (nat_lt s.object (length objects)) (any_below (gives_site v objects s) (length v.relocs)) given in
    let found = any_found (gives_site v objects s) (length v.relocs) parts.1 in
    let r = reloc_at v found.0 in
    let o = object_at objects s.object in
    let two = both ((r.at == s.at) && makes_part s.kind r.kind) (gives_offset v o.home o.size s.offset found.0) found.2 in
    let one = both (r.at == s.at) (makes_part s.kind r.kind) two.0 in
    record {
      object = ltb-true s.object (length objects) parts.0;
      by = found.0;
      below = found.1;
      at = eqb-true r.at s.at one.0;
      rewrites = rewrites v s.kind o.home o.size s.offset found.0 found.1 one.1 two.1;
    }

-- ---- words of data

word_itself : (d : DataWord) → same_word d d ≡ true
word_itself d =
    both_made ((d.at == d.at) && (d.object == d.object)) (d.offset == d.offset)
    (both_made (d.at == d.at) (d.object == d.object) (same_number d.at) (same_number d.object)) (same_number d.offset)

-- a word of data of the list: the relocation that gives it is of a kind of its own, and no other changes it
pub record IsWordListed (v : PlainView) (count : ℕ) (d : DataWord) : Type 0 where
  pub object : d.object < count
  pub by : ℕ
  pub at : (reloc_at v by).at ≡ d.at
  pub kind : (reloc_at v by).kind ≡ 1
  pub alone : any_below (changes_word v by (reloc_at v by).at) (length v.relocs) ≡ false

abbrev is_word_alone : PlainView → Reloc → Bool
is_word_alone v r =
    (r.kind == 1)
    && any_below (holds_data v r.at) (length v.sections)
    && not (any_below (cuts_range v r.at) (length v.symbols))
    && (image_word v r.at == target v r)

word_kind : (v : PlainView) (r : Reloc) → is_word_alone v r ≡ true → r.kind ≡ 1
word_kind v r word =
    let holds = any_below (holds_data v r.at) (length v.sections) in
    let cuts = any_below (cuts_range v r.at) (length v.symbols) in
    let front = both ((r.kind == 1) && holds && not cuts) (image_word v r.at == target v r) word in
    let third = both ((r.kind == 1) && holds) (not cuts) front.0 in
    eqb-true r.kind 1 (both (r.kind == 1) holds third.0).0

pub word_listed : (v : PlainView) (objects : List Object) (words : List DataWord) (k : ℕ) → IsWords v objects words → k < length words → IsWordListed v (length objects) (slice_index_or words k no_word)
word_listed v objects words k is below =
    let d = slice_index_or words k no_word in
    let given = sym (is.exact d) ∙ list_any_at (same_word d) words k no_word below (word_itself d) in
    let parts = both (nat_lt d.object (length objects)) (any_below (gives_word v objects d) (length v.relocs)) given in
    let found = any_found (gives_word v objects d) (length v.relocs) parts.1 in
    let j = found.0 in
    let r = reloc_at v j in
    let o = object_at objects d.object in
    let leads = leads_to v o.home o.size j in
    let sound = is_rewritable_word v j r in
    let three = both ((r.at == d.at) && leads && sound) (displacement v o.home r == d.offset) found.2 in
    let two = both ((r.at == d.at) && leads) sound three.0 in
    let changes = any_below (changes_word v j r.at) (length v.relocs) in
    let word = both (is_word_alone v r) (not changes) two.1 in
    record {
      object = ltb-true d.object (length objects) parts.0;
      by = j;
      at = eqb-true r.at d.at (both (r.at == d.at) leads two.0).0;
      kind = word_kind v r word.0;
      alone = not_true changes word.1;
    }

last_false : (a b c d : Bool) → a ≡ true → b ≡ true → c ≡ true → a && b && c && d ≡ false → d ≡ false
last_false a b c d first second third none = sym (rw (first, second, third) refl) ∙ none

-- a site and a word of data share no byte
pub site_off_word : (v : PlainView) (count : ℕ) (s : Site) (d : DataWord) → IsListed v count s → IsWordListed v count d → ranges_overlap s.at 4 d.at 4 ≡ false
site_off_word v count s d site word =
    let none = none_at (changes_word v word.by (reloc_at v word.by).at) (length v.relocs) site.by site.below word.alone in
    let r = site.rewrites in
    disjoint (reloc_at v site.by).at (reloc_at v site.by).kind s.at (reloc_at v word.by).at d.at site.by word.by (reloc_at v word.by).kind (counts v (reloc_at v site.by))
    site.at word.at r.least r.most word.kind (λ same. subst (λ (n : ℕ). (reloc_at v n).kind ≡ (reloc_at v word.by).kind) (sym same) refl) r.counted none
  where
    disjoint : (a kind b c d j i own : ℕ) (counted : Bool) → a ≡ b → c ≡ d → 22 < kind → kind < 29 → own ≡ 1 → (j ≡ i → kind ≡ own) → counted ≡ true → not (j == i) && counted && not (is_hint kind) && ranges_overlap c 4 a (width_of kind) ≡ false → ranges_overlap b 4 d 4 ≡ false
    disjoint a kind b c d j i own counted at_a at_c least most is_own other is_counted none =
        let differ : j ≢ i = λ same. let e = other same in omega (arith, e, is_own, least) in
        let width : width_of kind ≡ 4 = grind (arith, nat_tests, least, most) in
        let loud : is_hint kind ≡ false = grind (arith, nat_tests, least, most) in
        let none_there : ranges_overlap c 4 a 4 ≡ false = subst (λ (n : ℕ). ranges_overlap c 4 a n ≡ false) width (last_false (not (j == i)) counted (not (is_hint kind)) (ranges_overlap c 4 a (width_of kind)) (grind (arith, nat_tests, differ)) is_counted (rw loud refl) none) in
        grind (arith, nat_tests, at_a, at_c, none_there)

-- what a site of the list tells of its address, which is that of its relocation
pub code_of : (v : PlainView) (count : ℕ) (s : Site) → IsListed v count s → is_code_word v s.at ≡ true
code_of v count s is = subst (λ (a : ℕ). is_code_word v a ≡ true) is.at is.rewrites.code

pub can_of : (v : PlainView) (count : ℕ) (s : Site) → IsListed v count s → CanRewrite s.kind (image_word v s.at)
can_of v count s is = subst (λ (a : ℕ). CanRewrite s.kind (image_word v a)) is.at is.rewrites.can

pub listed_here : (v : PlainView) (objects : List Object) (sites : List Site) (k : ℕ) (s : Site) → IsSites v objects sites → k < length sites → s ≡ slice_index_or sites k s → IsListed v (length objects) s
listed_here v objects sites k s is below same =
    subst (λ (x : Site). IsListed v (length objects) x) (get_or_default sites k no_site s below ∙ sym same) (site_listed v objects sites k is below)

pub word_here : (v : PlainView) (objects : List Object) (words : List DataWord) (k : ℕ) → IsWords v objects words → k < length words → (slice_index_or words k no_word).object < length objects
word_here v objects words k is below = (word_listed v objects words k is below).object

-- Where the addresses of objects that may move are made: each at a code word of its own.
use Rattle.std.proofs.Common.{◌≡◌, inl, inr, ℕ, ◌<◌, ◌==◌, ◌%◌, Bool, true, false, not, ◌&&◌, ◌||◌, length, arith}
use Rattle.std.proofs.lemmas.Bool.{eqb-true}
use Rattle.std.proofs.lemmas.Bool.Decides.{nat_tests}
use Rattle.list_checks.specs.Tests.{any_below, ranges_overlap}
use Rattle.list_checks.proofs.TestLemmas.{either, both, any_found, any_at, none_at}
use Rattle.elf_reader.specs.File.{PlainSymbol, PlainView}
use Rattle.loaded_file.specs.Code.{holds_code, is_code_word}
use Rattle.board_config.specs.declared.board.Board.{Board}
use Rattle.loaded_file.specs.Records.{symbol_at, reloc_at, counts}
use Rattle.loaded_file.specs.Ranges.{has_range}
use Rattle.object_graph.specs.Rewritable.{is_rewritable_high, is_rewritable_low, is_rewritable_pair, names_high}
use Rattle.object_graph.specs.Fixed.{leads_to, gives_pair, is_site_of, is_site_by, shares_word, is_shared_by}
use Rattle.object_graph.specs.Laws.{GivesSite, SitesDisjoint}
use Rattle.loaded_file.proofs.RangeLemmas.{IsOf}
use Rattle.object_graph.proofs.MovableLemmas.{movable_parts}
use Rattle.object_graph.proofs.RewritableLemmas.{high_parts, low_parts, pair_parts}
use Rattle.object_graph.proofs.LeadLemmas.{paired_low}

-- the word of a site is code
own_code : (v : PlainView) (j : ℕ) → is_rewritable_high v (reloc_at v j) || is_rewritable_low v (reloc_at v j) || is_rewritable_pair v (reloc_at v j) ≡ true → is_code_word v (reloc_at v j).at ≡ true
own_code v j some =
    let r = reloc_at v j in
    let high = is_rewritable_high v r in
    let low = is_rewritable_low v r in
    elim (either (high || low) (is_rewritable_pair v r) some) [
      | inr pair ↦ (pair_parts v r pair).code
      | inl front ↦ elim (either high low front) [
        | inl first ↦ (high_parts v r first).code
        | inr second ↦ (low_parts v r second).code
      ]
    ]

pair_code : (v : PlainView) (home n j : ℕ) → j < length v.relocs → counts v (reloc_at v j) ≡ true → any_below (gives_pair v home n j) (length v.relocs) ≡ true → is_code_word v (reloc_at v j).at ≡ true
pair_code v home n j below counted given =
    let (i, below_i, gives) = any_found (gives_pair v home n j) (length v.relocs) given in
    let r = reloc_at v i in
    let names = names_high v r (reloc_at v j) in
    let whole = both (leads_to v home n i && is_rewritable_pair v r) names gives in
    let front = both (leads_to v home n i) (is_rewritable_pair v r) whole.0 in
    (paired_low v r j (pair_parts v r front.1) below counted whole.1).code

pub site_code : (v : PlainView) (home n j : ℕ) → j < length v.relocs → is_site_of v home n j ≡ true → is_code_word v (reloc_at v j).at ≡ true
site_code v home n j below site =
    let r = reloc_at v j in
    let own = is_rewritable_high v r || is_rewritable_low v r || is_rewritable_pair v r in
    let given = any_below (gives_pair v home n j) (length v.relocs) in
    elim (either (leads_to v home n j && own) (counts v r && given) site) [
      | inl first ↦ own_code v j (both (leads_to v home n j) own first).1
      | inr second ↦ let parts = both (counts v r) given second in pair_code v home n j below parts.0 parts.1
    ]

-- so it stands at a multiple of four
site_even : (v : PlainView) (board : Board) (i : ℕ) → GivesSite v board i → (reloc_at v i).at % 4 ≡ 0
site_even v board i gives =
    let at = (reloc_at v i).at in
    let code = site_code v gives.home gives.bytes i gives.below gives.site in
    eqb-true (at % 4) 0 (both (at % 4 == 0) (any_below (holds_code v at) (length v.sections)) code).0

same_word : (a b : ℕ) → a % 4 ≡ 0 → b % 4 ≡ 0 → ranges_overlap a 4 b 4 ≡ true → a ≡ b
same_word a b even even' overlap = grind (arith, nat_tests, even, even', overlap)

-- a site of the object of a symbol
by_symbol : (v : PlainView) (home n i : ℕ) (s : PlainSymbol) → IsOf v home n s → is_site_of v home n i ≡ true → has_range v s && is_site_of v s.value s.size i ≡ true
by_symbol v home n i s of site = rw (of.test, of.value, of.size) site

-- the relocation gives a site of the object of some symbol
site_by : (v : PlainView) (board : Board) (i : ℕ) → GivesSite v board i → any_below (is_site_by v i) (length v.symbols) ≡ true
site_by v board i gives =
    let moves = movable_parts v board gives.home gives.bytes gives.movable in
    any_at (is_site_by v i) (length v.symbols) moves.symbol moves.below (by_symbol v gives.home gives.bytes i (symbol_at v moves.symbol) moves.of gives.site)

-- two sites at one word, of which one is of an object that isn't shared
one_site : (same here site : Bool) → not same && here && site ≡ false → here ≡ true → site ≡ true → same ≡ true
one_site same here site none is_here is_site = grind (arith, none, is_here, is_site)

other_fails : (site shares : Bool) → site && shares ≡ false → site ≡ true → shares ≡ false
other_fails site shares none is_site = grind (arith, none, is_site)

same_place : (a b : ℕ) → a ≡ b → (a == b) ≡ true
same_place a b same = grind (arith, nat_tests, same)

pub sites_disjoint : SitesDisjoint
sites_disjoint v board i j gives other overlap =
    let a = (reloc_at v i).at in
    let b = (reloc_at v j).at in
    let word = same_word a b (site_even v board i gives) (site_even v board j other) overlap in
    let moves = movable_parts v board other.home other.bytes other.movable in
    let shares = any_below (shares_word v j) (length v.relocs) in
    let none = none_at (is_shared_by v other.home other.bytes) (length v.relocs) j other.below moves.unshared in
    let alone = none_at (shares_word v j) (length v.relocs) i gives.below (other_fails (is_site_of v other.home other.bytes j) shares none other.site) in
    eqb-true i j (one_site (i == j) (a == b) (any_below (is_site_by v i) (length v.symbols)) alone (same_place a b word) (site_by v board i gives))

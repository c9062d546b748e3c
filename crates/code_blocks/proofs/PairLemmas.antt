-- Call pairs, and the leaders that rest on them.
use Rattle.std.proofs.Common.{◌≡◌, ◌∙◌, ℕ, ◌+◌, ◌-◌, ◌*◌, ◌/◌, ◌%◌, ◌<◌, ◌≤◌, ◌==◌, Bool, true, false, not, ◌&&◌, ◌||◌, List, [], ◌∷◌, ◌++◌, length, take, slice_index_or, refl, sym, ap, subst, arith}
use Rattle.std.specs.List.{list_any}
use Rattle.std.specs.List.Sorted.{IsStrictlyIncreasing}
use Rattle.std.proofs.Math.Seq.{take-length}
use Rattle.std.proofs.lemmas.Bool.{eqb-true, eq-eqb, and_left, and_right}
use Rattle.std.proofs.lemmas.Bool.Decides.{nat_tests}
use Rattle.std.proofs.lemmas.List.Folds.{Any-from_list_any, list_any_at, list_any-append, list_any_more}
use Rattle.list_checks.specs.Tests.{any_below, lies_in}
use Rattle.list_checks.proofs.TestLemmas.{both, not_true, same_tests, any_found, any_at}
use Rattle.rv32im.specs.Fields.{opcode_of, rd_of, rs1_of, funct3_of, u_immediate, i_immediate}
use Rattle.rv32im.specs.Words.{plus, offset}
use Rattle.elf_reader.specs.File.{PlainView}
use Rattle.elf_reader.specs.Loaded.{section_at}
use Rattle.elf_reader.specs.declared.view.Reloc.{Reloc}
use Rattle.loaded_file.specs.Code.{is_code_range, holds_code, is_code_word, image_word}
use Rattle.loaded_file.specs.Records.{reloc_at, counts, target, is_call_kind}
use Rattle.loaded_file.proofs.WordLemmas.{lies_from, lies_to}
use Rattle.code_blocks.specs.Words.{is_jalr, is_auipc, links, pair_target, code_word, passes_at, passes_in, any_code_word}
use Rattle.code_blocks.specs.Leaders.{is_named, is_early, calls, is_pair_of_words, is_call_by, is_call_pair, pair_goes_to, pair_comes_back, is_leader, link_comes_back, is_indirect}
use Rattle.code_blocks.specs.Early.{has}
use Rattle.code_blocks.specs.Pairs.{AreThose, is_barred, fits_pair, are_code_words, may_be_pair, makes_pair, leads_to, returns_to}
use Rattle.code_blocks.proofs.EarlyLemmas.{none_more, more_by, by_rules}
use Rattle.code_blocks.proofs.LeaderLemmas.{both_pass}
use Rattle.code_blocks.proofs.SearchLemmas.{has_found, has_at}

-- ---- some word of code passes a test

pub word_found : (v : PlainView) (test : ℕ → Bool) → any_code_word v test ≡ true → (p : ℕ) × (test p ≡ true)
word_found v test found =
    let (k, below, in_k) = any_found (passes_in v test) (length v.sections) found in
    let range = both (is_code_range v k) _ in_k in
    let (i, inside, at_i) = any_found (passes_at v test k) ((section_at v k).size / 4 + 1) range.1 in
    let word = both (lies_in (section_at v k).addr (section_at v k).size (code_word v k i) 4) _ at_i in
    (code_word v k i, word.1)

-- the number of a word in its range
record Numbered (start size p : ℕ) : Type 0 where
  pub number : ℕ
  pub below : number < size / 4 + 1
  pub is : (start + 3) / 4 * 4 + 4 * number ≡ p

numbered : (start size p : ℕ) → p % 4 ≡ 0 → start ≤ p → p + 4 ≤ start + size → Numbered start size p
numbered start size p even from to =
    record {
      number = (p - (start + 3) / 4 * 4) / 4;
      below = omega (arith, even, from, to);
      is = omega (arith, even, from, to);
    }

pub word_at : (v : PlainView) (test : ℕ → Bool) (p : ℕ) → is_code_word v p ≡ true → test p ≡ true → any_code_word v test ≡ true
word_at v test p code passes =
    let whole = both (p % 4 == 0) _ code in
    let (k, below, holds) = any_found (holds_code v p) (length v.sections) whole.1 in
    let s = section_at v k in
    let parts = both (is_code_range v k) (lies_in s.addr s.size p 4) holds in
    let place = numbered s.addr s.size p (eqb-true _ _ whole.0) (lies_from s.addr s.size p 4 parts.1) (lies_to s.addr s.size p 4 parts.1) in
    let here : code_word v k place.number ≡ p = place.is in
    let lies : lies_in s.addr s.size (code_word v k place.number) 4 ≡ true = ap (λ q. lies_in s.addr s.size q 4) here ∙ parts.1 in
    let there : test (code_word v k place.number) ≡ true = ap test here ∙ passes in
    any_at (passes_in v test) (length v.sections) k below
    (both_pass (is_code_range v k) _ parts.0
    (any_at (passes_at v test k) (s.size / 4 + 1) place.number place.below (both_pass _ _ lies there)))

-- ---- what a call pair is

pub record IsPair (v : PlainView) (p : ℕ) : Type 0 where
  pub code : is_code_word v p ≡ true
  pub behind : is_code_word v (p + 4) ≡ true
  pub words : is_pair_of_words v p ≡ true
  pub reloc : any_below (is_call_by v p) (length v.relocs) ≡ true
  pub goes : is_code_word v (pair_target v p) ≡ true
  pub not_early : is_early v (p + 4) ≡ false
  pub not_called : any_below (calls v (p + 4)) (length v.relocs) ≡ false

pub pair_parts : (v : PlainView) (p : ℕ) → is_call_pair v p ≡ true → IsPair v p
pair_parts v p pair =
    let code = is_code_word v p in
    let behind = is_code_word v (p + 4) in
    let words = is_pair_of_words v p in
    let reloc = any_below (is_call_by v p) (length v.relocs) in
    let goes = is_code_word v (pair_target v p) in
    let early = is_early v (p + 4) in
    let called = any_below (calls v (p + 4)) (length v.relocs) in
    let seven = both (code && behind && words && reloc && goes && not early) (not called) pair in
    let six = both (code && behind && words && reloc && goes) (not early) seven.0 in
    let five = both (code && behind && words && reloc) goes six.0 in
    let four = both (code && behind && words) reloc five.0 in
    let three = both (code && behind) words four.0 in
    let two = both code behind three.0 in
    record {
      code = two.0;
      behind = two.1;
      words = three.1;
      reloc = four.1;
      goes = five.1;
      not_early = not_true early six.1;
      not_called = not_true called seven.1;
    }

-- the tests of a pair in another order
reordered : (a w t e k r : Bool) → (a && w && t && not (e || k)) && r ≡ a && w && r && t && not e && not k
reordered false w t e k r = refl
reordered true false t e k r = refl
reordered true true t e k true = grind arith
reordered true true t e k false = grind arith

pub pair_is : (v : PlainView) (p : ℕ) → may_be_pair v p && any_below (is_call_by v p) (length v.relocs) ≡ is_call_pair v p
pair_is v p =
    reordered (are_code_words v p) (is_pair_of_words v p) (is_code_word v (pair_target v p)) (is_early v (p + 4)) (any_below (calls v (p + 4)) (length v.relocs)) (any_below (is_call_by v p) (length v.relocs))

-- whether two words of code are a pair to `to`, by the words
both_open : (a w c n e : Bool) → a ≡ true → w ≡ true → c && n && e ≡ a && w && c && n && e
both_open a w c n e first second = rw (first, second) refl

first_shut : (a w c n e : Bool) → a ≡ false → false ≡ a && w && c && n && e
first_shut a w c n e first = rw first refl

second_shut : (a w c n e : Bool) → w ≡ false → false ≡ a && w && c && n && e
second_shut a w c n e second = sym (ap (λ b. b && c && n && e) (and_right a w second))

pair_of : (v : PlainView) (at first second : ℕ) (fits told : Bool) → first ≡ image_word v at → second ≡ image_word v (at + 4) → fits ≡ fits_pair first second → fits ≡ told → is_pair_of_words v at ≡ told
pair_of v at first second fits told here behind is tested = sym (is ∙ (λ i. fits_pair (here i) (behind i))) ∙ tested

pub pair_to : (v : PlainView) (at to first second goes : ℕ) (fits result : Bool) → are_code_words v at ≡ true → first ≡ image_word v at → second ≡ image_word v (at + 4)
    → fits ≡ fits_pair first second → fits ≡ true → goes ≡ offset (plus at (4096 * u_immediate first)) (i_immediate second) → result ≡ is_code_word v goes && not (is_barred v (at + 4)) && (goes == to)
    → result ≡ may_be_pair v at && (pair_target v at == to)
pair_to v at to first second goes fits result words here behind is so leads told =
    let there : goes ≡ pair_target v at = leads ∙ (λ i. offset (plus at (4096 * u_immediate (here i))) (i_immediate (behind i))) in
    told
    ∙ ap (λ (a : ℕ). is_code_word v a && not (is_barred v (at + 4)) && (a == to)) there
    ∙ both_open (are_code_words v at) (is_pair_of_words v at) (is_code_word v (pair_target v at)) (not (is_barred v (at + 4))) (pair_target v at == to) words (pair_of v at first second fits true here behind is so)

pub no_pair_fits : (v : PlainView) (at to first second : ℕ) (fits : Bool) → first ≡ image_word v at → second ≡ image_word v (at + 4) → fits ≡ fits_pair first second → fits ≡ false → false ≡ may_be_pair v at && (pair_target v at == to)
no_pair_fits v at to first second fits here behind is otherwise =
    second_shut (are_code_words v at) (is_pair_of_words v at) (is_code_word v (pair_target v at)) (not (is_barred v (at + 4))) (pair_target v at == to) (pair_of v at first second fits false here behind is otherwise)

pub no_pair_there : (v : PlainView) (at to : ℕ) → are_code_words v at ≡ false → false ≡ may_be_pair v at && (pair_target v at == to)
no_pair_there v at to none =
    first_shut (are_code_words v at) (is_pair_of_words v at) (is_code_word v (pair_target v at)) (not (is_barred v (at + 4))) (pair_target v at == to) none

-- a relocation makes the pair where it stands
placed : (m m' c e t t' : Bool) → (e ≡ true → m ≡ m') → (e ≡ true → t ≡ t') → m && (c && e && t) ≡ c && (m' && t') && e
placed m m' c true t t' same goes = let one = same refl in let two = goes refl in grind (arith, one, two)
placed m m' c false t t' same goes = grind arith

pub pair_at : (v : PlainView) (p i : ℕ) (r : Reloc) → reloc_at v i ≡ r → may_be_pair v p && is_call_by v p i ≡ makes_pair v r && (r.at == p)
pair_at v p i r is =
    ap (λ (q : Reloc). may_be_pair v p && (counts v q && is_call_kind q.kind && (q.at == p) && (pair_target v p == target v q))) is
    ∙ placed (may_be_pair v p) (may_be_pair v r.at) (counts v r && is_call_kind r.kind) (r.at == p) (pair_target v p == target v r) (pair_target v r.at == target v r)
    (λ same. ap (may_be_pair v) (sym (eqb-true r.at p same)))
    (λ same. ap (λ q. pair_target v q == target v r) (sym (eqb-true r.at p same)))

-- ---- lists of addresses that grow

turned : (a x : ℕ) → (a == x) || false ≡ (x == a)
turned a x = grind (arith, nat_tests)

pub has_push : (xs : List ℕ) (x a : ℕ) → has (xs ++ x ∷ []) a ≡ has xs a || (x == a)
has_push xs x a = list_any-append (λ y. a == y) xs (x ∷ []) ∙ ap (λ b. has xs a || b) (turned a x)

pub nothing_added : (o x : Bool) → x ≡ false → o ≡ o || x
nothing_added true x none = refl
nothing_added false x none = sym none

-- one more place of a list
pub listed_more : (n m o c : Bool) (test : ℕ → Bool) (xs : List ℕ) (i : ℕ) → i < length xs → m ≡ o || c && list_any test (take i xs) → n ≡ m || c && test (slice_index_or xs i 0)
    → n ≡ o || c && list_any test (take (i + 1) xs)
listed_more n m o c test xs i below first second =
    rw (list_any_more test xs i 0 below) (more_by n m o c (list_any test (take i xs)) (test (slice_index_or xs i 0)) first second)

-- all places of a list
pub listed_all : (n o c : Bool) (test : ℕ → Bool) (xs : List ℕ) (i : ℕ) → i ≡ length xs → n ≡ o || c && list_any test (take i xs) → n ≡ o || c && list_any test xs
listed_all n o c test xs i all so_far =
    so_far ∙ ap (λ (ys : List ℕ). o || c && list_any test ys) (ap (λ (j : ℕ). take j xs) all ∙ take-length xs)

-- ---- what one pair adds where it comes back

behind_open : (n o c w l here : Bool) → w ≡ true → l ≡ true → n ≡ o || c && here → n ≡ o || c && (w && l && here)
behind_open n o c w l here words links is = rw (words, links) is

behind_shut : (o c w l here : Bool) → w && l ≡ false → o ≡ o || c && (w && l && here)
behind_shut o c w l here none = rw none (none_more o c)

pub return_added : (v : PlainView) (a p second : ℕ) (n o linked : Bool) → are_code_words v p ≡ true → second ≡ image_word v (p + 4) → linked ≡ links second → linked ≡ true → n ≡ o || is_code_word v a && (p + 8 == a)
    → n ≡ o || is_code_word v a && returns_to v a p
return_added v a p second n o linked words is told so added =
    behind_open n o (is_code_word v a) (are_code_words v p) (links (image_word v (p + 4))) (p + 8 == a) words (ap links (sym is) ∙ sym told ∙ so) added

pub no_return : (v : PlainView) (a p second : ℕ) (o linked : Bool) → second ≡ image_word v (p + 4) → linked ≡ links second → linked ≡ false → o ≡ o || is_code_word v a && returns_to v a p
no_return v a p second o linked is told otherwise =
    behind_shut o (is_code_word v a) (are_code_words v p) (links (image_word v (p + 4))) (p + 8 == a) (and_right _ _ (ap links (sym is) ∙ sym told ∙ otherwise))

pub no_words : (v : PlainView) (a p : ℕ) (o : Bool) → are_code_words v p ≡ false → o ≡ o || is_code_word v a && returns_to v a p
no_words v a p o none =
    behind_shut o (is_code_word v a) (are_code_words v p) (links (image_word v (p + 4))) (p + 8 == a) (and_left _ _ none)

-- ---- leaders that rest on pairs

over_pairs : (v : PlainView) (pairs : List ℕ) (listed word : ℕ → Bool) → ((p : ℕ) → has pairs p ≡ is_call_pair v p)
    → ((p : ℕ) → is_call_pair v p ≡ true → listed p ≡ word p) → ((p : ℕ) → word p ≡ true → is_call_pair v p ≡ true)
    → list_any listed pairs ≡ any_code_word v word
over_pairs v pairs listed word exact same pair =
    same_tests (list_any listed pairs) (any_code_word v word)
    (λ found.
    let (k, p, below, here, passes) = Any-from_list_any listed pairs found in
    let is : is_call_pair v p ≡ true = sym (exact p) ∙ has_at pairs p k below here in
    word_at v word p (pair_parts v p is).code (sym (same p is) ∙ passes))
    (λ found.
    let (p, passes) = word_found v word found in
    let (k, below, here) = has_found pairs p (exact p ∙ pair p passes) in
    list_any_at listed pairs k 0 below (ap listed here ∙ same p (pair p passes) ∙ passes))

-- both words of a pair are code
both_code : (v : PlainView) (p : ℕ) → is_call_pair v p ≡ true → are_code_words v p ≡ true
both_code v p pair = let parts = pair_parts v p pair in both_pass (is_code_word v p) (is_code_word v (p + 4)) parts.code parts.behind

first_of_three : (a b c : Bool) → a && b && c ≡ true → a ≡ true
first_of_three a b c passes = (both a b (both (a && b) c passes).0).0

pub targets_of_pairs : (v : PlainView) (pairs : List ℕ) (a : ℕ) → ((p : ℕ) → has pairs p ≡ is_call_pair v p) → list_any (leads_to v a) pairs ≡ any_code_word v (pair_goes_to v a)
targets_of_pairs v pairs a exact =
    over_pairs v pairs (leads_to v a) (pair_goes_to v a) exact
    (λ p pair. ap (λ b. b && (pair_target v p == a)) (both_code v p pair ∙ sym pair))
    (λ p passes. (both (is_call_pair v p) _ passes).0)

pub returns_of_pairs : (v : PlainView) (pairs : List ℕ) (a : ℕ) → ((p : ℕ) → has pairs p ≡ is_call_pair v p) → list_any (returns_to v a) pairs ≡ any_code_word v (pair_comes_back v a)
returns_of_pairs v pairs a exact =
    over_pairs v pairs (returns_to v a) (pair_comes_back v a) exact
    (λ p pair. ap (λ b. b && links (image_word v (p + 4)) && (p + 8 == a)) (both_code v p pair ∙ sym pair))
    (λ p passes. first_of_three (is_call_pair v p) (links (image_word v (p + 4))) (p + 8 == a) passes)

pub are_leaders : (v : PlainView) (pairs : List ℕ) (a : ℕ) (n m o : Bool) → ((p : ℕ) → has pairs p ≡ is_call_pair v p)
    → o ≡ is_early v a → m ≡ o || is_code_word v a && list_any (leads_to v a) pairs → n ≡ m || is_code_word v a && list_any (returns_to v a) pairs → n ≡ is_leader v a
are_leaders v pairs a n m o exact early first second =
    more_by n m o (is_code_word v a) (list_any (leads_to v a) pairs) (list_any (returns_to v a) pairs) first second
    ∙ ap (λ b. b || is_code_word v a && (list_any (leads_to v a) pairs || list_any (returns_to v a) pairs)) early
    ∙ ap (λ b. is_early v a || is_code_word v a && (b || list_any (returns_to v a) pairs)) (targets_of_pairs v pairs a exact)
    ∙ ap (λ b. is_early v a || is_code_word v a && (any_code_word v (pair_goes_to v a) || b)) (returns_of_pairs v pairs a exact)

pub are_indirect : (v : PlainView) (pairs : List ℕ) (a : ℕ) (n m o e : Bool) → ((p : ℕ) → has pairs p ≡ is_call_pair v p) → e ≡ false
    → o ≡ e || is_code_word v a && is_named v a → m ≡ o || is_code_word v a && any_code_word v (link_comes_back v a)
    → n ≡ m || is_code_word v a && list_any (returns_to v a) pairs → n ≡ is_indirect v a
are_indirect v pairs a n m o e exact none first second third =
    by_rules n o e (is_code_word v a) (is_named v a) (any_code_word v (link_comes_back v a)) (list_any (returns_to v a) pairs) (any_code_word v (link_comes_back v a) || list_any (returns_to v a) pairs) none first refl
    (more_by n m o (is_code_word v a) (any_code_word v (link_comes_back v a)) (list_any (returns_to v a) pairs) second third)
    ∙ ap (λ b. is_code_word v a && (is_named v a || any_code_word v (link_comes_back v a) || b)) (returns_of_pairs v pairs a exact)

-- ---- no block begins on the second word of a pair

never : (b : Bool) → (b ≡ true → false ≡ true) → b ≡ false
never true none = sym (none refl)
never false none = refl

-- a pair goes where a relocation of a call leads to
called_by_pair : (v : PlainView) (a p : ℕ) → pair_goes_to v a p ≡ true → any_below (calls v a) (length v.relocs) ≡ true
called_by_pair v a p goes =
    let pair = both (is_call_pair v p) (pair_target v p == a) goes in
    let (i, below, by) = any_found (is_call_by v p) (length v.relocs) (pair_parts v p pair.0).reloc in
    let r = reloc_at v i in
    let whole = both (counts v r && is_call_kind r.kind && (r.at == p)) (pair_target v p == target v r) by in
    let call = both (counts v r && is_call_kind r.kind) (r.at == p) whole.0 in
    let to : target v r ≡ a = sym (eqb-true (pair_target v p) (target v r) whole.1) ∙ eqb-true (pair_target v p) a pair.1 in
    any_at (calls v a) (length v.relocs) i below (both_pass (counts v r && is_call_kind r.kind) (target v r == a) call.0 (eq-eqb (target v r) a to))

-- the first word of a pair is an AUIPC, the second a JALR
words_differ : (w : ℕ) → is_auipc w ≡ true → is_jalr w ≡ true → false ≡ true
words_differ w first second =
    let opcode = both (opcode_of w == 103) (funct3_of w == 0) second in
    let here : opcode_of w ≡ 23 = eqb-true (opcode_of w) 23 first in
    let other : opcode_of w ≡ 103 = eqb-true (opcode_of w) 103 opcode.0 in
    absurd (omega (arith, here, other))

first_two : (a b c d e : Bool) → a && b && c && d && e ≡ true → (a ≡ true) × (b ≡ true)
first_two a b c d e passes = both a b (both (a && b) c (both (a && b && c) d (both (a && b && c && d) e passes).0).0).0

are_auipc_and_jalr : (v : PlainView) (p : ℕ) → is_pair_of_words v p ≡ true → (is_auipc (image_word v p) ≡ true) × (is_jalr (image_word v (p + 4)) ≡ true)
are_auipc_and_jalr v p words =
    let first = image_word v p in
    let second = image_word v (p + 4) in
    first_two (is_auipc first) (is_jalr second) (links first) (rs1_of second == rd_of first) ((rd_of second == rd_of first) || (rd_of second == 0)) words

-- a pair does not come back on the second word of another
not_behind : (v : PlainView) (p q : ℕ) → IsPair v p → pair_comes_back v (p + 4) q ≡ true → false ≡ true
not_behind v p q pair back =
    let outer = both (is_call_pair v q && links (image_word v (q + 4))) (q + 8 == p + 4) back in
    let other = both (is_call_pair v q) (links (image_word v (q + 4))) outer.0 in
    let place : q + 8 ≡ p + 4 = eqb-true (q + 8) (p + 4) outer.1 in
    let here : q + 4 ≡ p = omega (arith, place) in
    let jalr = subst (λ (x : ℕ). is_jalr (image_word v x) ≡ true) here (are_auipc_and_jalr v q (pair_parts v q other.0).words).1 in
    words_differ (image_word v p) (are_auipc_and_jalr v p pair.words).0 jalr

none_of : (e c g b : Bool) → e ≡ false → g ≡ false → b ≡ false → e || c && (g || b) ≡ false
none_of e true g b early goes back = grind (arith, early, goes, back)
none_of e false g b early goes back = grind (arith, early)

pub not_leader : (v : PlainView) (p : ℕ) → IsPair v p → is_leader v (p + 4) ≡ false
not_leader v p pair =
    let goes : any_code_word v (pair_goes_to v (p + 4)) ≡ false = never _ (λ found. let (q, by) = word_found v (pair_goes_to v (p + 4)) found in sym pair.not_called ∙ called_by_pair v (p + 4) q by) in
    let back : any_code_word v (pair_comes_back v (p + 4)) ≡ false = never _ (λ found. let (q, by) = word_found v (pair_comes_back v (p + 4)) found in not_behind v p q pair by) in
    none_of (is_early v (p + 4)) (is_code_word v (p + 4)) _ _ pair.not_early goes back

pub pair_is_code : (v : PlainView) (p : ℕ) → is_call_pair v p ≡ true → (is_code_word v p ≡ true) × (is_code_word v (p + 4) ≡ true) × (is_leader v (p + 4) ≡ false)
pair_is_code v p pair =
    let parts = pair_parts v p pair in (parts.code, parts.behind, not_leader v p parts)

-- ---- lists of them

pub none_yet : (numbers : List ℕ) (a : ℕ) → numbers ≡ [] → has numbers a ≡ false
none_yet numbers a is = rw is refl

-- a list that was arranged
pub those_arranged : (test : ℕ → Bool) (numbers before : List ℕ) → IsStrictlyIncreasing numbers → ((a : ℕ) → has numbers a ≡ has before a) → ((a : ℕ) → has before a ≡ test a) → AreThose test numbers
those_arranged test numbers before ascending same exact =
    record { ascending = ascending; exact = λ a. same a ∙ exact a }

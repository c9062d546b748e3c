-- A relocation that means an object that may move is rewritable.
use Rattle.std.proofs.Common.{◌≡◌, ◌⊎◌, inl, inr, ℕ, ◌+◌, ◌<◌, ◌≤◌, ◌==◌, nat_le, Bool, true, false, not, ◌&&◌, ◌||◌, length, arith}
use Rattle.std.proofs.lemmas.Bool.{leb-true, eqb-true}
use Rattle.std.proofs.lemmas.Bool.Decides.{nat_tests}
use Rattle.list_checks.specs.Tests.{any_below, lies_in}
use Rattle.list_checks.proofs.TestLemmas.{either, both, not_true, any_found, none_at, given}
use Rattle.rv32im.specs.Words.{minus, upper_half}
use Rattle.rv32im.specs.Fields.{opcode_of}
use Rattle.elf_reader.specs.File.{PlainView}
use Rattle.elf_reader.specs.Loaded.{section_at, is_loaded}
use Rattle.loaded_file.specs.Code.{is_code_word, image_word}
use Rattle.elf_reader.specs.declared.view.Reloc.{Reloc}
use Rattle.board_config.specs.declared.board.Board.{Board}
use Rattle.loaded_file.specs.Records.{symbol_at, reloc_at, counts, target, is_hint}
use Rattle.loaded_file.specs.Ranges.{is_executable}
use Rattle.object_graph.specs.Rewritable.{is_meant, displacement, holds_data, cuts_range, changes_word, is_rewritable_word, u_high, takes_low_i, takes_low_s, is_rewritable_high, is_rewritable_low, distance, is_unpaired, is_call_at, is_rewritable_pair, is_rewritable_kind, is_rewritable}
use Rattle.object_graph.specs.Fixed.{is_unrewritable_by, is_movable}
use Rattle.object_graph.specs.Laws.{MeansBy}
use Rattle.loaded_file.proofs.RangeLemmas.{HasByteRange, byte_range_of}
use Rattle.object_graph.proofs.MovableLemmas.{movable_parts}

-- a target that lies a displacement behind a home: nothing wraps
behind_home : (a home n : ℕ) → HasByteRange home n → a < 4294967296 → minus a home ≤ n → a ≡ home + minus a home
behind_home a home n byte_range below near =
    let ends = byte_range.ends in
    let placed = byte_range.placed in
    omega (arith, ends, placed, below, near)

-- a rewritable relocation of a kind that changes something
pub record IsSoundly (v : PlainView) (home n i : ℕ) : Type 0 where
  pub near : displacement v home (reloc_at v i) ≤ n
  pub leads : target v (reloc_at v i) ≡ home + displacement v home (reloc_at v i)
  pub kind : is_rewritable_kind v i ≡ true

speaks : (kind : ℕ) → 0 < kind → kind < 43 → is_hint kind ≡ false
speaks kind from to = grind (arith, nat_tests, from, to)

no_hint : (hint near rewritable : Bool) → hint || near && rewritable ≡ true → hint ≡ false → (near ≡ true) × (rewritable ≡ true)
no_hint true near rewritable passes none = cc
no_hint false near rewritable passes none = both near rewritable passes

-- what two things together give where both without it are ruled out
pub given_both : (a b c : Bool) → a && b && not c ≡ false → a ≡ true → b ≡ true → c ≡ true
given_both a b c none first second = given (a && b) c none (grind (arith, first, second))

pub soundly : (v : PlainView) (board : Board) (kind home n i : ℕ) → 0 < kind → kind < 43 → is_movable v board home n ≡ true → MeansBy v kind home n i → IsSoundly v home n i
soundly v board kind home n i from to movable means =
    let moves = movable_parts v board home n movable in
    let r = reloc_at v i in
    let none = none_at (is_unrewritable_by v home n) (length v.relocs) i means.below moves.rewritable in
    let rewritable = given_both (counts v r) (is_meant v home n r) (is_rewritable v home n i) none means.counted means.meant in
    let is = means.is_kind in
    let quiet : is_hint r.kind ≡ false = speaks r.kind (omega (arith, is, from)) (omega (arith, is, to)) in
    let parts = no_hint (is_hint r.kind) (nat_le (displacement v home r) n) (is_rewritable_kind v i) rewritable quiet in
    let near = leb-true (displacement v home r) n parts.0 in
    let below : target v r < 4294967296 = omega arith in
    record {
      near = near;
      leads = behind_home (target v r) home n (byte_range_of v home n (symbol_at v moves.symbol) moves.of) below near;
      kind = parts.1;
    }

-- ---- what each rewritable kind says

-- a word of data in section `k`
pub record HoldsData (v : PlainView) (at k : ℕ) : Type 0 where
  pub below : k < length v.sections
  pub loaded : is_loaded v k ≡ true
  pub kind : (section_at v k).kind ≡ 1
  pub no_code : is_executable (section_at v k) ≡ false
  pub lies : lies_in (section_at v k).addr (section_at v k).size at 4 ≡ true

data_parts : (v : PlainView) (at k : ℕ) → k < length v.sections → holds_data v at k ≡ true → HoldsData v at k
data_parts v at k below holds =
    let s = section_at v k in
    let lies = lies_in s.addr s.size at 4 in
    let whole = both (is_loaded v k && (s.kind == 1) && not (is_executable s)) lies holds in
    let plain = both (is_loaded v k && (s.kind == 1)) (not (is_executable s)) whole.0 in
    let front = both (is_loaded v k) (s.kind == 1) plain.0 in
    record {
      below = below;
      loaded = front.0;
      kind = eqb-true s.kind 1 front.1;
      no_code = not_true (is_executable s) plain.1;
      lies = whole.1;
    }

pub record IsWord (v : PlainView) (i : ℕ) (r : Reloc) : Type 0 where
  pub kind : r.kind ≡ 1
  pub holds : (k : ℕ) × HoldsData v r.at k
  pub word : image_word v r.at ≡ target v r

pub word_parts : (v : PlainView) (i : ℕ) (r : Reloc) → is_rewritable_word v i r ≡ true → IsWord v i r
word_parts v i r rewritable =
    let holds = any_below (holds_data v r.at) (length v.sections) in
    let cuts = any_below (cuts_range v r.at) (length v.symbols) in
    let same = image_word v r.at == target v r in
    let changes = any_below (changes_word v i r.at) (length v.relocs) in
    let whole = both ((r.kind == 1) && holds && not cuts && same) (not changes) rewritable in
    let front = both ((r.kind == 1) && holds && not cuts) same whole.0 in
    let third = both ((r.kind == 1) && holds) (not cuts) front.0 in
    let first = both (r.kind == 1) holds third.0 in
    let (k, below, held) = any_found (holds_data v r.at) (length v.sections) first.1 in
    record {
      kind = eqb-true r.kind 1 first.0;
      holds = (k, data_parts v r.at k below held);
      word = eqb-true (image_word v r.at) (target v r) front.1;
    }

pub record IsHigh (v : PlainView) (r : Reloc) : Type 0 where
  pub kind : r.kind ≡ 26
  pub code : is_code_word v r.at ≡ true
  pub opcode : opcode_of (image_word v r.at) ≡ 55
  pub high : u_high (image_word v r.at) ≡ upper_half (target v r)

pub high_parts : (v : PlainView) (r : Reloc) → is_rewritable_high v r ≡ true → IsHigh v r
high_parts v r rewritable =
    let w = image_word v r.at in
    let opcode = opcode_of w == 55 in
    let high = u_high w == upper_half (target v r) in
    let whole = both ((r.kind == 26) && is_code_word v r.at && opcode) high rewritable in
    let front = both ((r.kind == 26) && is_code_word v r.at) opcode whole.0 in
    let first = both (r.kind == 26) (is_code_word v r.at) front.0 in
    record {
      kind = eqb-true r.kind 26 first.0;
      code = first.1;
      opcode = eqb-true (opcode_of w) 55 front.1;
      high = eqb-true (u_high w) (upper_half (target v r)) whole.1;
    }

pub record IsLow (v : PlainView) (r : Reloc) : Type 0 where
  pub code : is_code_word v r.at ≡ true
  pub low : ((r.kind ≡ 27) × (takes_low_i (image_word v r.at) (target v r) ≡ true)) ⊎ ((r.kind ≡ 28) × (takes_low_s (image_word v r.at) (target v r) ≡ true))

-- either of two kinds, with what each wants
pub of_two : (k one other : ℕ) (a b : Bool) → (k == one) && a || (k == other) && b ≡ true → ((k ≡ one) × (a ≡ true)) ⊎ ((k ≡ other) × (b ≡ true))
of_two k one other a b some =
    elim (either ((k == one) && a) ((k == other) && b) some) [
      | inl first ↦ let parts = both (k == one) a first in inl (eqb-true k one parts.0, parts.1)
      | inr second ↦ let parts = both (k == other) b second in inr (eqb-true k other parts.0, parts.1)
    ]

pub low_parts : (v : PlainView) (r : Reloc) → is_rewritable_low v r ≡ true → IsLow v r
low_parts v r rewritable =
    let a = takes_low_i (image_word v r.at) (target v r) in
    let b = takes_low_s (image_word v r.at) (target v r) in
    let whole = both (is_code_word v r.at) ((r.kind == 27) && a || (r.kind == 28) && b) rewritable in
    record { code = whole.0; low = of_two r.kind 27 28 a b whole.1 }

low_kind : (v : PlainView) (r : Reloc) → IsLow v r → (r.kind ≡ 27 → ⊥) → (r.kind ≡ 28 → ⊥) → ⊥
low_kind v r low wide half = elim low.low [ inl is ↦ wide is.0 | inr is ↦ half is.0 ]

pub record IsPair (v : PlainView) (r : Reloc) : Type 0 where
  pub kind : r.kind ≡ 23
  pub code : is_code_word v r.at ≡ true
  pub opcode : opcode_of (image_word v r.at) ≡ 23
  pub high : u_high (image_word v r.at) ≡ upper_half (distance v r)
  pub lows : any_below (is_unpaired v r) (length v.relocs) ≡ false

pub pair_parts : (v : PlainView) (r : Reloc) → is_rewritable_pair v r ≡ true → IsPair v r
pair_parts v r rewritable =
    let w = image_word v r.at in
    let opcode = opcode_of w == 23 in
    let calls = any_below (is_call_at v r.at) (length v.relocs) in
    let high = u_high w == upper_half (distance v r) in
    let unpaired = any_below (is_unpaired v r) (length v.relocs) in
    let whole = both ((r.kind == 23) && is_code_word v r.at && opcode && not calls && high) (not unpaired) rewritable in
    let fourth = both ((r.kind == 23) && is_code_word v r.at && opcode && not calls) high whole.0 in
    let third = both ((r.kind == 23) && is_code_word v r.at && opcode) (not calls) fourth.0 in
    let front = both ((r.kind == 23) && is_code_word v r.at) opcode third.0 in
    let first = both (r.kind == 23) (is_code_word v r.at) front.0 in
    record {
      lows = not_true unpaired whole.1;
      high = eqb-true (u_high w) (upper_half (distance v r)) fourth.1;
      kind = eqb-true r.kind 23 first.0;
      code = first.1;
      opcode = eqb-true (opcode_of w) 23 front.1;
    }

-- a rewritable relocation is of one of the four kinds
pub data RewritableKind (v : PlainView) (i : ℕ) (r : Reloc) : Type 0 where
  by_word : IsWord v i r → RewritableKind v i r
  by_high : IsHigh v r → RewritableKind v i r
  by_low : IsLow v r → RewritableKind v i r
  by_pair : IsPair v r → RewritableKind v i r

pub kind_parts : (v : PlainView) (i : ℕ) → is_rewritable_kind v i ≡ true → RewritableKind v i (reloc_at v i)
kind_parts v i rewritable =
    let r = reloc_at v i in
    let word = is_rewritable_word v i r in
    let high = is_rewritable_high v r in
    let low = is_rewritable_low v r in
    let pair = is_rewritable_pair v r in
    elim (either (word || high || low) pair rewritable) [
      | inr last ↦ by_pair (pair_parts v r last)
      | inl front ↦ elim (either (word || high) low front) [
        | inr third ↦ by_low (low_parts v r third)
        | inl first ↦ elim (either word high first) [
          | inr second ↦ by_high (high_parts v r second)
          | inl one ↦ by_word (word_parts v i r one)
        ]
      ]
    ]

-- by its number, which one
pub only_word : (v : PlainView) (i : ℕ) (r : Reloc) → r.kind ≡ 1 → RewritableKind v i r → IsWord v i r
only_word v i r is (by_word word) = word
only_word v i r is (by_high high) = let wrong = high.kind in absurd (omega (arith, is, wrong))
only_word v i r is (by_pair pair) = let wrong = pair.kind in absurd (omega (arith, is, wrong))
only_word v i r is (by_low low) = absurd (low_kind v r low (λ e. omega (arith, is, e)) (λ e. omega (arith, is, e)))

pub only_high : (v : PlainView) (i : ℕ) (r : Reloc) → r.kind ≡ 26 → RewritableKind v i r → IsHigh v r
only_high v i r is (by_word word) = let wrong = word.kind in absurd (omega (arith, is, wrong))
only_high v i r is (by_high high) = high
only_high v i r is (by_pair pair) = let wrong = pair.kind in absurd (omega (arith, is, wrong))
only_high v i r is (by_low low) = absurd (low_kind v r low (λ e. omega (arith, is, e)) (λ e. omega (arith, is, e)))

pub only_low : (v : PlainView) (i : ℕ) (r : Reloc) → 26 < r.kind → RewritableKind v i r → IsLow v r
only_low v i r is (by_word word) = let wrong = word.kind in absurd (omega (arith, is, wrong))
only_low v i r is (by_high high) = let wrong = high.kind in absurd (omega (arith, is, wrong))
only_low v i r is (by_pair pair) = let wrong = pair.kind in absurd (omega (arith, is, wrong))
only_low v i r is (by_low low) = low

pub only_pair : (v : PlainView) (i : ℕ) (r : Reloc) → r.kind ≡ 23 → RewritableKind v i r → IsPair v r
only_pair v i r is (by_word word) = let wrong = word.kind in absurd (omega (arith, is, wrong))
only_pair v i r is (by_high high) = let wrong = high.kind in absurd (omega (arith, is, wrong))
only_pair v i r is (by_pair pair) = pair
only_pair v i r is (by_low low) = absurd (low_kind v r low (λ e. omega (arith, is, e)) (λ e. omega (arith, is, e)))

-- a word of data that leads to an object that may move
pub rewritable_word : (v : PlainView) (board : Board) (home n i : ℕ) → is_movable v board home n ≡ true → MeansBy v 1 home n i → IsWord v i (reloc_at v i)
rewritable_word v board home n i movable means =
    only_word v i (reloc_at v i) means.is_kind (kind_parts v i (soundly v board 1 home n i (omega arith) (omega arith) movable means).kind)

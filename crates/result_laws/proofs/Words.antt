-- Words of code: where they lie, and what stands there.
use Rattle.std.proofs.Common.{◌≡◌, inl, inr, ℕ, zero, suc, ◌+◌, ◌-◌, ◌*◌, ◌/◌, ◌%◌, ◌<◌, ◌≤◌, ◌==◌, nat_lt, Bool, true, false, not, ◌&&◌, List, length, Option, Some, None, refl, sym, subst, arith, ◌∙◌, ap}
use Rattle.std.proofs.lemmas.Bool.{eqb-true, ltb-true, cases_lt}
use Rattle.std.proofs.lemmas.Bool.Decides.{nat_tests}
use Rattle.list_checks.specs.First.{unless, first_below}
use Rattle.rv32im.specs.Words.{plus, word_of}
use Rattle.list_checks.specs.Tests.{any_below, lies_in}
use Rattle.list_checks.proofs.TestLemmas.{either, both, any_found, any_at}
use Rattle.elf_reader.specs.Sections.{bit_of}
use Rattle.elf_reader.specs.File.{PlainView}
use Rattle.elf_reader.specs.Loadable.{AreLoadable}
use Rattle.elf_reader.specs.Loaded.{section_at, is_loaded}
use Rattle.board_config.specs.Board.{mapped_ranges}
use Rattle.board_config.specs.declared.board.Board.{Board}
use Rattle.board_config.specs.declared.board.Range.{Range}
use Rattle.flat_machine.specs.Mapping.{is_mapped, all_mapped}
use Rattle.loaded_file.specs.Code.{is_code_range, holds_code, is_code_word, image_word}
use Rattle.loaded_file.proofs.WordLemmas.{lies_from, lies_to}
use Rattle.loaded_file.specs.Ranges.{inside}
use Rattle.object_graph.specs.LayoutFaults.{layout_fault}
use Rattle.object_graph.specs.declared.parts.Graph.{Graph}
use Rattle.code_blocks.specs.Leaders.{is_leader}
use Rattle.code_blocks.proofs.LeaderLemmas.{both_pass, leader_is_code, indirect_is_leader}
use Rattle.code_blocks.specs.Ends.{range_at, words_left_in, words_left}
use Rattle.object_machine.specs.Program.{program_of}
use Rattle.simulation.specs.Units.{StandsAt}
use Rattle.simulation.specs.Laws.{IsUnit, OfBlock, ReachedBy, Behind}
use Rattle.result_laws.specs.Home.{is_code_byte, home_setup}
use Rattle.result_laws.proofs.Lists.{first_at}
use Rattle.result_laws.proofs.HomeMemory.{section_mapped, section_ends}
use Rattle.rv32im.specs.Memory.{Memory, word_at}
use Rattle.result_laws.specs.Moved.{IsOffWord}

-- a word of code lies in a code range
pub record InRange (v : PlainView) (u k : ℕ) : Type 0 where
  pub below : k < length v.sections
  pub range : is_code_range v k ≡ true
  pub loaded : is_loaded v k ≡ true
  pub from : (section_at v k).addr ≤ u
  pub to : u + 4 ≤ (section_at v k).addr + (section_at v k).size

pub range_parts : (v : PlainView) (u k : ℕ) → k < length v.sections → holds_code v u k ≡ true → InRange v u k
range_parts v u k below has =
    let s = section_at v k in
    let whole = both (is_code_range v k) (lies_in s.addr s.size u 4) has in
    let range = both (is_loaded v k && (s.kind == 1)) (bit_of s.flags 2) whole.0 in
    record {
      below = below;
      range = whole.0;
      loaded = (both (is_loaded v k) (s.kind == 1) range.0).0;
      from = lies_from s.addr s.size u 4 whole.1;
      to = lies_to s.addr s.size u 4 whole.1;
    }

pub code_range : (v : PlainView) (u : ℕ) → is_code_word v u ≡ true → (k : ℕ) × InRange v u k
code_range v u code =
    let found = any_found (holds_code v u) (length v.sections) (both (u % 4 == 0) _ code).1 in
    (found.0, range_parts v u found.0 found.1 found.2)

pub code_even : (v : PlainView) (u : ℕ) → is_code_word v u ≡ true → u % 4 ≡ 0
code_even v u code = eqb-true (u % 4) 0 (both (u % 4 == 0) (any_below (holds_code v u) (length v.sections)) code).0

pub code_below : (v : PlainView) (u : ℕ) → AreLoadable v.segments → is_code_word v u ≡ true → u + 4 < 4294967296
code_below v u loadable code =
    let found = code_range v u code in
    let ends = section_ends v found.0 loadable found.1.loaded in
    let to = found.1.to in
    omega (arith, ends, to)

-- ---- what stands there

pub all_from : (map : List Range) (at n : ℕ) → ((i : ℕ) → i < n → is_mapped map (at + i) ≡ true) → all_mapped map at n ≡ true
all_from map at zero each = refl
all_from map at (suc n) each =
    both_pass (all_mapped map at n) (is_mapped map (at + n)) (all_from map at n (λ i below. each i (omega (arith, below)))) (each n (omega arith))

pub even_passes : (u : ℕ) → u % 4 ≡ 0 → (u % 4 == 0) ≡ true
even_passes u even = grind (arith, nat_tests, even)

-- a word of code stands still at its home, where it is the file's
pub stands_home : (v : PlainView) (board : Board) (g : Graph) (r u : ℕ) → layout_fault v board ≡ None → AreLoadable v.segments → is_code_word v u ≡ true → StandsAt (home_setup v board g) r u (image_word v u)
stands_home v board g r u layout loadable code =
    let even = code_even v u code in
    let below = code_below v u loadable code in
    let found = code_range v u code in
    let from = found.1.from in
    let to = found.1.to in
    record {
      fetched =
          both_pass (u % 4 == 0) (all_mapped (mapped_ranges board) u 4) (even_passes u even)
          (all_from (mapped_ranges board) u 4 (λ i inside. section_mapped v board layout found.0 (u + i) found.1.loaded (omega (arith, from)) (omega (arith, to, inside))));
      still = λ i inside.
          let same : plus u i / 4 * 4 ≡ u = omega (arith, even, below, inside) in
          subst (λ (a : ℕ). is_code_word v a ≡ true) (sym same) code;
      word = refl;
    }

-- a byte of code lies in a code range
pub byte_in_range : (v : PlainView) (a : ℕ) → is_code_byte v a ≡ true → (k : ℕ) × ((k < length v.sections) × ((is_code_range v k ≡ true) × (inside (section_at v k).addr (section_at v k).size a ≡ true)))
byte_in_range v a code =
    let found = code_range v (a / 4 * 4) code in
    let from = found.1.from in
    let to = found.1.to in
    (found.0, (found.1.below, (found.1.range, grind (arith, nat_tests, from, to))))

-- ---- units

next_holds : (v : PlainView) (u k : ℕ) → k < length v.sections → holds_code v u k ≡ true → 1 < ((section_at v k).addr + (section_at v k).size - u) / 4 → u % 4 ≡ 0 → is_code_word v (u + 4) ≡ true
next_holds v u k below has more even =
    let s = section_at v k in
    let parts = range_parts v u k below has in
    let from = parts.from in
    let to = parts.to in
    let lies : lies_in s.addr s.size (u + 4) 4 ≡ true = grind (arith, nat_tests, from, to, more) in
    both_pass ((u + 4) % 4 == 0) (any_below (holds_code v (u + 4)) (length v.sections)) (even_passes (u + 4) (omega (arith, even)))
    (any_at (holds_code v (u + 4)) (length v.sections) k below (both_pass (is_code_range v k) (lies_in s.addr s.size (u + 4) 4) parts.range lies))

-- the range that is found holds the word
range_holds : (v : PlainView) (u j k : ℕ) → range_at v u j ≡ Some k → (j ≡ k) × (holds_code v u j ≡ true)
range_holds v u j k found = chosen (holds_code v u j) found
  where
    chosen : (has : Bool) → unless (not has) j ≡ Some k → (j ≡ k) × (has ≡ true)
    chosen true is = let same : j ≡ k = cc in (same, refl)
    chosen false is = absurd (cc)

more_words : (v : PlainView) (u : ℕ) → is_code_word v u ≡ true → nat_lt 1 (words_left v u) ≡ true → is_code_word v (u + 4) ≡ true
more_words v u code more = by_range (first_below (range_at v u) (length v.sections)) refl more
  where
    by_range : (o : Option ℕ) → first_below (range_at v u) (length v.sections) ≡ o → nat_lt 1 (words_left_in v u o) ≡ true → is_code_word v (u + 4) ≡ true
    by_range None is some = absurd (cc)
    by_range (Some k) is some =
        let found = first_at (range_at v u) (length v.sections) k is in
        let held = range_holds v u found.0 k found.1.1 in
        let below : k < length v.sections = subst (λ (j : ℕ). j < length v.sections) held.0 found.1.0 in
        let has : holds_code v u k ≡ true = subst (λ (j : ℕ). holds_code v u j ≡ true) held.0 held.1 in
        next_holds v u k below has (ltb-true 1 (((section_at v k).addr + (section_at v k).size - u) / 4) some) (code_even v u code)

-- a unit begins at a word of code
pub unit_is_code : (v : PlainView) (board : Board) (g : Graph) (u : ℕ) → IsUnit (program_of v board g) u → is_code_word v u ≡ true
unit_is_code v board g _ (OfBlock u block) = leader_is_code v u block
unit_is_code v board g _ (ReachedBy u reached) = leader_is_code v u (indirect_is_leader v u reached)
unit_is_code v board g _ (Behind u unit single falls) =
    let code = unit_is_code v board g u unit in
    elim (either (is_leader v (u + 4)) (nat_lt 1 (words_left v u)) falls) [
      | inl leader ↦ leader_is_code v (u + 4) leader
      | inr more ↦ more_words v u code more
    ]

-- an address is in an aligned word, or off it
pub off_or_in : (a at : ℕ) → (at ≤ a → a < at + 4 → ⊥) → IsOffWord a at
off_or_in a at never =
    elim (cases_lt a at) [
      | inl before ↦ inl before
      | inr from ↦ elim (cases_lt a (at + 4)) [
        | inl to ↦ absurd (never from to)
        | inr behind ↦ inr behind
      ]
    ]

-- ---- words by their bytes

pub same_word : (m n : Memory) (a b : ℕ) → a + 3 < 4294967296 → b + 3 < 4294967296 → ((i : ℕ) → i < 4 → m (a + i) ≡ n (b + i)) → word_at m a ≡ word_at n b
same_word m n a b low low_there same =
    let zero_here : a + 0 ≡ a = omega arith in
    let zero_there : b + 0 ≡ b = omega arith in
    let first : m a ≡ n b = ap m (sym zero_here) ∙ (same 0 (omega arith) ∙ ap n zero_there) in
    λ t.
    word_of (first t) (by_byte 1 (omega arith) t) (by_byte 2 (omega arith) t) (by_byte 3 (omega arith) t)
  where
    by_byte : (i : ℕ) → i < 4 → m (plus a i) ≡ n (plus b i)
    by_byte i below =
        let here : plus a i ≡ a + i = omega (arith, low, below) in
        let there : plus b i ≡ b + i = omega (arith, low_there, below) in
        ap m here ∙ (same i below ∙ ap n (sym there))

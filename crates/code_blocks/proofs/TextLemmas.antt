-- A code range has a word just where its first word lies inside it.
use Rattle.std.proofs.Common.{◌≡◌, ◌∙◌, ℕ, ◌+◌, ◌*◌, ◌/◌, ◌≤◌, Bool, true, ◌&&◌, refl, sym, ap, arith}
use Rattle.std.proofs.lemmas.Bool.Decides.{nat_tests}
use Rattle.list_checks.specs.Tests.{any_below, lies_in}
use Rattle.list_checks.proofs.TestLemmas.{both, same_tests, any_found, any_at}
use Rattle.elf_reader.specs.File.{PlainSection, PlainView}
use Rattle.elf_reader.specs.Loaded.{section_at}
use Rattle.loaded_file.specs.Code.{is_code_range}
use Rattle.loaded_file.proofs.WordLemmas.{lies_to}
use Rattle.code_blocks.specs.Words.{first_word, code_word, passes_at, passes_in}
use Rattle.code_blocks.proofs.LeaderLemmas.{both_pass}
use Rattle.code_blocks.specs.Blocks.{is_any}

made : (base size a : ℕ) → base ≤ a → a + 4 ≤ base + size → lies_in base size a 4 ≡ true
made base size a from to = grind (arith, nat_tests, from, to)

-- the first word lies inside where any does
first_lies : (base size i : ℕ) → lies_in base size ((base + 3) / 4 * 4 + 4 * i) 4 ≡ true → lies_in base size ((base + 3) / 4 * 4) 4 ≡ true
first_lies base size i lies =
    let to = lies_to base size ((base + 3) / 4 * 4 + 4 * i) 4 lies in
    let from : base ≤ (base + 3) / 4 * 4 = omega arith in
    let inside : (base + 3) / 4 * 4 + 4 ≤ base + size = omega (arith, to) in
    made base size ((base + 3) / 4 * 4) from inside

pub word_inside : (v : PlainView) (k : ℕ) → any_below (passes_at v is_any k) ((section_at v k).size / 4 + 1) ≡ lies_in (section_at v k).addr (section_at v k).size (first_word v k) 4
word_inside v k =
    let s = section_at v k in
    let test = passes_at v is_any k in
    let first : code_word v k 0 ≡ first_word v k = omega arith in
    same_tests (any_below test (s.size / 4 + 1)) (lies_in s.addr s.size (first_word v k) 4)
    (λ found.
    let (i, below, passes) = any_found test (s.size / 4 + 1) found in
    first_lies s.addr s.size i (both (lies_in s.addr s.size (code_word v k i) 4) true passes).0)
    (λ lies. any_at test (s.size / 4 + 1) 0 (omega arith)
    (both_pass (lies_in s.addr s.size (code_word v k 0) 4) true (ap (λ (p : ℕ). lies_in s.addr s.size p 4) first ∙ lies) refl))

pub range_passes : (v : PlainView) (k : ℕ) (s : PlainSection) (r : Bool) → is_code_range v k ≡ true → section_at v k ≡ s → r ≡ lies_in s.addr s.size ((s.addr + 3) / 4 * 4) 4 → r ≡ passes_in v is_any k
range_passes v k s r range here is =
    is
    ∙ ap (λ (t : PlainSection). lies_in t.addr t.size ((t.addr + 3) / 4 * 4) 4) (sym here)
    ∙ sym (word_inside v k)
    ∙ ap (λ (b : Bool). b && any_below (passes_at v is_any k) ((section_at v k).size / 4 + 1)) (sym range)

-- The rules of leaders, from one stratum to the next.
use Rattle.std.proofs.Common.{◌≡◌, inl, inr, ℕ, ◌+◌, ◌/◌, ◌==◌, Bool, true, false, ◌&&◌, ◌||◌, length, refl}
use Rattle.list_checks.specs.Tests.{any_below, lies_in}
use Rattle.list_checks.proofs.TestLemmas.{either, both, any_found, any_at}
use Rattle.elf_reader.specs.File.{PlainView}
use Rattle.elf_reader.specs.Loaded.{section_at}
use Rattle.loaded_file.specs.Code.{is_code_range, is_code_word, image_word}
use Rattle.code_blocks.specs.Words.{is_jal, is_jalr, links, code_word, passes_at, passes_in, any_code_word}
use Rattle.code_blocks.specs.Leaders.{is_named, goes_to, comes_back, is_early, pair_goes_to, pair_comes_back, is_leader, link_comes_back, is_indirect}

-- one of two tests that pass, and both
pub left_passes : (a b : Bool) → a ≡ true → a || b ≡ true
left_passes true b passes = refl
left_passes false b passes = cc

pub right_passes : (a b : Bool) → b ≡ true → a || b ≡ true
right_passes true b passes = refl
right_passes false b passes = passes

pub both_pass : (a b : Bool) → a ≡ true → b ≡ true → a && b ≡ true
both_pass true b passes other = other
both_pass false b passes other = cc

-- a test that passes where another one does
pub any_more : (test more : ℕ → Bool) (n : ℕ) → ((k : ℕ) → test k ≡ true → more k ≡ true) → any_below test n ≡ true → any_below more n ≡ true
any_more test more n gives found =
    let (k, below, passes) = any_found test n found in any_at more n k below (gives k passes)

pub any_word_more : (v : PlainView) (test more : ℕ → Bool) → ((p : ℕ) → test p ≡ true → more p ≡ true)
    → any_code_word v test ≡ true → any_code_word v more ≡ true
any_word_more v test more gives found =
    any_more (passes_in v test) (passes_in v more) (length v.sections)
    (λ k in_k.
    let parts = both (is_code_range v k) _ in_k in
    both_pass (is_code_range v k) _ parts.0 (any_more (passes_at v test k) (passes_at v more k) ((section_at v k).size / 4 + 1)
    (λ i at_i.
    let there = both (lies_in (section_at v k).addr (section_at v k).size (code_word v k i) 4) _ at_i in
    both_pass (lies_in (section_at v k).addr (section_at v k).size (code_word v k i) 4) (more (code_word v k i)) there.0 (gives (code_word v k i) there.1)) parts.1))
    found

-- a link that comes back is a jump that does
link_is_back : (v : PlainView) (a p : ℕ) → link_comes_back v a p ≡ true → comes_back v a p ≡ true
link_is_back v a p link =
    let outer = both ((p + 4 == a) && (is_jal (image_word v p) || is_jalr (image_word v p))) (links (image_word v p)) link in
    let inner = both (p + 4 == a) (is_jal (image_word v p) || is_jalr (image_word v p)) outer.0 in
    both_pass _ _ inner.0 (right_passes _ _ (both_pass _ _ inner.1 outer.1))

pub early_is_code : (v : PlainView) (a : ℕ) → is_early v a ≡ true → is_code_word v a ≡ true
early_is_code v a early = (both (is_code_word v a) _ early).0

pub leader_is_code : (v : PlainView) (a : ℕ) → is_leader v a ≡ true → is_code_word v a ≡ true
leader_is_code v a leader =
    elim (either (is_early v a) _ leader) [
      | inl early ↦ early_is_code v a early
      | inr late ↦ (both (is_code_word v a) _ late).0
    ]

-- the address of a leader by a rule of the first stratum
early_by : (v : PlainView) (a : ℕ) → is_code_word v a ≡ true → is_named v a || any_code_word v (goes_to v a) || any_code_word v (comes_back v a) ≡ true → is_leader v a ≡ true
early_by v a code rule = left_passes (is_early v a) _ (both_pass (is_code_word v a) _ code rule)

pub indirect_is_leader : (v : PlainView) (a : ℕ) → is_indirect v a ≡ true → is_leader v a ≡ true
indirect_is_leader v a indirect =
    let parts = both (is_code_word v a) _ indirect in
    let named = is_named v a in
    let link = any_code_word v (link_comes_back v a) in
    let back = any_code_word v (comes_back v a) in
    let goes = any_code_word v (goes_to v a) in
    let pair = any_code_word v (pair_comes_back v a) in
    elim (either (named || link) pair parts.1) [
      | inl first ↦ elim (either named link first) [
        | inl is_named ↦ early_by v a parts.0 (left_passes (named || goes) back (left_passes named goes is_named))
        | inr linked ↦ early_by v a parts.0 (right_passes (named || goes) back (any_word_more v (link_comes_back v a) (comes_back v a) (link_is_back v a) linked))
      ]
      | inr paired ↦ right_passes (is_early v a) _ (both_pass (is_code_word v a) _ parts.0 (right_passes (any_code_word v (pair_goes_to v a)) pair paired))
    ]

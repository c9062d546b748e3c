-- Memory while a job runs: the first bytes of the target are those of the source.
use Rattle.std.proofs.Common.{◌≡◌, inl, inr, ℕ, zero, suc, ◌+◌, ◌/◌, ◌%◌, ◌<◌, ◌≤◌, Bool, true, false, [], ◌∷◌, length, refl, sym, ◌∙◌, ap, subst, arith}
use Rattle.std.proofs.lemmas.Grind.{common_steps}
use Rattle.std.proofs.lemmas.Bool.Decides.{nat_tests}
use Rattle.rv32im.specs.Words.{plus, word_of}
use Rattle.rv32im.specs.Memory.{Memory, put, word_at, put_byte, put_word, bytes_at, put_bytes}
use Rattle.rv32im.specs.Acts.{loaded, stored}
use Rattle.paged_store.proofs.Puts.{put_bytes_before, put_bytes_behind, put_bytes-append, put_bytes-word}
use Rattle.patch_code.specs.Jobs.{unit_bytes, unit_load, unit_store, AreDisjoint}

-- the memory after `n` bytes
abbrev pub after : Memory → ℕ → ℕ → ℕ → Memory
after mem from to n = put_bytes mem to (bytes_at mem from n)

pub count_bytes : (mem : Memory) (from n : ℕ) → length (bytes_at mem from n) ≡ n
count_bytes mem from zero = refl
count_bytes mem from (suc n) = let rest = count_bytes mem from n in grind (arith, common_steps)

-- one byte more
pub after_more : (mem : Memory) (from to n : ℕ) → put (after mem from to n) (to + n) (mem (from + n)) ≡ after mem from to (suc n)
after_more mem from to n =
    let count = count_bytes mem from n in
    let whole = put_bytes-append (bytes_at mem from n) (mem (from + n) ∷ []) mem to in
    let end : to + length (bytes_at mem from n) ≡ to + n = ap (λ k. to + k) count in
    sym (whole ∙ ap (λ a. put (after mem from to n) a (mem (from + n))) end)

-- what stands before or behind the target
pub after_before : (mem : Memory) (from to n a : ℕ) → a < to → after mem from to n a ≡ mem a
after_before mem from to n a below = put_bytes_before (bytes_at mem from n) mem to a below

pub after_behind : (mem : Memory) (from to n a : ℕ) → to + n ≤ a → after mem from to n a ≡ mem a
after_behind mem from to n a above =
    let count = count_bytes mem from n in
    put_bytes_behind (bytes_at mem from n) mem to a (omega arith)

-- what stands in a range apart from the target
pub after_disjoint : (mem : Memory) (from to n total b m a : ℕ) → n ≤ total → AreDisjoint to total b m → b ≤ a → a < b + m → after mem from to n a ≡ mem a
after_disjoint mem from to n total b m a some (inl first) low high = after_behind mem from to n a (omega arith)
after_disjoint mem from to n total b m a some (inr second) low high = after_before mem from to n a (omega arith)

-- bytes stay bytes
put_small : (mem : Memory) (at byte : ℕ) → ((a : ℕ) → mem a < 256) → byte < 256 → (a : ℕ) → put mem at byte a < 256
unfolding put
put_small mem at byte small fits a = let here = small a in grind (arith, nat_tests)

pub after_small : (mem : Memory) (from to n : ℕ) → ((a : ℕ) → mem a < 256) → (a : ℕ) → after mem from to n a < 256
after_small mem from to zero small a = small a
after_small mem from to (suc n) small a =
    subst (λ (m : Memory). m a < 256) (after_more mem from to n)
    (put_small (after mem from to n) (to + n) (mem (from + n)) (after_small mem from to n small) (small (from + n)) a)

-- ---- a unit more

byte_0 : (c0 c1 c2 c3 : ℕ) → c0 < 256 → c1 < 256 → c2 < 256 → c3 < 256 → c0 ≡ word_of c0 c1 c2 c3 % 256
byte_0 c0 c1 c2 c3 f0 f1 f2 f3 = omega arith

byte_1 : (c0 c1 c2 c3 : ℕ) → c0 < 256 → c1 < 256 → c2 < 256 → c3 < 256 → c1 ≡ word_of c0 c1 c2 c3 / 256 % 256
byte_1 c0 c1 c2 c3 f0 f1 f2 f3 = omega arith

byte_2 : (c0 c1 c2 c3 : ℕ) → c0 < 256 → c1 < 256 → c2 < 256 → c3 < 256 → c2 ≡ word_of c0 c1 c2 c3 / 65536 % 256
byte_2 c0 c1 c2 c3 f0 f1 f2 f3 = omega arith

byte_3 : (c0 c1 c2 c3 : ℕ) → c0 < 256 → c1 < 256 → c2 < 256 → c3 < 256 → c3 ≡ word_of c0 c1 c2 c3 / 16777216 % 256
byte_3 c0 c1 c2 c3 f0 f1 f2 f3 = omega arith

module _ (mem : Memory) (small : (a : ℕ) → mem a < 256) (from to total : ℕ) (source : from + total < 4294967296) (target : to + total < 4294967296) (disjoint : AreDisjoint from total to total) where
  -- the source keeps its bytes
  source_kept : (n i : ℕ) → n ≤ total → i < total → after mem from to n (from + i) ≡ mem (from + i)
  source_kept n i some inside = by disjoint
    where
      by : AreDisjoint from total to total → after mem from to n (from + i) ≡ mem (from + i)
      by (inl first) = after_before mem from to n (from + i) (omega arith)
      by (inr second) = after_behind mem from to n (from + i) (omega arith)

  word_there : (n : ℕ) → n + 4 ≤ total → word_at (after mem from to n) (from + n) ≡ word_of (mem (from + n)) (mem (from + suc n)) (mem (from + suc (suc n))) (mem (from + suc (suc (suc n))))
  word_there n fits =
      let a1 : plus (from + n) 1 ≡ from + suc n = omega arith in
      let a2 : plus (from + n) 2 ≡ from + suc (suc n) = omega arith in
      let a3 : plus (from + n) 3 ≡ from + suc (suc (suc n)) = omega arith in
      let b0 = source_kept n n (omega arith) (omega arith) in
      let b1 = source_kept n (suc n) (omega arith) (omega arith) in
      let b2 = source_kept n (suc (suc n)) (omega arith) (omega arith) in
      let b3 = source_kept n (suc (suc (suc n))) (omega arith) (omega arith) in
      rw (a1, a2, a3, b0, b1, b2, b3) refl

  four_more : (n : ℕ) → n + 4 ≤ total → put_bytes (after mem from to n) (to + n) (mem (from + n) ∷ mem (from + suc n) ∷ mem (from + suc (suc n)) ∷ mem (from + suc (suc (suc n))) ∷ []) ≡ after mem from to (suc (suc (suc (suc n))))
  four_more n fits =
      let a1 : to + n + 1 ≡ to + suc n = omega arith in
      let a2 : to + suc n + 1 ≡ to + suc (suc n) = omega arith in
      let a3 : to + suc (suc n) + 1 ≡ to + suc (suc (suc n)) = omega arith in
      let e0 = after_more mem from to n in
      let e1 = after_more mem from to (suc n) in
      let e2 = after_more mem from to (suc (suc n)) in
      let e3 = after_more mem from to (suc (suc (suc n))) in
      rw (e0, a1, e1, a2, e2, a3) e3

  word_more : (n : ℕ) → n + 4 ≤ total → put_word (after mem from to n) (to + n) (word_at (after mem from to n) (from + n)) ≡ after mem from to (n + 4)
  word_more n fits =
      let b0 : ℕ = mem (from + n) in
      let b1 : ℕ = mem (from + suc n) in
      let b2 : ℕ = mem (from + suc (suc n)) in
      let b3 : ℕ = mem (from + suc (suc (suc n))) in
      let s0 = small (from + n) in
      let s1 = small (from + suc n) in
      let s2 = small (from + suc (suc n)) in
      let s3 = small (from + suc (suc (suc n))) in
      let word = word_there n fits in
      let puts =
      put_bytes-word (after mem from to n) (to + n) (word_of b0 b1 b2 b3) b0 b1 b2 b3 (omega arith)
      (byte_0 b0 b1 b2 b3 s0 s1 s2 s3) (byte_1 b0 b1 b2 b3 s0 s1 s2 s3) (byte_2 b0 b1 b2 b3 s0 s1 s2 s3)
      (byte_3 b0 b1 b2 b3 s0 s1 s2 s3) in
      let four : suc (suc (suc (suc n))) ≡ n + 4 = omega arith in
      ap (λ w. put_word (after mem from to n) (to + n) w) word
      ∙ (sym puts ∙ (four_more n fits ∙ ap (λ k. after mem from to k) four))

  byte_more : (n : ℕ) → n + 1 ≤ total → put_byte (after mem from to n) (to + n) (after mem from to n (from + n)) ≡ after mem from to (n + 1)
  byte_more n fits =
      let kept = source_kept n n (omega arith) (omega arith) in
      let fit = small (from + n) in
      let whole : mem (from + n) % 256 ≡ mem (from + n) = omega arith in
      let one : suc n ≡ n + 1 = omega arith in
      ap (λ v. put (after mem from to n) (to + n) (v % 256)) kept
      ∙ (ap (λ v. put (after mem from to n) (to + n) v) whole
      ∙ (after_more mem from to n ∙ ap (λ k. after mem from to k) one))

  -- what a load and a store of a unit leave
  pub unit_more : (words : Bool) (n : ℕ) → n + unit_bytes words ≤ total → stored (unit_store words) (after mem from to n) (to + n) (loaded (unit_load words) (after mem from to n) (from + n)) ≡ after mem from to (n + unit_bytes words)
  unit_more true n fits = word_more n fits
  unit_more false n fits = byte_more n fits

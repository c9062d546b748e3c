-- Words of registers.
use Rattle.std.proofs.Common.{◌≢◌, inl, inr, ℕ, ◌*◌, ◌%◌, ◌^◌, ◌<◌, bit_and, ◌∙◌, subst, arith}
use Rattle.std.specs.Prelude.{◌↔◌}
use Rattle.std.specs.Int.{bit_not, w64}
use Rattle.std.proofs.lemmas.Bool.{cases_lt}
use Rattle.std.proofs.lemmas.Nat.Bits.{bit_at_above, bit_at_clear_same, bit_at_clear_other, bit_at_mask_inside, bit_at_mask_below, bit_at_mask_above}
use Rattle.reach_graph.specs.Reaching.{HasMark}
use Rattle.reach_graph.proofs.MarkLemmas.{and_both, and_first, and_second}
use Rattle.dataflow.specs.Points.{IsHolder}

-- the word of x1 to x31 has just these
holders_only : (x : ℕ) → HasMark 4294967294 x → IsHolder x
holders_only x has =
    elim (cases_lt x 1) [
      | inl zeroth ↦ let off = bit_at_mask_below 1 32 x zeroth in absurd (omega (arith, off, has))
      | inr some ↦ elim (cases_lt x 32) [
        | inl below ↦ (omega (arith, some), below)
        | inr past ↦ let off = bit_at_mask_above 1 32 x past in absurd (omega (arith, off, has))
      ]
    ]

holders_all : (x : ℕ) → IsHolder x → HasMark 4294967294 x
holders_all x (some, below) = bit_at_mask_inside 1 32 x (omega (arith, some)) below

pub holders_among : (word x : ℕ) → HasMark (bit_and word 4294967294) x ↔ (IsHolder x × HasMark word x)
holders_among word x = (
  λ has. (holders_only x (and_second word 4294967294 x has), and_first word 4294967294 x has),
  λ (holder, has). and_both word 4294967294 x has (holders_all x holder),
)

-- a word has no mark from 64 on
low_mark : (word k : ℕ) → word < 2 ^ 64 → HasMark word k → k < 64
low_mark word k fits has =
    elim (cases_lt k 64) [
      | inl below ↦ below
      | inr past ↦ let off = bit_at_above word 64 k fits past in absurd (omega (arith, off, has))
    ]

-- a word without one of its marks
pub one_cleared : (word x k : ℕ) → word < 2 ^ 64 → x < 64 → HasMark (bit_and word (bit_not w64 (1 * 2 ^ x % 2 ^ 64))) k ↔ (HasMark word k × (k ≢ x))
one_cleared word x k fits within = (
  λ has. (
    and_first word (bit_not w64 (1 * 2 ^ x % 2 ^ 64)) k has,
    λ same.
        let off = bit_at_clear_same w64 word x within in
        let on = subst (λ (j : ℕ). HasMark (bit_and word (bit_not w64 (1 * 2 ^ x % 2 ^ 64))) j) same has in
        absurd (omega (arith, off, on)),
  ),
  λ (has, other). bit_at_clear_other w64 word x within k (low_mark word k fits has) other ∙ has,
)

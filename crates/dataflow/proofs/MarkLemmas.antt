-- Words of marks: of both, of what is in both, of what is left, and of all.
use Rattle.std.proofs.Common.{◌≡◌, ℕ, zero, suc, ◌-◌, ◌<◌, ◌^◌, bit_and, refl, ◌∙◌, arith}
use Rattle.std.specs.Prelude.{◌↔◌}
use Rattle.std.specs.Int.{bit_at, bit_not, w64}
use Rattle.std.proofs.lemmas.Nat.Bits.{bit_at_not, bit_at-lt, bit_at_ones}
use Rattle.reach_graph.specs.Reaching.{HasMark}
use Rattle.reach_graph.proofs.MarkLemmas.{and_both, and_first, and_second}

pub marks_among : (a b x : ℕ) → HasMark (bit_and a b) x ↔ (HasMark a x × HasMark b x)
marks_among a b x = (λ has. (and_first a b x has, and_second a b x has), λ both. and_both a b x both.0 both.1)

not_one : (n : ℕ) → n < 2 → (n ≡ 1 → ⊥) → 1 - n ≡ 1
not_one zero small other = refl
not_one (suc zero) small other = absurd (other refl)
not_one (suc (suc n)) small other = absurd (omega (arith, small))

pub marks_without : (a b x : ℕ) → b < 2 ^ 64 → x < 32 → HasMark (bit_and a (bit_not w64 b)) x ↔ (HasMark a x × (HasMark b x → ⊥))
marks_without a b x fits low =
    let flipped : bit_at (bit_not w64 b) x ≡ 1 - bit_at b x = bit_at_not w64 b x fits (omega (arith, low)) in (
      λ has. (
        and_first a (bit_not w64 b) x has,
        λ set. let other = and_second a (bit_not w64 b) x has in absurd (omega (arith, flipped, other, set)),
      ),
      λ both. and_both a (bit_not w64 b) x both.0 (flipped ∙ not_one (bit_at b x) (bit_at-lt b x) both.1),
    )

-- the word of all marks
pub all_set : (x : ℕ) → x < 32 → HasMark 18446744073709551615 x
all_set x low = bit_at_ones 64 x (omega (arith, low))

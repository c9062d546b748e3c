-- A number that is written digit by digit.
use Rattle.std.proofs.Common.{◌≡◌, ◌∙◌, ℕ, zero, suc, ◌+◌, ◌-◌, ◌*◌, ◌/◌, ◌%◌, ◌^◌, ◌<◌, ◌≤◌, List, [], ◌∷◌, ◌++◌, refl, sym, ap, append_assoc, arith}
use Rattle.std.proofs.Math.Nat.{pow-succ'}
use Rattle.certificate_checker.specs.Digits.{digits_of}
use Rattle.certificate_checker.proofs.NumberLaws.{spelled_more}

pub digits_small : (more n : ℕ) → 0 < more → n < 2 * 128 ^ more → n / 128 < 2 * 128 ^ (more - 1)
digits_small zero n some small = absurd (omega arith)
digits_small (suc k) n some small =
    let same : suc k - 1 ≡ k = omega arith in
    let power = pow-succ' 128 k in
    rw same (omega (arith, power, small))

pub pushed_more : (more n : ℕ) (old mid new : List ℕ) → 0 < more → 128 ≤ n → mid ≡ old ++ (128 + n % 128) ∷ [] → new ≡ mid ++ digits_of (more - 1) (n / 128) → new ≡ old ++ digits_of more n
pushed_more zero n old mid new some long first second = absurd (omega arith)
pushed_more (suc k) n old mid new some long first second =
    let same : suc k - 1 ≡ k = omega arith in
    let text = spelled_more k n (128 + n % 128) (n / 128) long refl refl in
    second
    ∙ (ap (λ (l : List ℕ). l ++ digits_of (suc k - 1) (n / 128)) first
    ∙ (append_assoc old ((128 + n % 128) ∷ []) (digits_of (suc k - 1) (n / 128))
    ∙ (ap (λ (m : ℕ). old ++ ((128 + n % 128) ∷ digits_of m (n / 128))) same
    ∙ ap (λ (l : List ℕ). old ++ l) (sym text))))

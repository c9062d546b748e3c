-- The hexadecimal digits of an address, as `{:08x}` writes them.
use Rattle.std.proofs.Common.{◌≡◌, ◌⊎◌, inl, inr, ℕ, zero, suc, ◌+◌, ◌-◌, ◌*◌, ◌/◌, ◌%◌, ◌^◌, ◌<◌, ◌≤◌, ◌==◌, List, [], ◌∷◌, ◌++◌, length, replicate, Bool, true, false, cond, refl, sym, ap, ◌∙◌, arith, add-one}
use Rattle.std.proofs.Math.Nat.{pow-succ'}
use Rattle.std.proofs.lemmas.Bool.Decides.{nat_tests}
use Rattle.std.proofs.lemmas.List.{append_assoc, append-nil, replicate_more}
use Rattle.std.specs.Fmt.{digit_glyph, digits, digits_onto, char_count, padded_integral, format_spec}
use Rattle.printed_lines.specs.ProfileLines.{hex_digits}

-- zeros in front of others
moved : (k : ℕ) (others : List ℕ) → replicate k 48 ++ (48 ∷ others) ≡ replicate (suc k) 48 ++ others
moved k others =
    let more : replicate k 48 ++ 48 ∷ [] ≡ replicate (suc k) 48 = replicate_more k 48 ∙ ap (λ n. replicate n 48) (add-one k) in
    sym (append_assoc (replicate k 48) (48 ∷ []) others) ∙ ap (λ xs. xs ++ others) more

-- the digits of 0
zeros : (k : ℕ) (others : List ℕ) → hex_digits k 0 others ≡ replicate k 48 ++ others
zeros zero others = refl
zeros (suc k) others = zeros k (48 ∷ others) ∙ moved k others

onto : (k n : ℕ) (others : List ℕ) (t : Bool) → (n / 16 == 0) ≡ t
    → digits_onto (suc k) 16 false n others ≡ cond t (digit_glyph false (n % 16) ∷ others) (digits_onto k 16 false (n / 16) (digit_glyph false (n % 16) ∷ others))
onto k n others t e = rw e refl

-- digits with zeros in front, so that there are `suc m` of them
abbrev Pads : ℕ → ℕ → ℕ → List ℕ → Type 0
Pads m k n others =
    replicate (suc m + length others - length (digits_onto k 16 false n others)) 48 ++ digits_onto k 16 false n others
    ≡ hex_digits (suc m) n others

pads_last : (m k n : ℕ) (others : List ℕ) → n < 16 → Pads m (suc k) n others
pads_last m k n others small =
    let high : n / 16 ≡ 0 = omega arith in
    let test : (n / 16 == 0) ≡ true = rw high refl in
    let written = onto k n others true test in
    let count : suc m + length others - suc (length others) ≡ m = omega arith in
    rw (written, count, high) (sym (zeros m (digit_glyph false (n % 16) ∷ others)))

pads_more : (m k n : ℕ) (others : List ℕ) → 16 ≤ n → Pads m k (n / 16) (digit_glyph false (n % 16) ∷ others) → Pads (suc m) (suc k) n others
pads_more m k n others large pads =
    let test : (n / 16 == 0) ≡ false = grind (arith, nat_tests) in
    let written = onto k n others false test in
    let count : suc (suc m) + length others ≡ suc m + suc (length others) = omega arith in
    rw (written, count) pads

cases : (n : ℕ) → (n < 16) ⊎ (16 ≤ n)
cases n = grind arith

pads : (m k n : ℕ) (others : List ℕ) → m < k → n < 16 ^ suc m → Pads m k n others
pads m zero n others low below = absurd (omega arith)
pads zero (suc k) n others low below = pads_last zero k n others (omega arith)
pads (suc m) (suc k) n others low below =
    elim (cases n) [
      | inl small ↦ pads_last (suc m) k n others small
      | inr large ↦
          let power : 16 ^ suc (suc m) ≡ 16 * 16 ^ suc m = pow-succ' 16 (suc m) in
          pads_more m k n others large (pads m k (n / 16) (digit_glyph false (n % 16) ∷ others) (omega arith) (omega (arith, power)))
    ]

shape : (numeral : List ℕ) → padded_integral (format_spec 32 0 4 8 (2 ^ 64 - 1)) false [] numeral ≡ replicate (8 - length numeral) 48 ++ numeral
unfolding padded_integral char_count
shape numeral =
    let count : 8 - length numeral - 0 - 0 ≡ 8 - length numeral = omega arith in
    rw (count, append-nil numeral) refl

spelled : (n : ℕ) → digits 16 false n ≡ digits_onto 64 16 false n []
unfolding digits
spelled n = refl

pub eight_digits : (n : ℕ) → n < 2 ^ 32 → padded_integral (format_spec 32 0 4 8 (2 ^ 64 - 1)) false [] (digits 16 false n) ≡ hex_digits 8 n []
eight_digits n small =
    let padded : Pads 7 64 n [] = pads 7 64 n [] (omega arith) (omega arith) in
    shape (digits 16 false n) ∙ rw (spelled n) padded

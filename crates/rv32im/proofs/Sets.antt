-- Sets of registers, as the bits of a number, against lists.
use Rattle.std.proofs.Common.{◌≡◌, ◌≢◌, ℕ, ◌+◌, ◌*◌, ◌%◌, ◌^◌, ◌<◌, ◌≤◌, inl, inr, length, get_or, take, List, [], ◌∷◌, ◌++◌, bit_or, arith, sym, ◌∙◌, ap, subst}
use Rattle.std.specs.Prelude.{Contains, ◌↔◌}
use Rattle.std.specs.Int.{bit_at, w32}
use Rattle.std.proofs.lemmas.Bool.{cases_eq}
use Rattle.std.proofs.lemmas.Bool.Decides.{nat_tests}
use Rattle.std.proofs.lemmas.List.{take_more}
use Rattle.std.proofs.lemmas.List.Elements.{filter-append, Contains-push, Contains-push_cases, Contains-append_left}
use Rattle.std.proofs.lemmas.Nat.Bits.{bit_at_set_same, bit_at_set_other}
use Rattle.rv32im.specs.Acts.{without_zero}

-- of the numbers below 32, those of the list have their bits set
abbrev pub Bits : ℕ → List ℕ → Type 0
Bits n ks = (k : ℕ) → k < 32 → (bit_at n k ≡ 1) ↔ Contains ks k

-- a number above 31 has no bit
pub left_out : (n : ℕ) (ks : List ℕ) (k : ℕ) → 32 ≤ k → Bits n ks → Bits n (ks ++ k ∷ [])
left_out n ks k high bits j low = (
  λ set. Contains-append_left ks (k ∷ []) j ((bits j low).0 set),
  λ has. elim (Contains-push_cases ks k j has) [ inl before ↦ (bits j low).1 before | inr last ↦ absurd (omega arith) ],
)

-- setting its bit adds a number, which isn't 0
pub put_in : (n : ℕ) (ks : List ℕ) (k : ℕ) → k ≢ 0 → k < 32 → Bits n ks → Bits (bit_or n (1 * 2 ^ k % 2 ^ 32)) (ks ++ without_zero (k ∷ []))
put_in n ks k nonzero fits bits =
    let listed : k ∷ [] ≡ without_zero (k ∷ []) = grind (arith, nat_tests) in
    subst (λ xs. Bits (bit_or n (1 * 2 ^ k % 2 ^ 32)) (ks ++ xs)) listed (λ j low.
    elim (cases_eq j k) [
      | inl same ↦ (
        λ set. subst (λ x. Contains (ks ++ k ∷ []) x) (sym same) (Contains-push ks k),
        λ has. subst (λ x. bit_at (bit_or n (1 * 2 ^ k % 2 ^ 32)) x ≡ 1) (sym same) (bit_at_set_same w32 n k fits),
      )
      | inr other ↦
          let kept : bit_at (bit_or n (1 * 2 ^ k % 2 ^ 32)) j ≡ bit_at n j = bit_at_set_other w32 n k fits j other in (
            λ set. Contains-append_left ks (k ∷ []) j ((bits j low).0 (sym kept ∙ set)),
            λ has. elim (Contains-push_cases ks k j has) [ inl before ↦ kept ∙ (bits j low).1 before | inr last ↦ absurd (other (sym last)) ],
          )
    ])

-- one number more of a list
pub more : (ks : List ℕ) (i : ℕ) → i < length ks → without_zero (take (i + 1) ks) ≡ without_zero (take i ks) ++ without_zero (get_or ks i 0 ∷ [])
more ks i within = ap without_zero (take_more ks i 0 within) ∙ filter-append _ (take i ks) (get_or ks i 0 ∷ [])

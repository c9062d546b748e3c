-- Rows that are added one by one.
use Rattle.std.proofs.Common.{◌≡◌, ◌∙◌, ℕ, suc, ◌+◌, ◌-◌, ◌<◌, List, [], ◌∷◌, ◌++◌, sym, ap, arith}
use Rattle.std.proofs.lemmas.List.{append_assoc}
use Rattle.placement_programme.specs.Rows.{in_rows}

row_first : (first count k value : ℕ) → k < count → in_rows (first + k) (count - k) value ≡ (first + k, value) ∷ in_rows (first + (k + 1)) (count - (k + 1)) value
row_first first count k value less =
    let left : count - k ≡ suc (count - (k + 1)) = omega (arith, less) in
    let next : suc (first + k) ≡ first + (k + 1) = omega arith in
    ap (λ n. in_rows (first + k) n value) left ∙ ap (λ r. (first + k, value) ∷ in_rows r (count - (k + 1)) value) next

pub one_row : (ws new whole : List (ℕ × ℕ)) (first count k value : ℕ) → k < count → new ≡ ws ++ (first + k, value) ∷ [] → ws ++ in_rows (first + k) (count - k) value ≡ whole → new ++ in_rows (first + (k + 1)) (count - (k + 1)) value ≡ whole
one_row ws new whole first count k value less is before =
    ap (λ (us : List (ℕ × ℕ)). us ++ in_rows (first + (k + 1)) (count - (k + 1)) value) is
    ∙ (append_assoc ws ((first + k, value) ∷ []) (in_rows (first + (k + 1)) (count - (k + 1)) value)
    ∙ (ap (λ (us : List (ℕ × ℕ)). ws ++ us) (sym (row_first first count k value less)) ∙ before))

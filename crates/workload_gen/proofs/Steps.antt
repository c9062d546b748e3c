-- Lists that grow at their end, and one more element of them.
use Rattle.std.proofs.Common.{◌≡◌, ℕ, suc, ◌+◌, List, [], ◌++◌, ap, sym, ◌∙◌, arith, append_assoc}
use Rattle.std.proofs.lemmas.List.{append-nil}

-- with no more elements the list is as it was
pub grown_none : {A : Type 0} (below : ℕ → List A) (k : ℕ) → below (k + 0) ≡ below k ++ []
grown_none below k = let same : k + 0 ≡ k = omega arith in ap below same ∙ sym (append-nil (below k))

-- what element `k` adds stands before what the n elements behind it add
pub grown_more : {A : Type 0} (below : ℕ → List A) (k n : ℕ) (here later : List A)
    → below (suc k) ≡ below k ++ here → below (k + 1 + n) ≡ below (k + 1) ++ later → below (k + suc n) ≡ below k ++ (here ++ later)
grown_more below k n here later first rest =
    let next : k + suc n ≡ k + 1 + n = omega arith in
    let is_suc : k + 1 ≡ suc k = omega arith in
    ap below next ∙ (rest ∙ (ap (λ xs. xs ++ later) (ap below is_suc ∙ first) ∙ append_assoc (below k) here later))

-- Reading one thing after the other, as a loop does.
use Rattle.std.proofs.Common.{◌≡◌, ℕ, suc, ◌-◌, ◌+◌, ◌≤◌, ◌<◌, List, [], ◌∷◌, ◌++◌, Result, Ok, Err, refl, sym, ap, ◌∙◌, append_assoc, arith}
use Rattle.std.proofs.lemmas.List.{append-nil}
use Rattle.certificate_checker.specs.declared.fault.CertFault.{CertFault}
use Rattle.certificate_checker.specs.Reading.{◌>>=◌, many_at}

-- what was read before, and what is still read
abbrev pub with_front : {A : Type 0} → List A → Result (List A × List ℕ) CertFault → Result (List A × List ℕ) CertFault
with_front front read = read >>= λ x. Ok (front ++ x.0, x.1)

regroup : {A : Type 0} (front : List A) (x : A) (read : Result (List A × List ℕ) CertFault) → with_front front (read >>= λ xs. Ok (x ∷ xs.0, xs.1)) ≡ with_front (front ++ x ∷ []) read
regroup front x (Ok xs) = ap (λ ys. Ok (ys, xs.1)) (simp append_assoc)
regroup front x (Err f) = refl

pub goes_on : {A : Type 0} (step : ℕ → List ℕ → Result (A × List ℕ) CertFault) (key : A → ℕ) (front : List A) (count i least : ℕ) (bytes : List ℕ) (x : A) (after : List ℕ) (next : ℕ) (all : Result (List A × List ℕ) CertFault) → i < count → step least bytes ≡ Ok (x, after) → next ≡ suc (key x)
    → with_front front (many_at step key (count - i) least bytes) ≡ all → with_front (front ++ x ∷ []) (many_at step key (count - (i + 1)) next after) ≡ all
unfolding many_at
goes_on step key front count i least bytes x after next all lt read is_next so_far =
    let k : count - i ≡ suc (count - (i + 1)) = omega arith in
    let one : with_front front (many_at step key (count - i) least bytes) ≡ with_front (front ++ x ∷ []) (many_at step key (count - (i + 1)) (suc (key x)) after) = rw (k, read) (regroup front x (many_at step key (count - (i + 1)) (suc (key x)) after)) in
    let moved : with_front (front ++ x ∷ []) (many_at step key (count - (i + 1)) next after) ≡ with_front (front ++ x ∷ []) (many_at step key (count - (i + 1)) (suc (key x)) after) = ap (λ n. with_front (front ++ x ∷ []) (many_at step key (count - (i + 1)) n after)) is_next in
    moved ∙ (sym one ∙ so_far)

pub ends : {A : Type 0} (step : ℕ → List ℕ → Result (A × List ℕ) CertFault) (key : A → ℕ) (e : CertFault) (front : List A) (count i least : ℕ) (bytes : List ℕ) (all : Result (List A × List ℕ) CertFault) → i < count → step least bytes ≡ Err e
    → with_front front (many_at step key (count - i) least bytes) ≡ all → all ≡ Err e
unfolding many_at
ends step key e front count i least bytes all lt read so_far =
    let k : count - i ≡ suc (count - (i + 1)) = omega arith in
    let one : with_front front (many_at step key (count - i) least bytes) ≡ Err e = rw (k, read) refl in
    sym so_far ∙ one

pub is_done : {A : Type 0} (step : ℕ → List ℕ → Result (A × List ℕ) CertFault) (key : A → ℕ) (front : List A) (count i least : ℕ) (bytes : List ℕ) (all : Result (List A × List ℕ) CertFault) → count ≤ i → with_front front (many_at step key (count - i) least bytes) ≡ all → all ≡ Ok (front, bytes)
unfolding many_at
is_done step key front count i least bytes all le so_far =
    let k : count - i ≡ 0 = omega arith in
    let one : with_front front (many_at step key (count - i) least bytes) ≡ Ok (front, bytes) = rw k (ap (λ ys. Ok (ys, bytes)) (append-nil front)) in
    sym so_far ∙ one

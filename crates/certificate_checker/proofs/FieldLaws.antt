-- Numbers within bounds and lists of things that ascend: what is read was spelled so, and what was spelled is read again.
use Rattle.std.proofs.Common.{◌≡◌, ◌∙◌, inl, inr, ℕ, zero, suc, ◌^◌, ◌<◌, ◌≤◌, nat_le, ◌&&◌, Bool, true, false, List, [], ◌∷◌, ◌++◌, length, Result, Ok, Err, refl, ap, subst, append_assoc, arith}
use Rattle.std.specs.List.{flat_map}
use Rattle.std.proofs.lemmas.Bool.{leb-true, le-leb}
use Rattle.std.proofs.lemmas.List.Concat.{flat_map-cons}
use Rattle.placement_programme.specs.Bounds.{row_of, value_of}
use Rattle.certificate_checker.specs.declared.digits.NumberFault.{NumberFault}
use Rattle.certificate_checker.specs.declared.digits.NumberFault.TheVariants.{Cut, Bad}
use Rattle.certificate_checker.specs.declared.fields.Part.{Part}
use Rattle.certificate_checker.specs.declared.fields.Part.TheVariants.{Node}
use Rattle.certificate_checker.specs.declared.fault.CertFault.{CertFault}
use Rattle.certificate_checker.specs.Digits.{number_at, number_of}
use Rattle.certificate_checker.specs.Reading.{◌>>=◌, place, cut_off, broken, ranged, number_in, entry_at, many_at}
use Rattle.certificate_checker.specs.Spelling.{entry_text}
use Rattle.certificate_checker.proofs.NumberLaws.{IsBytes, Takes, takes_then, takes_none, chosen, found, number_takes, number_again}

-- the value of a step that did not fail
pub bind_ok : {A B : Type 0} (r : Result A CertFault) (f : A → Result B CertFault) (y : B) → (r >>= f) ≡ Ok y → (x : A) × (r ≡ Ok x) × (f x ≡ Ok y)
bind_ok (Ok x) f y e = (x, refl, e)
bind_ok (Err d) f y e = absurd cc

abbrev pub done : {A : Type 0} → A → Result A CertFault
done x = Ok x

pub done_is : {A : Type 0} (x y : A) → done x ≡ done y → x ≡ y
done_is x y e = cc

pub not_done : {A : Type 0} (f : CertFault) (x : A) → Err f ≡ done x → ⊥
not_done f x e = cc

pub both_true : (a b : Bool) → (a && b) ≡ true → (a ≡ true) × (b ≡ true)
both_true true b e = (refl, e)
both_true false b e = absurd (let f : false ≡ true = e in cc)

pub ranged_take : (part : Part) (least most total : ℕ) (bytes : List ℕ) (r : Result (ℕ × List ℕ) NumberFault) (n : ℕ) (rest : List ℕ) → ranged part least most total bytes r ≡ Ok (n, rest) → (r ≡ Ok (n, rest)) × (least ≤ n) × (n ≤ most)
ranged_take part least most total bytes (Err Cut) n rest e = absurd (not_done (cut_off total) (n, rest) e)
ranged_take part least most total bytes (Err Bad) n rest e = absurd (not_done (broken part (place total bytes)) (n, rest) e)
ranged_take part least most total bytes (Ok x) n rest e =
    elim (chosen (nat_le least x.0 && nat_le x.0 most) (done x) (Err (broken part (place total bytes))) (done (n, rest)) e) [
      | inl within ↦
          let tests = both_true (nat_le least x.0) (nat_le x.0 most) within.0 in
          let same = done_is x (n, rest) within.1 in
          let low = leb-true least x.0 tests.0 in
          let high = leb-true x.0 most tests.1 in
          subst (λ (p : ℕ × List ℕ). (found x ≡ found p) × (least ≤ p.0) × (p.0 ≤ most)) same (refl, low, high)
      | inr outside ↦ absurd (not_done (broken part (place total bytes)) (n, rest) outside.1)
    ]

pub in_takes : (part : Part) (least most total : ℕ) (bytes : List ℕ) (n : ℕ) (rest : List ℕ) → IsBytes bytes → number_in part least most total bytes ≡ Ok (n, rest) → Takes bytes (number_of n) rest × (least ≤ n) × (n ≤ most) × (n < 2 ^ 64)
unfolding number_in
in_takes part least most total bytes n rest all e =
    let read = ranged_take part least most total bytes (number_at bytes) n rest e in
    let taken = number_takes bytes n rest all read.0 in
    (taken.0, read.1, read.2, taken.1)

pub in_again : (part : Part) (least most total n : ℕ) (rest : List ℕ) → least ≤ n → n ≤ most → n < 2 ^ 64 → number_in part least most total (number_of n ++ rest) ≡ Ok (n, rest)
unfolding number_in
in_again part least most total n rest low high fit =
    let read = number_again n rest fit in
    let first = le-leb least n low in
    let second = le-leb n most high in
    ap (ranged part least most total (number_of n ++ rest)) read ∙ rw (first, second) refl

-- entries
abbrev pub IsEntry : ℕ → ℕ × ℕ → Type 0
IsEntry least m = (least ≤ row_of m) × (row_of m < 2 ^ 32) × (value_of m < 2 ^ 64)

pub entry_takes : (total least : ℕ) (bytes : List ℕ) (x : (ℕ × ℕ) × List ℕ) → IsBytes bytes → entry_at least total bytes ≡ Ok x → Takes bytes (entry_text x.0) x.1 × IsEntry least x.0
unfolding entry_at
entry_takes total least bytes x all e =
    let a = bind_ok (number_in Node least 4294967295 total bytes) (λ row. number_in Node 0 18446744073709551615 total row.1 >>= λ multiplier. Ok ((row.0, multiplier.0), multiplier.1)) x e in
    let b = bind_ok (number_in Node 0 18446744073709551615 total a.0.1) (λ multiplier. Ok ((a.0.0, multiplier.0), multiplier.1)) x a.2 in
    let first = in_takes Node least 4294967295 total bytes a.0.0 a.0.1 all a.1 in
    let second = in_takes Node 0 18446744073709551615 total a.0.1 b.0.0 b.0.1 first.0.fits b.1 in
    let both = takes_then bytes (number_of a.0.0) a.0.1 (number_of b.0.0) b.0.1 first.0 second.0 in
    let made : (ℕ × ℕ) × List ℕ = ((a.0.0, b.0.0), b.0.1) in
    let low = first.1 in
    let high = first.2 in
    let fit = second.3 in
    subst (λ (y : (ℕ × ℕ) × List ℕ). Takes bytes (entry_text y.0) y.1 × IsEntry least y.0) (done_is made x b.2) (both, (low, omega (arith, high), fit))

pub entry_again : (total least : ℕ) (m : ℕ × ℕ) (rest : List ℕ) → IsEntry least m → entry_at least total (entry_text m ++ rest) ≡ Ok (m, rest)
unfolding entry_at
entry_again total least m rest good =
    let row = good.1 in
    let value = good.2 in
    let first = in_again Node least 4294967295 total (row_of m) (number_of (value_of m) ++ rest) good.0 (omega (arith, row)) (omega (arith, row)) in
    let second = in_again Node 0 18446744073709551615 total (value_of m) rest (omega arith) (omega (arith, value)) value in
    ap (entry_at least total) (append_assoc (number_of (row_of m)) (number_of (value_of m)) rest) ∙ rw (first, second) refl

-- things of a list, each from the key before it on
abbrev pub AllFrom : {A : Type 0} → (ℕ → A → Type 0) → (A → ℕ) → ℕ → List A → Type 0
AllFrom Good key least [] = Unit {0}
AllFrom Good key least (x ∷ xs) = Good least x × AllFrom Good key (suc (key x)) xs

abbrev pub StepTakes : {A : Type 0} → (ℕ → List ℕ → Result (A × List ℕ) CertFault) → (A → List ℕ) → (ℕ → A → Type 0) → Type 0
StepTakes {A} step text Good = (least : ℕ) (bytes : List ℕ) (x : A × List ℕ) → IsBytes bytes → step least bytes ≡ Ok x → Takes bytes (text x.0) x.1 × Good least x.0

abbrev pub StepAgain : {A : Type 0} → (ℕ → List ℕ → Result (A × List ℕ) CertFault) → (A → List ℕ) → (ℕ → A → Type 0) → Type 0
StepAgain {A} step text Good = (least : ℕ) (x : A) (rest : List ℕ) → Good least x → step least (text x ++ rest) ≡ Ok (x, rest)

pub many_take : {A : Type 0} (step : ℕ → List ℕ → Result (A × List ℕ) CertFault) (key : A → ℕ) (text : A → List ℕ) (Good : ℕ → A → Type 0) → StepTakes step text Good → (n least : ℕ) (bytes : List ℕ) (x : List A × List ℕ) → IsBytes bytes → many_at step key n least bytes ≡ Ok x → Takes bytes (flat_map text x.0) x.1 × (length x.0 ≡ n) × AllFrom Good key least x.0
unfolding many_at
many_take step key text Good takes zero least bytes x all e =
    subst (λ (y : List _ × List ℕ). Takes bytes (flat_map text y.0) y.1 × (length y.0 ≡ 0) × AllFrom Good key least y.0) (done_is ([], bytes) x e) (takes_none bytes all, refl, tt)
many_take step key text Good takes (suc n) least bytes x all e =
    let a = bind_ok (step least bytes) (λ one. many_at step key n (suc (key one.0)) one.1 >>= λ xs. Ok (one.0 ∷ xs.0, xs.1)) x e in
    let b = bind_ok (many_at step key n (suc (key a.0.0)) a.0.1) (λ xs. Ok (a.0.0 ∷ xs.0, xs.1)) x a.2 in
    let first = takes least bytes a.0 all a.1 in
    let second = many_take step key text Good takes n (suc (key a.0.0)) a.0.1 b.0 first.0.fits b.1 in
    let both = takes_then bytes (text a.0.0) a.0.1 (flat_map text b.0.0) b.0.1 first.0 second.0 in
    subst (λ (y : List _ × List ℕ). Takes bytes (flat_map text y.0) y.1 × (length y.0 ≡ suc n) × AllFrom Good key least y.0) (done_is (a.0.0 ∷ b.0.0, b.0.1) x b.2) (rw flat_map-cons both, ap suc second.1, (first.1, second.2))

pub many_again : {A : Type 0} (step : ℕ → List ℕ → Result (A × List ℕ) CertFault) (key : A → ℕ) (text : A → List ℕ) (Good : ℕ → A → Type 0) → StepAgain step text Good → (xs : List A) (least : ℕ) (rest : List ℕ) → AllFrom Good key least xs → many_at step key (length xs) least (flat_map text xs ++ rest) ≡ Ok (xs, rest)
unfolding many_at
many_again step key text Good again [] least rest all = refl
many_again step key text Good again (x ∷ xs) least rest all =
    let regrouped : flat_map text (x ∷ xs) ++ rest ≡ text x ++ (flat_map text xs ++ rest) = ap (λ (t : List ℕ). t ++ rest) (flat_map-cons text x xs) ∙ append_assoc (text x) (flat_map text xs) rest in
    ap (many_at step key (suc (length xs)) least) regrouped ∙ rw (again least x (flat_map text xs ++ rest) all.0, many_again step key text Good again xs (suc (key x)) rest all.1) refl

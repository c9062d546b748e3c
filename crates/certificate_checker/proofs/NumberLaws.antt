-- A number that is read is the number that was spelled, and what was spelled is read again.
use Rattle.std.proofs.Common.{◌≡◌, ◌∙◌, ◌⊎◌, inl, inr, ℕ, zero, suc, ◌+◌, ◌-◌, ◌*◌, ◌/◌, ◌%◌, ◌^◌, ◌<◌, ◌≤◌, ◌==◌, nat_lt, nat_le, ◌||◌, Bool, true, false, cond, List, [], ◌∷◌, ◌++◌, get_or, Result, Ok, Err, refl, sym, ap, subst, append_assoc, arith}
use Rattle.std.proofs.Math.Nat.{pow-succ'}
use Rattle.std.proofs.lemmas.Bool.{cases_lt, lt-ltb, le-ltb, ltb-true, ltb-false, leb-false, lt-leb, eqb-false, ne_eqb}
use Rattle.certificate_checker.specs.declared.digits.NumberFault.{NumberFault}
use Rattle.certificate_checker.specs.declared.digits.NumberFault.TheVariants.{Cut, Bad}
use Rattle.certificate_checker.specs.Digits.{joined_at, digits_at, number_at, digits_of, number_of}

abbrev pub IsBytes : List ℕ → Type 0
IsBytes bytes = (i : ℕ) → get_or bytes i 0 < 256

-- what a reader took from the front
pub record Takes (bytes text rest : List ℕ) : Type 0 where
  pub parts : bytes ≡ text ++ rest
  pub fits : IsBytes rest

pub takes_then : (a x b y c : List ℕ) → Takes a x b → Takes b y c → Takes a (x ++ y) c
takes_then a x b y c p q = record { parts = p.parts ∙ (ap (λ (t : List ℕ). x ++ t) q.parts ∙ sym (append_assoc x y c)); fits = q.fits }

pub takes_byte : (b : ℕ) (bytes text rest : List ℕ) → Takes bytes text rest → Takes (b ∷ bytes) (b ∷ text) rest
takes_byte b bytes text rest p = record { parts = ap (λ (t : List ℕ). b ∷ t) p.parts; fits = p.fits }

pub takes_none : (bytes : List ℕ) → IsBytes bytes → Takes bytes [] bytes
takes_none bytes all = record { parts = refl; fits = all }

pub bytes_behind : (b : ℕ) (bytes : List ℕ) → IsBytes (b ∷ bytes) → IsBytes bytes
bytes_behind b bytes all i = all (suc i)

-- which way a test went
pub chosen : {A : Type 0} (b : Bool) (x y z : A) → cond b x y ≡ z → ((b ≡ true) × (x ≡ z)) ⊎ ((b ≡ false) × (y ≡ z))
chosen true x y z e = inl (refl, e)
chosen false x y z e = inr (refl, e)

pub neither : (a b : Bool) → (a || b) ≡ false → (a ≡ false) × (b ≡ false)
neither true b e = absurd (let f : true ≡ false = e in cc)
neither false b e = (refl, e)

abbrev pub found : ℕ × List ℕ → Result (ℕ × List ℕ) NumberFault
found x = Ok x

found_is : (x y : ℕ × List ℕ) → found x ≡ found y → x ≡ y
found_is x y e = cc

not_found : (f : NumberFault) (x : ℕ × List ℕ) → Err f ≡ found x → ⊥
not_found f x e = cc

-- the spelling of a number of more than seven bits
pub spelled_more : (more n b high : ℕ) → 128 ≤ n → 128 + n % 128 ≡ b → n / 128 ≡ high → digits_of (suc more) n ≡ b ∷ digits_of more high
spelled_more more n b high big low rest =
    let test = le-ltb n 128 big in
    rw (test, low, rest) refl

spelled_short : (more n : ℕ) → n < 128 → digits_of (suc more) n ≡ n ∷ []
spelled_short more n small = let test = lt-ltb n 128 small in rw test refl

joined_take : (more b : ℕ) (bs : List ℕ) (n : ℕ) (rest : List ℕ) (r : Result (ℕ × List ℕ) NumberFault) → 128 ≤ b → b < 256 → ((m : ℕ) (after : List ℕ) → r ≡ Ok (m, after) → Takes bs (digits_of more m) after × (m < 2 ^ 64)) → joined_at (b - 128) r ≡ Ok (n, rest) → Takes (b ∷ bs) (digits_of (suc more) n) rest × (n < 2 ^ 64)
joined_take more b bs n rest (Err f) long small inner e = absurd (not_found f (n, rest) e)
joined_take more b bs n rest (Ok x) long small inner e =
    elim (chosen ((x.0 == 0) || nat_le (2 ^ 64) ((b - 128) + 128 * x.0)) (Err Bad) (found ((b - 128) + 128 * x.0, x.1)) (found (n, rest)) e) [
      | inl bad ↦ absurd (not_found Bad (n, rest) bad.1)
      | inr good ↦
          let tests = neither (x.0 == 0) (nat_le (2 ^ 64) ((b - 128) + 128 * x.0)) good.0 in
          let some = eqb-false x.0 0 tests.0 in
          let fit = leb-false (2 ^ 64) ((b - 128) + 128 * x.0) tests.1 in
          let below = inner x.0 x.1 refl in
          let text = spelled_more more ((b - 128) + 128 * x.0) b x.0 (omega (arith, some)) (omega arith) (omega arith) in
          let taken : Takes (b ∷ bs) (digits_of (suc more) ((b - 128) + 128 * x.0)) x.1 = subst (λ (t : List ℕ). Takes (b ∷ bs) t x.1) (sym text) (takes_byte b bs (digits_of more x.0) x.1 below.0) in
          subst (λ (p : ℕ × List ℕ). Takes (b ∷ bs) (digits_of (suc more) p.0) p.1 × (p.0 < 2 ^ 64)) (found_is ((b - 128) + 128 * x.0, x.1) (n, rest) good.1) (taken, fit)
    ]

pub digits_take : (more : ℕ) (bytes : List ℕ) (n : ℕ) (rest : List ℕ) → IsBytes bytes → digits_at more bytes ≡ Ok (n, rest) → Takes bytes (digits_of more n) rest × (n < 2 ^ 64)
digits_take zero [] n rest all e = absurd (not_found Cut (n, rest) e)
digits_take (suc more) [] n rest all e = absurd (not_found Cut (n, rest) e)
digits_take zero (b ∷ bs) n rest all e =
    elim (chosen (nat_lt b 128) (found (b, bs)) (Err Bad) (found (n, rest)) e) [
      | inl short ↦
          let small = ltb-true b 128 short.0 in
          let taken : Takes (b ∷ bs) (b ∷ []) bs = takes_byte b bs [] bs (takes_none bs (bytes_behind b bs all)) in
          subst (λ (p : ℕ × List ℕ). Takes (b ∷ bs) (digits_of zero p.0) p.1 × (p.0 < 2 ^ 64)) (found_is (b, bs) (n, rest) short.1) (taken, omega (arith, small))
      | inr long ↦ absurd (not_found Bad (n, rest) long.1)
    ]
digits_take (suc more) (b ∷ bs) n rest all e =
    elim (chosen (nat_lt b 128) (found (b, bs)) (joined_at (b - 128) (digits_at more bs)) (found (n, rest)) e) [
      | inl short ↦
          let small = ltb-true b 128 short.0 in
          let one : Takes (b ∷ bs) (b ∷ []) bs = takes_byte b bs [] bs (takes_none bs (bytes_behind b bs all)) in
          let taken : Takes (b ∷ bs) (digits_of (suc more) b) bs = subst (λ (t : List ℕ). Takes (b ∷ bs) t bs) (sym (spelled_short more b small)) one in
          subst (λ (p : ℕ × List ℕ). Takes (b ∷ bs) (digits_of (suc more) p.0) p.1 × (p.0 < 2 ^ 64)) (found_is (b, bs) (n, rest) short.1) (taken, omega (arith, small))
      | inr long ↦
          joined_take more b bs n rest (digits_at more bs) (ltb-false b 128 long.0) (all 0)
          (λ m after read. digits_take more bs m after (bytes_behind b bs all) read) long.1
    ]

joined_again : (low m : ℕ) (rest : List ℕ) → 0 < m → low + 128 * m < 2 ^ 64 → joined_at low (Ok (m, rest)) ≡ Ok (low + 128 * m, rest)
joined_again low m rest some fit =
    let first = ne_eqb m 0 (λ same. omega (arith, same, some)) in
    let second = lt-leb (2 ^ 64) (low + 128 * m) fit in
    rw (first, second) refl

pub digits_again : (more n : ℕ) (rest : List ℕ) → n < 2 * 128 ^ more → n < 2 ^ 64 → digits_at more (digits_of more n ++ rest) ≡ Ok (n, rest)
digits_again zero n rest small fit = let test = lt-ltb n 128 (omega arith) in rw test refl
digits_again (suc more) n rest small fit =
    elim (cases_lt n 128) [
      | inl short ↦
          let test = lt-ltb n 128 short in
          ap (λ (t : List ℕ). digits_at (suc more) (t ++ rest)) (spelled_short more n short) ∙ rw test refl
      | inr long ↦
          let power = pow-succ' 128 more in
          let text = spelled_more more n (128 + n % 128) (n / 128) long refl refl in
          let inner = digits_again more (n / 128) rest (omega (arith, power, small)) (omega (arith, fit)) in
          let test = le-ltb (128 + n % 128) 128 (omega arith) in
          let whole : (128 + n % 128 - 128) + 128 * (n / 128) ≡ n = omega arith in
          let joined = joined_again (128 + n % 128 - 128) (n / 128) rest (omega (arith, long)) (omega (arith, whole, fit)) in
          let read : digits_at (suc more) ((128 + n % 128) ∷ (digits_of more (n / 128) ++ rest)) ≡ joined_at (128 + n % 128 - 128) (Ok (n / 128, rest)) = rw (test, inner) refl in
          ap (λ (t : List ℕ). digits_at (suc more) (t ++ rest)) text
          ∙ (read ∙ (joined ∙ ap (λ (k : ℕ). found (k, rest)) whole))
    ]

pub number_takes : (bytes : List ℕ) (n : ℕ) (rest : List ℕ) → IsBytes bytes → number_at bytes ≡ Ok (n, rest) → Takes bytes (number_of n) rest × (n < 2 ^ 64)
unfolding number_at number_of
number_takes bytes n rest all e = digits_take 9 bytes n rest all e

pub number_again : (n : ℕ) (rest : List ℕ) → n < 2 ^ 64 → number_at (number_of n ++ rest) ≡ Ok (n, rest)
unfolding number_at number_of
number_again n rest fit = digits_again 9 n rest fit fit

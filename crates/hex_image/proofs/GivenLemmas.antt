-- The bytes that were given before and after a record's data.
use Rattle.std.proofs.Common.{◌≡◌, ◌⊎◌, inl, inr, ℕ, zero, suc, ◌+◌, ◌==◌, ◌<◌, ◌≤◌, true, false, if◌then◌else◌, List, [], ◌∷◌, ◌++◌, take, length, get_or, Option, Some, None, is_some, refl, sym, ap, ◌∙◌, arith, add-one}
use Rattle.std.proofs.lemmas.Bool.Decides.{nat_tests}
use Rattle.std.proofs.lemmas.Bool.{cases_eq}
use Rattle.std.proofs.lemmas.List.{take_more, length-take-le}
use Rattle.std.specs.Option.{option_or}
use Rattle.hex_image.specs.Runs.{ByteMap, byte_from}
use Rattle.hex_image.specs.Reading.{any_given}

-- bytes give nothing below their first address and past their last one
pub byte_from_below : (first : ℕ) (bytes : List ℕ) (address : ℕ) → address < first → byte_from first bytes address ≡ None
byte_from_below first [] address below = refl
byte_from_below first (b ∷ bs) address below = let rest = byte_from_below (first + 1) bs address (omega arith) in grind (arith, nat_tests)

pub byte_from_past : (first : ℕ) (bytes : List ℕ) (address : ℕ) → first + length bytes ≤ address → byte_from first bytes address ≡ None
byte_from_past first [] address past = refl
byte_from_past first (b ∷ bs) address past = let rest = byte_from_past (first + 1) bs address (omega arith) in grind (arith, nat_tests)

pub byte_from_push : (first : ℕ) (bytes : List ℕ) (b address : ℕ) → byte_from first (bytes ++ b ∷ []) address ≡ (if address == first + length bytes then Some b else byte_from first bytes address)
byte_from_push first [] b address = let same : first + 0 ≡ first = omega arith in rw same refl
byte_from_push first (c ∷ bs) b address =
    let rest = byte_from_push (first + 1) bs b address in
    let place : first + 1 + length bs ≡ first + length (c ∷ bs) = omega arith in
    grind (arith, nat_tests)

pub byte_from_more : (first : ℕ) (bytes : List ℕ) (i address : ℕ) → i < length bytes → byte_from first (take (i + 1) bytes) address ≡ (if address == first + i then Some (get_or bytes i 0) else byte_from first (take i bytes) address)
byte_from_more first bytes i address below =
    let size : length (take i bytes) ≡ i = length-take-le i bytes (omega arith) in
    rw (take_more bytes i 0 below) (byte_from_push first (take i bytes) (get_or bytes i 0) address ∙ ap (λ n. if address == first + n then Some (get_or bytes i 0) else byte_from first (take i bytes) address) size)

given_among : (given : ByteMap) (first n i : ℕ) → i < n → is_some (given (first + i)) ≡ true → any_given given first n ≡ true
given_among given first zero i below some = absurd (omega arith)
given_among given first (suc n) i below some =
    let place : (i ≡ n) ⊎ (i < n) = grind arith in
    elim place [
      | inl here ↦ let some_here : is_some (given (first + n)) ≡ true = rw here at some in grind arith
      | inr earlier ↦ let rest = given_among given first n i earlier some in grind arith
    ]

some_before : (held old new : Option ℕ) → held ≡ option_or old new → new ≡ None → is_some held ≡ is_some old
some_before held None new is none = rw (is, none) refl
some_before held (Some b) new is none = rw is refl

-- what holds while bytes are put at addresses, one after the other
pub record Puts (given now : ByteMap) (first : ℕ) (bytes : List ℕ) (i : ℕ) : Type 0 where
  pub none : any_given given first i ≡ false
  pub given_now : (address : ℕ) → now address ≡ option_or (given address) (byte_from first (take i bytes) address)

-- an address has a byte before it is put just where one was given
same_given : (given now : ByteMap) (first : ℕ) (bytes : List ℕ) (i : ℕ) → i < length bytes → Puts given now first bytes i → is_some (now (first + i)) ≡ is_some (given (first + i))
same_given given now first bytes i below puts =
    some_before (now (first + i)) (given (first + i)) (byte_from first (take i bytes) (first + i)) (puts.given_now (first + i))
    (byte_from_past first (take i bytes) (first + i) (let size = length-take-le i bytes (omega arith) in omega arith))

pub put_twice : (given now : ByteMap) (first : ℕ) (bytes : List ℕ) (i : ℕ) → i < length bytes → Puts given now first bytes i → is_some (now (first + i)) ≡ true → any_given given first (length bytes) ≡ true
put_twice given now first bytes i below puts some =
    given_among given first (length bytes) i below (sym (same_given given now first bytes i below puts) ∙ some)

option_or_none : (held : Option ℕ) (new : Option ℕ) → is_some held ≡ false → option_or held new ≡ new
option_or_none None new none = refl
option_or_none (Some b) new none = cc

pub put_more : (given now later : ByteMap) (first : ℕ) (bytes : List ℕ) (i : ℕ) → i < length bytes → Puts given now first bytes i → is_some (now (first + i)) ≡ false
    → ((address : ℕ) → later address ≡ (if address == first + i then Some (get_or bytes i 0) else now address)) → Puts given later first bytes (i + 1)
put_more given now later first bytes i below puts free put =
    let not_given = sym (same_given given now first bytes i below puts) ∙ free in
    let none = puts.none in
    record {
      none = rw add-one (rw (none, not_given) refl);
      given_now = λ address.
          put address ∙ (elim (cases_eq address (first + i)) [
            | inl here ↦
                let not_here : is_some (given address) ≡ false = rw here not_given in
                let test : (address == first + i) ≡ true = grind (arith, nat_tests) in
                rw (byte_from_more first bytes i address below, test) (sym (option_or_none (given address) (Some (get_or bytes i 0)) not_here))
            | inr other ↦
                let test : (address == first + i) ≡ false = grind (arith, nat_tests) in
                rw (byte_from_more first bytes i address below, test) (puts.given_now address)
          ]);
    }

-- Numbers of the text: unsigned LEB128, in the shortest form, below 2 ^ 64. Each byte has seven bits, the low ones
-- first; all but the last are 128 or more.
use Rattle.std.specs.Prelude.{◌≡◌, ℕ, zero, suc, ◌+◌, ◌-◌, ◌*◌, ◌/◌, ◌%◌, ◌^◌, ◌==◌, nat_lt, nat_le, ◌||◌, if◌then◌else◌, List, [], ◌∷◌, Result, Ok, Err}
use Rattle.certificate_checker.specs.declared.digits.NumberFault.{NumberFault}
use Rattle.certificate_checker.specs.declared.digits.NumberFault.TheVariants.{Cut, Bad}

-- what a function returned, seen by `view`, is what the definition gives
abbrev pub GivesNumber : {X Y : Type 0} → (X → Y) → Result X NumberFault → Result Y NumberFault → Type 0
GivesNumber view (Ok x) read = read ≡ Ok (view x)
GivesNumber view (Err e) read = read ≡ Err e

-- a number with these low seven bits, where the bytes behind them are a number: in the shortest form that isn't 0
abbrev pub joined_at : ℕ → Result (ℕ × List ℕ) NumberFault → Result (ℕ × List ℕ) NumberFault
joined_at low (Err e) = Err e
joined_at low (Ok x) = if (x.0 == 0) || nat_le (2 ^ 64) (low + 128 * x.0) then Err Bad else Ok (low + 128 * x.0, x.1)

-- the number at the front, of at most `more` bytes behind the first, and the bytes behind it
abbrev pub digits_at : ℕ → List ℕ → Result (ℕ × List ℕ) NumberFault
digits_at more [] = Err Cut
digits_at zero (b ∷ bs) = if nat_lt b 128 then Ok (b, bs) else Err Bad
digits_at (suc more) (b ∷ bs) = if nat_lt b 128 then Ok (b, bs) else joined_at (b - 128) (digits_at more bs)

unfoldable pub number_at : List ℕ → Result (ℕ × List ℕ) NumberFault
number_at bytes = digits_at 9 bytes

-- the spelling of a number
abbrev pub digits_of : ℕ → ℕ → List ℕ
digits_of zero n = n ∷ []
digits_of (suc more) n = if nat_lt n 128 then n ∷ [] else (128 + n % 128) ∷ digits_of more (n / 128)

unfoldable pub number_of : ℕ → List ℕ
number_of n = digits_of 9 n

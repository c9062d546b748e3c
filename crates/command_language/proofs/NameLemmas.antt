-- Names of inputs.
use Rattle.std.proofs.Common.{◌≡◌, ℕ, zero, suc, ◌<◌, ◌≤◌, nat_le, true, not, ◌&&◌, ◌||◌, List, [], ◌∷◌, length, get_or, All, bytes_eq, refl, ap, arith}
use Rattle.std.proofs.lemmas.Bool.{and_parts}
use Rattle.std.proofs.lemmas.Bool.Decides.{nat_tests}
use Rattle.std.proofs.lemmas.Str.{IsUtf8-from_ascii}
use Rattle.std.specs.Borrow.{Bor}
use Rattle.std.specs.List.{list_any}
use Rattle.std.specs.Str.{IsUtf8, IsAscii}
use Rattle.command_language.specs.Lines.{is_between, are_within, has_length, begins_with, is_name, is_input_name, names_of}

pub any_name : (name : List ℕ) (names : List (Bor (List ℕ)))
    → list_any (λ other. bytes_eq other.now name) names ≡ list_any (λ other. bytes_eq other name) (names_of names)
any_name name [] = refl
any_name name (other ∷ names) = ap (λ b. bytes_eq other.now name || b) (any_name name names)

pub in_range : (low high byte : ℕ) → is_between low high byte ≡ true → (low ≤ byte) × (byte ≤ high)
in_range low high byte test =
    let parts = and_parts (nat_le low byte) (nat_le byte high) test in
    let least = parts.0 in
    let most = parts.1 in
    (grind (arith, nat_tests), grind (arith, nat_tests))

-- each of some bytes is in the range
pub all_within : (low high : ℕ) (bytes : List ℕ) → are_within low high bytes ≡ true → All (λ byte. (low ≤ byte) × (byte ≤ high)) bytes
all_within low high [] within k d below = absurd (omega arith)
all_within low high (byte ∷ bytes) within k d below =
    let parts = and_parts (is_between low high byte) (are_within low high bytes) within in
    elim k as (λ k. k < length (byte ∷ bytes) → (low ≤ get_or (byte ∷ bytes) k d) × (get_or (byte ∷ bytes) k d ≤ high)) [
      | zero ↦ λ below. in_range low high byte parts.0
      | suc k ↦ λ below. all_within low high bytes parts.1 k d (omega arith)
    ] below

printed_is_ascii : (bytes : List ℕ) → are_within 33 126 bytes ≡ true → IsAscii bytes
printed_is_ascii [] within i = omega arith
printed_is_ascii (byte ∷ bytes) within i =
    let parts = and_parts (is_between 33 126 byte) (are_within 33 126 bytes) within in
    let here = in_range 33 126 byte parts.0 in
    elim i as (λ i. get_or (byte ∷ bytes) i 0 < 128) [
      | zero ↦ omega (arith, here.0, here.1)
      | suc i ↦ printed_is_ascii bytes parts.1 i
    ]

pub name_is_text : (written : List (List ℕ)) (name : List ℕ) → is_input_name written name ≡ true → IsUtf8 name
name_is_text written name is =
    let all = and_parts (is_name name) (not (list_any (λ other. bytes_eq other name) written)) is in
    let front = and_parts (has_length 1 255 name && are_within 33 126 name) (not (begins_with 45 name)) all.0 in
    let sized = and_parts (has_length 1 255 name) (are_within 33 126 name) front.0 in
    IsUtf8-from_ascii name (printed_is_ascii name sized.1)

-- Sums and differences of words modulo a grain, and upper parts.
use Rattle.std.proofs.Common.{◌≡◌, ℕ, ◌*◌, ◌/◌, ◌%◌, ◌<◌, arith}
use Rattle.std.proofs.lemmas.Bool.Decides.{nat_tests}
use Rattle.rv32im.specs.Words.{plus, minus, offset, upper_half, lower_half}
use Rattle.cell_values.specs.Objects.{IsGrain}
use Rattle.cell_values.proofs.Bits.{at_grain, LowReports}

-- sums and differences wrap at a multiple of the grain
sums_low : (g : ℕ) → IsGrain g → LowReports plus g × LowReports minus g
sums_low =
    at_grain (λ g. LowReports plus g × LowReports minus g)
    (λ w z a b first second. omega arith, λ w z a b first second. omega arith)
    (λ w z a b first second. omega arith, λ w z a b first second. omega arith)
    (λ w z a b first second. omega arith, λ w z a b first second. omega arith)

pub sum_low : (g : ℕ) → IsGrain g → LowReports plus g
sum_low g grain = (sums_low g grain).0

pub difference_low : (g : ℕ) → IsGrain g → LowReports minus g
difference_low g grain = (sums_low g grain).1

-- an upper part has no low bits
pub upper_low : (g : ℕ) → IsGrain g → (a : ℕ) → upper_half a * 4096 % g ≡ 0 % g
upper_low =
    at_grain (λ g. (a : ℕ) → upper_half a * 4096 % g ≡ 0 % g) (λ a. omega arith) (λ a. omega arith) (λ a. omega arith)

-- addresses in one chunk while the object is at home are in one chunk wherever it stands
abbrev pub KeepsChunks : ℕ → Type 0
KeepsChunks g =
    (place home d e : ℕ) → place % g ≡ home % g → plus home d / g ≡ plus home e / g
    → plus place d / g ≡ plus place e / g

pub chunk_stays : (g : ℕ) → IsGrain g → KeepsChunks g
chunk_stays =
    at_grain KeepsChunks
    (λ place home d e congruent same. omega arith)
    (λ place home d e congruent same. omega arith)
    (λ place home d e congruent same. omega arith)

-- and have one upper part
pub chunk_upper : (g : ℕ) → IsGrain g → (a b : ℕ) → a / g ≡ b / g → upper_half a ≡ upper_half b
chunk_upper =
    at_grain (λ g. (a b : ℕ) → a / g ≡ b / g → upper_half a ≡ upper_half b)
    (λ a b same. omega arith)
    (λ a b same. omega arith)
    (λ a b same. omega arith)

-- the upper and the low part of an address make it, and those of a distance from anywhere make what is there
pub halves_make : (a : ℕ) → a < 4294967296 → offset (upper_half a * 4096) (lower_half a) ≡ a
halves_make a word = grind (arith, nat_tests)

pub halves_lead : (at a : ℕ) → a < 4294967296 → offset (plus at (upper_half (minus a at) * 4096)) (lower_half (minus a at)) ≡ a
halves_lead at a word = grind (arith, nat_tests)

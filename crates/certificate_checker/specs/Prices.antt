-- The prices of a side's variables, and what they credit to a dual node.
use Rattle.std.specs.Prelude.{◌<◌, ◌≤◌, ℕ, ◌*◌, ◌==◌, if◌then◌else◌, ◌-◌, List, length, get_or, slice_index_or}
use Rattle.placement_programme.specs.Plain.{PlainSide}
use Rattle.placement_programme.specs.Programme.{gain_at}
use Rattle.placement_programme.specs.Sums.{sum_below}
use Rattle.certificate_checker.specs.Fixings.{fixing_of}
use Rattle.certificate_checker.specs.declared.fixings.Fixing.{Fixing}
use Rattle.certificate_checker.specs.declared.fixings.Fixing.TheVariants.{Zero, One, Free}
use Rattle.certificate_checker.specs.declared.prices.Priced.{Priced}

abbrev pub unpriced : Priced
unpriced = record { stamp = 0; price = 0 }

-- the price of variable `j` that counts for a stamp
abbrev pub price_if : ℕ → Priced → ℕ
price_if stamp p = if p.stamp == stamp then p.price else 0

abbrev pub priced_at : ℕ → List Priced → ℕ → ℕ
priced_at stamp prices j = price_if stamp (slice_index_or prices j unpriced)

-- no price counts for a stamp below this
abbrev pub AreFrom : ℕ → List Priced → Type 0
AreFrom limit prices = (j : ℕ) (d : Priced) → j < length prices → limit ≤ (get_or prices j d).stamp

-- by how much a price lowers what a variable adds to the left side of a dual node's rule, or raises the right side
abbrev pub credit : Fixing → ℕ → ℕ → ℕ
credit Zero gain price = 0
credit One gain price = price
credit Free gain price = gain - (gain - price)

abbrev pub credit_part : PlainSide → List Fixing → ℕ → (ℕ → ℕ) → ℕ → ℕ
credit_part s marks scale price j = credit (fixing_of marks j) (scale * gain_at s.vars j) (price j)

abbrev pub credits : PlainSide → List Fixing → ℕ → (ℕ → ℕ) → ℕ
credits s marks scale price = sum_below (length s.vars) (credit_part s marks scale price)

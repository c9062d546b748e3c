-- Numbers that ascend within bounds: one by one, and by place.
use Rattle.std.proofs.Common.{ℕ, zero, suc, ◌+◌, ◌<◌, ◌≤◌, List, [], ◌∷◌, length, get_or, arith}
use Rattle.placement_programme.specs.Bounds.{AscendWithin, RowsWithin, row_of}

-- each number lies within the bounds
pub number_below : (low high : ℕ) (ns : List ℕ) (i d : ℕ) → AscendWithin low high ns → i < length ns → get_or ns i d < high
number_below low high [] i d all inside = absurd (omega arith)
number_below low high (n ∷ ns) zero d all inside = all.1
number_below low high (n ∷ ns) (suc i) d all inside = number_below (suc n) high ns i d all.2 (omega arith)

-- there are no more of them than numbers within the bounds
pub count_within : (low high : ℕ) (ns : List ℕ) → low ≤ high → AscendWithin low high ns → length ns + low ≤ high
count_within low high [] order all = omega arith
count_within low high (n ∷ ns) order all =
    let rest = count_within (suc n) high ns (omega (arith, all.1)) all.2 in
    omega (arith, rest, all.0)

-- an entry's row is at least the first bound, below the second, and below that of each later entry
pub row_at_least : (low high : ℕ) (ws : List (ℕ × ℕ)) (j : ℕ) (d : ℕ × ℕ) → RowsWithin low high ws → j < length ws → low ≤ row_of (get_or ws j d)
row_at_least low high [] j d all inside = absurd (omega arith)
row_at_least low high (w ∷ ws) zero d all inside = all.0
row_at_least low high (w ∷ ws) (suc j) d all inside =
    let rest = row_at_least (suc (row_of w)) high ws j d all.2 (omega arith) in
    omega (arith, rest, all.0)

pub row_below : (low high : ℕ) (ws : List (ℕ × ℕ)) (j : ℕ) (d : ℕ × ℕ) → RowsWithin low high ws → j < length ws → row_of (get_or ws j d) < high
row_below low high [] j d all inside = absurd (omega arith)
row_below low high (w ∷ ws) zero d all inside = all.1
row_below low high (w ∷ ws) (suc j) d all inside = row_below (suc (row_of w)) high ws j d all.2 (omega arith)

pub rows_rise : (low high : ℕ) (ws : List (ℕ × ℕ)) (i j : ℕ) (d : ℕ × ℕ) → RowsWithin low high ws → i < j → j < length ws → row_of (get_or ws i d) < row_of (get_or ws j d)
rows_rise low high [] i j d all order inside = absurd (omega arith)
rows_rise low high (w ∷ ws) i zero d all order inside = absurd (omega arith)
rows_rise low high (w ∷ ws) zero (suc j) d all order inside =
    let rest = row_at_least (suc (row_of w)) high ws j d all.2 (omega arith) in
    omega (arith, rest)
rows_rise low high (w ∷ ws) (suc i) (suc j) d all order inside = rows_rise (suc (row_of w)) high ws i j d all.2 (omega arith) (omega arith)

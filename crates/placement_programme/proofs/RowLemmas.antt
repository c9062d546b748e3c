-- The weights of a candidate stand in rows of its side.
use Rattle.std.proofs.Common.{◌≡◌, ℕ, zero, suc, ◌+◌, ◌*◌, ◌<◌, ◌≤◌, Bool, true, false, List, [], ◌∷◌, ◌++◌, length, length-append, arith}
use Rattle.std.proofs.lemmas.List.{length-replicate}
use Rattle.std.proofs.Math.Nat.{mul-le-mul_left}
use Rattle.placement_programme.specs.Bounds.{RowsWithin, row_of}
use Rattle.placement_programme.specs.Rows.{Layout, static_data, static_code, overlay_data, overlay_code, kept_data, off_capacities, on_capacities, in_rows, blocks_of, off_block_row, block_row, object_row, data_span, code_span, on_code_bytes, job_bytes, patch_row, space_row, first_twin, kept_data_bytes, pairs_of}
use Rattle.placement_programme.specs.Laws.{WeightsAreInRows}

pub rows_lower : (low mid high : ℕ) (ws : List (ℕ × ℕ)) → low ≤ mid → RowsWithin mid high ws → RowsWithin low high ws
rows_lower low mid high [] order all = tt
rows_lower low mid high (w ∷ ws) order all = (omega (arith, all.0), all.1, all.2)

pub rows_higher : (low high top : ℕ) (ws : List (ℕ × ℕ)) → high ≤ top → RowsWithin low high ws → RowsWithin low top ws
rows_higher low high top [] order all = tt
rows_higher low high top (w ∷ ws) order all =
    (all.0, omega (arith, all.1), rows_higher (suc (row_of w)) high top ws order all.2)

pub rows_joined : (low mid high : ℕ) (xs ys : List (ℕ × ℕ)) → low ≤ mid → mid ≤ high → RowsWithin low mid xs → RowsWithin mid high ys → RowsWithin low high (xs ++ ys)
rows_joined low mid high [] ys first second before behind = rows_lower low mid high ys first behind
rows_joined low mid high (x ∷ xs) ys first second before behind =
    (before.0, omega (arith, before.1), rows_joined (suc (row_of x)) mid high xs ys before.1 second before.2 behind)

pub in_rows_within : (row count value low high : ℕ) → low ≤ row → row + count ≤ high → RowsWithin low high (in_rows row count value)
in_rows_within row zero value low high order end = tt
in_rows_within row (suc count) value low high order end =
    (order, omega arith, in_rows_within (suc row) count value (suc row) high (omega arith) (omega arith))

pub off_length : (l : Layout) → length (off_capacities l) ≡ l.blocks + 2
off_length l = let blocks = length-replicate {A = ℕ} l.blocks 1 in omega (arith, blocks)

pub on_length : (l : Layout) → length (on_capacities l) ≡ l.regions + 2 + l.blocks + l.objects * l.regions
on_length l =
    simp (length-append, length-replicate) (omega arith)

-- the rows of an object in the regions end behind those of the objects before it
pub object_rows_end : (regions o objects : ℕ) → o < objects → o * regions + regions ≤ objects * regions
object_rows_end regions o objects inside =
    let more = mul-le-mul_left regions inside in
    omega (arith, more)

-- the regions of a pair are among those that there are
pub pair_inside : (twins : Bool) (regions pair : ℕ) → pair ≤ pairs_of twins regions → 2 * pair ≤ regions
pair_inside false regions pair is = omega (arith, is)
pair_inside true regions pair is = omega (arith, is)

pub weights_in_rows : WeightsAreInRows
weights_in_rows false l (static_data o) inside side = rw (off_length l) (omega arith, omega arith, (omega arith, omega arith, tt))
weights_in_rows false l (static_code c) inside side =
    rw (off_length l) (
      omega arith,
      omega arith,
      (
        omega arith,
        omega arith,
        in_rows_within (off_block_row c.first) (blocks_of c) 1 2 (l.blocks + 2) (omega arith) (omega (arith, inside.0, inside.1)),
      ),
    )
weights_in_rows false l (overlay_data r o) inside side = absurd side
weights_in_rows false l (overlay_code r c) inside side = absurd side
weights_in_rows false l (kept_data pair o) inside side = absurd side
weights_in_rows true l (static_data o) inside side =
    let end = object_rows_end l.regions o.number l.objects inside in
    let count = l.regions + 2 + l.blocks + l.objects * l.regions in
    let space = in_rows_within 0 (l.regions + 1) (data_span l.grain o) 0 (l.regions + 1) (omega arith) (omega arith) in
    let patch : RowsWithin (l.regions + 1) (l.regions + 2) ((patch_row l, job_bytes) ∷ []) = (omega arith, omega arith, tt) in
    let objects = in_rows_within (object_row l o.number 1) l.regions 1 (l.regions + 2) count (omega arith) (omega (arith, end)) in
    let before = rows_joined 0 (l.regions + 1) (l.regions + 2) (in_rows 0 (l.regions + 1) (data_span l.grain o)) ((patch_row l, job_bytes) ∷ []) (omega arith) (omega arith) space patch in
    rw (on_length l)
    (rows_joined 0 (l.regions + 2) count (in_rows 0 (l.regions + 1) (data_span l.grain o) ++ (patch_row l, job_bytes) ∷ []) (in_rows (object_row l o.number 1) l.regions 1) (omega arith) (omega arith) before objects)
weights_in_rows true l (static_code c) inside side =
    let count = l.regions + 2 + l.blocks + l.objects * l.regions in
    let space = in_rows_within 0 (l.regions + 1) (code_span l.grain c) 0 (l.regions + 1) (omega arith) (omega arith) in
    let patch : RowsWithin (l.regions + 1) (l.regions + 2) ((patch_row l, on_code_bytes c) ∷ []) = (omega arith, omega arith, tt) in
    let blocks = in_rows_within (block_row l c.first) (blocks_of c) 1 (l.regions + 2) count (omega arith) (omega (arith, inside.0, inside.1)) in
    let before = rows_joined 0 (l.regions + 1) (l.regions + 2) (in_rows 0 (l.regions + 1) (code_span l.grain c)) ((patch_row l, on_code_bytes c) ∷ []) (omega arith) (omega arith) space patch in
    rw (on_length l)
    (rows_joined 0 (l.regions + 2) count (in_rows 0 (l.regions + 1) (code_span l.grain c) ++ (patch_row l, on_code_bytes c) ∷ []) (in_rows (block_row l c.first) (blocks_of c) 1) (omega arith) (omega arith) before blocks)
weights_in_rows true l (overlay_data r o) inside side =
    let end = object_rows_end l.regions o.number l.objects inside.1 in
    let region = inside.0 in
    rw (on_length l) (
      omega arith,
      omega (arith, region.1),
      (omega (arith, region.1), omega arith, (omega (arith, region.0), omega (arith, region.0, region.1, end), tt)),
    )
weights_in_rows true l (overlay_code r c) inside side =
    let region = inside.0 in
    let part = inside.1 in
    let count = l.regions + 2 + l.blocks + l.objects * l.regions in
    rw (on_length l) (
      omega arith,
      omega (arith, region.1),
      (
        omega (arith, region.1),
        omega arith,
        in_rows_within (block_row l c.first) (blocks_of c) 1 (suc (patch_row l)) count (omega arith) (omega (arith, part.0, part.1)),
      ),
    )
weights_in_rows true l (kept_data pair o) inside side =
    let end = object_rows_end l.regions o.number l.objects inside.1 in
    let some = inside.0.0 in
    let pair_end = pair_inside l.twins l.regions pair inside.0.1 in
    let count = l.regions + 2 + l.blocks + l.objects * l.regions in
    let space = in_rows_within (space_row (first_twin pair)) 2 (data_span l.grain o) 0 (l.regions + 1) (omega arith) (omega (arith, some, pair_end)) in
    let patch : RowsWithin (l.regions + 1) (l.regions + 2) ((patch_row l, kept_data_bytes o) ∷ []) = (omega arith, omega arith, tt) in
    let objects = in_rows_within (object_row l o.number (first_twin pair)) 2 1 (l.regions + 2) count (omega (arith, some)) (omega (arith, some, pair_end, end)) in
    let before = rows_joined 0 (l.regions + 1) (l.regions + 2) (in_rows (space_row (first_twin pair)) 2 (data_span l.grain o)) ((patch_row l, kept_data_bytes o) ∷ []) (omega arith) (omega arith) space patch in
    rw (on_length l)
    (rows_joined 0 (l.regions + 2) count (in_rows (space_row (first_twin pair)) 2 (data_span l.grain o) ++ (patch_row l, kept_data_bytes o) ∷ []) (in_rows (object_row l o.number (first_twin pair)) 2 1) (omega arith) (omega arith) before objects)

-- What a variable weighs in the row of the patch range, and what that row can hold.
use Rattle.std.proofs.Common.{◌≡◌, ◌∙◌, ℕ, zero, suc, ◌+◌, ◌-◌, ◌*◌, ◌<◌, ◌≤◌, Bool, true, false, List, [], ◌∷◌, ◌++◌, length, replicate, get_or, length-append, refl, ap, arith}
use Rattle.std.proofs.lemmas.Bool.Decides.{nat_tests}
use Rattle.std.proofs.lemmas.List.{get_or_append_left, get_or-append_right, length-replicate}
use Rattle.placement_programme.specs.Programme.{weight_in}
use Rattle.placement_programme.specs.Rows.{Layout, Candidate, static_data, static_code, overlay_data, overlay_code, kept_data, name_of, start_bytes, fixed_bytes, job_bytes, off_code_bytes, on_code_bytes, overlay_data_bytes, kept_data_bytes, data_span, code_span, off_patch_row, patch_row, block_row, object_row, in_rows, blocks_of, first_twin, on_capacities, capacities, weights, IsOfSide}
use Rattle.placement_programme.proofs.RowLemmas.{on_length, off_length}
use Rattle.relocator.proofs.WeightLemmas.{IsAmong}

-- the row of the patch range, what a candidate weighs there, and what is fixed
abbrev pub patch_row_on : Bool → Layout → ℕ
patch_row_on false l = off_patch_row
patch_row_on true l = patch_row l

abbrev pub off_patch : Candidate → ℕ
off_patch (static_data d) = job_bytes
off_patch (static_code part) = off_code_bytes part
off_patch (overlay_data r d) = 0
off_patch (overlay_code r part) = 0
off_patch (kept_data pair d) = 0

abbrev pub on_patch : Candidate → ℕ
on_patch (static_data d) = job_bytes
on_patch (static_code part) = on_code_bytes part
on_patch (overlay_data r d) = overlay_data_bytes d
on_patch (overlay_code r part) = on_code_bytes part
on_patch (kept_data pair d) = kept_data_bytes d

abbrev pub patch_bytes : Bool → Candidate → ℕ
patch_bytes false c = off_patch c
patch_bytes true c = on_patch c

abbrev pub fixed_on : Bool → Layout → ℕ
fixed_on false l = start_bytes l
fixed_on true l = fixed_bytes l

-- ---- weights

behind_rows : (row count value x : ℕ) (p q : List (ℕ × ℕ)) → row + count ≤ x → weight_in ((in_rows row count value ++ p) ++ q) x ≡ weight_in (p ++ q) x
behind_rows row zero value x p q behind = refl
behind_rows row (suc count) value x p q behind =
    let later = behind_rows (suc row) count value x p q (omega (arith, behind)) in
    let other : row ≡ x → ⊥ = λ same. omega (arith, same, behind) in
    grind (arith, nat_tests, other, later)

own_weight : (row value : ℕ) (rest : List (ℕ × ℕ)) → weight_in ((row, value) ∷ rest) row ≡ value
own_weight row value rest = grind (arith, nat_tests)

second_weight : (first row span value : ℕ) (rest : List (ℕ × ℕ)) → (first ≡ row → ⊥) → weight_in ((first, span) ∷ (row, value) ∷ rest) row ≡ value
second_weight first row span value rest other = grind (arith, nat_tests, other)

pub patch_weighs : (on : Bool) (l : Layout) (c : Candidate) → IsOfSide on c → IsAmong l.regions (name_of c) → weight_in (weights on l c) (patch_row_on on l) ≡ patch_bytes on c
patch_weighs false l (static_data d) side among = refl
patch_weighs false l (static_code part) side among = refl
patch_weighs false l (overlay_data r d) side among = absurd side
patch_weighs false l (overlay_code r part) side among = absurd side
patch_weighs false l (kept_data pair d) side among = absurd side
patch_weighs true l (static_data d) side among =
    behind_rows 0 (l.regions + 1) (data_span l.grain d) (patch_row l) ((patch_row l, job_bytes) ∷ []) (in_rows (object_row l d.number 1) l.regions 1) (omega arith)
    ∙ own_weight (patch_row l) job_bytes (in_rows (object_row l d.number 1) l.regions 1)
patch_weighs true l (static_code part) side among =
    behind_rows 0 (l.regions + 1) (code_span l.grain part) (patch_row l) ((patch_row l, on_code_bytes part) ∷ []) (in_rows (block_row l part.first) (blocks_of part) 1) (omega arith)
    ∙ own_weight (patch_row l) (on_code_bytes part) (in_rows (block_row l part.first) (blocks_of part) 1)
patch_weighs true l (overlay_data r d) side among =
    let within = among.1 in
    second_weight r (patch_row l) (data_span l.grain d) (overlay_data_bytes d) ((object_row l d.number r, 1) ∷ []) (λ same. omega (arith, same, within))
patch_weighs true l (overlay_code r part) side among =
    let within = among.1 in
    second_weight r (patch_row l) (code_span l.grain part) (on_code_bytes part) (in_rows (block_row l part.first) (blocks_of part) 1) (λ same. omega (arith, same, within))
patch_weighs true l (kept_data pair d) side among =
    let within = among.1 in
    behind_rows (first_twin pair) 2 (data_span l.grain d) (patch_row l) ((patch_row l, kept_data_bytes d) ∷ []) (in_rows (object_row l d.number (first_twin pair)) 2 1) (omega (arith, within, among.0))
    ∙ own_weight (patch_row l) (kept_data_bytes d) (in_rows (object_row l d.number (first_twin pair)) 2 1)

-- ---- what the row holds

abbrev spaces : Layout → List ℕ
spaces l = replicate (l.regions + 1) l.scratchpad

on_patch_holds : (l : Layout) → get_or (on_capacities l) (patch_row l) 0 ≡ l.patch - fixed_bytes l
on_patch_holds l =
    let patch : List ℕ = (l.patch - fixed_bytes l) ∷ [] in
    let blocks : List ℕ = replicate l.blocks 1 in
    let objects : List ℕ = replicate (l.objects * l.regions) 1 in
    let first = length-replicate (l.regions + 1) l.scratchpad in
    let second = length-append (spaces l) patch in
    let third = length-append (spaces l ++ patch) blocks in
    let first_of : patch_row l - (l.regions + 1) ≡ 0 = omega arith in
    let in_all : patch_row l < length ((spaces l ++ patch) ++ blocks) = omega (arith, first, second, third) in
    let in_two : patch_row l < length (spaces l ++ patch) = omega (arith, first, second) in
    let behind : l.regions + 1 ≤ patch_row l = omega arith in
    get_or_append_left ((spaces l ++ patch) ++ blocks) objects 0 (patch_row l) in_all
    ∙ get_or_append_left (spaces l ++ patch) blocks 0 (patch_row l) in_two
    ∙ get_or-append_right (spaces l) patch (l.regions + 1) (patch_row l) 0 first behind
    ∙ ap (λ (k : ℕ). get_or patch k 0) first_of

pub patch_holds : (on : Bool) (l : Layout) → (patch_row_on on l < length (capacities on l)) × (get_or (capacities on l) (patch_row_on on l) 0 ≡ l.patch - fixed_on on l)
patch_holds false l = let long = off_length l in (omega (arith, long), refl)
patch_holds true l = let long = on_length l in (omega (arith, long), on_patch_holds l)

-- The weights of a side by rows, as variables are entered.
use Rattle.std.proofs.Common.{◌≡◌, ◌≢◌, ◌⊎◌, ◌∙◌, inl, inr, ℕ, zero, suc, ◌^◌, ◌<◌, ◌≤◌, List, [], ◌∷◌, ◌++◌, length, take, get_or, slice_set, slice_index_or, Vec, refl, sym, ap, subst, arith}
use Rattle.std.specs.Global.{Global}
use Rattle.std.specs.List.{All}
use Rattle.std.proofs.lemmas.Bool.{cases_eq, cases_lt}
use Rattle.std.proofs.lemmas.Bool.Decides.{nat_tests}
use Rattle.std.proofs.lemmas.List.{append-nil, append_assoc, get_or-set_same, get_or-set_other, get_or_push, get_or_past, get_or_append_left, map-set, map-append, get_or-map, length-map, length_push}
use Rattle.std.proofs.lemmas.List.Elements.{All-append}
use Rattle.placement_programme.specs.Plain.{PlainVar}
use Rattle.placement_programme.specs.Bounds.{RowsWithin, AreWeights, row_of, value_of}
use Rattle.placement_programme.specs.Programme.{weight_in, weights_at, weight_at}
use Rattle.placement_programme.proofs.RowLemmas.{rows_higher}
use Rattle.placement_programme.proofs.WeightLemmas.{weight_small}
use Rattle.certificate_checker.specs.RowWise.{row_items, plain_rows, row_at, IsRowOf, AreRowsOf, entry_for, entries_for, Enters}
use Rattle.certificate_checker.proofs.LoadLemmas.{rows_push, weight_other, weight_last}

-- one more of a variable's weights
pub entries_more : (number row : ℕ) (ws : List (ℕ × ℕ)) (i : ℕ) (d : ℕ × ℕ) → i < length ws → entries_for number (take (suc i) ws) row ≡ entries_for number (take i ws) row ++ entry_for number (get_or ws i d) row
entries_more number row [] i d inside = absurd (omega arith)
entries_more number row (w ∷ ws) zero d inside = append-nil (entry_for number w row)
entries_more number row (w ∷ ws) (suc i) d inside =
    ap (λ (es : List (ℕ × ℕ)). entry_for number w row ++ es) (entries_more number row ws i d (omega arith))
    ∙ sym (append_assoc (entry_for number w row) (entries_for number (take i ws) row) (entry_for number (get_or ws i d) row))

-- the rows with a weight pushed to one of them
pub pushed_row : (rows : List (Vec (ℕ × ℕ) Global)) (number : ℕ) (entry : ℕ × ℕ) (old new : Vec (ℕ × ℕ) Global) → row_of entry < length rows → old ≡ slice_index_or rows (row_of entry) old → new.items ≡ old.items ++ (number, value_of entry) ∷ [] → (row : ℕ) → row_at (plain_rows (slice_set rows (row_of entry) new)) row ≡ row_at (plain_rows rows) row ++ entry_for number entry row
pushed_row rows number entry old new inside is more row =
    let at = row_of entry in
    let count = length-map rows row_items in
    let here : row_at (plain_rows rows) at ≡ old.items = get_or-map row_items rows at old [] inside ∙ ap row_items (sym is) in
    let set : row_at (plain_rows (slice_set rows at new)) row ≡ row_at (slice_set (plain_rows rows) at new.items) row = ap (λ (rs : List (List (ℕ × ℕ))). row_at rs row) (map-set row_items rows at new) in
    elim (cases_eq row at) [
      | inl same ↦
          let kept : row_at (slice_set (plain_rows rows) at new.items) row ≡ new.items = rw same (get_or-set_same (plain_rows rows) at new.items [] (omega (arith, count, inside))) in
          let one : entry_for number entry row ≡ (number, value_of entry) ∷ [] = rw same (grind (arith, nat_tests)) in
          set ∙ (kept ∙ (more ∙ rw (one, same, here) refl))
      | inr other ↦
          let kept : row_at (slice_set (plain_rows rows) at new.items) row ≡ row_at (plain_rows rows) row = get_or-set_other (plain_rows rows) at row new.items [] other in
          let none : entry_for number entry row ≡ [] = let disjoint : at ≢ row = (λ same. other (sym same)) in grind (arith, nat_tests, disjoint) in
          set ∙ (kept ∙ (sym (append-nil (row_at (plain_rows rows) row)) ∙ rw none refl))
    ]

pub entered_more : (number : ℕ) (ws : List (ℕ × ℕ)) (old now new : List (List (ℕ × ℕ))) (i next : ℕ) (d entry : ℕ × ℕ) → next ≡ suc i → i < length ws → entry ≡ get_or ws i d → Enters number (take i ws) old now → ((row : ℕ) → row_at new row ≡ row_at now row ++ entry_for number entry row) → Enters number (take next ws) old new
entered_more number ws old now new i next d entry is_next inside is so_far pushed row below =
    let more : entries_for number (take next ws) row ≡ entries_for number (take i ws) row ++ entry_for number entry row = rw (is_next, is) (entries_more number row ws i d inside) in
    pushed row
    ∙ (ap (λ (es : List (ℕ × ℕ)). es ++ entry_for number entry row) (so_far row below)
    ∙ (append_assoc (row_at old row) (entries_for number (take i ws) row) (entry_for number entry row)
    ∙ ap (λ (es : List (ℕ × ℕ)). row_at old row ++ es) (sym more)))

-- a variable weighs something in a row once, or not
single : (number row low high : ℕ) (ws : List (ℕ × ℕ)) → RowsWithin low high ws → ((entries_for number ws row ≡ []) × (weight_in ws row ≡ 0)) ⊎ (entries_for number ws row ≡ (number, weight_in ws row) ∷ [])
single number row low high [] rows = inl (refl, refl)
single number row low high (w ∷ ws) rows =
    elim (cases_eq (row_of w) row) [
      | inl same ↦
          let one : entry_for number w row ≡ (number, value_of w) ∷ [] = grind (arith, nat_tests, same) in
          let here : weight_in (w ∷ ws) row ≡ value_of w = grind (arith, nat_tests, same) in
          let none = no_entries number row (suc (row_of w)) high ws rows.2 (omega (arith, same)) in
          inr (rw (one, none, here) refl)
      | inr other ↦
          let none : entry_for number w row ≡ [] = grind (arith, nat_tests, other) in
          let there : weight_in (w ∷ ws) row ≡ weight_in ws row = grind (arith, nat_tests, other) in
          elim (single number row (suc (row_of w)) high ws rows.2) [
            | inl missing ↦ inl (rw (none, missing.0) refl, there ∙ missing.1)
            | inr found ↦ inr (rw (none, there) found)
          ]
    ]
  where
    no_entries : (number row low high : ℕ) (ws : List (ℕ × ℕ)) → RowsWithin low high ws → row < low → entries_for number ws row ≡ []
    no_entries number row low high [] rows before = refl
    no_entries number row low high (w ∷ ws) rows before =
        let disjoint : row_of w ≢ row = omega (arith, rows.0, before) in
        let none : entry_for number w row ≡ [] = grind (arith, nat_tests, disjoint) in
        rw none (no_entries number row (suc (row_of w)) high ws rows.2 (omega (arith, rows.0, before)))

-- a variable past those that are entered weighs nothing
past : (low high : ℕ) (ms : List (ℕ × ℕ)) (j : ℕ) → RowsWithin low high ms → high ≤ j → weight_in ms j ≡ 0
past low high [] j rows out = refl
past low high (m ∷ ms) j rows out =
    let rest = past (suc (row_of m)) high ms j rows.2 out in
    let other : row_of m ≢ j = omega (arith, rows.1, out) in
    grind (arith, nat_tests, rest, other)

below_or_last : (P : ℕ → Type 0) (n : ℕ) → ((j : ℕ) → j < n → P j) → P n → (j : ℕ) → j < suc n → P j
below_or_last P n before last j inside =
    elim (cases_eq j n) [
      | inl same ↦ subst P (sym same) last
      | inr other ↦ before j (omega (arith, inside, other))
    ]

one_small : (e : ℕ × ℕ) → value_of e < 2 ^ 32 → All (λ w. value_of w < 2 ^ 32) (e ∷ [])
one_small e small zero d inside = small
one_small e small (suc k) d inside = absurd (omega (arith, inside))

-- a row behind one more variable
row_entered : (vars : List PlainVar) (n row high : ℕ) (entries ws : List (ℕ × ℕ)) → ws ≡ weights_at vars n → AreWeights high ws → IsRowOf vars n row entries → IsRowOf vars (suc n) row (entries ++ entries_for n ws row)
row_entered vars n row high entries ws is are so_far =
    elim (single n row 0 high ws are.ascending) [
      | inl none ↦
          let whole : entries ++ entries_for n ws row ≡ entries = rw none.0 (append-nil entries) in
          subst (λ es. IsRowOf vars (suc n) row es) (sym whole) (record {
            weights = record { ascending = rows_higher 0 n (suc n) entries (omega arith) so_far.weights.ascending; small = so_far.weights.small };
            values = below_or_last (λ j. weight_in entries j ≡ weight_at vars row j) n so_far.values
                (past 0 n entries n so_far.weights.ascending (omega arith) ∙ (sym none.1 ∙ ap (λ vs. weight_in vs row) is));
          })
      | inr one ↦
          let w = weight_in ws row in
          let small : w < 2 ^ 32 = weight_small (2 ^ 32) ws row (omega arith) are.small in
          let last : weight_in (entries ++ (n, w) ∷ []) n ≡ weight_at vars row n = weight_last 0 entries n w so_far.weights.ascending ∙ ap (λ vs. weight_in vs row) is in
          subst (λ es. IsRowOf vars (suc n) row (entries ++ es)) (sym one) (record {
            weights = record {
              ascending = subst (λ k. RowsWithin 0 k (entries ++ (n, w) ∷ [])) (omega arith) (rows_push 0 n entries n w (omega arith) so_far.weights.ascending (omega arith));
              small = All-append (λ e. value_of e < 2 ^ 32) entries ((n, w) ∷ []) so_far.weights.small (one_small (n, w) small);
            };
            values = below_or_last (λ j. weight_in (entries ++ (n, w) ∷ []) j ≡ weight_at vars row j) n
                (λ j before. weight_other entries n w j (omega (arith, before)) ∙ so_far.values j before) last;
          })
    ]

pub rows_entered : (vars : List PlainVar) (n next high : ℕ) (old new : List (List (ℕ × ℕ))) (ws : List (ℕ × ℕ)) → next ≡ suc n → ws ≡ weights_at vars n → AreWeights high ws → length new ≡ length old → AreRowsOf vars n old → Enters n ws old new → AreRowsOf vars next new
rows_entered vars n next high old new ws is_next is are same so_far entered row inside =
    let before : row < length old = omega (arith, inside, same) in
    subst (λ k. IsRowOf vars k row (row_at new row)) (sym is_next)
    (subst (λ es. IsRowOf vars (suc n) row es) (sym (entered row before)) (row_entered vars n row high (row_at old row) ws is are (so_far row before)))

-- ---- rows without weights

pub bare_more : (rows : List (Vec (ℕ × ℕ) Global)) (row : Vec (ℕ × ℕ) Global) → row.items ≡ [] → ((r : ℕ) → row_at (plain_rows rows) r ≡ []) → (r : ℕ) → row_at (plain_rows (rows ++ row ∷ [])) r ≡ []
bare_more rows row empty bare r =
    let longer = length_push (plain_rows rows) row.items in
    ap (λ (rs : List (List (ℕ × ℕ))). row_at rs r) (map-append row_items rows (row ∷ []))
    ∙ elim (cases_lt r (length (plain_rows rows))) [
      | inl below ↦ get_or_append_left (plain_rows rows) (row.items ∷ []) [] r below ∙ bare r
      | inr out ↦ elim (cases_eq r (length (plain_rows rows))) [
        | inl same ↦ get_or_push (plain_rows rows) row.items [] r (sym same) ∙ empty
        | inr other ↦ get_or_past (plain_rows rows ++ row.items ∷ []) r [] (omega (arith, out, other, longer))
      ]
    ]

-- An object has one slot at most while a region is current, and stands there.
use Rattle.std.proofs.Common.{◌≡◌, ◌≢◌, ◌∙◌, ◌⊎◌, inl, inr, ℕ, zero, suc, ◌+◌, ◌%◌, ◌<◌, ◌≤◌, ◌==◌, Bool, true, false, List, [], ◌∷◌, ◌++◌, length, get_or, Option, Some, None, refl, sym, ap, subst, arith}
use Rattle.std.specs.Prelude.{IsSomeAnd}
use Rattle.std.specs.List.{AllPairs, sum_by}
use Rattle.std.proofs.lemmas.Bool.{cases_Bool, cases_eq, eqb-true}
use Rattle.std.proofs.lemmas.Bool.Decides.{nat_tests}
use Rattle.std.proofs.lemmas.List.{get_or-map, length-map}
use Rattle.std.proofs.lemmas.List.Kept.{AllPairs-cons}
use Rattle.std.proofs.lemmas.List.Sums.{sum_by-cons}
use Rattle.list_checks.proofs.TestLemmas.{both}
use Rattle.board_config.specs.declared.board.Board.{Board}
use Rattle.object_graph.specs.declared.parts.Graph.{Graph}
use Rattle.placement_programme.specs.declared.variables.VarName.{VarName}
use Rattle.placement_programme.specs.declared.variables.VarName.TheVariants.{StaticData, StaticCode, OverlayData, OverlayCode, KeptData}
use Rattle.placement_programme.specs.Plain.{PlainVar, PlainSide}
use Rattle.placement_programme.specs.Programme.{weight_in, weight_at, side_for, Fits}
use Rattle.placement_programme.specs.Rows.{Layout, Candidate, static_data, static_code, overlay_data, overlay_code, kept_data, name_of, first_twin, data_span, in_rows, job_bytes, overlay_data_bytes, kept_data_bytes, patch_row, object_row, weights, on_weights, IsOfSide}
use Rattle.placement_programme.proofs.AscendLemmas.{number_below}
use Rattle.placement_programme.proofs.NumberLemmas.{numbers_rise}
use Rattle.cell_values.specs.Objects.{object_of}
use Rattle.relocator.specs.declared.items.Item.{Item}
use Rattle.relocator.specs.declared.slots.Slot.{Slot}
use Rattle.relocator.specs.Slots.{lane_of, pair_of, no_var, name_at, item_at, items_in, vars_for, items_of, moved_on, first_slots, slots_from}
use Rattle.relocator.specs.Placing.{puts, placed, chosen_slots}
use Rattle.relocator.specs.Space.{IsOfGraph, IsSpaceOf}
use Rattle.relocator.specs.Laws.{ArePutApart, SlotsApart, ObjectsInSlots}
use Rattle.relocator.proofs.SlotLemmas.{slot_keeps}
use Rattle.relocator.proofs.WeightLemmas.{IsAmong, candidate_among, off_static}
use Rattle.relocator.proofs.LoadLemmas.{weighs, load_held}
use Rattle.relocator.proofs.StandLemmas.{first_place}

-- ---- what stands throughout

-- in region 0, and of what stands throughout, only a static object is put
puts_static : (regions region o : ℕ) (name : VarName) → IsAmong regions name → (region ≡ 0) ⊎ (lane_of name ≡ 0) → puts name region o ≡ true → name ≡ StaticData o
puts_static regions region o (StaticData object) among at is = ap StaticData (eqb-true object o is)
puts_static regions region o (StaticCode a b) among at is = absurd (cc)
puts_static regions region o (OverlayData own object) among (inl start) is =
    let there = eqb-true own region (both (object == o) (own == region) is).1 in
    absurd (omega (arith, among.0, start, there))
puts_static regions region o (OverlayData own object) among (inr lane) is = absurd (omega (arith, among.0, lane))
puts_static regions region o (OverlayCode own a b) among at is = absurd (cc)
puts_static regions region o (KeptData pair object) among (inl start) is =
    let there = eqb-true (pair_of region) pair (both (object == o) (pair_of region == pair) is).1 in
    absurd (omega (arith, among.0, start, there))
puts_static regions region o (KeptData pair object) among (inr lane) is = absurd (omega (arith, lane))

-- ---- the rows of an object

past_rows : (row count value x : ℕ) (p q : List (ℕ × ℕ)) → row + count ≤ x → weight_in ((in_rows row count value ++ p) ++ q) x ≡ weight_in (p ++ q) x
past_rows row zero value x p q past = refl
past_rows row (suc count) value x p q past =
    let other : row ≢ x = omega (arith, past) in
    let rest = past_rows (suc row) count value x p q (omega (arith, past)) in
    grind (arith, nat_tests, other, rest)

rows_weigh : (row count value x : ℕ) → row ≤ x → x < row + count → weight_in (in_rows row count value) x ≡ value
rows_weigh row zero value x from to = absurd (omega (arith, from, to))
rows_weigh row (suc count) value x from to =
    elim (cases_eq row x) [
      | inl here ↦ grind (arith, nat_tests, here)
      | inr other ↦
          let later = rows_weigh (suc row) count value x (omega (arith, from, other)) (omega (arith, to)) in
          grind (arith, nat_tests, other, later)
    ]

-- the last of three parts
last_rows : (row count value patch bytes from many x : ℕ) → row + count ≤ x → patch ≢ x → from ≤ x → x < from + many → weight_in ((in_rows row count value ++ (patch, bytes) ∷ []) ++ in_rows from many 1) x ≡ 1
last_rows row count value patch bytes from many x past other behind within =
    let rest = rows_weigh from many 1 x behind within in
    past_rows row count value x ((patch, bytes) ∷ []) (in_rows from many 1) past ∙ grind (arith, nat_tests, other, rest)

last_entry : (row value patch bytes x : ℕ) → row ≢ x → patch ≢ x → weight_in ((row, value) ∷ (patch, bytes) ∷ (x, 1) ∷ []) x ≡ 1
last_entry row value patch bytes x other other_too = grind (arith, nat_tests, other, other_too)

-- what puts an object weighs 1 in the object's row
object_weighs : (l : Layout) (c : Candidate) (region o : ℕ) → 1 ≤ region → region ≤ l.regions → puts (name_of c) region o ≡ true → weight_in (weights true l c) (object_row l o region) ≡ 1
object_weighs l (static_data d) region o some below is =
    subst (λ (n : ℕ). weight_in (on_weights l (static_data d)) (object_row l n region) ≡ 1) (eqb-true d.number o is)
    (last_rows 0 (l.regions + 1) (data_span l.grain d) (patch_row l) job_bytes (object_row l d.number 1) l.regions (object_row l d.number region)
    (omega (arith, some)) (λ e. omega (arith, some, e)) (omega (arith, some)) (omega (arith, some, below)))
object_weighs l (static_code c) region o some below is = absurd (cc)
object_weighs l (overlay_data r d) region o some below is =
    let parts = both (d.number == o) (r == region) is in
    let there = eqb-true r region parts.1 in
    subst (λ (n : ℕ). weight_in (on_weights l (overlay_data r d)) (object_row l n region) ≡ 1) (eqb-true d.number o parts.0)
    (subst (λ (n : ℕ). weight_in (on_weights l (overlay_data r d)) (object_row l d.number n) ≡ 1) there
    (last_entry r (data_span l.grain d) (patch_row l) (overlay_data_bytes d) (object_row l d.number r)
    (λ e. omega (arith, some, below, there, e)) (λ e. omega (arith, some, there, e))))
object_weighs l (overlay_code r c) region o some below is = absurd (cc)
object_weighs l (kept_data pair d) region o some below is =
    let parts = both (d.number == o) (pair_of region == pair) is in
    let there = eqb-true (pair_of region) pair parts.1 in
    subst (λ (n : ℕ). weight_in (on_weights l (kept_data pair d)) (object_row l n region) ≡ 1) (eqb-true d.number o parts.0)
    (last_rows (first_twin pair) 2 (data_span l.grain d) (patch_row l) (kept_data_bytes d) (object_row l d.number (first_twin pair)) 2 (object_row l d.number region)
    (omega (arith, some, below, there)) (λ e. omega (arith, some, e)) (omega (arith, some, there)) (omega (arith, some, there)))

object_known : (g : Graph) (l : Layout) (c : Candidate) (region o : ℕ) → IsOfGraph g l c → puts (name_of c) region o ≡ true → o < l.objects
object_known g l (static_data d) region o of is = let same = eqb-true d.number o is in omega (arith, of.0, same)
object_known g l (static_code c) region o of is = absurd (cc)
object_known g l (overlay_data r d) region o of is =
    let same = eqb-true d.number o (both (d.number == o) (r == region) is).0 in
    omega (arith, of.1.0, same)
object_known g l (overlay_code r c) region o of is = absurd (cc)
object_known g l (kept_data pair d) region o of is =
    let same = eqb-true d.number o (both (d.number == o) (pair_of region == pair) is).0 in
    omega (arith, of.1.0, same)

-- ---- two variables

-- two elements of a list are summed
pub two_summed : {X : Type 0} (f : X → ℕ) (xs : List X) (i j : ℕ) (d : X) → i < j → j < length xs → f (get_or xs i d) + f (get_or xs j d) ≤ sum_by f xs
two_summed {X} f [] i j d before below = absurd (omega (arith, below))
two_summed {X} f (x ∷ xs) i zero d before below = absurd (omega (arith, before))
two_summed {X} f (x ∷ xs) zero (suc j) d before below =
    let whole = sum_by-cons f x xs in
    let one = one_summed f xs j d (omega (arith, below)) in
    omega (arith, whole, one)
  where
    one_summed : {X : Type 0} (f : X → ℕ) (xs : List X) (j : ℕ) (d : X) → j < length xs → f (get_or xs j d) ≤ sum_by f xs
    one_summed {X} f [] j d below = absurd (omega (arith, below))
    one_summed {X} f (x ∷ xs) zero d below = let whole = sum_by-cons f x xs in omega (arith, whole)
    one_summed {X} f (x ∷ xs) (suc j) d below =
        let whole = sum_by-cons f x xs in
        let rest = one_summed f xs j d (omega (arith, below)) in
        omega (arith, whole, rest)
two_summed {X} f (x ∷ xs) (suc i) (suc j) d before below =
    let whole = sum_by-cons f x xs in
    let rest = two_summed f xs i j d (omega (arith, before)) (omega (arith, below)) in
    omega (arith, whole, rest)

-- a variable that puts the object where only static ones do
static_named : (g : Graph) (regions : ℕ) (board : Board) (on : Bool) (side : PlainSide) (region o k : ℕ) → IsSpaceOf g regions board on side → k < length side.vars → (region ≡ 0) ⊎ (on ≡ false) → puts (name_at side.vars k) region o ≡ true → name_at side.vars k ≡ StaticData o
static_named g regions board on side region o k space below at is =
    let found = space.has.variables k no_var below in
    let c : Candidate = found.0 in
    let l = space.layout in
    let name = found.1.name in
    let start : (region ≡ 0) ⊎ (lane_of (name_of c) ≡ 0) = elim at [
      | inl first ↦ inl first
      | inr off ↦ inr (off_static c (subst (λ (b : Bool). IsOfSide b c) off found.1.side))
    ] in
    name ∙ puts_static l.regions region o (name_of c) (candidate_among g l c found.1.item) start (subst (λ (n : VarName). puts n region o ≡ true) name is)

-- a variable that puts the object into a region of the on side
record WeighsOne (l : Layout) (vars : List PlainVar) (region o k : ℕ) : Type 0 where
  pub known : o < l.objects
  pub one : weight_at vars (object_row l o region) k ≡ 1

object_weighed : (g : Graph) (regions : ℕ) (board : Board) (side : PlainSide) (region o k : ℕ) (space : IsSpaceOf g regions board true side) → k < length side.vars → 1 ≤ region → region ≤ regions → puts (name_at side.vars k) region o ≡ true → WeighsOne space.layout side.vars region o k
object_weighed g regions board side region o k space below some within is =
    let found = space.has.variables k no_var below in
    let c : Candidate = found.0 in
    let l = space.layout in
    let count = space.is.region_count in
    let inside : region ≤ l.regions = omega (arith, count, within) in
    let put : puts (name_of c) region o ≡ true = subst (λ (n : VarName). puts n region o ≡ true) found.1.name is in
    let known = object_known g l c region o found.1.item put in
    record {
      known = known;
      one =
          weighs side.vars k (object_row l o region)
          ∙ found.1.objects (object_row l o region) (o, (region, (known, (some, inside), refl)))
          ∙ object_weighs l c region o some inside put;
    }

-- two that are taken don't put the same object
taken_apart : (g : Graph) (regions : ℕ) (board : Board) (on : Bool) (side : PlainSide) (take : List ℕ) (region : ℕ) → region ≤ regions → Fits side take → IsSpaceOf g regions board on side → AllPairs (λ k m. ArePutApart region (name_at side.vars k) (name_at side.vars m)) take
taken_apart g regions board on side take region within fits space i j d before below o here there =
    by_side on space
  where
    first : get_or take i d < length side.vars
    first = number_below 0 (length side.vars) take i d fits.numbers (omega (arith, before, below))

    second : get_or take j d < length side.vars
    second = number_below 0 (length side.vars) take j d fits.numbers below

    both_static : (on : Bool) → IsSpaceOf g regions board on side → (region ≡ 0) ⊎ (on ≡ false) → ⊥
    both_static on space at =
        space.has.different (get_or take i d) (get_or take j d) no_var (numbers_rise 0 (length side.vars) take i j d fits.numbers before below) second
        (static_named g regions board on side region o (get_or take i d) space first at here
        ∙ sym (static_named g regions board on side region o (get_or take j d) space second at there))

    both_weigh : (space : IsSpaceOf g regions board true side) → 1 ≤ region → ⊥
    both_weigh space some =
        let l = space.layout in
        let row = object_row l o region in
        let count = space.is.region_count in
        let one = object_weighed g regions board side region o (get_or take i d) space first some within here in
        let other = object_weighed g regions board side region o (get_or take j d) space second some within there in
        let holds = space.has.objects row (o, (region, (one.known, (some, omega (arith, count, within)), refl))) in
        let most = load_held side take row 1 fits holds in
        let sum = two_summed (weight_at side.vars row) take i j d before below in
        let one_is = one.one in
        let other_is = other.one in
        omega (arith, most, sum, one_is, other_is)

    by_side : (on : Bool) → IsSpaceOf g regions board on side → ⊥
    by_side false space = both_static false space (inr refl)
    by_side true space = elim (cases_eq region 0) [
      | inl start ↦ both_static true space (inl start)
      | inr some ↦ both_weigh space (omega (arith, some))
    ]

-- ---- items and slots

items_apart : (vars : List PlainVar) (take : List ℕ) (region : ℕ) → AllPairs (λ k m. ArePutApart region (name_at vars k) (name_at vars m)) take → AllPairs (λ s t. ArePutApart region s.name t.name) (items_in vars take)
items_apart vars take region apart i j d before below =
    let size = length-map take (item_at vars) in
    let inside : j < length take = omega (arith, size, below) in
    let items = items_in vars take in
    subst (λ (x : Item). ArePutApart region x.name (get_or items j d).name) (sym (get_or-map (item_at vars) take i 0 d (omega (arith, before, inside))))
    (subst (λ (y : Item). ArePutApart region (name_at vars (get_or take i 0)) y.name) (sym (get_or-map (item_at vars) take j 0 d inside)) (apart i j 0 before inside))

choice_apart : (g : Graph) (regions : ℕ) (board : Board) (on : Bool) (s : Option PlainSide) (take : List ℕ) (region : ℕ) → region ≤ regions → IsSomeAnd s (λ side. Fits side take) → IsSomeAnd s (λ side. IsSpaceOf g regions board on side) → AllPairs (λ s t. ArePutApart region s.name t.name) (items_in (vars_for s) take)
choice_apart g regions board on None take region within feasible space = absurd feasible
choice_apart g regions board on (Some side) take region within feasible space =
    items_apart side.vars take region (taken_apart g regions board on side take region within feasible space)

-- what holds of the names of two items holds of their slots
slot_pairs : (Q : VarName → VarName → Type 0) (next : ℕ → ℕ) (items : List Item) → AllPairs (λ i j. Q i.name j.name) items → AllPairs (λ s t. Q s.name t.name) (slots_from next items)
slot_pairs Q next [] pairs = λ i j d before below. absurd (omega (arith, below))
slot_pairs Q next (i ∷ is) pairs =
    AllPairs-cons (λ (s t : Slot). Q s.name t.name) (record { name = i.name; at = next (lane_of i.name); span = i.span }) (slots_from (moved_on next i) is)
    (slot_keeps (λ name span. Q i.name name) (moved_on next i) is (λ k d below. pairs 0 (suc k) d (omega arith) (omega (arith, below))))
    (slot_pairs Q (moved_on next i) is (λ a b d before below. pairs (suc a) (suc b) d (omega (arith, before)) (omega (arith, below))))

pub slots_apart : SlotsApart
slots_apart g regions board p c region within can =
    slot_pairs (ArePutApart region) (first_slots board.spm.base (items_of p c)) (items_of p c)
    (choice_apart g regions board c.on (side_for p c.on) c.take region within can.feasible can.space)

-- ---- places

-- the slot of an object decides where it stands
own_place : (g : Graph) (slots : List Slot) (region o k : ℕ) (d : Slot) → AllPairs (λ s t. ArePutApart region s.name t.name) slots → k < length slots → puts (get_or slots k d).name region o ≡ true → placed g slots region o ≡ (get_or slots k d).at + (object_of g o).home % g.grain
own_place g [] region o k d apart below is = absurd (omega (arith, below))
own_place g (s ∷ ss) region o zero d apart below is = first_place g s ss region o true is
own_place g (s ∷ ss) region o (suc k) d apart below is =
    elim (cases_Bool (puts s.name region o)) [
      | inl here ↦ absurd (apart 0 (suc k) d (omega arith) below o here is)
      | inr other ↦
          first_place g s ss region o false other
          ∙ own_place g ss region o k d (λ i j e before within. apart (suc i) (suc j) e (omega (arith, before)) (omega (arith, within))) (omega (arith, below)) is
    ]

pub objects_in_slots : ObjectsInSlots
objects_in_slots g regions board p c region o within can k d below is =
    own_place g (chosen_slots board p c) region o k d (slots_apart g regions board p c region within can) below is

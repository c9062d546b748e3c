-- What a variable of a programme for this graph weighs in the rows of the scratchpad.
use Rattle.std.proofs.Common.{◌≡◌, ◌∙◌, inl, inr, ℕ, zero, suc, ◌+◌, ◌-◌, ◌*◌, ◌/◌, ◌%◌, ◌<◌, ◌≤◌, Bool, true, false, List, [], ◌∷◌, ◌++◌, length, get_or, refl, sym, ap, subst, arith}
use Rattle.std.proofs.lemmas.Bool.{cases_eq}
use Rattle.std.proofs.lemmas.Bool.Decides.{nat_tests}
use Rattle.object_graph.specs.declared.parts.Graph.{Graph}
use Rattle.cell_values.specs.Objects.{IsGrain, object_of}
use Rattle.placement_programme.specs.declared.variables.VarName.{VarName}
use Rattle.placement_programme.specs.declared.variables.VarName.TheVariants.{StaticData, StaticCode, OverlayData, OverlayCode, KeptData}
use Rattle.placement_programme.specs.Plain.{PlainVar}
use Rattle.placement_programme.specs.Programme.{weights_at, weight_in}
use Rattle.placement_programme.specs.Rows.{Layout, Datum, Candidate, static_data, static_code, overlay_data, overlay_code, kept_data, first_twin, kept_data_bytes, name_of, rounded_up, data_span, code_span, in_rows, job_bytes, off_code_bytes, overlay_data_bytes, off_block_row, on_code_bytes, blocks_of, patch_row, block_row, object_row, weights, IsOfSide}
use Rattle.placement_programme.proofs.RowLemmas.{pair_inside}
use Rattle.relocator.specs.Slots.{region_of, lane_of, pair_of, no_var}
use Rattle.relocator.specs.Laws.{IsPresent}
use Rattle.relocator.specs.Space.{IsSpaceRow, IsDatumOf, IsOfGraph, IsVariableOf, IsVariable}

-- ---- spans

pub rounded_least : (grain n : ℕ) → IsGrain grain → n ≤ rounded_up grain n
rounded_least grain n (inl is) = subst (λ (g : ℕ). n ≤ rounded_up g n) (sym is) (omega arith)
rounded_least grain n (inr (inl is)) = subst (λ (g : ℕ). n ≤ rounded_up g n) (sym is) (omega arith)
rounded_least grain n (inr (inr is)) = subst (λ (g : ℕ). n ≤ rounded_up g n) (sym is) (omega arith)

-- an object of the graph has room in so many bytes
pub record HasRoomFor (g : Graph) (span o : ℕ) : Type 0 where
  pub below : o < length g.objects.items
  pub room : (object_of g o).home % g.grain + (object_of g o).size ≤ span

abbrev pub HasRoom : Graph → ℕ → VarName → Type 0
HasRoom g span (StaticData o) = HasRoomFor g span o
HasRoom g span (StaticCode first last) = Unit {0}
HasRoom g span (OverlayData r o) = HasRoomFor g span o
HasRoom g span (OverlayCode r first last) = Unit {0}
HasRoom g span (KeptData pair o) = HasRoomFor g span o

-- the regions of a variable are among those up to `regions`
abbrev pub IsAmong : ℕ → VarName → Type 0
IsAmong regions (StaticData o) = Unit {0}
IsAmong regions (StaticCode first last) = Unit {0}
IsAmong regions (OverlayData r o) = (1 ≤ r) × (r ≤ regions)
IsAmong regions (OverlayCode r first last) = (1 ≤ r) × (r ≤ regions)
IsAmong regions (KeptData pair o) = (1 ≤ pair) × (2 * pair ≤ regions)

pub first_among : (regions : ℕ) (name : VarName) → IsAmong regions name → region_of name ≤ regions
first_among regions (StaticData o) is = omega arith
first_among regions (StaticCode first last) is = omega arith
first_among regions (OverlayData r o) is = is.1
first_among regions (OverlayCode r first last) is = is.1
first_among regions (KeptData pair o) is = omega (arith, is.1)

-- a span is so many multiples of the grain, has room for what stands in it, and the regions are some there are
pub record IsSized (g : Graph) (regions : ℕ) (name : VarName) (span : ℕ) : Type 0 where
  pub among : IsAmong regions name
  pub times : ℕ
  pub whole : span ≡ times * g.grain
  pub room : HasRoom g span name

abbrev pub span_of : ℕ → Candidate → ℕ
span_of grain (static_data d) = data_span grain d
span_of grain (static_code c) = code_span grain c
span_of grain (overlay_data r d) = data_span grain d
span_of grain (overlay_code r c) = code_span grain c
span_of grain (kept_data pair d) = data_span grain d

data_room : (g : Graph) (l : Layout) (d : Datum) → IsGrain g.grain → l.objects ≡ length g.objects.items → IsDatumOf g l d → HasRoomFor g (data_span g.grain d) d.number
data_room g l d grain count is =
    let below = is.0 in
    let room = rounded_least g.grain ((object_of g d.number).home % g.grain + (object_of g d.number).size) grain in
    record {
      below = omega (arith, below, count);
      room = subst (λ (x : Datum). (object_of g d.number).home % g.grain + (object_of g d.number).size ≤ data_span g.grain x) (sym is.1) room;
    }

pub candidate_among : (g : Graph) (l : Layout) (c : Candidate) → IsOfGraph g l c → IsAmong l.regions (name_of c)
candidate_among g l (static_data d) is = tt
candidate_among g l (static_code c) is = tt
candidate_among g l (overlay_data r d) is = is.0
candidate_among g l (overlay_code r c) is = is
candidate_among g l (kept_data pair d) is = (is.0.0, pair_inside l.twins l.regions pair is.0.1)

pub candidate_sized : (g : Graph) (l : Layout) (c : Candidate) → IsGrain g.grain → l.objects ≡ length g.objects.items → IsOfGraph g l c → IsSized g l.regions (name_of c) (span_of g.grain c)
candidate_sized g l (static_data d) grain count is =
    record { among = tt; times = (d.home % g.grain + d.size + (g.grain - 1)) / g.grain; whole = refl; room = data_room g l d grain count is }
candidate_sized g l (static_code c) grain count is =
    record { among = tt; times = (c.copied + (g.grain - 1)) / g.grain; whole = refl; room = tt }
candidate_sized g l (overlay_data r d) grain count is =
    record { among = is.0; times = (d.home % g.grain + d.size + (g.grain - 1)) / g.grain; whole = refl; room = data_room g l d grain count is.1 }
candidate_sized g l (overlay_code r c) grain count is =
    record { among = is; times = (c.copied + (g.grain - 1)) / g.grain; whole = refl; room = tt }
candidate_sized g l (kept_data pair d) grain count is =
    record {
      among = candidate_among g l (kept_data pair d) is;
      times = (d.home % g.grain + d.size + (g.grain - 1)) / g.grain;
      whole = refl;
      room = data_room g l d grain count is.1;
    }

-- ---- weights

pub weights_same : (vars : List PlainVar) (k : ℕ) → weights_at vars k ≡ (get_or vars k no_var).weights
weights_same [] k = refl
weights_same (v ∷ vs) zero = refl
weights_same (v ∷ vs) (suc k) = weights_same vs k

first_rows : (row count value x : ℕ) (p q : List (ℕ × ℕ)) → row ≤ x → x < row + count → weight_in ((in_rows row count value ++ p) ++ q) x ≡ value
first_rows row zero value x p q from to = absurd (omega (arith, from, to))
first_rows row (suc count) value x p q from to =
    elim (cases_eq row x) [
      | inl here ↦ grind (arith, nat_tests, here)
      | inr other ↦
          let later = first_rows (suc row) count value x p q (omega (arith, from, other)) (omega (arith, to)) in
          grind (arith, nat_tests, other, later)
    ]

-- the rows in which a candidate takes its span
abbrev pub IsRowOf : Bool → Layout → Candidate → ℕ → Type 0
IsRowOf false l c row = row ≡ 0
IsRowOf true l (static_data d) row = row ≤ l.regions
IsRowOf true l (static_code c) row = row ≤ l.regions
IsRowOf true l (overlay_data r d) row = row ≡ r
IsRowOf true l (overlay_code r c) row = row ≡ r
IsRowOf true l (kept_data pair d) row = pair_of row ≡ pair

own_row : (r span : ℕ) (rest : List (ℕ × ℕ)) (row : ℕ) → row ≡ r → weight_in ((r, span) ∷ rest) row ≡ span
own_row r span rest row is = grind (arith, nat_tests, is)

pub candidate_weighs : (on : Bool) (l : Layout) (c : Candidate) (row : ℕ) → IsOfSide on c → IsRowOf on l c row → weight_in (weights on l c) row ≡ span_of l.grain c
candidate_weighs false l (static_data d) row side is = own_row 0 (data_span l.grain d) ((1, job_bytes) ∷ []) row is
candidate_weighs false l (static_code c) row side is = own_row 0 (code_span l.grain c) ((1, off_code_bytes c) ∷ in_rows (off_block_row c.first) (blocks_of c) 1) row is
candidate_weighs false l (overlay_data r d) row side is = absurd side
candidate_weighs false l (overlay_code r c) row side is = absurd side
candidate_weighs false l (kept_data pair d) row side is = absurd side
candidate_weighs true l (static_data d) row side is = first_rows 0 (l.regions + 1) (data_span l.grain d) row ((patch_row l, job_bytes) ∷ []) (in_rows (object_row l d.number 1) l.regions 1) (omega arith) (omega (arith, is))
candidate_weighs true l (static_code c) row side is = first_rows 0 (l.regions + 1) (code_span l.grain c) row ((patch_row l, on_code_bytes c) ∷ []) (in_rows (block_row l c.first) (blocks_of c) 1) (omega arith) (omega (arith, is))
candidate_weighs true l (overlay_data r d) row side is = own_row r (data_span l.grain d) ((patch_row l, overlay_data_bytes d) ∷ (object_row l d.number r, 1) ∷ []) row is
candidate_weighs true l (overlay_code r c) row side is = own_row r (code_span l.grain c) ((patch_row l, on_code_bytes c) ∷ in_rows (block_row l c.first) (blocks_of c) 1) row is
candidate_weighs true l (kept_data pair d) row side is =
    first_rows (first_twin pair) 2 (data_span l.grain d) row ((patch_row l, kept_data_bytes d) ∷ []) (in_rows (object_row l d.number (first_twin pair)) 2 1)
    (omega (arith, is)) (omega (arith, is))

-- ---- variables

-- a variable takes its span in the row of its region, and on the on side in the rows of all regions in which it stands
pub record IsWeighed (g : Graph) (on : Bool) (regions : ℕ) (v : PlainVar) : Type 0 where
  pub span : ℕ
  pub sized : IsSized g regions v.name span
  pub own : weight_in v.weights (region_of v.name) ≡ span
  pub present : on ≡ true → (row : ℕ) → row ≤ regions → IsPresent row v.name → weight_in v.weights row ≡ span
  pub off : on ≡ false → lane_of v.name ≡ 0

space_row_of : (on : Bool) (l : Layout) (c : Candidate) (row : ℕ) → row ≤ l.regions → IsOfSide on c → IsRowOf on l c row → IsSpaceRow on l row
space_row_of false l c row below side is = is
space_row_of true l c row below side is = (row, (below, refl))

own_region : (g : Graph) (on : Bool) (l : Layout) (c : Candidate) → IsOfSide on c → IsRowOf on l c (region_of (name_of c))
own_region g false l (static_data d) side = refl
own_region g false l (static_code c) side = refl
own_region g false l (overlay_data r d) side = absurd side
own_region g false l (overlay_code r c) side = absurd side
own_region g false l (kept_data pair d) side = absurd side
own_region g true l (static_data d) side = omega arith
own_region g true l (static_code c) side = omega arith
own_region g true l (overlay_data r d) side = refl
own_region g true l (overlay_code r c) side = refl
own_region g true l (kept_data pair d) side = omega arith

-- a candidate has the rows of all regions in which it stands
present_rows : (l : Layout) (c : Candidate) (row : ℕ) → IsPresent row (name_of c) → row ≤ l.regions → IsRowOf true l c row
present_rows l (static_data d) row here below = below
present_rows l (static_code c) row here below = below
present_rows l (overlay_data r d) row here below = sym here
present_rows l (overlay_code r c) row here below = sym here
present_rows l (kept_data pair d) row here below = here

pub off_static : (c : Candidate) → IsOfSide false c → lane_of (name_of c) ≡ 0
off_static (static_data d) side = refl
off_static (static_code c) side = refl
off_static (overlay_data r d) side = absurd side
off_static (overlay_code r c) side = absurd side
off_static (kept_data pair d) side = absurd side

weighs_there : (g : Graph) (on : Bool) (l : Layout) (c : Candidate) (v : PlainVar) (row : ℕ) → IsVariableOf g on l c v → l.grain ≡ g.grain → row ≤ l.regions → IsRowOf on l c row → weight_in v.weights row ≡ span_of g.grain c
weighs_there g on l c v row is grain below of_row =
    is.space row (space_row_of on l c row below is.side of_row)
    ∙ candidate_weighs on l c row is.side of_row
    ∙ ap (λ (n : ℕ). span_of n c) grain

pub variable_weighed : (g : Graph) (on : Bool) (l : Layout) (v : PlainVar) → IsGrain g.grain → l.objects ≡ length g.objects.items → l.grain ≡ g.grain → IsVariable g on l v → IsWeighed g on l.regions v
variable_weighed g on l v is_grain count grain found =
    let c : Candidate = found.0 in
    let is = found.1 in
    let sized = candidate_sized g l c is_grain count is.item in
    let name = is.name in
    let same_region : region_of v.name ≡ region_of (name_of c) = ap region_of name in
    record {
      span = span_of g.grain c;
      sized = subst (λ (x : VarName). IsSized g l.regions x (span_of g.grain c)) (sym name) sized;
      own =
          subst (λ (r : ℕ). weight_in v.weights r ≡ span_of g.grain c) (sym same_region)
          (weighs_there g on l c v (region_of (name_of c)) is grain (first_among l.regions (name_of c) sized.among) (own_region g on l c is.side));
      present = λ is_on row below here.
          let side : IsRowOf true l c row = present_rows l c row (subst (λ (x : VarName). IsPresent row x) name here) below in
          weighs_there g on l c v row is grain below (subst (λ (b : Bool). IsRowOf b l c row) (sym is_on) side);
      off = λ is_off. ap lane_of name ∙ off_static c (subst (λ (b : Bool). IsOfSide b c) is_off is.side);
    }

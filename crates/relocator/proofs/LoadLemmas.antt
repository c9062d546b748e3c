-- The items of a choice in the rows of the scratchpad.
use Rattle.std.proofs.Common.{◌≡◌, ◌≢◌, ◌∙◌, ◌⊎◌, inl, inr, ℕ, ◌+◌, ◌<◌, ◌≤◌, ◌==◌, Bool, true, false, if◌then◌else◌, List, [], ◌∷◌, length, get_or, refl, sym, ap, subst, arith}
use Rattle.std.specs.List.{All}
use Rattle.std.proofs.lemmas.Bool.{cases_eq}
use Rattle.std.proofs.lemmas.Bool.Decides.{nat_tests}
use Rattle.std.proofs.lemmas.List.Elements.{All-head, All-tail}
use Rattle.std.proofs.lemmas.List.Sums.{sum_by-cons}
use Rattle.object_graph.specs.declared.parts.Graph.{Graph}
use Rattle.placement_programme.specs.declared.variables.VarName.{VarName}
use Rattle.placement_programme.specs.declared.variables.VarName.TheVariants.{StaticData, StaticCode, OverlayData, OverlayCode, KeptData}
use Rattle.placement_programme.specs.Plain.{PlainVar, PlainSide}
use Rattle.placement_programme.specs.Bounds.{AscendWithin}
use Rattle.placement_programme.specs.Programme.{weight_in, weight_at, load_in, Fits}
use Rattle.placement_programme.proofs.AscendLemmas.{number_below}
use Rattle.relocator.specs.declared.items.Item.{Item}
use Rattle.relocator.specs.Slots.{region_of, region_lane, pair_lane, lane_of, pair_of, no_var, name_at, item_at, items_in, bytes_in}
use Rattle.relocator.specs.Laws.{IsPresent}
use Rattle.relocator.proofs.WeightLemmas.{IsAmong, IsSized, weights_same, IsWeighed}
use Rattle.relocator.proofs.SlotLemmas.{IsLaneIn}

-- ---- items

-- a taken variable takes its weight in its row, and as much in the rows of all regions in which it stands
pub record IsItem (g : Graph) (on : Bool) (regions : ℕ) (vars : List PlainVar) (k : ℕ) : Type 0 where
  pub sized : IsSized g regions (name_at vars k) (item_at vars k).span
  pub present : on ≡ true → (row : ℕ) → row ≤ regions → IsPresent row (name_at vars k) → (item_at vars k).span ≡ weight_at vars row k
  pub off : on ≡ false → lane_of (name_at vars k) ≡ 0

pub weighs : (vars : List PlainVar) (k row : ℕ) → weight_at vars row k ≡ weight_in (get_or vars k no_var).weights row
weighs vars k row = ap (λ (ws : List (ℕ × ℕ)). weight_in ws row) (weights_same vars k)

pub is_item : (g : Graph) (on : Bool) (regions : ℕ) (vars : List PlainVar) (k : ℕ) → IsWeighed g on regions (get_or vars k no_var) → IsItem g on regions vars k
is_item g on regions vars k w =
    let own : (item_at vars k).span ≡ w.span = weighs vars k (region_of (name_at vars k)) ∙ w.own in
    record {
      sized = subst (λ (n : ℕ). IsSized g regions (name_at vars k) n) (sym own) w.sized;
      present = λ is_on row below here. own ∙ sym (weighs vars k row ∙ w.present is_on row below here);
      off = w.off;
    }

pub all_items : (g : Graph) (on : Bool) (regions : ℕ) (vars : List PlainVar) (take : List ℕ) → All (IsWeighed g on regions) vars → AscendWithin 0 (length vars) take → All (IsItem g on regions vars) take
all_items g on regions vars take weighed numbers i d below =
    let k = get_or take i d in
    is_item g on regions vars k (weighed k no_var (number_below 0 (length vars) take i d numbers below))

-- ---- loads

-- a lane's variables at the start
start_region : (name : VarName) → lane_of name ≡ 0 → region_of name ≡ 0
start_region (StaticData object) is = refl
start_region (StaticCode first last) is = refl
start_region (OverlayData region object) is = omega (arith, is)
start_region (OverlayCode region first last) is = omega (arith, is)
start_region (KeptData pair object) is = absurd (omega (arith, is))

abbrev own_part : List PlainVar → ℕ → ℕ → ℕ
own_part vars lane k = if lane_of (name_at vars k) == lane then (item_at vars k).span else 0

static_part : (vars : List PlainVar) (k : ℕ) → own_part vars 0 k ≤ weight_at vars 0 k
static_part vars k =
    elim (cases_eq (lane_of (name_at vars k)) 0) [
      | inl is ↦
          let same : (item_at vars k).span ≡ weight_at vars 0 k = ap (λ (r : ℕ). weight_at vars r k) (start_region (name_at vars k) is) in
          grind (arith, nat_tests, is, same)
      | inr other ↦ grind (arith, nat_tests, other)
    ]

-- what stands throughout takes at most the load of row 0
pub static_load : (vars : List PlainVar) (take : List ℕ) → bytes_in 0 (items_in vars take) ≤ load_in vars take 0
static_load vars [] = omega arith
static_load vars (k ∷ ks) =
    let sum = sum_by-cons (weight_at vars 0) k ks in
    let part = static_part vars k in
    let rest = static_load vars ks in
    omega (arith, sum, part, rest)

-- what has one of the lanes of a region stands there
own_lane : (region own : ℕ) → 1 ≤ own → IsLaneIn region (region_lane own) → own ≡ region
own_lane region own other (inl is) = absurd (omega (arith, is, other))
own_lane region own other (inr (inl is)) = absurd (omega (arith, is))
own_lane region own other (inr (inr is)) = omega (arith, is)

kept_lane : (region pair : ℕ) → IsLaneIn region (pair_lane pair) → pair_of region ≡ pair
kept_lane region pair (inl is) = absurd (omega (arith, is))
kept_lane region pair (inr (inl is)) = omega (arith, is)
kept_lane region pair (inr (inr is)) = absurd (omega (arith, is))

lane_present : (regions region : ℕ) (name : VarName) → 1 ≤ region → IsAmong regions name → IsLaneIn region (lane_of name) → IsPresent region name
lane_present regions region (StaticData object) some among lane = tt
lane_present regions region (StaticCode first last) some among lane = tt
lane_present regions region (OverlayData own object) some among lane = own_lane region own among.0 lane
lane_present regions region (OverlayCode own first last) some among lane = own_lane region own among.0 lane
lane_present regions region (KeptData pair object) some among lane = kept_lane region pair lane

region_part : (g : Graph) (regions : ℕ) (vars : List PlainVar) (r k : ℕ) → 1 ≤ r → r ≤ regions → IsItem g true regions vars k → own_part vars 0 k + own_part vars (pair_lane (pair_of r)) k + own_part vars (region_lane r) k ≤ weight_at vars r k
region_part g regions vars r k some below item =
    one_part (lane_of (name_at vars k)) (pair_of r) r (item_at vars k).span (weight_at vars r k) some
    (λ lane. item.present refl r below (lane_present regions r (name_at vars k) some item.sized.among lane))
  where
    one_part : (lane pair r span weight : ℕ) → 1 ≤ r → ((lane ≡ 0) ⊎ ((lane ≡ pair_lane pair) ⊎ (lane ≡ region_lane r)) → span ≡ weight) → (if lane == 0 then span else 0) + (if lane == pair_lane pair then span else 0) + (if lane == region_lane r then span else 0) ≤ weight
    one_part lane pair r span weight some same =
        elim (cases_eq lane 0) [
          | inl is ↦ let here = same (inl is) in grind (arith, nat_tests, is, here, some)
          | inr later ↦ elim (cases_eq lane (pair_lane pair)) [
            | inl is ↦ let here = same (inr (inl is)) in grind (arith, nat_tests, is, here, some)
            | inr neither ↦ elim (cases_eq lane (region_lane r)) [
              | inl is ↦ let here = same (inr (inr is)) in grind (arith, nat_tests, later, neither, is, here)
              | inr none ↦ grind (arith, nat_tests, later, neither, none)
            ]
          ]
        ]

-- with what is kept for the pair of a region and what is overlaid in it, at most that of the region's row
pub region_load : (g : Graph) (regions : ℕ) (vars : List PlainVar) (r : ℕ) (take : List ℕ) → 1 ≤ r → r ≤ regions → All (IsItem g true regions vars) take → bytes_in 0 (items_in vars take) + bytes_in (pair_lane (pair_of r)) (items_in vars take) + bytes_in (region_lane r) (items_in vars take) ≤ load_in vars take r
region_load g regions vars r [] some below items = omega arith
region_load g regions vars r (k ∷ ks) some below items =
    let sum = sum_by-cons (weight_at vars r) k ks in
    let part = region_part g regions vars r k some below (All-head (IsItem g true regions vars) k ks items) in
    let rest = region_load g regions vars r ks some below (All-tail (IsItem g true regions vars) k ks items) in
    omega (arith, sum, part, rest)

-- on the off side there is nothing else than what stands throughout
none_else : (g : Graph) (regions : ℕ) (vars : List PlainVar) (lane : ℕ) (take : List ℕ) → lane ≢ 0 → All (IsItem g false regions vars) take → bytes_in lane (items_in vars take) ≡ 0
none_else g regions vars lane [] other items = refl
none_else g regions vars lane (k ∷ ks) other items =
    let start = (All-head (IsItem g false regions vars) k ks items).off refl in
    let rest = none_else g regions vars lane ks other (All-tail (IsItem g false regions vars) k ks items) in
    grind (arith, nat_tests, start, rest, other)

-- ---- the scratchpad

-- what stands throughout, what is kept for the pair of a region and what is overlaid in it fit
abbrev pub RegionFits : ℕ → List Item → ℕ → Type 0
RegionFits size items r = bytes_in 0 items + bytes_in (pair_lane (pair_of r)) items + bytes_in (region_lane r) items ≤ size

pub load_held : (side : PlainSide) (take : List ℕ) (row most : ℕ) → Fits side take → (row < length side.rows) × (get_or side.rows row 0 ≡ most) → load_in side.vars take row ≤ most
load_held side take row most fits holds =
    let held = fits.rows row holds.0 in
    let is = holds.1 in
    omega (arith, held, is)

pub region_fits : (g : Graph) (on : Bool) (regions size : ℕ) (side : PlainSide) (take : List ℕ) (r : ℕ) → 1 ≤ r → r ≤ regions → All (IsItem g on regions side.vars) take
    → (on ≡ true → load_in side.vars take r ≤ size) → load_in side.vars take 0 ≤ size → RegionFits size (items_in side.vars take) r
region_fits g true regions size side take r some below items row first =
    let load = region_load g regions side.vars r take some below items in
    let held = row refl in
    omega (arith, load, held)
region_fits g false regions size side take r some below items row first =
    let least = static_load side.vars take in
    let kept = none_else g regions side.vars (pair_lane (pair_of r)) take (λ e. omega (arith, e)) items in
    let own = none_else g regions side.vars (region_lane r) take (λ e. omega (arith, e, some)) items in
    omega (arith, least, kept, own, first)

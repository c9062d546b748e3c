-- Slots and places of a feasible choice.
use Rattle.std.proofs.Common.{◌≡◌, ◌∙◌, inl, inr, ℕ, ◌+◌, ◌*◌, ◌/◌, ◌%◌, ◌<◌, ◌≤◌, Bool, true, false, List, length, get_or, Option, Some, None, refl, sym, ap, subst, arith}
use Rattle.std.specs.Prelude.{IsSomeAnd}
use Rattle.std.specs.List.{All}
use Rattle.std.proofs.lemmas.Bool.{cases_eq}
use Rattle.std.proofs.lemmas.Bool.Decides.{nat_tests}
use Rattle.std.proofs.lemmas.List.Elements.{All-map}
use Rattle.board_config.specs.declared.board.Board.{Board}
use Rattle.board_config.specs.Board.{IsLawful}
use Rattle.board_config.specs.declared.board.Range.{Range}
use Rattle.object_graph.specs.Sites.{no_area}
use Rattle.object_graph.specs.declared.parts.Graph.{Graph}
use Rattle.cell_values.specs.Objects.{IsGrain}
use Rattle.placement_programme.specs.declared.variables.VarName.{VarName}
use Rattle.placement_programme.specs.declared.variables.VarName.TheVariants.{StaticData, StaticCode, OverlayData, OverlayCode, KeptData}
use Rattle.placement_programme.specs.Plain.{PlainSide, PlainProgramme, PlainChoice}
use Rattle.placement_programme.specs.Programme.{load_in, side_for, Fits}
use Rattle.relocator.specs.declared.items.Item.{Item}
use Rattle.relocator.specs.declared.slots.Slot.{Slot}
use Rattle.relocator.specs.Slots.{region_lane, pair_lane, lane_of, lane_count, pair_of, item_at, items_in, vars_for, items_of, bytes_in, first_slots, slots_from, slots_of}
use Rattle.relocator.specs.Space.{IsSpaceRow, IsSpaceOf}
use Rattle.relocator.specs.Laying.{AreRoomy, HaveRegions, AreInLanes, CanPut, CanPutAll}
use Rattle.relocator.specs.Laws.{CanLayOut, LiesWithin}
use Rattle.relocator.proofs.SlotLemmas.{IsBetween, slots_between, slot_keeps, first_of_all, first_of_pair, first_of_region}
use Rattle.relocator.proofs.WeightLemmas.{IsAmong, first_among, IsSized, IsWeighed, variable_weighed}
use Rattle.relocator.proofs.LoadLemmas.{all_items, load_held, static_load, RegionFits, region_fits}

-- ---- the items of a choice

-- what holds of the items of a choice that can be laid out in a scratchpad of so many bytes
pub record AreFitting (g : Graph) (regions size : ℕ) (items : List Item) : Type 0 where
  pub sized : All (λ i. IsSized g regions i.name i.span) items
  pub static : bytes_in 0 items ≤ size
  pub in_regions : (r : ℕ) → 1 ≤ r → r ≤ regions → RegionFits size items r

fitting_side : (g : Graph) (regions : ℕ) (board : Board) (on : Bool) (side : PlainSide) (take : List ℕ) → IsGrain g.grain → Fits side take → IsSpaceOf g regions board on side → AreFitting g regions board.spm.size (items_in side.vars take)
fitting_side g regions board on side take grain fits space =
    let l = space.layout in
    let is = space.is in
    let weighed : All (IsWeighed g on regions) side.vars =
    subst (λ (n : ℕ). All (IsWeighed g on n) side.vars) is.region_count
    (λ k d below. variable_weighed g on l (get_or side.vars k d) grain is.objects is.grain (space.has.variables k d below)) in
    let items = all_items g on regions side.vars take weighed fits.numbers in
    let most : (row : ℕ) → (row < length side.rows) × (get_or side.rows row 0 ≡ l.scratchpad) → load_in side.vars take row ≤ board.spm.size =
    λ row holds. load_held side take row board.spm.size fits (holds.0, holds.1 ∙ is.scratchpad) in
    let first : load_in side.vars take 0 ≤ board.spm.size = most 0 (space.has.space 0 (row_zero on)) in
    let rows : (r : ℕ) → r ≤ regions → on ≡ true → load_in side.vars take r ≤ board.spm.size =
    λ r below is_on. most r (space.has.space r (row_of on r is_on (let count = is.region_count in omega (arith, count, below)))) in
    record {
      sized = All-map (λ (i : Item). IsSized g regions i.name i.span) (item_at side.vars) take (λ k d below. (items k d below).sized);
      static = (let least = static_load side.vars take in omega (arith, least, first));
      in_regions = λ r some below. region_fits g on regions board.spm.size side take r some below items (rows r below) first;
    }
  where
    row_zero : (on : Bool) → IsSpaceRow on space.layout 0
    row_zero false = refl
    row_zero true = (0, (omega arith, refl))

    row_of : (on : Bool) (r : ℕ) → on ≡ true → r ≤ space.layout.regions → IsSpaceRow on space.layout r
    row_of false r is_on below = absurd (cc)
    row_of true r is_on below = (r, (below, refl))

of_side : (g : Graph) (regions : ℕ) (board : Board) (on : Bool) (s : Option PlainSide) (take : List ℕ) → IsGrain g.grain → IsSomeAnd s (λ side. Fits side take) → IsSomeAnd s (λ side. IsSpaceOf g regions board on side) → AreFitting g regions board.spm.size (items_in (vars_for s) take)
of_side g regions board on None take grain feasible space = absurd feasible
of_side g regions board on (Some side) take grain feasible space = fitting_side g regions board on side take grain feasible space

pub choice_fits : (g : Graph) (regions : ℕ) (board : Board) (p : PlainProgramme) (c : PlainChoice) → IsGrain g.grain → CanLayOut g regions board p c → AreFitting g regions board.spm.size (items_of p c)
choice_fits g regions board p c grain can = of_side g regions board c.on (side_for p c.on) c.take grain can.feasible can.space

-- ---- the slots of a choice

-- where a slot lies, by what its lane takes
module _ (g : Graph) (regions : ℕ) (r : Range) (items : List Item) (fit : AreFitting g regions r.size items) where
  static_within : (s : Slot) → lane_of s.name ≡ 0 → IsBetween (first_slots r.base items) items s → LiesWithin r s
  static_within s is between =
      let start = first_of_all r.base items in
      let static = fit.static in
      let from : first_slots r.base items 0 ≤ s.at = subst (λ (lane : ℕ). first_slots r.base items lane ≤ s.at) is between.from in
      let to : s.at + s.span ≤ first_slots r.base items 0 + bytes_in 0 items =
      subst (λ (lane : ℕ). s.at + s.span ≤ first_slots r.base items lane + bytes_in lane items) is between.to in
      record { from = omega (arith, from, start); to = omega (arith, to, start, static) }

  region_within : (s : Slot) (region : ℕ) → 1 ≤ region → region ≤ regions → lane_of s.name ≡ region_lane region → IsBetween (first_slots r.base items) items s → LiesWithin r s
  region_within s region some below is between =
      let lane = region_lane region in
      let start = first_of_region r.base items region some in
      let fits = fit.in_regions region some below in
      let from : first_slots r.base items lane ≤ s.at = subst (λ (n : ℕ). first_slots r.base items n ≤ s.at) is between.from in
      let to : s.at + s.span ≤ first_slots r.base items lane + bytes_in lane items =
      subst (λ (n : ℕ). s.at + s.span ≤ first_slots r.base items n + bytes_in n items) is between.to in
      record { from = omega (arith, from, start); to = omega (arith, to, start, fits) }

  pair_within : (s : Slot) (pair : ℕ) → 1 ≤ pair → 2 * pair ≤ regions → lane_of s.name ≡ pair_lane pair → IsBetween (first_slots r.base items) items s → LiesWithin r s
  pair_within s pair some below is between =
      let lane = pair_lane pair in
      let start = first_of_pair r.base items pair in
      let own : pair_of (2 * pair) ≡ pair = omega arith in
      let fits : bytes_in 0 items + bytes_in lane items + bytes_in (region_lane (2 * pair)) items ≤ r.size =
      subst (λ (n : ℕ). bytes_in 0 items + bytes_in (pair_lane n) items + bytes_in (region_lane (2 * pair)) items ≤ r.size) own
      (fit.in_regions (2 * pair) (omega (arith, some)) below) in
      let from : first_slots r.base items lane ≤ s.at = subst (λ (n : ℕ). first_slots r.base items n ≤ s.at) is between.from in
      let to : s.at + s.span ≤ first_slots r.base items lane + bytes_in lane items =
      subst (λ (n : ℕ). s.at + s.span ≤ first_slots r.base items n + bytes_in n items) is between.to in
      record { from = omega (arith, from, start); to = omega (arith, to, start, fits) }

  by_name : (name : VarName) (s : Slot) → s.name ≡ name → IsAmong regions name → IsBetween (first_slots r.base items) items s → LiesWithin r s
  by_name (StaticData object) s is among between = static_within s (ap lane_of is) between
  by_name (StaticCode first last) s is among between = static_within s (ap lane_of is) between
  by_name (OverlayData region object) s is among between = region_within s region among.0 among.1 (ap lane_of is) between
  by_name (OverlayCode region first last) s is among between = region_within s region among.0 among.1 (ap lane_of is) between
  by_name (KeptData pair object) s is among between = pair_within s pair among.0 among.1 (ap lane_of is) between

-- each slot lies in the scratchpad
pub slots_within : (g : Graph) (regions : ℕ) (r : Range) (items : List Item) → AreFitting g regions r.size items → All (LiesWithin r) (slots_of r.base items)
slots_within g regions r items fit k d below =
    let next = first_slots r.base items in
    let s = get_or (slots_from next items) k d in
    let sized = slot_keeps (λ name span. IsSized g regions name span) next items fit.sized k d below in
    by_name g regions r items fit s.name s refl sized.among (slots_between next items k d below)

-- ---- what the steps of a layout rely on

-- the scratchpad ends below 2 ^ 32
spm_ends : (board : Board) → IsLawful board → board.spm.base + board.spm.size ≤ 4294967295
spm_ends board lawful = (lawful.ranges 1 no_area (omega arith)).within

-- lanes begin in the scratchpad, or at its end
first_within : (g : Graph) (regions : ℕ) (r : Range) (items : List Item) → AreFitting g regions r.size items → (lane : ℕ) → lane < lane_count regions → first_slots r.base items lane ≤ r.base + r.size
unfolding first_slots
first_within g regions r items fit lane below =
    let static = fit.static in
    elim (cases_eq lane 0) [
      | inl is ↦ grind (arith, nat_tests, is)
      | inr other ↦ elim (cases_eq (lane % 2) 0) [
        | inl even ↦
            let fits = fit.in_regions (lane / 2) (omega (arith, other, even)) (omega (arith, below, even)) in
            grind (arith, nat_tests, other, even, fits)
        | inr odd ↦ grind (arith, nat_tests, other, odd, static)
      ]
    ]

items_roomy : (g : Graph) (regions : ℕ) (board : Board) (items : List Item) → IsLawful board → AreFitting g regions board.spm.size items → AreRoomy board.spm.base regions items
items_roomy g regions board items lawful fit =
    let ends = spm_ends board lawful in
    record {
      first = λ lane below. let within = first_within g regions board.spm items fit lane below in omega (arith, ends, within);
      slots = λ k d below. let to = (slots_within g regions board.spm items fit k d below).to in omega (arith, ends, to);
    }

lane_among : (regions : ℕ) (name : VarName) → IsAmong regions name → lane_of name < lane_count regions
lane_among regions (StaticData object) among = omega arith
lane_among regions (StaticCode first last) among = omega arith
lane_among regions (OverlayData region object) among = omega (arith, among.1)
lane_among regions (OverlayCode region first last) among = omega (arith, among.1)
lane_among regions (KeptData pair object) among = omega (arith, among.1)

items_in_lanes : (g : Graph) (regions size : ℕ) (items : List Item) → AreFitting g regions size items → AreInLanes (lane_count regions) items
items_in_lanes g regions size items fit k d below = lane_among regions (get_or items k d).name (fit.sized k d below).among

can_put : (g : Graph) (regions at span : ℕ) (name : VarName) → IsSized g regions name span → at + span < 4294967296 → CanPut g regions at name
can_put g regions at span (StaticData object) sized ends = let room = sized.room.room in (sized.room.below, omega (arith, room, ends))
can_put g regions at span (StaticCode first last) sized ends = tt
can_put g regions at span (OverlayData region object) sized ends = let room = sized.room.room in (sized.among.1, (sized.room.below, omega (arith, room, ends)))
can_put g regions at span (OverlayCode region first last) sized ends = tt
can_put g regions at span (KeptData pair object) sized ends =
    let room = sized.room.room in (sized.among.0, sized.among.1, (sized.room.below, omega (arith, room, ends)))

slots_put : (g : Graph) (regions : ℕ) (board : Board) (items : List Item) → IsLawful board → AreFitting g regions board.spm.size items → CanPutAll g regions (slots_of board.spm.base items)
slots_put g regions board items lawful fit k d below =
    let s = get_or (slots_of board.spm.base items) k d in
    let sized = slot_keeps (λ name span. IsSized g regions name span) (first_slots board.spm.base items) items fit.sized k d below in
    can_put g regions s.at s.span s.name sized ((items_roomy g regions board items lawful fit).slots k d below)

-- all that a layout asks of its items
pub record CanBeLaid (g : Graph) (regions : ℕ) (board : Board) (items : List Item) : Type 0 where
  pub roomy : AreRoomy board.spm.base regions items
  pub in_lanes : AreInLanes (lane_count regions) items
  pub put : CanPutAll g regions (slots_of board.spm.base items)

pub choice_laid : (g : Graph) (regions : ℕ) (board : Board) (p : PlainProgramme) (c : PlainChoice) → IsLawful board → g.grain ≡ board.grain → CanLayOut g regions board p c → CanBeLaid g regions board (items_of p c)
choice_laid g regions board p c lawful same can =
    let items = items_of p c in
    let grain = subst IsGrain (sym same) lawful.grain in
    let fit = choice_fits g regions board p c grain can in
    record {
      roomy = items_roomy g regions board items lawful fit;
      in_lanes = items_in_lanes g regions board.spm.size items fit;
      put = slots_put g regions board items lawful fit;
    }

-- the regions of all variables of a side are words
side_regions : (g : Graph) (regions : ℕ) (board : Board) (on : Bool) (s : Option PlainSide) → regions < 4294967296 → IsGrain g.grain → IsSomeAnd s (λ side. IsSpaceOf g regions board on side) → HaveRegions (vars_for s)
side_regions g regions board on None small grain space k d below = absurd space
side_regions g regions board on (Some side) small grain space k d below =
    let l = space.layout in
    let is = space.is in
    let count = is.region_count in
    let weighed = variable_weighed g on l (get_or side.vars k d) grain is.objects is.grain (space.has.variables k d below) in
    let within = first_among l.regions (get_or side.vars k d).name weighed.sized.among in
    omega (arith, within, count, small)

pub choice_regions : (g : Graph) (regions : ℕ) (board : Board) (p : PlainProgramme) (c : PlainChoice) → IsLawful board → g.grain ≡ board.grain → regions < 4294967296 → CanLayOut g regions board p c → HaveRegions (vars_for (side_for p c.on))
choice_regions g regions board p c lawful same small can =
    side_regions g regions board c.on (side_for p c.on) small (subst IsGrain (sym same) lawful.grain) can.space

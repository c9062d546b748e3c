-- What the way to a unit costs in a result: pads, stubs with their switches, and bodies, as they are counted by its block.
use Rattle.std.proofs.Common.{◌≡◌, ◌∙◌, ℕ, zero, suc, ◌+◌, ◌*◌, ◌<◌, ◌≤◌, ◌==◌, Bool, true, false, not, ◌&&◌, ◌||◌, if◌then◌else◌, List, [], ◌∷◌, ◌++◌, length, Option, refl, sym, ap, subst, arith}
use Rattle.std.specs.Prelude.{Contains, is_some}
use Rattle.std.proofs.lemmas.Bool.{both_ways}
use Rattle.std.proofs.lemmas.List.Sums.{sum_by-cons}
use Rattle.std.proofs.lemmas.List.Elements.{All-nil, All-cons, All-contains}
use Rattle.board_config.specs.declared.board.Board.{Board}
use Rattle.board_config.specs.declared.board.Prices.{Prices}
use Rattle.flat_machine.specs.Lines.{words_from}
use Rattle.flat_machine.specs.declared.events.FlatEvent.{FlatEvent}
use Rattle.object_graph.specs.declared.parts.Graph.{Graph}
use Rattle.code_blocks.specs.Early.{has}
use Rattle.code_blocks.specs.Numbers.{starts_of, start_at}
use Rattle.code_blocks.specs.declared.parts.Code.{Code}
use Rattle.block_splitter.specs.declared.block_range.BlockRange.{BlockRange}
use Rattle.result_laws.proofs.Setting.{setting}
use Rattle.result_laws.proofs.Counts.{runs_count}
use Rattle.patch_code.specs.Told.{accesses, read_at}
use Rattle.dataflow.specs.Overlaid.{region_in, is_border}
use Rattle.profile_runner.specs.Standing.{number_of, begins, block_of}
use Rattle.profile_runner.specs.Transition.{Transition, transition_at}
use Rattle.profile_runner.proofs.FindLemmas.{block_found}
use Rattle.energy_model.specs.Energy.{is_checked, block_at, region_before, region_with, comes_from_outside, arrival_words, arrival_price, way_price, switch_price, change_price}
use Rattle.energy_model.specs.Energy as energy
use Rattle.patch_code.specs.Overlay.{serving_place}
use Rattle.patch_code.specs.Served.{IsServedInside}
use Rattle.patch_code.specs.Served.{body_at as stub_body}
use Rattle.patch_code.specs.Serving.{ServingStub, jumps_to, test_bytes, body_bytes}
use Rattle.patch_code.proofs.WholePlaces.{served_inside}
use Rattle.result_laws.proofs.CodeUnits.{first}
use Rattle.result_laws.specs.ChosenPlacement.{ChosenPlacement}
use Rattle.result_laws.specs.PlacedView.{HasBody, ToCopy, Displaced, Serves}
use Rattle.result_laws.specs.PlacedLaws.{IsPlacedResult}
use Rattle.result_laws.specs.PlacedForms.{ArrivesAt, AtForm, AtItsHome, BehindCopy, BehindStub}
use Rattle.result_laws.specs.Walks.{AreEvents, body_fetched, StubPasses, Unchecked, Current, Switches, BlockEntered, Bare, ByStub, Enters}
use Rattle.paid_energy.specs.Costs.{access_cost, run_cost}
use Rattle.paid_energy.proofs.CostLemmas.{run_cost_joined, fetches_cost, accesses_cost, run_cost_parts}
use Rattle.paid_energy.specs.CountedWalks.{has_way, enters_by_stub, arrives_by_stub}
use Rattle.paid_energy.specs.WalkCosts.{HasRegionsOfSide}
use Rattle.paid_energy.proofs.CountedForms.{checked_border}
use Rattle.paid_energy.proofs.CodeFacts.{unit_facts}
use Rattle.paid_energy.proofs.Fetching.{slow_fetches, from_each}
use Rattle.paid_energy.proofs.HomePrices.{IsSlow, code_slow}
use Rattle.paid_energy.proofs.Pieces.{piece_is, none_is}
use Rattle.paid_energy.proofs.Tests.{equal_numbers, other_numbers}
use Rattle.paid_energy.proofs.SwitchCosts.{control_slow, plan_run, plan_slow, slow_read, switch_costs}
use Rattle.paid_energy.proofs.PlacedScene.{scene_in}

-- ---- truth values

same_region : (on : Bool) (r x : ℕ) → (if on && not (r == r) then x else 0) ≡ 0
same_region true r x = ap (λ (b : Bool). if not b then x else 0) (equal_numbers r r refl)
same_region false r x = refl

other_region : (on : Bool) (s r x : ℕ) → on ≡ true → (s ≡ r → ⊥) → (if on && not (s == r) then x else 0) ≡ x
other_region on s r x is differs =
    let test = other_numbers s r differs in
    ap (λ (b : Bool). if b && not (s == r) then x else 0) is ∙ ap (λ (b : Bool). if not b then x else 0) test

tested : (r : ℕ) (more : Bool) → not (r == 0) && more ≡ true → r ≡ 0 → ⊥
tested r more is none = both_ways (r == 0) (by (r == 0) is) (equal_numbers r 0 none)
  where
    by : (t : Bool) → not t && more ≡ true → t ≡ false
    by true is = cc
    by false is = refl

-- a way is counted just where a pad runs
way_by : (prices : Prices) (begun outside copied checked : Bool) → (if begun && (outside && (copied || checked)) then arrival_price prices copied checked else 0) ≡ (if begun && outside then arrival_price prices copied checked else 0)
way_by prices false outside copied checked = refl
way_by prices true false copied checked = refl
way_by prices true true true checked = refl
way_by prices true true false true = refl
way_by prices true true false false = omega arith

-- a pad, the test, and the jump of the body
arrival_by : (prices : Prices) (copied checked : Bool) (test body : ℕ) → test ≡ (if checked then 4 * prices.main_fetch + prices.main_read else 0) → body ≡ (if copied then 2 * prices.main_fetch else 0) → (copied || checked) ≡ true → 1 * prices.main_fetch + (test + body) ≡ arrival_price prices copied checked
arrival_by prices true true test body first last some = omega (arith, first, last)
arrival_by prices true false test body first last some = omega (arith, first, last)
arrival_by prices false true test body first last some = omega (arith, first, last)
arrival_by prices false false test body first last some = cc

module _ (file out : List ℕ) (board : Board) (g : Graph) (c : Code) (pl : ChosenPlacement) (result : IsPlacedResult file out board g c pl) (sides : HasRegionsOfSide pl) where
  open (setting file out board g c pl result) use {v, plan}
  open (scene_in board g c pl) use {w, taken}

  abbrev fetch : ℕ
  fetch = board.prices.main_fetch

  abbrev is_copied : ℕ → Bool
  is_copied b = is_some (energy.piece_of taken.names b)

  abbrev change : ℕ → ℕ → ℕ
  change from to = if pl.choice.on && not (from == to) then switch_price w taken.names from to else 0

  -- ---- the regions of stubs

  on_by : (b : ℕ) → is_border pl.borders b ≡ true → (on : Bool) → pl.choice.on ≡ on → on ≡ true
  on_by b border true is = refl
  on_by b border false is =
      let none : is_border pl.borders b ≡ false = ap (λ (xs : List Bool). is_border xs b) (sides is).1.1 in
      absurd (both_ways (is_border pl.borders b) none border)

  border_on : (b : ℕ) → is_border pl.borders b ≡ true → pl.choice.on ≡ true
  border_on b border = on_by b border pl.choice.on refl

  border_region : (b : ℕ) → b < length c.blocks.items → is_border pl.borders b ≡ true → region_in pl.regions b ≡ 0 → ⊥
  border_region b below border none = tested (region_in pl.regions b) _ (sym (result.placement.borders b below) ∙ border) none

  -- a stub with a region serves a block that is checked
  record StubRegion (b : ℕ) (stub : ServingStub) : Type 0 where
    few : stub.region ≤ pl.count
    on : (stub.region ≡ 0 → ⊥) → pl.choice.on ≡ true
    test : is_checked w taken b ≡ not (stub.region == 0)

  region_by : (b : ℕ) (stub : ServingStub) → b < length c.blocks.items → (border : Bool) → is_border pl.borders b ≡ border → stub.region ≡ (if border then region_in pl.regions b else 0) → StubRegion b stub
  region_by b stub below true border is =
      let most = result.placement.below b in
      let on = border_on b border in
      let other : (stub.region == 0) ≡ false = other_numbers stub.region 0 (λ none. border_region b below border (sym is ∙ none)) in
      record {
        few = omega (arith, is, most);
        on = λ some. on;
        test = checked_border file out board g c pl result sides b ∙ (border ∙ sym (ap not other));
      }
  region_by b stub below false border is =
      let none : (stub.region == 0) ≡ true = equal_numbers stub.region 0 is in
      record {
        few = omega (arith, is);
        on = λ some. absurd (some is);
        test = checked_border file out board g c pl result sides b ∙ (border ∙ sym (ap not none));
      }

  stub_region : (at b : ℕ) (stub : ServingStub) → b < length c.blocks.items → Serves c g pl at b stub → StubRegion b stub
  stub_region at b stub below serves = region_by b stub below (is_border pl.borders b) refl serves.region

  -- ---- before the body of a stub

  abbrev test_cost : Bool → ℕ
  test_cost checked = if checked then 4 * fetch + board.prices.main_read else 0

  control_read : accesses_cost board (read_at plan.start.base ∷ []) ≡ board.prices.main_read
  control_read =
      let alone = sum_by-cons (access_cost board) (read_at plan.start.base) [] in
      let slow = slow_read board plan.start.base (control_slow file out board g c pl result plan.start.base (omega arith) (omega arith)) in
      omega (arith, alone, slow)

  stub_cost : (stub : ServingStub) (from to : ℕ) (es : List FlatEvent) → StubPasses plan stub from to es → from ≤ pl.count → stub.region ≤ pl.count → ((stub.region ≡ 0 → ⊥) → pl.choice.on ≡ true) → run_cost board es ≡ test_cost (not (stub.region == 0)) + change from to
  stub_cost stub from _ _ (Unchecked none) few within on =
      let test : (stub.region == 0) ≡ true = equal_numbers stub.region 0 none in
      let no_test : test_cost (not (stub.region == 0)) ≡ 0 = ap (λ (b : Bool). test_cost (not b)) test in
      let stays : change from from ≡ 0 = same_region pl.choice.on from (switch_price w taken.names from from) in
      let nothing : run_cost board [] ≡ 0 = refl in
      omega (arith, no_test, stays, nothing)
  stub_cost stub from _ _ (Current es some is runs) few within on =
      let test : (stub.region == 0) ≡ false = other_numbers stub.region 0 some in
      let tests : test_cost (not (stub.region == 0)) ≡ 4 * fetch + board.prices.main_read = ap (λ (b : Bool). test_cost (not b)) test in
      let run = plan_run file out board g c pl result 4 (read_at plan.start.base ∷ []) es runs.runs in
      let read = control_read in
      let stays : change from from ≡ 0 = same_region pl.choice.on from (switch_price w taken.names from from) in
      omega (arith, tests, run, read, stays)
  stub_cost stub from _ _ (Switches es some other runs) few within on =
      let test : (stub.region == 0) ≡ false = other_numbers stub.region 0 some in
      let tests : test_cost (not (stub.region == 0)) ≡ 4 * fetch + board.prices.main_read = ap (λ (b : Bool). test_cost (not b)) test in
      let least : 1 ≤ stub.region = let there = some in omega (arith, there) in
      let run = switch_costs file out board g c pl result from stub.region es few least within other runs.runs in
      let goes : change from stub.region ≡ switch_price w taken.names from stub.region =
      other_region pl.choice.on from stub.region (switch_price w taken.names from stub.region) (on some) other in
      omega (arith, tests, run, goes)

  -- ---- bodies

  pub told_none : (fetched : List ℕ) (es : List FlatEvent) → AreEvents fetched [] es → run_cost board es ≡ fetches_cost board fetched
  told_none fetched es are =
      let parts = run_cost_parts board es in
      let first = ap (fetches_cost board) are.addresses in
      let none : accesses_cost board (accesses es) ≡ 0 = ap (accesses_cost board) are.accesses in
      omega (arith, parts, first, none)

  jump_slow : (stub : ServingStub) (to : ℕ) → Contains plan.stubs stub → stub.body ≡ jumps_to to → (i : ℕ) → i < 2 → IsSlow board (serving_place plan stub + test_bytes stub.region + 4 * i)
  jump_slow stub to listed is i small =
      let base = result.view.planned.can.start.aligned in
      let inside = All-contains (IsServedInside plan) plan.stubs stub (served_inside plan (omega (arith, base))) listed in
      let from = inside.from in
      let ends = inside.ends in
      let bytes = ap body_bytes is in
      plan_slow file out board g c pl result (serving_place plan stub + test_bytes stub.region + 4 * i) (omega (arith, from)) (omega (arith, ends, bytes, small))

  body_by : (at b : ℕ) (stub : ServingStub) → Contains plan.stubs stub → (has : HasBody c g pl at b stub) → fetches_cost board (body_fetched c g pl at b stub (serving_place plan stub + test_bytes stub.region) has) ≡ (if is_copied b then 2 * fetch else 0)
  body_by at b stub listed (ToCopy n inside held jumps) =
      let body : ℕ = serving_place plan stub + test_bytes stub.region in
      let copied : is_copied b ≡ true = ap (λ (o : Option BlockRange). is_some o) (piece_is file out board g c pl result b n inside held) in
      let count = runs_count.fetched body 2 in
      let words = slow_fetches board (words_from body 2) (from_each (IsSlow board) body 2 (jump_slow stub _ listed jumps)) in
      let paid = ap (λ (m : ℕ). m * fetch) count in
      let here = sym (ap (λ (t : Bool). if t then 2 * fetch else 0) copied) in
      words ∙ (paid ∙ here)
  body_by at b stub listed (Displaced words uncopied runs form) =
      let none : is_copied b ≡ false = ap (λ (o : Option BlockRange). is_some o) (none_is file out board g c pl result b uncopied) in
      sym (ap (λ (t : Bool). if t then 2 * fetch else 0) none)

  -- ---- where control comes to a block

  abbrev arrival_at : ℕ → ℕ
  arrival_at b = arrival_price board.prices (is_copied b) (is_checked w taken b)

  home_slow : (b v : ℕ) → b < length c.blocks.items → start_at c b ≡ v → IsSlow board v
  home_slow b v below starts =
      let there = first file board g c result.accepted result.code b below in
      subst (IsSlow board) starts
      (code_slow file board g result.accepted (start_at c b) (unit_facts file board g c result.accepted result.code (start_at c b) b 0 there).is_code)

  -- by a pad, at block `d` that is counted there, which is copied or checked
  entered_cost : (from v to : ℕ) (es : List FlatEvent) (d : ℕ) (entered : BlockEntered c g pl plan from v to es) → from ≤ pl.count → ((b : ℕ) → b < length c.blocks.items → start_at c b ≡ v → b ≡ d) → (enters_by_stub c g pl plan from v to es entered ≡ true → is_copied d || is_checked w taken d ≡ true) → run_cost board es ≡ (if enters_by_stub c g pl plan from v to es entered then arrival_at d else 0) + change from to
  entered_cost from v _ _ d (Bare form) few own some =
      let stays : change from from ≡ 0 = same_region pl.choice.on from (switch_price w taken.names from from) in
      let nothing : run_cost board [] ≡ 0 = refl in
      omega (arith, stays, nothing)
  entered_cost from v _ _ d (ByStub b to stub pad passed body below starts listed serves pad_is passes body_is) few own some =
      let block : b ≡ d = own b below starts in
      let region = stub_region (stub_body plan stub) b stub below serves in
      let first = told_none (v ∷ []) pad pad_is in
      let pad_paid : fetches_cost board (v ∷ []) ≡ 1 * fetch = slow_fetches board (v ∷ []) (All-cons (IsSlow board) v [] (home_slow b v below starts) (All-nil (IsSlow board))) in
      let second = stub_cost stub from to passed passes few region.few region.on in
      let tests : test_cost (not (stub.region == 0)) ≡ test_cost (is_checked w taken d) =
      ap test_cost (sym region.test) ∙ ap (λ (n : ℕ). test_cost (is_checked w taken n)) block in
      let third =
      told_none (body_fetched c g pl (stub_body plan stub) b stub (serving_place plan stub + test_bytes stub.region) serves.body) body body_is in
      let bodies =
      body_by (stub_body plan stub) b stub listed serves.body ∙ ap (λ (n : ℕ). if is_copied n then 2 * fetch else 0) block in
      let one = run_cost_joined board pad (passed ++ body) in
      let two = run_cost_joined board passed body in
      let all : 1 * fetch + (test_cost (is_checked w taken d) + (if is_copied d then 2 * fetch else 0)) ≡ arrival_at d =
      arrival_by board.prices (is_copied d) (is_checked w taken d) (test_cost (is_checked w taken d)) (if is_copied d then 2 * fetch else 0) refl refl (some refl) in
      omega (arith, first, pad_paid, second, tests, third, bodies, one, two, all)

  arrival_cost : (from v a to : ℕ) (es : List FlatEvent) (d : ℕ) (at : ArrivesAt c g pl plan from v a) (enters : Enters c g pl plan from v a to es at) → from ≤ pl.count → ((b : ℕ) → b < length c.blocks.items → start_at c b ≡ v → b ≡ d) → (arrives_by_stub c g pl plan from v a to es at enters ≡ true → is_copied d || is_checked w taken d ≡ true) → run_cost board es ≡ (if arrives_by_stub c g pl plan from v a to es at enters then arrival_at d else 0) + change from to
  arrival_cost from v _ to es d (AtForm a form) enters few own some =
      let none : run_cost board es ≡ 0 = ap (run_cost board) enters.0 in
      let stays : change from to ≡ 0 =
      ap (change from) enters.1 ∙ same_region pl.choice.on from (switch_price w taken.names from from) in
      omega (arith, none, stays)
  arrival_cost from v _ to es d (AtItsHome home) enters few own some = entered_cost from v to es d enters few own some
  arrival_cost from v _ to es d (BehindCopy n b e inside held runs falls leaves below starts) enters few own some =
      entered_cost from v to es d enters few own some
  arrival_cost from v _ to es d (BehindStub u b stub there listed serves uncopied plain is home) enters few own some =
      entered_cost from v to es d enters few own some

  -- ---- as it is counted

  module _ (ts : List Transition) (i : ℕ) where
    abbrev block : ℕ
    block = block_at w ts i

    begun_block : (j : ℕ) → begins (starts_of c) ts j ≡ true → block_of (starts_of c) ts j ≡ number_of (starts_of c) (transition_at ts j).at
    begun_block zero begun = refl
    begun_block (suc j) begun =
        ap (λ (b : Bool). if b then number_of (starts_of c) (transition_at ts (suc j)).at else block_of (starts_of c) ts j) begun

    block_is : (v b : ℕ) → (transition_at ts i).at ≡ v → b < length c.blocks.items → start_at c b ≡ v → b ≡ block
    block_is v b at below starts =
        let found = block_found c v b result.code.ascending below starts in
        let begun : begins (starts_of c) ts i ≡ true = ap (has (starts_of c)) at ∙ found.0 in
        sym (begun_block i begun ∙ (ap (number_of (starts_of c)) at ∙ found.1))

    way_some : (begun outside some : Bool) → begun && (outside && some) ≡ true → some ≡ true
    way_some true true some is = is
    way_some true false some is = absurd (cc)
    way_some false outside some is = absurd (cc)

    -- an arrival at transition `i` costs its way and its change of the region
    pub entering_cost : (from v a to : ℕ) (es : List FlatEvent) (at : ArrivesAt c g pl plan from v a) (enters : Enters c g pl plan from v a to es at) → from ≤ pl.count → (transition_at ts i).at ≡ v → from ≡ region_before w ts i → to ≡ region_with w ts i → arrives_by_stub c g pl plan from v a to es at enters ≡ has_way w taken ts i → run_cost board es ≡ way_price w taken ts i + change_price w taken ts i
    entering_cost from v a to es at enters few here is_from is_to way =
        let begun : Bool = begins (starts_of c) ts i in
        let outside : Bool = comes_from_outside w (energy.piece_of taken.names block) ts i in
        let cost =
        arrival_cost from v a to es block at enters few (λ b below starts. block_is v b here below starts)
        (λ by_stub. way_some begun outside (is_copied block || is_checked w taken block) (sym way ∙ by_stub)) in
        let by_way : (if arrives_by_stub c g pl plan from v a to es at enters then arrival_at block else 0) ≡ (if has_way w taken ts i then arrival_at block else 0) =
        ap (λ (b : Bool). if b then arrival_at block else 0) way in
        let counted = way_by board.prices begun outside (is_copied block) (is_checked w taken block) in
        let changes : change from to ≡ change_price w taken ts i =
        ap (λ (n : ℕ). change n to) is_from ∙ ap (change (region_before w ts i)) is_to in
        omega (arith, cost, by_way, counted, changes)

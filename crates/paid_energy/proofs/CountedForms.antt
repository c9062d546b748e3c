-- Which form a unit has and whether a pad is run on the way to it, by the block and the unit that are counted.
use Rattle.std.proofs.Common.{◌≡◌, ◌∙◌, inl, inr, ℕ, zero, suc, ◌<◌, ◌≤◌, ◌==◌, Bool, true, false, ◌&&◌, ◌||◌, List, [], length, Option, Some, None, refl, sym, ap, subst, arith}
use Rattle.std.specs.Prelude.{Contains, is_some}
use Rattle.std.specs.List.{list_any}
use Rattle.std.proofs.Math.Bool.{and-false}
use Rattle.std.proofs.lemmas.Bool.{both_ways}
use Rattle.std.proofs.lemmas.Bool.Decides.{nat_tests}
use Rattle.std.proofs.lemmas.List.Elements.{All-contains}
use Rattle.std.proofs.lemmas.List.Folds.{list_any_at}
use Rattle.list_checks.proofs.TestLemmas.{either, neither, both, any_at}
use Rattle.board_config.specs.declared.board.Board.{Board}
use Rattle.flat_machine.specs.declared.events.FlatEvent.{FlatEvent}
use Rattle.object_graph.specs.Sites.{in_range}
use Rattle.object_graph.specs.declared.parts.Graph.{Graph}
use Rattle.code_blocks.specs.Early.{has}
use Rattle.code_blocks.proofs.LeaderLemmas.{left_passes, right_passes, both_pass}
use Rattle.code_blocks.specs.Numbers.{starts_of, start_at}
use Rattle.code_blocks.specs.Leads.{IsBlockOf}
use Rattle.code_blocks.specs.declared.parts.Code.{Code}
use Rattle.dataflow.proofs.EdgeLemmas.{one_start}
use Rattle.dataflow.specs.Overlaid.{is_border}
use Rattle.block_splitter.specs.declared.block_range.BlockRange.{BlockRange}
use Rattle.block_splitter.specs.Forms.{holds_block}
use Rattle.block_splitter.specs.Pieces.{is_entry}
use Rattle.profile_runner.specs.Standing.{begins, block_of, current}
use Rattle.profile_runner.specs.Transition.{Transition, transition_at}
use Rattle.profile_runner.proofs.FindLemmas.{block_found}
use Rattle.energy_model.specs.Energy.{is_checked, unit_number, comes_from_outside}
use Rattle.paid_energy.specs.Counted.{IsCountedAt}
use Rattle.patch_code.specs.Serving.{ServingStub}
use Rattle.patch_code.specs.Served.{body_at as stub_body}
use Rattle.result_laws.specs.HomeLaws.{unnamed_in}
use Rattle.result_laws.specs.LiveUnits.{StandsThere, UnitsStand}
use Rattle.result_laws.proofs.Setting.{setting}
use Rattle.result_laws.proofs.CodeUnits.{units_stand, block_of as leader_block}
use Rattle.result_laws.proofs.Lists.{element_found}
use Rattle.result_laws.proofs.Loaded.{IsKept}
use Rattle.result_laws.specs.ChosenPlacement.{ChosenPlacement, no_piece}
use Rattle.result_laws.specs.ChosenPlacement.{piece_of as placed_piece}
use Rattle.result_laws.specs.PlacedView.{enters_piece, is_served, is_padded, IsUncopied, Serves, ServesSome}
use Rattle.result_laws.specs.PlacedLaws.{IsPlacedResult}
use Rattle.result_laws.specs.PlacedForms.{StandsAs, AtHome, InCopy, InStub, ArrivesAt, AtForm, AtItsHome, BehindCopy, BehindStub}
use Rattle.result_laws.specs.Walks.{leaving_fetched, BlockEntered, Bare, ByStub, Enters}
use Rattle.result_laws.proofs.Apart.{home_kept, body_in_patch, jump_in_patch, copy_in_spm, in_spm}
use Rattle.result_laws.proofs.StubWords.{border}
use Rattle.paid_energy.specs.CountedWalks.{StandsAsCounted, IsCountedUnit, has_way, enters_by_stub, arrives_by_stub}
use Rattle.paid_energy.specs.WalkCosts.{HasRegionsOfSide}
use Rattle.paid_energy.proofs.Pieces.{piece_is, none_there, none_is}
use Rattle.paid_energy.proofs.PlacedScene.{scene_in}

all_pass : (a b c : Bool) → a ≡ true → b ≡ true → c ≡ true → a && (b && c) ≡ true
all_pass true true c a_is b_is c_is = c_is
all_pass true false c a_is b_is c_is = cc
all_pass false b c a_is b_is c_is = cc

none_pass : (a b c : Bool) → (a ≡ true → c ≡ false) → a && (b && c) ≡ false
none_pass false b c last = refl
none_pass true false c last = refl
none_pass true true c last = last refl

pub middle_fails : (a b c : Bool) → (a ≡ true → b ≡ false) → a && (b && c) ≡ false
middle_fails false b c middle = refl
middle_fails true false c middle = refl
middle_fails true true c middle = absurd (cc (middle refl))

module _ (file out : List ℕ) (board : Board) (g : Graph) (c : Code) (pl : ChosenPlacement) (result : IsPlacedResult file out board g c pl) (side : HasRegionsOfSide pl) where
  open (setting file out board g c pl result) use {v, plan}
  open (scene_in board g c pl) use {w, taken, named}

  units : UnitsStand v (unnamed_in file board g) c
  units = units_stand file board g c result.accepted result.code

  -- ---- served blocks

  checked_by : (b : ℕ) (on : Bool) → pl.choice.on ≡ on → on && is_border pl.borders b ≡ is_border pl.borders b
  checked_by b true is = refl
  checked_by b false is = sym (ap (λ (xs : List Bool). is_border xs b) (side is).1.1)

  -- a check is made where control enters a region
  pub checked_border : (b : ℕ) → is_checked w taken b ≡ is_border pl.borders b
  checked_border b = checked_by b pl.choice.on refl

  served_so : (b : ℕ) → is_served c pl b ≡ true → is_some (named b) || is_checked w taken b ≡ true
  served_so b served =
      elim (either (is_border pl.borders b) (list_any (enters_piece c b) pl.pieces) served) [
        | inl is ↦ right_passes (is_some (named b)) (is_checked w taken b) (checked_border b ∙ is)
        | inr enters ↦
            let found = element_found (enters_piece c b) pl.pieces no_piece enters in
            let held = (both (holds_block b (placed_piece pl found.0).range) _ found.1.1).0 in
            left_passes (is_some (named b)) (is_checked w taken b)
            (ap (λ (o : Option BlockRange). is_some o) (piece_is file out board g c pl result b found.0 found.1.0 held))
      ]

  unserved : (b : ℕ) → is_served c pl b ≡ false → is_checked w taken b ≡ false
  unserved b none =
      checked_border b ∙ (neither (is_border pl.borders b) (list_any (enters_piece c b) pl.pieces) none).0

  pub border_served : (b : ℕ) → is_checked w taken b ≡ true → is_served c pl b ≡ true
  border_served b checked =
      left_passes (is_border pl.borders b) (list_any (enters_piece c b) pl.pieces) (sym (checked_border b) ∙ checked)

  pub entry_served : (b n : ℕ) → n < length pl.pieces → holds_block b (placed_piece pl n).range ≡ true → is_entry c (placed_piece pl n).range b ≡ true → is_served c pl b ≡ true
  entry_served b n inside held entry =
      right_passes (is_border pl.borders b) (list_any (enters_piece c b) pl.pieces)
      (list_any_at (enters_piece c b) pl.pieces n no_piece inside (both_pass (holds_block b (placed_piece pl n).range) (is_entry c (placed_piece pl n).range b) held entry))

  equal : (a b : ℕ) → a ≡ b → (a == b) ≡ true
  equal a b same = grind (arith, nat_tests, same)

  padded : (b a : ℕ) → IsBlockOf c b → start_at c b ≡ a → is_served c pl b ≡ true → is_padded c pl a ≡ true
  padded b a below starts served =
      any_at (λ d. is_served c pl d && (start_at c d == a)) (length c.blocks.items) b below
      (both_pass (is_served c pl b) (start_at c b == a) served (equal (start_at c b) a starts))

  stub_served : (b : ℕ) (stub : ServingStub) → IsBlockOf c b → Contains plan.stubs stub → Serves c g pl (stub_body plan stub) b stub → is_served c pl b ≡ true
  stub_served b stub below listed serves =
      let some = All-contains (ServesSome c g pl plan) plan.stubs stub result.view.planned.stubs.only listed in
      let same : start_at c b ≡ start_at c some.block = sym serves.home ∙ some.serves.home in
      let one = one_start c b some.block result.code.ascending below some.below same in
      subst (λ (d : ℕ). is_served c pl d ≡ true) (sym one) some.served

  -- a form at its home has no pad
  bare_there : (u a : ℕ) → (stands : StandsAs c g pl plan u a) → a ≡ u → is_padded c pl u ≡ false
  bare_there _ _ (AtHome u b k there bare) same = bare
  bare_there _ _ (InCopy u n b k inside held there) same =
      let kept = home_kept file out board g c pl result u b k there in
      absurd (both_ways (in_range board.spm u) kept.spm (subst (λ (x : ℕ). in_range board.spm x ≡ true) same (copy_in_spm file out board g c pl result u n b k inside held there)))
  bare_there _ _ (InStub u b stub there listed serves uncopied) same =
      let kept = home_kept file out board g c pl result u b 0 there in
      absurd (both_ways (in_range board.patch u) kept.patch (subst (λ (x : ℕ). in_range board.patch x ≡ true) same (body_in_patch file out board g c pl result u b stub there listed serves uncopied)))

  -- ---- the unit of a transition

  module _ (ts : List Transition) (i : ℕ) (here : IsCountedAt c pl.regions pl.borders ts i) (u : ℕ) (at : (transition_at ts i).at ≡ u) where
    abbrev block : ℕ
    block = block_of (starts_of c) ts i

    abbrev begun : Bool
    begun = begins (starts_of c) ts i

    pub there : StandsThere c u block here.unit
    there = subst (λ (x : ℕ). StandsThere c x block here.unit) at here.there

    pub block_below : IsBlockOf c block
    block_below = units.inside block here.unit there.is

    start_first : here.unit ≡ 0 → start_at c block ≡ u
    start_first first =
        let place = units.at block here.unit there.is in let stands = there.at in omega (arith, place, stands, first)

    pub first_begun : (d : ℕ) → IsBlockOf c d → start_at c d ≡ u → (begun ≡ true) × (block ≡ d)
    first_begun d below starts =
        let found = block_found c u d result.code.ascending below starts in
        let first : StandsThere c u d 0 = subst (λ (x : ℕ). StandsThere c x d 0) starts (units.first d below) in (
          subst (λ (x : ℕ). has (starts_of c) x ≡ true) (sym at) found.0,
          (units.one u block here.unit d 0 there first).0,
        )

    pub begun_first : begun ≡ true → here.unit ≡ 0
    begun_first is =
        let leads = sym (result.code.leaders u) ∙ subst (λ (x : ℕ). has (starts_of c) x ≡ true) at is in
        let found = leader_block file board g c result.accepted result.code u leads in
        let first : StandsThere c u found.0 0 = subst (λ (x : ℕ). StandsThere c x found.0 0) found.2 (units.first found.0 found.1) in
        (units.one u block here.unit found.0 0 there first).1

    pub begun_start : begun ≡ true → start_at c block ≡ u
    begun_start is = start_first (begun_first is)

    -- ---- its form

    number : unit_number w ts i ≡ here.unit
    number = let units_are = here.units in omega (arith, units_are)

    abbrev AsCounted : (x a k : ℕ) → StandsAs c g pl plan x a → Type 0
    AsCounted x a k stands =
        StandsAsCounted c g pl plan (named block) (is_checked w taken block) block k x a stands

    unchecked : (k x : ℕ) → StandsThere c x block k → is_padded c pl x ≡ false → is_checked w taken block && (k == 0) ≡ false
    unchecked (suc k) x stands bare =
        let later : (suc k == 0) ≡ false = grind (arith, nat_tests) in
        ap (λ (t : Bool). is_checked w taken block && t) later ∙ and-false (is_checked w taken block)
    unchecked zero x stands bare = by_test (is_checked w taken block) refl
      where
        by_test : (test : Bool) → is_checked w taken block ≡ test → is_checked w taken block && (0 == 0) ≡ false
        by_test false none = ap (λ (t : Bool). t && (0 == 0)) none
        by_test true is =
            let place = units.at block 0 stands.is in
            let there_at = stands.at in
            absurd (both_ways (is_padded c pl x) bare (padded block x block_below (omega (arith, place, there_at)) (border_served block is)))

    form_there : (x a : ℕ) → (stands : StandsAs c g pl plan x a) → StandsThere c x block here.unit → (a ≡ x → IsUncopied pl block) → AsCounted x a here.unit stands
    form_there _ _ (AtHome x d j own bare) stands uncopied = (
      none_is file out board g c pl result block (uncopied refl),
      (unchecked here.unit x stands bare, units.one x d j block here.unit own stands),
    )
    form_there _ _ (InCopy x n d j inside held own) stands uncopied =
        let same = units.one x d j block here.unit own stands in (
          subst (λ (y : ℕ). named y ≡ Some (placed_piece pl n).range) same.0 (piece_is file out board g c pl result d n inside held),
          same,
        )
    form_there _ _ (InStub x d stub own listed serves none) stands uncopied =
        let same = units.one x d 0 block here.unit own stands in (
          subst (λ (y : ℕ). named y ≡ None) same.0 (none_is file out board g c pl result d none),
          (
            subst (λ (y : ℕ). is_checked w taken y ≡ true) same.0
                (checked_border d ∙ border file out board g c pl result x d stub own listed serves none),
            (same.0, sym same.1),
          ),
        )

    pub counted_unit : (r a : ℕ) (stands : StandsAs c g pl plan u a) → r ≡ current (starts_of c) pl.regions ts (suc i) → (a ≡ u → IsUncopied pl block) → IsCountedUnit board c g pl plan ts i r u a stands
    counted_unit r a stands region uncopied =
        record {
          at = at;
          region = region;
          there = subst (λ (k : ℕ). StandsThere c u block k) (sym number) there;
          form = subst (λ (k : ℕ). AsCounted u a k stands) (sym number) (form_there u a stands there uncopied);
        }

    -- ---- the way to it

    -- control comes to the home of the unit: to a block of a piece from outside, and then a pad stands there
    pub record ComesHome : Type 0 where
      pub outside : (range : BlockRange) → begun ≡ true → named block ≡ Some range → comes_from_outside w (Some range) ts i ≡ true
      pub served : (range : BlockRange) → begun ≡ true → named block ≡ Some range → is_served c pl block ≡ true
      pub same : begun ≡ false → IsUncopied pl block

    -- a pad runs as is counted, and a copied block isn't at home
    pub record Came (by_stub : Bool) (after : ℕ) : Type 0 where
      pub way : by_stub ≡ has_way w taken ts i
      pub uncopied : after ≡ u → IsUncopied pl block

    comes_outside : ComesHome → begun ≡ true → (o : Option BlockRange) → named block ≡ o → comes_from_outside w o ts i ≡ true
    comes_outside comes is None piece = refl
    comes_outside comes is (Some range) piece = comes.outside range is piece

    bare_unserved : is_padded c pl u ≡ false → begun ≡ true → is_served c pl block ≡ false
    bare_unserved bare is = by_test (is_served c pl block) refl
      where
        by_test : (test : Bool) → is_served c pl block ≡ test → is_served c pl block ≡ false
        by_test false none = none
        by_test true served =
            absurd (both_ways (is_padded c pl u) bare (padded block u block_below (begun_start is) served))

    bare_piece : ComesHome → is_padded c pl u ≡ false → begun ≡ true → (o : Option BlockRange) → named block ≡ o → named block ≡ None
    bare_piece comes bare is None piece = piece
    bare_piece comes bare is (Some range) piece =
        absurd (both_ways (is_served c pl block) (bare_unserved bare is) (comes.served range is piece))

    bare_came : ComesHome → is_padded c pl u ≡ false → (after : ℕ) → Came false after
    bare_came comes bare after =
        record {
          way = sym
              (none_pass begun (comes_from_outside w (named block) ts i) (is_some (named block) || is_checked w taken block)
              (λ is.
              ap (λ (o : Option BlockRange). is_some o || is_checked w taken block) (bare_piece comes bare is (named block) refl)
              ∙ unserved block (bare_unserved bare is)));
          uncopied = λ same. by_begun begun refl;
        }
      where
        by_begun : (test : Bool) → begun ≡ test → IsUncopied pl block
        by_begun false none = comes.same none
        by_begun true is =
            none_there file out board g c pl result block (bare_piece comes bare is (named block) refl)

    stub_came : ComesHome → (d : ℕ) (stub : ServingStub) → IsBlockOf c d → start_at c d ≡ u → Contains plan.stubs stub → Serves c g pl (stub_body plan stub) d stub → (after : ℕ) → StandsAs c g pl plan u after → Came true after
    stub_came comes d stub below starts listed serves after stands =
        let first = first_begun d below starts in
        let served : is_served c pl d ≡ true = stub_served d stub below listed serves in
        record {
          way = sym
              (all_pass begun (comes_from_outside w (named block) ts i) (is_some (named block) || is_checked w taken block) first.0
              (comes_outside comes first.0 (named block) refl)
              (served_so block (subst (λ (x : ℕ). is_served c pl x ≡ true) (sym first.1) served)));
          uncopied = λ same. absurd (both_ways (is_padded c pl u) (bare_there u after stands same) (padded d u below starts served));
        }

    entered_came : ComesHome → (from to : ℕ) (es : List FlatEvent) (entered : BlockEntered c g pl plan from u to es) (after : ℕ) → StandsAs c g pl plan u after → Came (enters_by_stub c g pl plan from u to es entered) after
    entered_came comes from _ _ (Bare form) after stands = bare_came comes (bare_there u u form.stands refl) after
    entered_came comes from _ _ (ByStub d to stub pad passed body below starts listed serves pad_is passes body_is) after stands =
        stub_came comes d stub below starts listed serves after stands

    -- a form is at home, where one is reached
    abbrev pub IsHome : (from a : ℕ) → ArrivesAt c g pl plan from u a → Type 0
    IsHome from _ (AtForm a at) = a ≡ u
    IsHome from _ other = Unit {0}

    pub home_came : ComesHome → (from a to : ℕ) (es : List FlatEvent) (x : ArrivesAt c g pl plan from u a) (enters : Enters c g pl plan from u a to es x) → IsHome from a x → (after : ℕ) → StandsAs c g pl plan u after → Came (arrives_by_stub c g pl plan from u a to es x enters) after
    home_came comes from _ to es (AtForm a form) enters home after stands = bare_came comes (bare_there u a form.stands home) after
    home_came comes from _ to es (AtItsHome home_there) enters home after stands = entered_came comes from to es enters after stands
    home_came comes from _ to es (BehindCopy n b d inside held runs falls leaves below starts) enters home after stands =
        entered_came comes from to es enters after stands
    home_came comes from _ to es (BehindStub x b stub own listed serves uncopied plain is home_there) enters home after stands =
        entered_came comes from to es enters after stands

    -- control that comes to its home comes so, and no words lead there
    module _ (r : ℕ) (few : r ≤ pl.count) where
      kept : IsKept v board u
      kept = home_kept file out board g c pl result u block here.unit there

      pub home_arrival : (to : ℕ) (x : ArrivesAt c g pl plan r u to) → to ≡ u → IsHome r to x × (leaving_fetched c g pl plan r u to x ≡ [])
      home_arrival _ (AtForm to form) same = (same, refl)
      home_arrival _ (AtItsHome home) same = (tt, refl)
      home_arrival _ (BehindCopy n e f inside held may falls leaves below_it starts) same =
          absurd (both_ways (in_range board.spm u) kept.spm
          (subst (λ (x : ℕ). in_range board.spm x ≡ true) same (in_spm file out board g c pl result r u n e f few inside held may falls leaves below_it starts)))
      home_arrival _ (BehindStub y e stub own listed serves uncopied plain is home) same =
          absurd (both_ways (in_range board.patch u) kept.patch
          (subst (λ (x : ℕ). in_range board.patch x ≡ true) same (jump_in_patch file out board g c pl result y e stub own listed serves uncopied plain)))

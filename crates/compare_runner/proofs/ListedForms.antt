-- Where the flat machine is at a form of a unit, that form is listed. Behind an arrival it counts: where another region is
-- current then, the last word was fetched in the patch range, or the form is of every region.
use Rattle.std.proofs.Common.{◌≡◌, ◌∙◌, ◌⊎◌, inl, inr, ℕ, ◌+◌, ◌<◌, false, List, [], ◌∷◌, ◌++◌, length, refl, sym, subst, arith}
use Rattle.std.specs.Prelude.{Contains}
use Rattle.std.proofs.lemmas.Bool.{cases_eq, both_ways}
use Rattle.rv32im.specs.Sequences.{jump_absolute, MeanAll}
use Rattle.rv32im.proofs.SequenceLemmas.{mean_count}
use Rattle.board_config.specs.declared.board.Board.{Board}
use Rattle.flat_machine.specs.State.{State}
use Rattle.flat_machine.specs.declared.events.FlatEvent.{FlatEvent}
use Rattle.object_graph.specs.declared.parts.Graph.{Graph}
use Rattle.object_machine.specs.State.{SourceState}
use Rattle.code_blocks.specs.Numbers.{start_at}
use Rattle.code_blocks.specs.declared.parts.Code.{Code}
use Rattle.block_splitter.specs.Forms.{holds_block}
use Rattle.block_splitter.specs.Copies.{place_of, address_of}
use Rattle.result_laws.specs.Entries.{RunsIn}
use Rattle.patch_code.specs.Serving.{StubBody, ServingStub, jumps_to, test_bytes, IsBody}
use Rattle.patch_code.specs.Overlay.{OverlayPlan, serving_place}
use Rattle.patch_code.specs.Served.{body_at}
use Rattle.result_laws.specs.LiveUnits.{StandsThere}
use Rattle.result_laws.proofs.CodeUnits.{first, units_stand}
use Rattle.result_laws.specs.ChosenPlacement.{ChosenPlacement, piece_of, copy_in}
use Rattle.result_laws.specs.PlacedView.{IsUncopied, HasBody, ToCopy, Displaced}
use Rattle.result_laws.specs.PlacedLaws.{IsPlacedResult}
use Rattle.result_laws.specs.PlacedForms.{StandsAs, AtHome, InCopy, InStub, MayRun, IsFormOf, ArrivesAt, AtForm, AtItsHome, BehindCopy, BehindStub}
use Rattle.result_laws.specs.Walks.{AreEvents, body_fetched, BlockEntered, Bare, ByStub, Enters, ArrivalRuns}
use Rattle.result_laws.proofs.StubBodies.{HasBodyWords, body_words}
use Rattle.relink_core.specs.declared.unit_forms.UnitAt.{UnitAt}
use Rattle.relink_core.specs.UnitMaps.{IsUnitAt, AreUnitsAt, piece_region}
use Rattle.relink_core.specs.UnitMaps as maps
use Rattle.compare_runner.specs.Comings.{EndsInPatch, IsAtForm}
use Rattle.compare_runner.proofs.CodeRegions.{piece_there, piece_always}
use Rattle.compare_runner.proofs.EventLemmas.{inside_range, two_events, ends_behind}

module _ (file out : List ℕ) (board : Board) (g : Graph) (c : Code) (pl : ChosenPlacement) (result : IsPlacedResult file out board g c pl) where
  abbrev plan : OverlayPlan
  plan = result.view.plan

  -- ---- the last words of an arrival

  -- the block of a unit has no copy
  pub record IsUncopiedUnit (v : ℕ) : Type 0 where
    pub block : ℕ
    pub there : StandsThere c v block 0
    pub uncopied : IsUncopied pl block

  -- the last word of a jump to a copy is of the patch range
  jump_ends : (stub : ServingStub) (to : ℕ) (body : List FlatEvent) → Contains plan.stubs stub → stub.body ≡ jumps_to to → AreEvents ((serving_place plan stub + test_bytes stub.region) ∷ (serving_place plan stub + test_bytes stub.region + 4) ∷ []) [] body → EndsInPatch board body
  jump_ends stub to body listed jumps are =
      let at : ℕ = serving_place plan stub + test_bytes stub.region in
      let two = two_events body at (at + 4) are.addresses in
      let has : HasBodyWords file out board g c pl result stub listed at = body_words file out board g c pl result stub listed in
      let mean : MeanAll has.words (jump_absolute stub.temp to) = subst (λ (b : StubBody). IsBody stub.temp b has.words) jumps has.does in
      let count = mean_count has.words (jump_absolute stub.temp to) mean in
      let from = has.from in
      let ends = has.to in
      let there = two.at in
      record {
        before = two.first ∷ [];
        last = two.last;
        whole = two.whole;
        fetched = inside_range board.patch two.last.at (omega (arith, there, from)) (omega (arith, there, ends, count));
      }

  body_ends : (at b v : ℕ) (stub : ServingStub) (body : List FlatEvent) → b < length c.blocks.items → start_at c b ≡ v → Contains plan.stubs stub → (has : HasBody c g pl at b stub) → AreEvents (body_fetched c g pl at b stub (serving_place plan stub + test_bytes stub.region) has) [] body → EndsInPatch board body ⊎ IsUncopiedUnit v
  body_ends at b v stub body below starts listed (ToCopy n inside held jumps) are = inl (jump_ends stub _ body listed jumps are)
  body_ends at b v stub body below starts listed (Displaced words uncopied runs form) are =
      inr
      (record {
        block = b;
        there = subst (λ (x : ℕ). StandsThere c x b 0) starts (first file board g c result.accepted result.code b below);
        uncopied = uncopied;
      })

  entered_ends : (from v to : ℕ) (es : List FlatEvent) → BlockEntered c g pl plan from v to es → (from ≡ to → ⊥) → EndsInPatch board es ⊎ IsUncopiedUnit v
  entered_ends from v _ _ (Bare form) other = absurd (other refl)
  entered_ends from v _ _ (ByStub b to stub pad passed body below starts listed serves pad_is passes body_is) other =
      elim (body_ends (body_at plan stub) b v stub body below starts listed serves.body body_is) [
        | inl ends ↦ inl (ends_behind board pad (passed ++ body) (ends_behind board passed body ends))
        | inr none ↦ inr none
      ]

  enters_ends : (from v a to : ℕ) (es : List FlatEvent) (at : ArrivesAt c g pl plan from v a) → Enters c g pl plan from v a to es at → (from ≡ to → ⊥) → EndsInPatch board es ⊎ IsUncopiedUnit v
  enters_ends from v _ to es (AtForm a at) enters other = absurd (other (sym enters.1))
  enters_ends from v _ to es (AtItsHome home) enters other = entered_ends from v to es enters other
  enters_ends from v _ to es (BehindCopy n b d inside held runs falls leaves below starts) enters other = entered_ends from v to es enters other
  enters_ends from v _ to es (BehindStub u b stub there listed serves uncopied plain is home) enters other = entered_ends from v to es enters other

  -- if another region is current behind an arrival, it ends in the patch range, or at the first unit of a block without a copy
  arrival_ends : (s : SourceState) (t : State) (es : List FlatEvent) (arrival : ArrivalRuns file out board g c pl plan s t es) → (arrival.from ≡ arrival.to → ⊥) → EndsInPatch board es ⊎ IsUncopiedUnit s.pc
  arrival_ends s t es arrival other =
      elim (enters_ends arrival.from s.pc t.hart.pc arrival.to arrival.entering arrival.at arrival.enters other) [
        | inl ends ↦ inl (subst (EndsInPatch board) (sym arrival.whole) (ends_behind board arrival.leaving arrival.entering ends))
        | inr none ↦ inr none
      ]

  module _ (units : List UnitAt) (forms : AreUnitsAt (IsUnitAt board c g pl plan) units) where
    -- ---- forms

    -- a listed form of a unit at an address, of every region or of this one
    record IsListedIn (r u a : ℕ) : Type 0 where
      form : UnitAt
      listed : Contains units form
      home_is : form.home ≡ u
      at : form.at ≡ a
      region : (form.region ≡ 0) ⊎ (form.region ≡ r)

    listed_there : (x : UnitAt) (r : ℕ) → IsUnitAt board c g pl plan x → (x.region ≡ 0) ⊎ (x.region ≡ r) → IsListedIn r x.home x.at
    listed_there x r is region = record { form = x; listed = (forms.each x).1 is; home_is = refl; at = refl; region = region }

    runs_there : (r u b k : ℕ) → StandsThere c u b k → MayRun c pl.regions r u → RunsIn pl.regions b r
    runs_there r u b k there may =
        let same = ((units_stand file board g c result.accepted result.code).one u may.block may.unit b k may.there there).0 in
        subst (λ (d : ℕ). RunsIn pl.regions d r) same may.runs

    form_listed : (r u a : ℕ) → StandsAs c g pl plan u a → MayRun c pl.regions r u → IsListedIn r u a
    form_listed r _ _ (AtHome u b k there bare) may =
        listed_there (record { at = u; region = 0; home = u }) r
        (maps.AtHome (record { block = b; unit = k; there = there; at = refl; region = refl }) bare) (inl refl)
    form_listed r _ _ (InCopy u n b k inside held there) may =
        listed_there (record { at = address_of (copy_in c g pl n) (place_of (copy_in c g pl n) b k); region = piece_region board pl n; home = u }) r
        (maps.InCopy n b k inside held there refl refl)
        (piece_there file out board g c pl result n inside b r held (runs_there r u b k there may))
    form_listed r _ _ (InStub u b stub there listed serves uncopied) may =
        listed_there (record { at = body_at plan stub; region = 0; home = u }) r (maps.InStub b stub there listed serves uncopied refl refl) (inl refl)

    -- that of a unit whose block has no copy is of every region
    form_always : (r u a : ℕ) → StandsAs c g pl plan u a → IsUncopiedUnit u → (x : UnitAt) → Contains units x → x.home ≡ u → x.region ≡ 0
    form_always r u a stands none x there home = of_unit ((forms.each x).0 there)
      where
        of_unit : IsUnitAt board c g pl plan x → x.region ≡ 0
        of_unit (maps.AtHome is bare) = is.region
        of_unit (maps.InCopy n b k inside held stands_there at region) =
            let same = ((units_stand file board g c result.accepted result.code).one u b k none.block 0 (subst (λ (y : ℕ). StandsThere c y b k) home stands_there) none.there).0 in
            absurd (both_ways (holds_block b (piece_of pl n).range) (subst (λ (d : ℕ). holds_block d (piece_of pl n).range ≡ false) (sym same) (none.uncopied n inside)) held)
        of_unit (maps.InStub b stub stands_there listed serves uncopied at region) = region

    -- without regions all are
    pub all_always : pl.count ≡ 0 → (x : UnitAt) → Contains units x → x.region ≡ 0
    all_always none x there = of_unit ((forms.each x).0 there)
      where
        of_unit : IsUnitAt board c g pl plan x → x.region ≡ 0
        of_unit (maps.AtHome is bare) = is.region
        of_unit (maps.InCopy n b k inside held stands_there at region) = region ∙ piece_always file out board g c pl result n inside none
        of_unit (maps.InStub b stub stands_there listed serves uncopied at region) = region

    -- ---- behind an arrival

    module _ (s : SourceState) (t : State) (es before : List FlatEvent) (arrival : ArrivalRuns file out board g c pl plan s t es) where
      there : IsFormOf c g pl plan arrival.to s.pc arrival.after.hart.pc
      there = subst (λ (r : ℕ). IsFormOf c g pl plan r s.pc arrival.after.hart.pc) arrival.region arrival.match.at

      abbrev Stands : UnitAt → Type 0
      Stands x = (x.region ≡ 0) ⊎ ((x.region ≡ arrival.to) × ((arrival.from ≡ arrival.to) ⊎ EndsInPatch board (before ++ es)))

      stands_by : (x : IsListedIn arrival.to s.pc arrival.after.hart.pc) → (x.form.region ≡ 0) ⊎ (x.form.region ≡ arrival.to) → Stands x.form
      stands_by x (inl always) = inl always
      stands_by x (inr here) =
          elim (cases_eq arrival.from arrival.to) [
            | inl same ↦ inr (here, inl same)
            | inr other ↦ elim (arrival_ends s t es arrival other) [
              | inl ends ↦ inr (here, inr (ends_behind board before es ends))
              | inr none ↦ inl (form_always arrival.to s.pc arrival.after.hart.pc there.stands none x.form x.listed x.home_is)
            ]
          ]

      -- behind these events control is at a form of the unit
      pub arrives_at_form : IsAtForm units board arrival.from arrival.to s.pc (before ++ es) arrival.after
      arrives_at_form =
          let x = form_listed arrival.to s.pc arrival.after.hart.pc there.stands there.may in
          record { form = x.form; listed = x.listed; home_is = x.home_is; at = x.at; stands = stands_by x x.region }

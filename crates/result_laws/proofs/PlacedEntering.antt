-- From the home of a block the flat machine comes to a form of its first unit: which words run, and which accesses are made.
use Rattle.std.proofs.Common.{◌≡◌, ◌∙◌, inl, inr, ℕ, ◌+◌, ◌≤◌, ◌==◌, true, false, ◌&&◌, List, [], ◌∷◌, ◌++◌, length, map, refl, sym, ap, subst, arith}
use Rattle.std.specs.Prelude.{Contains}
use Rattle.std.proofs.lemmas.Bool.{cases_Bool, cases_eq, eqb-true, both_ways}
use Rattle.list_checks.proofs.TestLemmas.{both, any_found}
use Rattle.rv32im.specs.Sequences.{distance}
use Rattle.rv32im.proofs.SequenceLemmas.{arrives}
use Rattle.board_config.specs.declared.board.Board.{Board}
use Rattle.loaded_file.specs.Code.{image_word}
use Rattle.flat_machine.specs.declared.events.FlatEvent.{FlatEvent}
use Rattle.flat_machine.specs.Lines.{fetch_of, words_from}
use Rattle.flat_machine.specs.Runs.{Does}
use Rattle.flat_machine.specs.State.{State}
use Rattle.flat_machine.proofs.Runs.{does_joined}
use Rattle.object_graph.specs.declared.parts.Graph.{Graph}
use Rattle.code_blocks.specs.Numbers.{start_at}
use Rattle.code_blocks.specs.Leads.{IsBlockOf}
use Rattle.code_blocks.specs.declared.parts.Code.{Code}
use Rattle.dataflow.specs.Overlaid.{is_border}
use Rattle.object_machine.specs.State.{SourceState}
use Rattle.object_machine.specs.Paired.{Origins, at_start}
use Rattle.patch_code.specs.Serving.{ServingStub, test_bytes}
use Rattle.patch_code.specs.Overlay.{serving_place}
use Rattle.patch_code.specs.Served.{body_at}
use Rattle.simulation.specs.Setups.{Sound}
use Rattle.simulation.specs.Units.{StandsAt}
use Rattle.simulation.specs.Relation.{Alike}
use Rattle.simulation.specs.Ways.{Way, There, Near}
use Rattle.simulation.proofs.Steps.{is_at}
use Rattle.simulation.specs.Switches.{Switch}
use Rattle.simulation.proofs.Switches.{may_switch}
use Rattle.result_laws.proofs.Setting.{setting}
use Rattle.result_laws.proofs.ArrivalPads.{passes, switches}
use Rattle.result_laws.specs.HomeLaws.{source_start}
use Rattle.result_laws.specs.Entries.{RunsIn, ComesIn}
use Rattle.result_laws.specs.ChosenPlacement.{ChosenPlacement}
use Rattle.result_laws.specs.PlacedView.{is_served, is_padded, IsUncopied, HasBody, ToCopy, Displaced, Serves}
use Rattle.result_laws.specs.PlacedLaws.{IsPlacedResult}
use Rattle.result_laws.specs.PlacedForms.{InStub, EntersAt, ArrivesHome, FormThere, BlockThere}
use Rattle.result_laws.specs.Walks.{address_in, AreEvents, StubPasses, Unchecked, Current, Switches, body_fetched, BlockEntered, Bare, ByStub}
use Rattle.result_laws.proofs.Arriving.{IsHeldIn, may_change}
use Rattle.result_laws.proofs.Moves.{one_address, two_addresses, Moved, moved}
use Rattle.result_laws.proofs.PlacedPads as pads
use Rattle.result_laws.proofs.UnitEvents.{fetched_accesses}
use Rattle.result_laws.proofs.StubBodies.{BeginsJump, begins_jump, jump_leads, stub_inside}

module _ (file out : List ℕ) (board : Board) (g : Graph) (c : Code) (pl : ChosenPlacement) (result : IsPlacedResult file out board g c pl) (input : List ℕ) where
  open (setting file out board g c pl result) use {v, w, p, l, live, plan, form}

  abbrev holds : ℕ → SourceState → Origins → Type 0
  holds = IsHeldIn file out board g c pl result input

  -- steps lead to a form of the unit that is next, while `to` is current
  pub record Lands (s : SourceState) (m : Origins) (t : State) (to : ℕ) (es : List FlatEvent) : Type 0 where
    pub after : State
    pub does : Does es t after
    pub held : holds to s m
    pub alike : Alike p l live to s.pc s m after
    pub at : form to s.pc after.hart.pc

  -- so they do from the home of a block
  pub record EntersHome (r : ℕ) (s : SourceState) (m : Origins) (t : State) : Type 0 where
    pub to : ℕ
    pub events : List FlatEvent
    pub entered : BlockEntered c g pl plan r s.pc to events
    pub lands : Lands s m t to events

  -- ---- a body

  -- the body of a stub leads to the copy of its block, or is the block's first unit
  pub record BodyMoved (q b : ℕ) (stub : ServingStub) (serves : Serves c g pl (body_at plan stub) b stub) (s : SourceState) (m : Origins) (at : ℕ) (t : State) : Type 0 where
    pub events : List FlatEvent
    pub after : State
    pub does : Does events t after
    pub are : AreEvents (body_fetched c g pl (body_at plan stub) b stub at serves.body) [] events
    pub alike : Alike p l live q s.pc s m after
    pub at_form : form q s.pc after.hart.pc

  module _ (b : ℕ) (is : IsBlockOf c b) (stub : ServingStub) (listed : Contains plan.stubs stub) (serves : Serves c g pl (body_at plan stub) b stub) (s : SourceState) (m : Origins) (starts : start_at c b ≡ s.pc) where
    abbrev place : ℕ
    place = serving_place plan stub

    dead : live s.pc stub.temp → ⊥
    dead = subst (λ (x : ℕ). live x stub.temp → ⊥) starts (pads.dead file out board g c pl result b is stub listed serves)

    body_moves : (q at : ℕ) (t : State) → RunsIn pl.regions b q → at ≡ place + test_bytes stub.region → (IsUncopied pl b → at ≡ body_at plan stub) → t.hart.pc ≡ at → Alike p l live q s.pc s m t → BodyMoved q b stub serves s m at t
    body_moves q at t runs there home here alike = by_body serves.body refl
      where
        by_body : (body : HasBody c g pl (body_at plan stub) b stub) → body ≡ serves.body → BodyMoved q b stub serves s m at t
        by_body (Displaced words uncopied body displaced) same =
            let at_body = home uncopied in
            let there : form q s.pc (body_at plan stub) =
            subst (λ (x : ℕ). form q x (body_at plan stub)) starts
            (pads.runs_there file out board g c pl result b is q (body_at plan stub) runs
            (InStub (start_at c b) b stub (pads.stands file out board g c pl result b is) listed serves uncopied)) in
            record {
              events = [];
              after = t;
              does = refl;
              are = subst (λ (x : HasBody c g pl (body_at plan stub) b stub). AreEvents (body_fetched c g pl (body_at plan stub) b stub at x) [] []) same
                  (record { addresses = refl; accesses = refl });
              alike = alike;
              at_form = subst (λ (x : ℕ). form q s.pc x) (sym at_body ∙ sym here) there;
            }
        by_body (ToCopy n inside held jumps) same =
            let to : ℕ = pads.copied_at file out board g c pl result b is n in
            let copy : form q s.pc to =
            subst (λ (x : ℕ). form q x to) starts (pads.copy_there file out board g c pl result b is q n inside held runs) in
            let way : Way l live form q s.pc 2 at =
            jump_leads file out board g c pl result stub listed form q s.pc at to 0 there jumps dead (There to copy) in
            let run : Moved p l live q s m form 2 t = moved p l live q s m form 2 at way t here alike in
            let begins : BeginsJump file out board g c pl result stub listed q at to = begins_jump file out board g c pl result stub listed q at to there jumps in
            let low = begins.low in
            let addresses : map address_in run.events ≡ words_from at 2 =
            two_addresses l q begins.word stub.temp _ t run.after run.events (is_at p l live q s.pc s m t alike)
            (subst (λ (x : ℕ). StandsAt l q x begins.word) (sym here) begins.stands) begins.means (omega (arith, here, low)) run.count run.does
            ∙ ap (λ (x : ℕ). words_from x 2) here in
            record {
              events = run.events;
              after = run.after;
              does = run.does;
              are = subst (λ (x : HasBody c g pl (body_at plan stub) b stub). AreEvents (body_fetched c g pl (body_at plan stub) b stub at x) [] run.events) same
                  (record { addresses = addresses; accesses = run.silent });
              alike = run.alike;
              at_form = run.at;
            }

    -- ---- a stub without a region

    -- the pad leads to the stub
    pad_way : (r : ℕ) → Way l live (λ q u x. x ≡ place) r s.pc 1 s.pc
    pad_way r =
        let inside = (stub_inside file out board g c pl result stub listed).ends in
        let ends = result.view.planned.can.ends in
        let low = pads.pad_low file out board g c pl result b is in
        let a : ℕ = start_at c b in
        subst (λ (x : ℕ). Way l live (λ q u y. y ≡ place) r s.pc 1 x) starts
        (Near 0 a (image_word w a) (distance a place) (pads.pad_stands file out board g c pl result b is r)
        (pads.pad_means file out board g c pl result b is stub listed serves)
        (subst (λ (x : ℕ). Way l live (λ q u y. y ≡ place) r s.pc 0 x) (sym (arrives a place (omega (arith, low)) (omega (arith, inside, ends))))
        (There place refl)))

    plain_enters : (r : ℕ) (t : State) → holds r s m → t.hart.pc ≡ s.pc → Alike p l live r s.pc s m t → is_served c pl b ≡ true → is_border pl.borders b ≡ false → RunsIn pl.regions b r → EntersHome r s m t
    plain_enters r t held here alike served_so none runs =
        let pad : Moved p l live r s m (λ q u x. x ≡ place) 1 t = moved p l live r s m (λ q u x. x ≡ place) 1 s.pc (pad_way r) t here alike in
        let bare : stub.region ≡ 0 = pads.region_of file out board g c pl result b is stub listed serves false none in
        let bytes : test_bytes stub.region ≡ 0 = ap test_bytes bare in
        let at : ℕ = place + test_bytes stub.region in
        let body : BodyMoved r b stub serves s m at pad.after =
        body_moves r at pad.after runs refl (λ uncopied. absurd (pads.entry_copied file out board g c pl result b served_so none uncopied))
        (pad.at ∙ omega (arith, bytes)) pad.alike in
        let addresses : map address_in pad.events ≡ s.pc ∷ [] =
        one_address t pad.after pad.events pad.count pad.does ∙ ap (λ (x : ℕ). x ∷ []) here in
        record {
          to = r;
          events = pad.events ++ ([] ++ body.events);
          entered = ByStub b r stub pad.events [] body.events is starts listed serves (record { addresses = addresses; accesses = pad.silent }) (Unchecked bare) body.are;
          lands = record {
            after = body.after;
            does = does_joined pad.events body.events t pad.after body.after pad.does body.does;
            held = held;
            alike = body.alike;
            at = body.at_form;
          };
        }

    -- ---- a stub with a region

    module _ (r bound : ℕ) (t : State) (sound_there : Sound p l r) (held : holds r s m) (here : t.hart.pc ≡ s.pc) (alike : Alike p l live r s.pc s m t) (border : is_border pl.borders b ≡ true) where
      abbrev served : ℕ → ℕ → ℕ → Type 0
      served = pads.served file out board g c pl result input bound

      -- behind the stub's test the body runs
      behind_test : (switch : Switch p l live form holds bound 5 r s m t) → switch.to ≡ stub.region → (rest : List FlatEvent) → switch.events ≡ fetch_of t.hart.mem stub.home ∷ rest → switch.after.hart.pc ≡ body_at plan stub → (to : ℕ) → to ≡ stub.region → StubPasses plan stub r to rest → EntersHome r s m t
      behind_test switch to_is rest are after_at to same passed =
          let changed : Alike p l live switch.to s.pc s m switch.after =
          may_switch p l live form holds r switch.to s m t switch.after switch.events switch.may switch.homes alike switch.does switch.change in
          let now : Alike p l live stub.region s.pc s m switch.after = subst (λ (x : ℕ). Alike p l live x s.pc s m switch.after) to_is changed in
          let region = pads.region_here file out board g c pl result b is stub listed serves border in
          let body : BodyMoved stub.region b stub serves s m (place + test_bytes stub.region) switch.after =
          body_moves stub.region (place + test_bytes stub.region) switch.after (inr (sym region)) refl
          (λ uncopied. sym (pads.behind_test file out board g c pl result b is stub listed serves border))
          (after_at ∙ pads.behind_test file out board g c pl result b is stub listed serves border) now in
          let pad : List FlatEvent = fetch_of t.hart.mem stub.home ∷ [] in
          record {
            to = to;
            events = pad ++ (rest ++ body.events);
            entered =
                ByStub b to stub pad rest body.events is starts listed serves
                (record { addresses = ap (λ (x : ℕ). x ∷ []) (serves.home ∙ starts); accesses = fetched_accesses t.hart.mem (stub.home ∷ []) })
                passed body.are;
            lands = record {
              after = body.after;
              does = subst (λ (es : List FlatEvent). Does (es ++ body.events) t body.after) are
                  (does_joined switch.events body.events t switch.after body.after switch.does body.does);
              held = subst (λ (x : ℕ). holds x s m) (to_is ∙ sym same) switch.may.held;
              alike = subst (λ (x : ℕ). Alike p l live x s.pc s m body.after) (sym same) body.alike;
              at = subst (λ (x : ℕ). form x s.pc body.after.hart.pc) (sym same) body.at_form;
            };
          }

      checked_enters : 5 ≤ bound → pads.CanLeave file out board g c pl result input bound r → EntersHome r s m t
      checked_enters five can =
          let at : served r s.pc t.hart.pc =
          pads.pad_served file out board g c pl result input bound five r b s.pc t.hart.pc is stub listed serves border starts here can held.0 in
          let some = pads.checked file out board g c pl result b is stub listed serves border in
          elim (cases_eq r stub.region) [
            | inl same ↦
                let run =
                passes p l live form (EntersAt c pl.regions pl.borders) holds plan result.view.words (source_start file board g input) at_start bound 5
                (λ q n k has. has.1.1.1) (may_change file out board g c pl result input bound) r s m t sound_there held alike at same in
                behind_test run.0 run.1.to run.1.rest run.1.events run.1.after r same
                (Current run.1.rest some same (record { runs = record { count = run.1.count; accesses = run.1.all; fetched = run.1.fetched }; own = run.1.own }))
            | inr other ↦
                let run =
                switches p l live form (EntersAt c pl.regions pl.borders) holds plan result.view.words (source_start file board g input) at_start bound 5
                (λ q n k has. has.1.1.1) (may_change file out board g c pl result input bound) r s m t sound_there held alike at other in
                behind_test run.0 run.1.to run.1.rest run.1.events run.1.after stub.region refl
                (Switches run.1.rest some other (record { runs = record { count = run.1.count; accesses = run.1.all; fetched = run.1.fetched }; own = run.1.own }))
          ]

  -- ---- the home of a unit

  module _ (bound r : ℕ) (five : 5 ≤ bound) (can : pads.CanLeave file out board g c pl result input bound r) (s : SourceState) (m : Origins) (t : State) (sound_there : Sound p l r) (held : holds r s m) (here : t.hart.pc ≡ s.pc) (alike : Alike p l live r s.pc s m t) where
    enters_form : form r s.pc s.pc → EntersHome r s m t
    enters_form at =
        record {
          to = r;
          events = [];
          entered = Bare at;
          lands = record { after = t; does = refl; held = held; alike = alike; at = subst (λ (x : ℕ). form r s.pc x) (sym here) at };
        }

    enters_block : (b : ℕ) → IsBlockOf c b → start_at c b ≡ s.pc → EntersHome r s m t
    enters_block b is starts =
        elim (cases_Bool (is_padded c pl s.pc)) [
          | inr bare ↦
              enters_form
              (subst (λ (x : ℕ). form r x x) starts
              (pads.bare_form file out board g c pl result b is r (subst (λ (x : ℕ). is_padded c pl x ≡ false) (sym starts) bare)
              (subst (λ (x : ℕ). ComesIn c pl.regions pl.borders r x) (sym starts) held.1.0)))
          | inl padded ↦
              let found = any_found (λ d. is_served c pl d && (start_at c d == s.pc)) (length c.blocks.items) padded in
              let tests = both (is_served c pl found.0) (start_at c found.0 == s.pc) found.2 in
              by_stub found.0 found.1 tests.0 (eqb-true (start_at c found.0) s.pc tests.1)
        ]
      where
        by_stub : (d : ℕ) → IsBlockOf c d → is_served c pl d ≡ true → start_at c d ≡ s.pc → EntersHome r s m t
        by_stub d below served_so starts =
            let by = result.view.planned.stubs.each d below served_so in
            elim (cases_Bool (is_border pl.borders d)) [
              | inl border ↦
                  checked_enters d below by.stub by.listed by.serves s m starts r bound t sound_there held here alike border five can
              | inr none ↦
                  elim (pads.runs_or_enters file out board g c pl result d below r (subst (λ (x : ℕ). ComesIn c pl.regions pl.borders r x) (sym starts) held.1.0)) [
                    | inl runs ↦ plain_enters d below by.stub by.listed by.serves s m starts r t held here alike served_so none runs
                    | inr border ↦ absurd (both_ways (is_border pl.borders d) none border)
                  ]
            ]

    pub enters_home : ArrivesHome c g pl plan r s.pc → EntersHome r s m t
    enters_home (FormThere at) = enters_form at
    enters_home (BlockThere b below starts) = enters_block b below starts

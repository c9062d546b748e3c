-- Where the flat machine comes to a block: at a pad it comes to the block's copy, or to where its region may be entered.
use Rattle.std.proofs.Common.{◌≡◌, ◌∙◌, ◌⊎◌, inl, inr, ℕ, ◌+◌, ◌<◌, ◌≤◌, ◌==◌, Bool, true, false, not, ◌&&◌, ◌||◌, if◌then◌else◌, List, length, refl, sym, ap, subst, arith}
use Rattle.std.specs.Prelude.{Contains}
use Rattle.std.specs.List.{list_any}
use Rattle.std.proofs.lemmas.Bool.{cases_Bool, cases_lt, eqb-true, both_ways}
use Rattle.std.proofs.lemmas.List.Elements.{All-contains}
use Rattle.list_checks.proofs.TestLemmas.{both, either, not_true, any_at, any_found}
use Rattle.rv32im.specs.Table.{Means}
use Rattle.rv32im.specs.Sequences.{distance}
use Rattle.rv32im.specs.declared.instructions.Instr.TheVariants.{Jal}
use Rattle.rv32im.proofs.SequenceLemmas.{arrives}
use Rattle.elf_reader.specs.Image.{image_of}
use Rattle.board_config.specs.declared.board.Board.{Board}
use Rattle.loaded_file.specs.Code.{image_word}
use Rattle.object_graph.specs.declared.parts.Graph.{Graph}
use Rattle.code_blocks.specs.Leaders.{is_leader}
use Rattle.code_blocks.specs.Early.{has}
use Rattle.code_blocks.proofs.LeaderLemmas.{both_pass, left_passes}
use Rattle.code_blocks.specs.Numbers.{start_at}
use Rattle.code_blocks.specs.Leads.{IsBlockOf}
use Rattle.code_blocks.specs.declared.parts.Code.{Code}
use Rattle.dataflow.specs.Overlaid.{region_in, is_border}
use Rattle.region_former.specs.Borders as regions_of
use Rattle.region_former.specs.Borders.{comes_from_outside}
use Rattle.region_former.specs.Flow.{block_count}
use Rattle.block_splitter.specs.Forms.{holds_block}
use Rattle.block_splitter.specs.Pieces.{is_entry}
use Rattle.block_splitter.specs.Copies.{Copy, place_of, address_of, words_before}
use Rattle.list_checks.specs.Tests.{any_below}
use Rattle.patch_code.specs.Serving.{ServingStub, test_bytes}
use Rattle.patch_code.specs.Overlay.{serving_place}
use Rattle.patch_code.specs.Served.{body_at}
use Rattle.object_machine.specs.State.{SourceState}
use Rattle.object_machine.specs.Paired.{at_start}
use Rattle.simulation.specs.Units.{StandsAt}
use Rattle.simulation.specs.Ways.{Way, There, Near, Comes}
use Rattle.simulation.specs.Switches.{MayLand}
use Rattle.result_laws.specs.Pads.{PadStands, CanSwitch, IsServed}
use Rattle.result_laws.specs.HomeLaws.{source_start}
use Rattle.result_laws.specs.LiveUnits.{StandsThere}
use Rattle.result_laws.specs.PlacedPieces.{PlacedPiece}
use Rattle.result_laws.proofs.Setting.{setting}
use Rattle.result_laws.proofs.Lists.{element_found}
use Rattle.result_laws.proofs.CodeUnits.{begins, first, block_of, units_stand}
use Rattle.result_laws.specs.Entries.{RunsIn, ComesIn}
use Rattle.result_laws.proofs.Copies.{same_numbers}
use Rattle.result_laws.proofs.Homes.{homes_of_choice}
use Rattle.result_laws.proofs.PlanStanding.{plan_of_choice}
use Rattle.result_laws.specs.ChosenPlacement.{ChosenPlacement, no_piece, piece_of, images_in, copy_in}
use Rattle.result_laws.specs.PlacedView.{enters_piece, is_served, is_padded, IsUncopied, HasBody, ToCopy, Displaced, Serves, IsServedBy}
use Rattle.result_laws.specs.PlacedLaws.{IsPlacedResult}
use Rattle.result_laws.specs.PlacedForms.{StandsAs, AtHome, InCopy, InStub, ComesTo, EntersAt}
use Rattle.result_laws.proofs.Blocks.{temporary_dead, unit_code, unit_low}
use Rattle.result_laws.proofs.PlacedChosen.{is_overlay, holds_plan, holds_homes}
use Rattle.result_laws.proofs.Standing.{home_stands}
use Rattle.result_laws.proofs.StubBodies.{checked_bytes, stub_inside, jump_leads}

module _ (file out : List ℕ) (board : Board) (g : Graph) (c : Code) (pl : ChosenPlacement) (result : IsPlacedResult file out board g c pl) where
  open (setting file out board g c pl result) use {v, w, p, l, live, plan, form}

  -- ---- blocks

  -- where control enters a region, the block has one
  border_region : (b : ℕ) → IsBlockOf c b → is_border pl.borders b ≡ true → region_in pl.regions b ≡ 0 → ⊥
  border_region b is border none =
      let tests = any_below (comes_from_outside c pl.regions b) (block_count c) in
      let told : regions_of.is_border c pl.regions b ≡ true = sym (result.placement.borders b is) ∙ border in
      let some = not_true (region_in pl.regions b == 0) (both (not (region_in pl.regions b == 0)) (has c.indirect.items (start_at c b) || tests) told).0 in
      both_ways (region_in pl.regions b == 0) some (ap (λ (n : ℕ). n == 0) none)

  -- a served block that is no border has a copy
  pub entry_copied : (b : ℕ) → is_served c pl b ≡ true → is_border pl.borders b ≡ false → IsUncopied pl b → ⊥
  entry_copied b served none uncopied =
      elim (either (is_border pl.borders b) (list_any (enters_piece c b) pl.pieces) served) [
        | inl border ↦ both_ways (is_border pl.borders b) none border
        | inr entry ↦
            let found = element_found (enters_piece c b) pl.pieces no_piece entry in
            let x : PlacedPiece = piece_of pl found.0 in
            both_ways (holds_block b x.range) (uncopied found.0 found.1.0) (both (holds_block b x.range) (is_entry c x.range b) found.1.1).0
      ]

  -- ---- a block

  module _ (b : ℕ) (is : IsBlockOf c b) where
    abbrev a : ℕ
    a = start_at c b

    pub stands : StandsThere c a b 0
    stands = first file board g c result.accepted result.code b is

    -- it may run, or control enters its region
    pub runs_or_enters : (r : ℕ) → ComesIn c pl.regions pl.borders r a → RunsIn pl.regions b r ⊎ (is_border pl.borders b ≡ true)
    runs_or_enters r comes =
        let same = ((units_stand file board g c result.accepted result.code).one a comes.block comes.unit b 0 comes.there stands).0 in
        elim comes.enters [
          | inl runs ↦ inl (subst (λ (d : ℕ). RunsIn pl.regions d r) same runs)
          | inr border ↦ inr (subst (λ (d : ℕ). is_border pl.borders d ≡ true) same border.1)
        ]

    pub runs_there : (r d : ℕ) → RunsIn pl.regions b r → StandsAs c g pl plan a d → form r a d
    runs_there r d runs at = record { stands = at; may = record { block = b; unit = 0; there = stands; runs = runs } }

    -- where no pad stands, the form of its first unit is at home
    pub bare_form : (r : ℕ) → is_padded c pl a ≡ false → ComesIn c pl.regions pl.borders r a → form r a a
    bare_form r bare comes =
        elim (runs_or_enters r comes) [
          | inl runs ↦ runs_there r a runs (AtHome a b 0 stands bare)
          | inr border ↦
              let serves = left_passes (is_border pl.borders b) (list_any (enters_piece c b) pl.pieces) border in
              let padded = any_at (λ d. is_served c pl d && (start_at c d == a)) (length c.blocks.items) b is
              (both_pass (is_served c pl b) (a == a) serves (same_numbers a a refl)) in
              absurd (both_ways (is_padded c pl a) bare padded)
        ]

    -- its copy in a piece
    abbrev pub copied_at : ℕ → ℕ
    copied_at n = address_of (copy_in c g pl n) (words_before (copy_in c g pl n) b)

    pub copy_there : (r n : ℕ) → n < length pl.pieces → holds_block b (piece_of pl n).range ≡ true → RunsIn pl.regions b r → form r a (copied_at n)
    copy_there r n inside held runs =
        let cp : Copy = copy_in c g pl n in
        let none : place_of cp b 0 ≡ words_before cp b = omega arith in
        subst (λ (d : ℕ). form r a (address_of cp d)) none
        (runs_there r (address_of cp (place_of cp b 0)) runs (InCopy a n b 0 inside held stands))

    -- ---- its pad

    pub pad_low : a + 4 < 4294967296
    pad_low = unit_low file out board g c pl result a b 0 stands

    pub pad_stands : (r : ℕ) → StandsAt l r a (image_word w a)
    pad_stands r = home_stands file out board g c pl result r a (image_word w a) (unit_code file out board g c pl result a b 0 stands) refl

    module _ (stub : ServingStub) (listed : Contains plan.stubs stub) (serves : Serves c g pl (body_at plan stub) b stub) where
      abbrev place : ℕ
      place = serving_place plan stub

      pub pad_means : Means (image_word w a) (Jal 0 (distance a place))
      pad_means =
          subst (λ (x : ℕ). Means (image_word w x) (Jal 0 (distance x place))) serves.home
          (All-contains (λ (s : ServingStub). Means (image_word w s.home) (Jal 0 (distance s.home (serving_place plan s)))) plan.stubs stub result.view.pads listed)

      pub dead : live a stub.temp → ⊥
      dead lives = temporary_dead file out board g c pl result a 0 stub.temp (begins file board g c result.accepted result.code b is) serves.free lives

      pub region_of : (border : Bool) → is_border pl.borders b ≡ border → stub.region ≡ (if border then region_in pl.regions b else 0)
      region_of border same = serves.region ∙ ap (λ (t : Bool). if t then region_in pl.regions b else 0) same

      -- a stub without a region leads to the copy
      plain_leads : (switches : ℕ → ℕ → ℕ → Type 0) (r : ℕ) → is_served c pl b ≡ true → is_border pl.borders b ≡ false → RunsIn pl.regions b r → Way l live (MayLand form switches) r a 3 a
      plain_leads switches r served none runs = by_body serves.body
        where
          by_body : HasBody c g pl (body_at plan stub) b stub → Way l live (MayLand form switches) r a 3 a
          by_body (Displaced words uncopied body displaced) = absurd (entry_copied b served none uncopied)
          by_body (ToCopy n inside held jumps) =
              let bytes : test_bytes stub.region ≡ 0 = ap test_bytes (region_of false none) in
              let inside_plan = (stub_inside file out board g c pl result stub listed).ends in
              let ends = result.view.planned.can.ends in
              let low = pad_low in
              let far : Way l live (MayLand form switches) r a 2 place =
              jump_leads file out board g c pl result stub listed (MayLand form switches) r a place (copied_at n) 0 (omega (arith, bytes)) jumps dead
              (There (copied_at n) (inl (copy_there r n inside held runs))) in
              Near 2 a (image_word w a) (distance a place) (pad_stands r) pad_means
              (subst (λ (x : ℕ). Way l live (MayLand form switches) r a 2 x) (sym (arrives a place (omega (arith, low)) (omega (arith, inside_plan, ends)))) far)

      -- one with a region has its body behind a test
      module _ (border : is_border pl.borders b ≡ true) where
        pub region_here : stub.region ≡ region_in pl.regions b
        region_here = region_of true border

        pub checked : stub.region ≡ 0 → ⊥
        checked none = border_region b is border (sym region_here ∙ none)

        pub region_below : stub.region ≤ pl.count
        region_below = let here = region_here in let below = result.placement.below b in omega (arith, here, below)

        pub behind_test : body_at plan stub ≡ place + test_bytes stub.region
        behind_test = sym (ap (λ (n : ℕ). place + n) (checked_bytes stub.region checked))

        -- the body leads to the copy, or is the block's first unit
        pub body_comes : Comes l live form 5 stub.region a (body_at plan stub)
        body_comes = by_body serves.body
          where
            by_body : HasBody c g pl (body_at plan stub) b stub → Comes l live form 5 stub.region a (body_at plan stub)
            by_body (Displaced words uncopied body displaced) =
                (0, (omega arith, There (body_at plan stub) (runs_there stub.region (body_at plan stub) (inr (sym region_here)) (InStub a b stub stands listed serves uncopied))))
            by_body (ToCopy n inside held jumps) = (
              2,
              (
                omega arith,
                jump_leads file out board g c pl result stub listed form stub.region a (body_at plan stub) (copied_at n) 0 behind_test jumps dead
                    (There (copied_at n) (copy_there stub.region n inside held (inr (sym region_here)))),
              ),
            )

        pub pad_there : (r : ℕ) → PadStands plan l r stub
        pad_there r =
            let low = pad_low in
            let small : a < 4294967296 = omega (arith, low) in
            record {
              listed = listed;
              checked = checked;
              home = subst (λ (x : ℕ). x < 4294967296) (sym serves.home) small;
              word = image_word w a;
              stands = subst (λ (x : ℕ). StandsAt l r x (image_word w a)) (sym serves.home) (pad_stands r);
              means = subst (λ (x : ℕ). Means (image_word w a) (Jal 0 (distance x place))) (sym serves.home) pad_means;
            }

  -- ---- where control comes

  module _ (input : List ℕ) (bound : ℕ) where
    abbrev first_state : SourceState
    first_state = source_start file board g input

    -- a switch that takes at most so many steps may begin
    abbrev pub served : ℕ → ℕ → ℕ → Type 0
    served = IsServed p l live form (EntersAt c pl.regions pl.borders) plan result.view.words first_state at_start bound 5

    -- while region `r` is current it can be made to each other region
    abbrev pub CanLeave : ℕ → Type 0
    CanLeave r =
        (to : ℕ) → 1 ≤ to → to ≤ pl.count → (r ≡ to → ⊥) → CanSwitch p l plan first_state at_start bound r to

    module _ (five : 5 ≤ bound) where
      pub some_least : (n : ℕ) → (n ≡ 0 → ⊥) → 1 ≤ n
      some_least n some = elim (cases_lt n 1) [
        | inl less ↦ absurd (some (omega (arith, less)))
        | inr least ↦ least
      ]

      -- the pad of a block of a region is at its home
      abbrev pub pad_served : (r b x d : ℕ) (is : IsBlockOf c b) (stub : ServingStub) (listed : Contains plan.stubs stub) (serves : Serves c g pl (body_at plan stub) b stub) (border : is_border pl.borders b ≡ true) → start_at c b ≡ x → d ≡ x → CanLeave r → r ≤ pl.count → served r x d
      pad_served r b x d is stub listed serves border starts here can below =
          let overlay = is_overlay file out board g c pl result in
          let image = image_of w.segments in
          let some = checked b is stub listed serves border in
          record {
            stub = stub;
            plan_stands = plan_of_choice file board g pl.count pl.programme pl.choice (images_in pl) image plan result.view.words r overlay (holds_plan file out board g c pl result) below;
            pad = pad_there b is stub listed serves border r;
            at = here ∙ (sym starts ∙ sym serves.home);
            dead = subst (λ (q : ℕ). live q stub.temp → ⊥) starts (dead b is stub listed serves);
            comes = subst (λ (q : ℕ). Comes l live form 5 stub.region q (body_at plan stub)) starts (body_comes b is stub listed serves border);
            homes = homes_of_choice file out board g pl.count pl.programme pl.choice (images_in pl) image input r overlay (holds_homes file out board g c pl result r);
            entered = record {
              block = b;
              there = subst (λ (q : ℕ). StandsThere c q b 0) starts (stands b is);
              border = border;
              region = sym (region_here b is stub listed serves border);
            };
            can = λ other.
                can stub.region (some_least stub.region some) (region_below b is stub listed serves border) other;
            five = five;
          }

      -- a block that is served
      padded_arrives : (r b : ℕ) → IsBlockOf c b → is_served c pl b ≡ true → CanLeave r → ComesTo c g pl plan l live served 3 r (start_at c b) (start_at c b)
      padded_arrives r b is served_so can below comes =
          let by : IsServedBy c g pl plan b = result.view.planned.stubs.each b is served_so in
          elim (cases_Bool (is_border pl.borders b)) [
            | inl border ↦ (
              0,
              (
                omega arith,
                There (start_at c b) (inr (pad_served r b (start_at c b) (start_at c b) is by.stub by.listed by.serves border refl refl can below)),
              ),
            )
            | inr none ↦
                elim (runs_or_enters b is r comes) [
                  | inl runs ↦ (3, (omega arith, plain_leads b is by.stub by.listed by.serves served r served_so none runs))
                  | inr border ↦ absurd (both_ways (is_border pl.borders b) none border)
                ]
          ]

      -- one on which no pad stands
      bare_arrives : (r b : ℕ) → IsBlockOf c b → is_padded c pl (start_at c b) ≡ false → ComesTo c g pl plan l live served 3 r (start_at c b) (start_at c b)
      bare_arrives r b is bare below comes =
          (0, (omega arith, There (start_at c b) (inl (bare_form b is r bare comes))))

      -- where a block begins the flat machine may arrive in a region from which it can switch
      pub arrives_in : (r : ℕ) → CanLeave r → (a : ℕ) → is_leader v a ≡ true → ComesTo c g pl plan l live served 3 r a a
      arrives_in r can a leads =
          let there = block_of file board g c result.accepted result.code a leads in
          elim (cases_Bool (is_padded c pl a)) [
            | inr bare ↦
                subst (λ (x : ℕ). ComesTo c g pl plan l live served 3 r x x) there.2
                (bare_arrives r there.0 there.1 (subst (λ (x : ℕ). is_padded c pl x ≡ false) (sym there.2) bare))
            | inl padded ↦
                let found = any_found (λ d. is_served c pl d && (start_at c d == a)) (length c.blocks.items) padded in
                let tests = both (is_served c pl found.0) (start_at c found.0 == a) found.2 in
                subst (λ (x : ℕ). ComesTo c g pl plan l live served 3 r x x) (eqb-true (start_at c found.0) a tests.1)
                (padded_arrives r found.0 found.1 tests.0 can)
          ]

      pub block_arrives : ((s r : ℕ) → s ≤ pl.count → 1 ≤ r → r ≤ pl.count → (s ≡ r → ⊥) → CanSwitch p l plan first_state at_start bound s r) → (r a : ℕ) → is_leader v a ≡ true → ComesTo c g pl plan l live served 3 r a a
      block_arrives can r a leads below comes = arrives_in r (λ to some within other. can r to below some within other) a leads below comes

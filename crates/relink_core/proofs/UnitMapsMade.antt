-- The forms that are collected are those of a result.
use Rattle.std.proofs.Common.{◌≡◌, ◌∙◌, inl, inr, ℕ, ◌+◌, ◌<◌, ◌==◌, Bool, true, false, if◌then◌else◌, List, [], map, length, get_or, slice_index_or, refl, sym, ap, subst, arith}
use Rattle.std.specs.Prelude.{◌↔◌, Contains}
use Rattle.std.specs.List.{All, AllPairs, list_any}
use Rattle.std.proofs.Math.ListN.{get_or-eq_default}
use Rattle.std.proofs.lemmas.Bool.{cases_lt}
use Rattle.std.proofs.lemmas.Bool.Decides.{nat_tests}
use Rattle.std.specs.List.Sorted.{IsStrictlyIncreasing}
use Rattle.std.proofs.lemmas.List.{get_or-map, length-map}
use Rattle.list_checks.specs.Sorted.{IsSorted}
use Rattle.list_checks.proofs.SortedLemmas.{sorted_once}
use Rattle.list_checks.proofs.StepLemmas.{any_place}
use Rattle.elf_reader.specs.File.{view_in}
use Rattle.board_config.specs.declared.board.Board.{Board}
use Rattle.object_graph.specs.Lookups.{IsSomeGraph}
use Rattle.object_graph.specs.declared.parts.Graph.{Graph}
use Rattle.code_blocks.specs.Blocks.{IsCode}
use Rattle.code_blocks.specs.Leads.{units_at}
use Rattle.code_blocks.specs.declared.parts.Code.{Code}
use Rattle.code_blocks.specs.declared.parts.Block.{Block}
use Rattle.code_blocks.specs.declared.parts.Unit.{Unit}
use Rattle.dataflow.specs.Overlaid.{region_in, is_border}
use Rattle.dataflow.specs.Tables.{IsTableOf}
use Rattle.region_former.specs.declared.table.RegionTable.{RegionTable}
use Rattle.block_splitter.specs.Forms.{holds_block}
use Rattle.block_splitter.specs.Pieces.{is_entry, ArePieces}
use Rattle.block_splitter.specs.Copies.{Copy, Patch, HasSites, IsCopy}
use Rattle.placement_programme.specs.Plain.{PlainProgramme, PlainChoice}
use Rattle.patch_code.specs.Serving.{ServingStub, serving_home, test_bytes}
use Rattle.patch_code.specs.Overlay.{OverlayPlan, serving_place}
use Rattle.patch_code.specs.StubPlans.{serving_stub, overlay_plan}
use Rattle.patch_code.specs.Served.{IsServedInside}
use Rattle.patch_code.specs.declared.stub_plan.Stub.{Stub}
use Rattle.patch_code.proofs.WholePlaces.{served_inside}
use Rattle.result_laws.specs.HomeLaws.{unnamed_in}
use Rattle.result_laws.specs.LiveUnits.{UnitsStand}
use Rattle.result_laws.proofs.CodeUnits.{code_units_stand}
use Rattle.result_laws.specs.ChosenPlacement.{ChosenPlacement, no_piece}
use Rattle.result_laws.specs.PlacedView.{enters_piece, is_served, IsUncopied, ServesSome}
use Rattle.relink_core.specs.Copies.{IsSource, IsPlacedCopy, CanPlace, copied_in}
use Rattle.relink_core.specs.Padding.{home_of}
use Rattle.relink_core.specs.declared.copy_source.CopySource.{CopySource}
use Rattle.relink_core.specs.declared.placed_copy.PlacedCopy.{PlacedCopy}
use Rattle.list_checks.proofs.TestLemmas.{both, either}
use Rattle.relink_core.specs.Chosen.{names_of}
use Rattle.relink_core.specs.Placed.{taken_of, MovesBy}
use Rattle.relink_core.specs.ResultParts.{ArePartsOf, ArePlanned}
use Rattle.relink_core.specs.MadeResults.{AreFormsOf, MovesWithForms}
use Rattle.relink_core.specs.declared.analysis.Analysis.{Analysis}
use Rattle.relink_core.specs.declared.realising.{MovedParts.{MovedParts}, Realised.{Realised}}
use Rattle.relink_core.specs.UnitMaps.{regions_named, piece_region, IsAtHome, IsUnitAt, StandsBefore, AreUnitsAt}
use Rattle.relink_core.specs.UnitSets.{Gains, Upto, HomeForms, CopyForms, StubForms, runs, CollectedOf, CollectedFrom, CollectedForms, CanCollect}
use Rattle.relink_core.specs.declared.chosen_results.PlannedResult.{PlannedResult}
use Rattle.relink_core.specs.declared.chosen_results.ResultParts.{ResultParts}
use Rattle.relink_core.specs.declared.form_sources.FormSources.{FormSources}
use Rattle.relink_core.specs.declared.unit_forms.UnitAt.{UnitAt}
use Rattle.relink_core.proofs.PlacedGoals.{same_homes}
use Rattle.relink_core.proofs.SourceFacts.{source_is, borders_entered}
use Rattle.relink_core.proofs.UnitsStanding.{runs_uncopied, forms_forth, forms_back}

none_there : (empty : List UnitAt) (x : UnitAt) → empty ≡ [] → Contains empty x → ⊥
none_there empty x is has =
    let (k, below, at) = subst (λ (xs : List UnitAt). Contains xs x) is has in
    omega (arith, below)

-- ---- at home

block_there : (c : Code) (b k : ℕ) → k < length (units_at c b) → b < length c.blocks.items
block_there c b k inside =
    elim (cases_lt b (length c.blocks.items)) [
      | inl below ↦ below
      | inr behind ↦
          let count = length-map c.blocks.items (λ (d : Block). d.units.items) in
          let none : units_at c b ≡ [] = get_or-eq_default (map (λ (d : Block). d.units.items) c.blocks.items) [] (omega (arith, behind, count)) in
          let few = ap (λ (us : List Unit). length us) none in
          omega (arith, inside, few)
    ]

home_forms : (c : Code) (x : UnitAt) → Upto (length c.blocks.items) (HomeForms c []) x ↔ IsAtHome c x
home_forms c x = (
  λ up.
      let form = up.is.is in
      let at = ap (λ (y : UnitAt). y.at) form.1 in
      let home = ap (λ (y : UnitAt). y.home) form.1 in
      record {
        block = up.place;
        unit = up.is.place;
        there = record { is = up.is.below; at = sym home };
        at = at ∙ sym home;
        region = ap (λ (y : UnitAt). y.region) form.1;
      },
  λ is.
      let there = is.there in
      record {
        place = is.block;
        below = block_there c is.block is.unit there.is;
        is =
            record {
              place = is.unit;
              below = there.is;
              is = (refl, λ i. record { at = (is.at ∙ sym there.at) i; region = is.region i; home = sym there.at i });
            };
      },
)

pub home_map : (c : Code) (empty collected units : List UnitAt) → empty ≡ [] → Gains (Upto (length c.blocks.items) (HomeForms c [])) empty collected → ((x : UnitAt) → Contains units x ↔ Contains collected x) → AllPairs StandsBefore units → AreUnitsAt (IsAtHome c) units
home_map c empty collected units none gains same ordered =
    record {
      each = λ x. (
        λ has. elim ((gains.each x).0 ((same x).0 has)) [ inl old ↦ absurd (none_there empty x none old) | inr new ↦ (home_forms c x).0 new ],
        λ is. (same x).1 ((gains.each x).1 (inr ((home_forms c x).1 is))),
      );
      ordered = ordered;
    }

-- ---- all forms

pub collected_units : (w : FormSources) (empty a b collected units : List UnitAt) → empty ≡ [] → Gains (Upto (length w.source.now.code.now.blocks.items) (HomeForms w.source.now.code.now w.homes.now)) empty a → Gains (Upto (length w.copies.now) (CopyForms w.source.now w.copies.now w.regions.now)) a b → Gains (Upto (length w.stubs.now) (StubForms (map serving_stub w.stubs.now) w.stub_at.now)) b collected
    → ((x : UnitAt) → Contains units x ↔ Contains collected x) → AllPairs StandsBefore units → AreUnitsAt (CollectedForms w) units
collected_units w empty a b collected units none first second third same ordered =
    let last : Gains (Upto (length (map serving_stub w.stubs.now)) (StubForms (map serving_stub w.stubs.now) w.stub_at.now)) b collected =
    subst (λ (n : ℕ). Gains (Upto n (StubForms (map serving_stub w.stubs.now) w.stub_at.now)) b collected) (sym (length-map w.stubs.now serving_stub)) third in
    record {
      each = λ x. (
        λ has. elim ((last.each x).0 ((same x).0 has)) [
          | inl before ↦ elim ((second.each x).0 before) [
            | inl home ↦ elim ((first.each x).0 home) [ inl old ↦ absurd (none_there empty x none old) | inr new ↦ inl new ]
            | inr copied ↦ inr (inl copied)
          ]
          | inr stub ↦ inr (inr stub)
        ],
        λ is. (same x).1 (elim is [
          | inl home ↦ (last.each x).1 (inl ((second.each x).1 (inl ((first.each x).1 (inr home)))))
          | inr other ↦ elim other [
            | inl copied ↦ (last.each x).1 (inl ((second.each x).1 (inr copied)))
            | inr stub ↦ (last.each x).1 (inr stub)
          ]
        ]),
      );
      ordered = ordered;
    }

-- ---- the parts of a result

pub are_forms : (a : Analysis) (r : Realised) (m : MovedParts) (w : FormSources) → w.source.now.code.now ≡ a.code → w.source.now.live.now ≡ a.live → w.source.now.graph.now ≡ a.graph → w.source.now.pieces.now ≡ a.pieces.items → w.source.now.sites.now ≡ m.sites.items
    → w.homes.now ≡ map home_of m.stubs.items → w.copies.now ≡ r.copies.items → w.regions.now ≡ regions_named r.names.items → w.stubs.now ≡ m.stubs.items → w.stub_at.now ≡ m.stub_at.items → AreFormsOf a r m w
are_forms a r m w code live graph pieces sites homes copies regions stubs stub_at =
    record {
      code = code;
      live = live;
      graph = graph;
      pieces = pieces;
      sites = sites;
      homes = homes;
      copies = copies;
      regions = regions;
      stubs = stubs;
      stub_at = stub_at;
    }

-- ---- those of a plan

border_region : (borders : List Bool) (b own region : ℕ) → region ≡ (if is_border borders b then own else 0) → is_border borders b ≡ true → region ≡ own
border_region borders b own region is border = is ∙ ap (λ (t : Bool). if t then own else 0) border

test_size : (r : ℕ) → 0 < r → test_bytes r ≡ 88
test_size r some =
    let other : (r == 0) ≡ false = grind (arith, nat_tests, some) in
    ap (λ (t : Bool). if t then 0 else 88) other

module _ (file : List ℕ) (t : RegionTable) (p : PlainProgramme) (choice : PlainChoice) (parts : ResultParts) (r : PlannedResult) (is : ArePartsOf file t p choice parts) (are : ArePlanned file t p choice parts r) where
  abbrev board : Board
  board = parts.board.now

  abbrev s : CopySource
  s = parts.source.now

  abbrev g : Graph
  g = s.graph.now

  abbrev c : Code
  c = s.code.now

  abbrev pl : ChosenPlacement
  pl = are.plan.of.pl

  abbrev plan : OverlayPlan
  plan = overlay_plan r.plan

  stand : UnitsStand (view_in file) (unnamed_in file board g) c
  stand = code_units_stand file board g c is.extendable.accepted is.code

  regions_are : (regions : List ℕ) → regions ≡ regions_named parts.taken.now.names.items → (n : ℕ) → slice_index_or regions n 0 ≡ piece_region board pl n
  regions_are regions same n =
      ap (λ (rs : List ℕ). slice_index_or rs n 0) (same ∙ ap regions_named (is.named.names ∙ (λ i. names_of board (sym are.plan.of.programme i) (sym are.plan.of.choice_is i))))

  -- ---- stubs that run words

  runs_border : (b : ℕ) → is_served c pl b ≡ true → IsUncopied pl b → is_border pl.borders b ≡ true
  runs_border b served none =
      elim (either (is_border pl.borders b) (list_any (enters_piece c b) pl.pieces) served) [
        | inl border ↦ border
        | inr enters ↦
            let (n, (below, passes)) = any_place (enters_piece c b) pl.pieces no_piece enters in
            let holds = (both (holds_block b (get_or pl.pieces n no_piece).range) (is_entry c (get_or pl.pieces n no_piece).range b) passes).0 in
            let out = none n below in
            absurd (cc (holds, out))
      ]

  stub_ends : (k : ℕ) (d : ServingStub) → k < length plan.stubs → runs (get_or plan.stubs k d).body ≡ true → serving_place plan (get_or plan.stubs k d) + 88 < 4294967296
  stub_ends k d below run =
      let stub = get_or plan.stubs k d in
      let some : ServesSome c g pl plan stub = are.plan.of.planned.stubs.only k d below in
      let b = some.block in
      let none = runs_uncopied c g pl _ b stub some.serves.body run in
      let border = runs_border b some.served none in
      let entered = borders_entered file board parts.view.now s parts.regions.now t p choice parts.taken.now is b some.below
      (subst (λ (bs : List Bool). is_border bs b ≡ true) are.plan.copied.at_borders border) in
      let own : region_in pl.regions b ≡ region_in parts.regions.now.of_block.now b = ap (λ (rs : List ℕ). region_in rs b) are.plan.copied.of_blocks in
      let region = border_region pl.borders b (region_in pl.regions b) stub.region some.serves.region border ∙ own in
      let positive = entered.some in
      let tests = test_size stub.region (omega (arith, region, positive)) in
      let aligned = are.plan.of.planned.can.start.aligned in
      let inside : IsServedInside plan stub = served_inside plan (omega (arith, aligned)) k d below in
      let ends = inside.ends in
      let whole = are.plan.of.planned.can.ends in
      omega (arith, tests, ends, whole)

  -- ---- what is collected from

  pub record IsMadeOf (z : CopySource) (hs : List ℕ) (xs : List PlacedCopy) (rs : List ℕ) (ts : List Stub) (places : List ℕ) : Type 0 where
    pub code : z.code.now ≡ c
    pub live : z.live.now ≡ s.live.now
    pub graph : z.graph.now ≡ g
    pub pieces : z.pieces.now ≡ s.pieces.now
    pub sites : z.sites.now ≡ s.sites.now
    pub homes : hs ≡ map home_of r.plan.stubs.items
    pub copies : xs ≡ r.copies.items
    pub regions : rs ≡ regions_named parts.taken.now.names.items
    pub stubs : ts ≡ r.plan.stubs.items
    pub stub_at : places ≡ map (serving_place plan) plan.stubs

  module _ (z : CopySource) (hs : List ℕ) (xs : List PlacedCopy) (rs : List ℕ) (ts : List Stub) (places : List ℕ) (made : IsMadeOf z hs xs rs ts places) where
    homes_are : hs ≡ map serving_home plan.stubs
    homes_are = made.homes ∙ sym (same_homes r.plan.stubs.items)

    stubs_are : map serving_stub ts ≡ plan.stubs
    stubs_are = ap (λ (us : List Stub). map serving_stub us) made.stubs

    stub_count : length ts ≡ length plan.stubs
    stub_count = sym (length-map ts serving_stub) ∙ ap (λ (us : List ServingStub). length us) stubs_are

    ends_are : (k : ℕ) (d : Stub) → k < length ts → runs (serving_stub (get_or ts k d)).body ≡ true → slice_index_or places k 0 + 88 < 4294967296
    ends_are k d below run =
        let inside : k < length plan.stubs = omega (arith, stub_count, below) in
        let there : serving_stub (get_or ts k d) ≡ get_or plan.stubs k (serving_stub d) =
        sym (get_or-map serving_stub ts k d (serving_stub d) below) ∙ ap (λ (us : List ServingStub). get_or us k (serving_stub d)) stubs_are in
        let place : slice_index_or places k 0 ≡ serving_place plan (get_or plan.stubs k (serving_stub d)) =
        ap (λ (ns : List ℕ). slice_index_or ns k 0) made.stub_at ∙ get_or-map (serving_place plan) plan.stubs k (serving_stub d) 0 inside in
        let ends = stub_ends k (serving_stub d) inside (ap (λ (u : ServingStub). runs u.body) (sym there) ∙ run) in
        omega (arith, place, ends)

    made_source : IsSource z
    made_source =
        let own = source_is file board parts.view.now s parts.regions.now t p choice parts.taken.now is in
        record {
          view = own.view;
          code = subst (IsCode own.view) (sym made.code) own.code;
          live = subst (λ (d : Code). IsTableOf d z.live.now) (sym made.code) (subst (IsTableOf c) (sym made.live) own.live);
          graph = subst IsSomeGraph (sym made.graph) own.graph;
          pieces = subst (λ (d : Code). ArePieces d z.graph.now z.pieces.now) (sym made.code)
              (subst (λ (h : Graph). ArePieces c h z.pieces.now) (sym made.graph) (subst (ArePieces c g) (sym made.pieces) own.pieces));
          sites = subst (λ (d : Code). HasSites d z.graph.now z.sites.now) (sym made.code)
              (subst (λ (h : Graph). HasSites c h z.sites.now) (sym made.graph) (subst (HasSites c g) (sym made.sites) own.sites));
        }

    copied_same : (x : PlacedCopy) → copied_in z x ≡ copied_in s x
    copied_same x =
        λ i. record { code = made.code i; graph = made.graph i; range = x.range; at = x.at; sites = made.sites i }

    placed_same : (x : PlacedCopy) → IsPlacedCopy s x → IsPlacedCopy z x
    placed_same x placed =
        record {
          can = subst (λ (d : Code). CanPlace d z.graph.now x.range x.at) (sym made.code)
              (subst (λ (h : Graph). CanPlace c h x.range x.at) (sym made.graph) placed.can);
          copy = subst (λ (y : Copy). IsCopy y x.code.words.items x.code.starts.items) (sym (copied_same x)) placed.copy;
        }

    made_copies : All (IsPlacedCopy z) xs
    made_copies =
        subst (λ (ys : List PlacedCopy). All (IsPlacedCopy z) ys) (sym made.copies)
        (λ k d below. placed_same (get_or r.copies.items k d) (are.copies.each k d below))

    made_sorted : IsSorted hs
    made_sorted = sorted_once hs (subst IsStrictlyIncreasing (sym homes_are) are.plan.of.ascending)

    made_many : length places ≡ length ts
    made_many = ap (λ (ns : List ℕ). length ns) made.stub_at ∙ length-map plan.stubs (serving_place plan) ∙ sym stub_count

    collected_same : (units : List UnitAt) → AreUnitsAt (CollectedFrom z hs xs rs (map serving_stub ts) places) units → AreUnitsAt (CollectedFrom s (map serving_home plan.stubs) r.copies.items rs plan.stubs places) units
    collected_same units given =
        subst (λ (d : Code). AreUnitsAt (CollectedOf d g s.sites.now (map serving_home plan.stubs) r.copies.items rs plan.stubs places) units) made.code
        (subst (λ (h : Graph). AreUnitsAt (CollectedOf z.code.now h s.sites.now (map serving_home plan.stubs) r.copies.items rs plan.stubs places) units) made.graph
        (subst (λ (ws : List Patch). AreUnitsAt (CollectedOf z.code.now z.graph.now ws (map serving_home plan.stubs) r.copies.items rs plan.stubs places) units) made.sites
        (subst (λ (ns : List ℕ). AreUnitsAt (CollectedFrom z ns r.copies.items rs plan.stubs places) units) homes_are
        (subst (λ (ys : List PlacedCopy). AreUnitsAt (CollectedFrom z hs ys rs plan.stubs places) units) made.copies
        (subst (λ (us : List ServingStub). AreUnitsAt (CollectedFrom z hs xs rs us places) units) stubs_are given)))))

    units_mapped : (units : List UnitAt) → AreUnitsAt (CollectedFrom z hs xs rs (map serving_stub ts) places) units → AreUnitsAt (IsUnitAt board c g pl plan) units
    units_mapped units given =
        let all = collected_same units given in
        let own = regions_are rs made.regions in
        record {
          each = λ x. (
            λ has. forms_forth (view_in file) (unnamed_in file board g) board s parts.regions.now r.copies.items pl plan stand are.plan.copied are.plan.of.planned.stubs x places made.stub_at rs own ((all.each x).0 has),
            λ form. (all.each x).1 (forms_back (view_in file) (unnamed_in file board g) board s parts.regions.now r.copies.items pl plan stand are.plan.copied are.plan.of.planned.stubs x places made.stub_at rs own form),
          );
          ordered = all.ordered;
        }

  module _ (out : List ℕ) (moves : MovesBy file board g c t (taken_of p choice) pl plan out) (IsFrom : FormSources → Type 0) (of : (w : FormSources) → IsFrom w → IsMadeOf w.source.now w.homes.now w.copies.now w.regions.now w.stubs.now w.stub_at.now) where
    can_collect : (w : FormSources) → IsFrom w → CanCollect w
    can_collect w from =
        let z = w.source.now in
        let hs = w.homes.now in
        let xs = w.copies.now in
        let rs = w.regions.now in
        let ts = w.stubs.now in
        let places = w.stub_at.now in
        record {
          source = made_source z hs xs rs ts places (of w from);
          copies = made_copies z hs xs rs ts places (of w from);
          sorted = made_sorted z hs xs rs ts places (of w from);
          many = made_many z hs xs rs ts places (of w from);
          ends = ends_are z hs xs rs ts places (of w from);
        }

    -- a result with these forms
    pub with_forms : MovesWithForms file board g c t (taken_of p choice) out IsFrom
    with_forms =
        record {
          moved = moves.moved;
          can = can_collect;
          forms = λ w units from collected.
              let mapped = units_mapped w.source.now w.homes.now w.copies.now w.regions.now w.stubs.now w.stub_at.now (of w from) units collected in
              subst (λ (q : OverlayPlan). AreUnitsAt (IsUnitAt board c g moves.moved.pl q) units) (sym moves.plan_is)
              (subst (λ (x : ChosenPlacement). AreUnitsAt (IsUnitAt board c g x plan) units) (sym moves.pl_is) mapped);
        }

-- The words of a first unit that stand in its block's stub: they stand still while the region of the block is current, and run
-- there as they should.
use Rattle.std.proofs.Common.{◌≡◌, ◌∙◌, inl, inr, ℕ, ◌+◌, ◌*◌, ◌%◌, ◌<◌, ◌≤◌, ◌==◌, Bool, true, false, not, ◌&&◌, if◌then◌else◌, List, length, slice_index, slice_index_or, refl, sym, ap, subst, arith}
use Rattle.std.specs.Prelude.{Contains}
use Rattle.std.specs.List.{list_any}
use Rattle.std.proofs.lemmas.Bool.{both_ways}
use Rattle.std.proofs.lemmas.Bool.Decides.{nat_tests}
use Rattle.std.proofs.lemmas.List.Elements.{All-contains}
use Rattle.list_checks.proofs.TestLemmas.{either, both}
use Rattle.rv32im.specs.Words.{plus}
use Rattle.elf_reader.specs.Image.{image_of}
use Rattle.board_config.specs.declared.board.Board.{Board}
use Rattle.board_config.specs.declared.board.Range.{Range}
use Rattle.loaded_file.specs.Code.{image_word}
use Rattle.flat_machine.specs.Mapping.{is_mapped}
use Rattle.flat_machine.specs.State.{State}
use Rattle.flat_machine.specs.Lines.{HoldsAt, IsAtWords}
use Rattle.object_graph.specs.Sites.{in_range}
use Rattle.object_graph.specs.declared.parts.Graph.{Graph}
use Rattle.code_blocks.specs.Numbers.{start_at}
use Rattle.code_blocks.specs.Leads.{units_at, no_unit, IsBlockOf}
use Rattle.code_blocks.specs.declared.parts.Unit.{Unit}
use Rattle.code_blocks.specs.declared.parts.Code.{Code}
use Rattle.dataflow.proofs.EdgeLemmas.{one_start}
use Rattle.dataflow.specs.Overlaid.{region_in, is_border}
use Rattle.region_former.specs.Borders as regions_of
use Rattle.block_splitter.specs.declared.unit_kind.UnitKind.{UnitKind}
use Rattle.block_splitter.specs.Forms.{is_site, body_at, kind_of, holds_block}
use Rattle.block_splitter.specs.Copies.{IsDisplaced}
use Rattle.result_laws.specs.Displaced.{DisplacedRuns}
use Rattle.result_laws.specs.HomeUnits.{IsHomeUnlessHalt}
use Rattle.result_laws.specs.CopyLaws.{unit_at, IsLow}
use Rattle.result_laws.proofs.Setting.{setting}
use Rattle.result_laws.proofs.DisplacedUnits.{displaced_units_run}
use Rattle.result_laws.proofs.FirstUnits.{Halts, first_kinds_so, first_homes_so}
use Rattle.result_laws.proofs.KindFacts.{IsKindBy}
use Rattle.patch_code.specs.Serving.{ServingStub, StubBody, runs_words, body_bytes, serving_size, IsBody, test_bytes}
use Rattle.patch_code.specs.Overlay.{serving_place}
use Rattle.patch_code.specs.Served.{ServingStands, IsServedInside}
use Rattle.patch_code.specs.Served as served
use Rattle.simulation.specs.Units.{StandsAt}
use Rattle.simulation.specs.Forms.{IsAt}
use Rattle.result_laws.specs.LiveUnits.{code_unit, StandsThere, UnitsStand}
use Rattle.result_laws.specs.HomeLaws.{unnamed_in}
use Rattle.result_laws.proofs.CodeUnits.{body_units, units_stand}
use Rattle.result_laws.proofs.Lists.{element_found}
use Rattle.result_laws.proofs.Ranges.{lies_in_range, patch_mapped, patch_lawful}
use Rattle.result_laws.proofs.Words.{same_word}
use Rattle.result_laws.specs.Entries.{RunsIn}
use Rattle.result_laws.specs.ChosenPlacement.{ChosenPlacement, piece_of, no_piece}
use Rattle.result_laws.specs.PlacedView.{is_served, enters_piece, IsUncopied, HasBody, ToCopy, Displaced, Serves, ServesSome}
use Rattle.result_laws.specs.PlacedLaws.{IsPlacedResult}
use Rattle.result_laws.proofs.Standing.{patch_stands}
use Rattle.result_laws.proofs.StubBodies.{checked_bytes, body_words}

-- a block that has a region isn't of region 0
some_region : (r : ℕ) (more : Bool) → not (r == 0) && more ≡ true → r ≡ 0 → ⊥
some_region r more is none = let same : (r == 0) ≡ true = grind (arith, nat_tests, none) in both_ways (r == 0) (other (r == 0) more is) same
  where
    other : (t more : Bool) → not t && more ≡ true → t ≡ false
    other true more is = cc
    other false more is = refl

-- the unit of a stub, which no copy has
module _ (file out : List ℕ) (board : Board) (g : Graph) (c : Code) (pl : ChosenPlacement) (result : IsPlacedResult file out board g c pl) (u b : ℕ) (stub : ServingStub) (stands : StandsThere c u b 0) (listed : Contains result.view.plan.stubs stub) (serves : Serves c g pl (served.body_at result.view.plan stub) b stub) (uncopied : IsUncopied pl b) where
  open (setting file out board g c pl result) use {v, w, l, plan}

  abbrev a : ℕ
  a = served.body_at plan stub

  abbrev unit : Unit
  unit = unit_at c b 0

  abbrev pub kind : UnitKind
  kind = kind_of (is_site g) (body_at c.blocks.items b) 0

  units : UnitsStand v (unnamed_in file board g) c
  units = units_stand file board g c result.accepted result.code

  pub block_below : IsBlockOf c b
  block_below = units.inside b 0 stands.is

  -- ---- its block

  -- control enters a region there
  pub border : is_border pl.borders b ≡ true
  border =
      let some = All-contains (ServesSome c g pl plan) plan.stubs stub result.view.planned.stubs.only listed in
      let same : start_at c b ≡ start_at c some.block = sym serves.home ∙ some.serves.home in
      let one = one_start c b some.block result.code.ascending block_below some.below same in
      let served_there : is_served c pl b ≡ true = subst (λ (d : ℕ). is_served c pl d ≡ true) (sym one) some.served in
      elim (either (is_border pl.borders b) (list_any (enters_piece c b) pl.pieces) served_there) [
        | inl is ↦ is
        | inr copied ↦
            let found = element_found (enters_piece c b) pl.pieces no_piece copied in
            let held = (both (holds_block b (piece_of pl found.0).range) _ found.1.1).0 in
            absurd (both_ways (holds_block b (piece_of pl found.0).range) (uncopied found.0 found.1.0) held)
      ]

  pub region : stub.region ≡ region_in pl.regions b
  region = serves.region ∙ ap (λ (t : Bool). if t then region_in pl.regions b else 0) border

  pub some : region_in pl.regions b ≡ 0 → ⊥
  some none =
      let told : regions_of.is_border c pl.regions b ≡ true = sym (result.placement.borders b block_below) ∙ border in
      some_region (region_in pl.regions b) _ told none

  -- so it runs while its own region is current
  pub own : (r : ℕ) → RunsIn pl.regions b r → region_in pl.regions b ≡ r
  own r (inl none) = absurd (some none)
  own r (inr is) = is

  -- ---- its words

  pub same_unit : code_unit c b 0 ≡ unit
  same_unit = ap (λ (us : List Unit). slice_index_or us 0 no_unit) (sym (body_units c.blocks.items b))

  -- they stand in the patch range
  pub record HasWords : Type 0 where
    pub words : List ℕ
    pub body : stub.body ≡ runs_words words
    pub form : IsDisplaced pl.sites a unit kind words
    pub holds : HoldsAt (image_of w.segments) a words
    pub to : a + 4 * length words ≤ board.patch.base + board.patch.size

  tested : test_bytes stub.region ≡ 88
  tested = checked_bytes stub.region (λ none. some (sym region ∙ none))

  pub has_words : HasWords
  has_words = by_body serves.body
    where
      place : serving_place plan stub + test_bytes stub.region ≡ a
      place = let test = tested in omega (arith, test)

      by_body : HasBody c g pl a b stub → HasWords
      by_body (ToCopy n inside held jumps) = absurd (both_ways (holds_block b (piece_of pl n).range) (uncopied n inside) held)
      by_body (Displaced given none runs form) =
          let body = body_words file out board g c pl result stub listed in
          let same : body.words ≡ given = subst (λ (x : StubBody). IsBody stub.temp x body.words) runs body.does in
          let count = ap (λ (xs : List ℕ). length xs) same in
          let to = body.to in
          let at = place in
          record {
            words = given;
            body = runs;
            form = subst (λ (x : Unit). IsDisplaced pl.sites a x kind given) same_unit form;
            holds = subst (λ (xs : List ℕ). HoldsAt (image_of w.segments) a xs) same (subst (λ (q : ℕ). HoldsAt (image_of w.segments) q body.words) place body.holds);
            to = omega (arith, to, count, at);
          }

  abbrev pub words : List ℕ
  words = has_words.words

  pub size_least : (n : ℕ) → length words ≡ n → 88 + 4 * n ≤ serving_size stub
  size_least n count =
      let test = tested in
      let bytes = ap body_bytes has_words.body in
      omega (arith, test, bytes, count)

  aligned : a % 4 ≡ 0
  aligned =
      let body = body_words file out board g c pl result stub listed in
      let even = body.aligned in
      let test = tested in
      omega (arith, even, test)

  pub low : a + 4 * length words < 4294967296
  low = let to = has_words.to in let lawful = (patch_lawful board result.accepted.lawful).within in omega (arith, to, lawful)

  pub inside_patch : (i : ℕ) → i < 4 * length words → in_range board.patch (a + i) ≡ true
  inside_patch i below =
      let body = body_words file out board g c pl result stub listed in
      let from = body.from in
      let test = tested in
      lies_in_range board.patch 0 (4 * length words) a i (omega (arith, from, test)) has_words.to below

  -- while any region is current
  pub stub_word : (r k : ℕ) → k < length words → StandsAt l r (a + 4 * k) (slice_index words k)
  stub_word r k below =
      let body = body_words file out board g c pl result stub listed in
      let from = body.from in
      let test = tested in
      patch_stands file out board g c pl result r a words k aligned (omega (arith, from, test)) has_words.to has_words.holds below

  -- ---- what it is

  pub in_body : 0 < length (body_at c.blocks.items b).units
  in_body =
      let count : length (body_at c.blocks.items b).units ≡ length (units_at c b) = ap (λ (us : List Unit). length us) (body_units c.blocks.items b) in
      let is = stands.is in
      omega (arith, count, is)

  pub at_unit : unit.at ≡ u
  at_unit = ap (λ (x : Unit). x.at) (sym same_unit) ∙ stands.at

  pub raw_unit : unit.raw ≡ image_word v u
  raw_unit =
      let tells = units.tells b 0 stands.is in
      ap (λ (x : Unit). x.raw) (sym same_unit) ∙ (tells.raw ∙ ap (image_word v) stands.at)

  unit_low : IsLow unit
  unit_low = subst IsLow same_unit (units.low b 0 stands.is)

  pub kind_is : IsKindBy v c (is_site g) u (Prim.Unit {0}) (Halts v u) kind
  kind_is =
      subst (λ (x : ℕ). IsKindBy v c (is_site g) x (Prim.Unit {0}) (Halts v x) kind) at_unit
      (first_kinds_so v c (is_site g) b result.code block_below (result.placement.displaced b border) in_body)

  pub home_is : IsHomeUnlessHalt v (is_site g) u kind
  home_is =
      subst (λ (x : ℕ). IsHomeUnlessHalt v (is_site g) x kind) at_unit
      (first_homes_so v c (is_site g) b result.code block_below (result.placement.displaced b border) in_body unit_low)

  -- ---- it runs

  at_words : (r : ℕ) (t : State) → IsAt l r a t → IsAtWords t a words
  at_words r t here =
      record {
        going = here.going;
        pc = here.at;
        stand = λ k below.
            let stands_there = stub_word r k below in
            let whole = low in
            same_word t.hart.mem (l.still r) (a + 4 * k) (a + 4 * k) (omega (arith, whole, below)) (omega (arith, whole, below))
            (λ i small.
            let same : plus (a + 4 * k) i ≡ a + 4 * k + i = omega (arith, whole, below, small) in
            here.still (a + 4 * k + i) (subst (λ (x : ℕ). l.is_still r x ≡ true) same (stands_there.still i small)))
            ∙ stands_there.word;
        fetched = λ i below.
            let body = body_words file out board g c pl result stub listed in
            let from = body.from in
            let test = tested in
            subst (λ (map : List Range). is_mapped map (a + i) ≡ true) (sym here.map)
            (patch_mapped board (a + i) (inside_patch i below));
      }

  pub stub_runs : (r : ℕ) (t : State) → IsAt l r a t → DisplacedRuns pl.sites t a unit kind words
  stub_runs r t here =
      displaced_units_run v c (is_site g) pl.sites t a b words result.code block_below (result.placement.displaced b border) in_body unit_low aligned low
      (at_words r t here) has_words.form

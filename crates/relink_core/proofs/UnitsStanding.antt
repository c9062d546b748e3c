-- The forms that are collected for a plan are those in which units stand.
use Rattle.std.proofs.Common.{◌≡◌, ◌∙◌, ◌⊎◌, inl, inr, ℕ, ◌+◌, ◌<◌, ◌==◌, Bool, true, false, ◌&&◌, List, [], ◌∷◌, map, length, get_or, slice_index_or, refl, sym, ap, subst, arith}
use Rattle.std.specs.Prelude.{Contains}
use Rattle.std.proofs.lemmas.Bool.{eqb-true, eq-eqb}
use Rattle.std.proofs.lemmas.List.{get_or-map, get_or_default, length-map}
use Rattle.std.proofs.lemmas.List.Folds.{list_any_at}
use Rattle.list_checks.specs.Sorted.{is_number}
use Rattle.list_checks.proofs.StepLemmas.{any_place}
use Rattle.list_checks.proofs.TestLemmas.{both, any_found, any_at}
use Rattle.elf_reader.specs.File.{PlainView}
use Rattle.board_config.specs.declared.board.Board.{Board}
use Rattle.object_graph.specs.declared.parts.Graph.{Graph}
use Rattle.object_machine.specs.Program.{Program}
use Rattle.code_blocks.specs.Numbers.{start_at}
use Rattle.code_blocks.specs.Leads.{no_unit}
use Rattle.code_blocks.specs.declared.parts.Code.{Code}
use Rattle.code_blocks.specs.declared.parts.Unit.{Unit}
use Rattle.block_splitter.specs.Forms.{holds_block, body_at}
use Rattle.block_splitter.specs.Copies.{Copy, address_of, place_of}
use Rattle.patch_code.specs.Serving.{ServingStub, serving_home}
use Rattle.patch_code.specs.Overlay.{OverlayPlan, serving_place}
use Rattle.patch_code.specs.Served.{body_at as stub_body_at}
use Rattle.result_laws.specs.LiveUnits.{StandsThere, UnitsStand, code_unit}
use Rattle.result_laws.proofs.CodeUnits.{body_units}
use Rattle.result_laws.specs.PlacedPieces.{PlacedPiece}
use Rattle.result_laws.specs.ChosenPlacement.{ChosenPlacement, no_piece, piece_of, copy_in}
use Rattle.result_laws.specs.PlacedView.{is_served, is_padded, IsUncopied, HasBody, ToCopy, Displaced, ServesSome, IsServedBy, AreStubsOf}
use Rattle.relink_core.specs.declared.code_regions.CodeRegions.{CodeRegions}
use Rattle.relink_core.specs.declared.copy_source.CopySource.{CopySource}
use Rattle.relink_core.specs.declared.placed_copy.PlacedCopy.{PlacedCopy}
use Rattle.relink_core.specs.Copies.{copied_in}
use Rattle.relink_core.specs.Serving.{without_image, piece_with, IsPlacedWith}
use Rattle.relink_core.specs.declared.unit_forms.UnitAt.{UnitAt}
use Rattle.relink_core.specs.UnitMaps.{piece_region, IsAtHome, IsUnitAt, AtHome, InCopy, InStub}
use Rattle.relink_core.specs.UnitSets.{Upto, form_at, HomeForms, begins_padded, CopyForms, StubForms, no_stub, runs}

not_so : (t : Bool) → (t ≡ true → ⊥) → t ≡ false
not_so true refuted = absurd (refuted refl)
not_so false refuted = refl

some_copy : (xs : List PlacedCopy) (n : ℕ) → n < length xs → PlacedCopy
some_copy [] n below = absurd (omega (arith, below))
some_copy (x ∷ xs) n below = x

-- a body that runs words is that of a block without a copy
pub runs_uncopied : (c : Code) (g : Graph) (pl : ChosenPlacement) (at b : ℕ) (stub : ServingStub) → HasBody c g pl at b stub → runs stub.body ≡ true → IsUncopied pl b
runs_uncopied c g pl at b stub (ToCopy n below holds is) run = let jumps = ap runs is in absurd (cc (jumps, run))
runs_uncopied c g pl at b stub (Displaced words none is displaced) run = none

uncopied_runs : (c : Code) (g : Graph) (pl : ChosenPlacement) (at b : ℕ) (stub : ServingStub) → HasBody c g pl at b stub → IsUncopied pl b → runs stub.body ≡ true
uncopied_runs c g pl at b stub (ToCopy n below holds is) none = let out = none n below in absurd (cc (out, holds))
uncopied_runs c g pl at b stub (Displaced words none is displaced) uncopied = ap runs is

module _ (v : PlainView) (p : Program) (board : Board) (s : CopySource) (w : CodeRegions) (copies : List PlacedCopy) (pl : ChosenPlacement) (plan : OverlayPlan) (stand : UnitsStand v p s.code.now) (with : IsPlacedWith s w copies pl) (stubs : AreStubsOf s.code.now s.graph.now pl plan) (x : UnitAt) where
  abbrev c : Code
  c = s.code.now

  abbrev g : Graph
  g = s.graph.now

  abbrev blocks : ℕ
  blocks = length c.blocks.items

  abbrev homes : List ℕ
  homes = map serving_home plan.stubs

  abbrev Stands : Type 0
  Stands = IsUnitAt board c g pl plan x

  -- ---- at home

  -- a block at whose start a stub has its home is served
  padded_block : (b : ℕ) → begins_padded c homes b ≡ true → (d : ℕ) × ((d < blocks) × ((is_served c pl d ≡ true) × (start_at c d ≡ start_at c b)))
  padded_block b has =
      let (k, (below, passes)) = any_place (is_number (start_at c b)) homes 0 has in
      let count = length-map plan.stubs serving_home in
      let inside : k < length plan.stubs = omega (arith, count, below) in
      let some : ServesSome c g pl plan (get_or plan.stubs k no_stub) = stubs.only k no_stub inside in
      let at = get_or-map serving_home plan.stubs k no_stub 0 inside in
      let same = eqb-true (start_at c b) (get_or homes k 0) passes in
      (some.block, (some.below, (some.served, sym some.serves.home ∙ sym at ∙ sym same)))

  served_home : (d b : ℕ) → d < blocks → is_served c pl d ≡ true → d ≡ b → begins_padded c homes b ≡ true
  served_home d b below served same =
      let of : IsServedBy c g pl plan d = stubs.each d below served in
      let (j, inside, is) = of.listed in
      let count = length-map plan.stubs serving_home in
      let at = get_or-map serving_home plan.stubs j of.stub 0 inside in
      let there : start_at c b ≡ get_or homes j 0 =
      ap (start_at c) (sym same) ∙ sym of.serves.home ∙ ap serving_home (sym is) ∙ sym at in
      list_any_at (is_number (start_at c b)) homes j 0 (omega (arith, count, inside)) (eq-eqb (start_at c b) (get_or homes j 0) there)

  home_forth : Upto blocks (HomeForms c homes) x → IsAtHome c x × (is_padded c pl x.home ≡ false)
  home_forth up =
      let b = up.place in
      let k = up.is.place in
      let form = up.is.is in
      let at = ap (λ (y : UnitAt). y.at) form.1 in
      let home = ap (λ (y : UnitAt). y.home) form.1 in
      let there : StandsThere c x.home b k = record { is = up.is.below; at = sym home } in (
        record { block = b; unit = k; there = there; at = at ∙ sym home; region = ap (λ (y : UnitAt). y.region) form.1 },
        not_so (is_padded c pl x.home)
            (λ has.
            let (d, below, passes) = any_found (λ e. is_served c pl e && (start_at c e == x.home)) blocks has in
            let parts = both (is_served c pl d) (start_at c d == x.home) passes in
            let first = subst (λ (a : ℕ). StandsThere c a d 0) (eqb-true (start_at c d) x.home parts.1) (stand.first d below) in
            let one = stand.one x.home d 0 b k first there in
            let pad = served_home d b below parts.0 one.0 in
            let zero : (k == 0) ≡ true = eq-eqb k 0 (sym one.1) in
            let test : (begins_padded c homes b && (k == 0)) ≡ true = λ i. pad i && zero i in
            let out = form.0 in
            absurd (cc (test, out))),
      )

  home_back : IsAtHome c x → is_padded c pl x.home ≡ false → Upto blocks (HomeForms c homes) x
  home_back is none =
      let b = is.block in
      let k = is.unit in
      let there = is.there in
      let same : x ≡ form_at (code_unit c b k).at 0 (code_unit c b k).at =
      λ i. record { at = (is.at ∙ sym there.at) i; region = is.region i; home = sym there.at i } in
      let out : (begins_padded c homes b && (k == 0)) ≡ false =
      not_so (begins_padded c homes b && (k == 0))
      (λ yes.
      let parts = both (begins_padded c homes b) (k == 0) yes in
      let zero = eqb-true k 0 parts.1 in
      let (d, (below, (served, begins))) = padded_block b parts.0 in
      let behind = stand.at b k there.is in
      let at = there.at in
      let here : start_at c d ≡ x.home = omega (arith, zero, behind, at, begins) in
      let passes : (is_served c pl d && (start_at c d == x.home)) ≡ true =
      let test = eq-eqb (start_at c d) x.home here in λ i. served i && test i in
      let found = any_at (λ e. is_served c pl e && (start_at c e == x.home)) blocks d below passes in
      absurd (cc (found, none))) in
      record { place = b; below = stand.inside b k there.is; is = record { place = k; below = there.is; is = (out, same) } }

  -- ---- in copies

  many : length pl.pieces ≡ length copies
  many =
      sym (length-map pl.pieces without_image)
      ∙ ap (λ (ys : List PlacedPiece). length ys) with.are_pieces
      ∙ length-map copies piece_with

  copy_same : (n : ℕ) (z : PlacedCopy) → n < length copies → get_or copies n z ≡ z → copy_in c g pl n ≡ copied_in s z
  copy_same n z below there =
      let piece : without_image (piece_of pl n) ≡ piece_with z =
      sym (get_or-map without_image pl.pieces n no_piece no_piece (omega (arith, many, below)))
      ∙ ap (λ (ys : List PlacedPiece). get_or ys n no_piece) with.are_pieces
      ∙ get_or-map piece_with copies n z no_piece below
      ∙ ap piece_with there in
      let range = ap (λ (y : PlacedPiece). y.range) piece in
      let at = ap (λ (y : PlacedPiece). y.at) piece in
      λ i. record { code = c; graph = g; range = range i; at = at i; sites = with.words i }

  units_same : (b : ℕ) → (body_at c.blocks.items b).units ≡ slice_index_or (map (λ d. d.units.items) c.blocks.items) b []
  units_same b = body_units c.blocks.items b

  module _ (regions : List ℕ) (are : (n : ℕ) → slice_index_or regions n 0 ≡ piece_region board pl n) where
    copies_forth : Upto (length copies) (CopyForms s copies regions) x → Stands
    copies_forth up =
        let n = up.place in
        let (z, rest) = up.is in
        let same = copy_same n z up.below rest.0 in
        let b = rest.1.place in
        let inside = rest.1.is.0 in
        let units = rest.1.is.1 in
        let k = units.place in
        let at = ap (λ (y : UnitAt). y.at) units.is in
        let region = ap (λ (y : UnitAt). y.region) units.is in
        let home = ap (λ (y : UnitAt). y.home) units.is in
        InCopy n b k (omega (arith, many, up.below)) (subst (λ (y : Copy). holds_block b y.range ≡ true) (sym same) inside)
        (record {
          is = subst (λ (us : List Unit). k < length us) (units_same b) units.below;
          at = ap (λ (us : List Unit). (get_or us k no_unit).at) (sym (units_same b)) ∙ sym home;
        })
        (at ∙ ap (λ (y : Copy). address_of y (place_of y b k)) (sym same)) (region ∙ are n)

    copies_back : (n b k : ℕ) → n < length pl.pieces → holds_block b (piece_of pl n).range ≡ true → StandsThere c x.home b k → x.at ≡ address_of (copy_in c g pl n) (place_of (copy_in c g pl n) b k) → x.region ≡ piece_region board pl n → Upto (length copies) (CopyForms s copies regions) x
    copies_back n b k below inside there at region =
        let low : n < length copies = omega (arith, many, below) in
        let d = some_copy copies n low in
        let z = get_or copies n d in
        let is : get_or copies n z ≡ z = get_or_default copies n z d low in
        let same = copy_same n z low is in
        let place = at ∙ ap (λ (y : Copy). address_of y (place_of y b k)) same in
        let own = region ∙ sym (are n) in
        let home = sym there.at ∙ ap (λ (us : List Unit). (get_or us k no_unit).at) (sym (units_same b)) in
        record {
          place = n;
          below = low;
          is = (
            z,
            (
              is,
              record {
                place = b;
                below = stand.inside b k there.is;
                is = (
                  subst (λ (y : Copy). holds_block b y.range ≡ true) same inside,
                  record {
                    place = k;
                    below = subst (λ (us : List Unit). k < length us) (sym (units_same b)) there.is;
                    is = λ i. record { at = place i; region = own i; home = home i };
                  },
                );
              },
            ),
          );
        }

  -- ---- in stubs

  module _ (places : List ℕ) (at_places : places ≡ map (serving_place plan) plan.stubs) where
    place_is : (k : ℕ) (d : ServingStub) → k < length plan.stubs → slice_index_or places k 0 ≡ serving_place plan (get_or plan.stubs k d)
    place_is k d below =
        ap (λ (ns : List ℕ). slice_index_or ns k 0) at_places ∙ get_or-map (serving_place plan) plan.stubs k d 0 below

    stubs_forth : Upto (length plan.stubs) (StubForms plan.stubs places) x → Stands
    stubs_forth up =
        let k = up.place in
        let stub = get_or plan.stubs k no_stub in
        let some : ServesSome c g pl plan stub = stubs.only k no_stub up.below in
        let form = up.is.1 in
        let at = ap (λ (y : UnitAt). y.at) form in
        let home = ap (λ (y : UnitAt). y.home) form in
        let there = place_is k no_stub up.below in
        let first = subst (λ (a : ℕ). StandsThere c a some.block 0) (sym (home ∙ some.serves.home)) (stand.first some.block some.below) in
        InStub some.block stub first (k, up.below, get_or_default plan.stubs k stub no_stub up.below) some.serves
        (runs_uncopied c g pl _ some.block stub some.serves.body up.is.0)
        (at ∙ ap (λ (n : ℕ). n + 88) there) (ap (λ (y : UnitAt). y.region) form)

    stubs_back : (b : ℕ) (stub : ServingStub) → StandsThere c x.home b 0 → (listed : Contains plan.stubs stub) → HasBody c g pl (stub_body_at plan stub) b stub → stub.home ≡ start_at c b → IsUncopied pl b → x.at ≡ stub_body_at plan stub → x.region ≡ 0 → Upto (length plan.stubs) (StubForms plan.stubs places) x
    stubs_back b stub there listed body home none at region =
        let (k, below, is) = listed in
        let same : stub ≡ slice_index_or plan.stubs k no_stub = sym is ∙ get_or_default plan.stubs k stub no_stub below in
        let place = place_is k no_stub below in
        let behind = stand.at b 0 there.is in
        let begins = there.at in
        let own : x.home ≡ start_at c b = omega (arith, behind, begins) in
        let starts = own ∙ sym home ∙ ap serving_home same in
        let stands = at ∙ ap (stub_body_at plan) same ∙ ap (λ (n : ℕ). n + 88) (sym place) in
        record {
          place = k;
          below = below;
          is = (
            ap (λ (t : ServingStub). runs t.body) (sym same) ∙ uncopied_runs c g pl _ b stub body none,
            λ i. record { at = stands i; region = region i; home = starts i },
          );
        }

    -- ---- all of them

    module _ (regions : List ℕ) (are : (n : ℕ) → slice_index_or regions n 0 ≡ piece_region board pl n) where
      pub forms_forth : Upto blocks (HomeForms c homes) x ⊎ (Upto (length copies) (CopyForms s copies regions) x ⊎ Upto (length plan.stubs) (StubForms plan.stubs places) x) → Stands
      forms_forth (inl home) = let is = home_forth home in AtHome is.0 is.1
      forms_forth (inr (inl copied)) = copies_forth regions are copied
      forms_forth (inr (inr stub)) = stubs_forth stub

      pub forms_back : Stands → Upto blocks (HomeForms c homes) x ⊎ (Upto (length copies) (CopyForms s copies regions) x ⊎ Upto (length plan.stubs) (StubForms plan.stubs places) x)
      forms_back (AtHome is none) = inl (home_back is none)
      forms_back (InCopy n b k below inside there at region) = inr (inl (copies_back regions are n b k below inside there at region))
      forms_back (InStub b stub there listed serves none at region) =
          inr (inr (stubs_back b stub there listed serves.body serves.home none at region))

-- A programme that meets the conditions of a layout.
use Rattle.std.proofs.Common.{◌≡◌, ◌∙◌, ℕ, ◌<◌, false, List, [], ◌∷◌, replicate, length, get_or, refl, sym, ap, subst, arith}
use Rattle.std.proofs.lemmas.List.{get_or-replicate, length-map, length-replicate}
use Rattle.std.proofs.lemmas.List.Elements.{All-nil, All-cons}
use Rattle.board_config.specs.declared.board.Board.{Board}
use Rattle.object_graph.specs.declared.parts.Graph.{Graph}
use Rattle.placement_programme.specs.declared.variables.VarName.TheVariants.{StaticData}
use Rattle.placement_programme.specs.Rows.{Layout, static_data}
use Rattle.relocator.specs.declared.slots.Slot.{Slot}
use Rattle.relocator.specs.declared.places.Places.{Places}
use Rattle.relocator.specs.Placing.{rows_of, IsTable}
use Rattle.cell_values.specs.Objects.{datum_of}
use Rattle.relocator.specs.Space.{IsVariable}
use Rattle.relocator.specs.SiteWords.{HasPlaces}
use Rattle.relocator.specs.Examples.{table_side, TableHasSpace}

table_layout : Graph → Board → Layout
table_layout g board = record {
  scratchpad = board.spm.size;
  patch = 65536;
  fence_i = false;
  twins = false;
  blocks = 0;
  objects = length g.objects.items;
  regions = 0;
  displaced = [];
  grain = g.grain;
}

first_variable : (g : Graph) (board : Board) → 0 < length g.objects.items → IsVariable g false (table_layout g board) (get_or (table_side g board).vars 0 (record { name = StaticData 0; gain = 0; weights = [] }))
unfolding table_layout
first_variable g board some = (
  static_data (datum_of g 0),
  record {
    name = refl;
    side = tt;
    item = (some, refl);
    space = λ row is. refl;
    objects = λ row is. absurd is;
  },
)

pub table_has_space : TableHasSpace
unfolding table_layout
table_has_space g board some = record {
  layout = table_layout g board;
  is = record { scratchpad = refl; objects = refl; region_count = refl; grain = refl };
  has = record {
    space = λ row is. subst (λ (r : ℕ). (r < 2) × (get_or (board.spm.size ∷ 65452 ∷ []) r 0 ≡ board.spm.size)) (sym is) (omega arith, refl);
    objects = λ row is. absurd is;
    variables = All-cons (IsVariable g false (table_layout g board)) _ [] (first_variable g board some) (All-nil (IsVariable g false (table_layout g board)));
    different = λ i j d before below. absurd (omega (arith, before, below));
  };
}

-- the places of a layout serve where all sites are of region 0
pub serves_start : (g : Graph) (slots : List Slot) (places : Places) (region_at : List ℕ) → IsTable g 0 slots (rows_of places.of.items) → region_at ≡ replicate (length g.sites.items) 0 → HasPlaces g places region_at
serves_start g slots places region_at table zeros =
    let objects : length (rows_of places.of.items) ≡ length places.of.items = length-map places.of.items _ in
    let count = table.objects in
    let wide : (o : ℕ) → o < length g.objects.items → length (get_or (rows_of places.of.items) o []) ≡ 1 =
    λ o below. table.widths o [] (omega (arith, count, below)) in
    record {
      sites = ap (λ (rs : List ℕ). length rs) zeros ∙ length-replicate (length g.sites.items) 0;
      objects = omega (arith, objects, count);
      start = λ o below. let one = wide o below in omega (arith, one);
      regions = λ o k below inside.
          let one = wide o below in
          let long = ap (λ (rs : List ℕ). length rs) zeros ∙ length-replicate (length g.sites.items) 0 in
          let zero_there : get_or region_at k 0 ≡ 0 = ap (λ (rs : List ℕ). get_or rs k 0) zeros ∙ get_or-replicate (length g.sites.items) k 0 0 (omega (arith, inside, long)) in
          omega (arith, one, zero_there);
    }

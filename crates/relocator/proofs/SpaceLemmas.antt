-- A side whose rows and weights are those of a layout has their space.
use Rattle.std.proofs.Common.{◌≡◌, ◌∙◌, ℕ, ◌+◌, ◌-◌, ◌*◌, ◌<◌, ◌≤◌, Bool, true, false, List, [], ◌∷◌, ◌++◌, replicate, length, get_or, length-append, refl, sym, ap, subst, arith}
use Rattle.std.proofs.lemmas.List.{get_or_append_left, get_or-append_right, get_or-replicate, length-replicate}
use Rattle.placement_programme.specs.Programme.{weight_in}
use Rattle.placement_programme.specs.Rows.{Layout, fixed_bytes, object_row, on_capacities, capacities}
use Rattle.placement_programme.proofs.RowLemmas.{on_length, off_length, object_rows_end}
use Rattle.relocator.specs.Space.{IsSpaceRow, IsObjectRow}
use Rattle.relocator.specs.Laws.{WholeSideHasSpace}

-- the parts of the on side's rows before those of objects
abbrev spaces : Layout → List ℕ
spaces l = replicate (l.regions + 1) l.scratchpad

abbrev before_blocks : Layout → List ℕ
before_blocks l = spaces l ++ (l.patch - fixed_bytes l) ∷ []

abbrev before_objects : Layout → List ℕ
before_objects l = before_blocks l ++ replicate l.blocks 1

before_length : (l : Layout) → length (before_objects l) ≡ l.regions + 2 + l.blocks
before_length l = simp (length-append, length-replicate) (omega arith)

has_space : (l : Layout) (r : ℕ) → r ≤ l.regions → get_or (on_capacities l) r 0 ≡ l.scratchpad
has_space l r below =
    let first = length-replicate (l.regions + 1) l.scratchpad in
    let second = length-append (spaces l) ((l.patch - fixed_bytes l) ∷ []) in
    let third = before_length l in
    get_or_append_left (before_objects l) (replicate (l.objects * l.regions) 1) 0 r (omega (arith, third, below))
    ∙ get_or_append_left (before_blocks l) (replicate l.blocks 1) 0 r (omega (arith, first, second, below))
    ∙ get_or_append_left (spaces l) ((l.patch - fixed_bytes l) ∷ []) 0 r (omega (arith, first, below))
    ∙ get_or-replicate (l.regions + 1) r l.scratchpad 0 (omega (arith, below))

-- the row of an object in a region lies among the last
object_within : (l : Layout) (o r : ℕ) → o < l.objects → 1 ≤ r → r ≤ l.regions → object_row l o r - (l.regions + 2 + l.blocks) < l.objects * l.regions
object_within l o r inside some below =
    let end = object_rows_end l.regions o l.objects inside in
    omega (arith, end, some, below)

has_object : (l : Layout) (o r : ℕ) → o < l.objects → 1 ≤ r → r ≤ l.regions → get_or (on_capacities l) (object_row l o r) 0 ≡ 1
has_object l o r inside some below =
    get_or-append_right (before_objects l) (replicate (l.objects * l.regions) 1) (l.regions + 2 + l.blocks) (object_row l o r) 0 (before_length l) (omega (arith, some))
    ∙ get_or-replicate (l.objects * l.regions) (object_row l o r - (l.regions + 2 + l.blocks)) 1 0 (object_within l o r inside some below)

space_held : (on : Bool) (l : Layout) (row : ℕ) → IsSpaceRow on l row → (row < length (capacities on l)) × (get_or (capacities on l) row 0 ≡ l.scratchpad)
space_held false l row is = rw is (omega (arith, off_length l), refl)
space_held true l row is =
    let r : ℕ = is.0 in
    let below = is.1.0 in
    let long = on_length l in
    rw is.1.1 (omega (arith, long, below), has_space l r below)

object_held : (on : Bool) (l : Layout) (row : ℕ) → IsObjectRow on l row → (row < length (capacities on l)) × (get_or (capacities on l) row 0 ≡ 1)
object_held false l row is = absurd is
object_held true l row is =
    let o : ℕ = is.0 in
    let r : ℕ = is.1.0 in
    let inside = is.1.1.0 in
    let region = is.1.1.1 in
    let long = on_length l in
    let end = object_rows_end l.regions o l.objects inside in
    rw is.1.1.2 (omega (arith, long, end, region.0, region.1), has_object l o r inside region.0 region.1)

pub whole_side_has_space : WholeSideHasSpace
whole_side_has_space g regions board on l side is rows vars different = record {
  layout = l;
  is = is;
  has = record {
    space = λ row of. subst (λ (cs : List ℕ). (row < length cs) × (get_or cs row 0 ≡ l.scratchpad)) (sym rows) (space_held on l row of);
    objects = λ row of. subst (λ (cs : List ℕ). (row < length cs) × (get_or cs row 0 ≡ 1)) (sym rows) (object_held on l row of);
    variables = λ k d below.
        let whole = vars k d below in
        let v = whole.1 in (
          whole.0,
          record {
            name = v.name;
            side = v.side;
            item = v.item;
            space = λ row of. ap (λ (ws : List (ℕ × ℕ)). weight_in ws row) v.weights;
            objects = λ row of. ap (λ (ws : List (ℕ × ℕ)). weight_in ws row) v.weights;
          },
        );
    different = different;
  };
}

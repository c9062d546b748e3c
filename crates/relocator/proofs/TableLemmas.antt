-- Tables of places, a slot at a time.
use Rattle.std.proofs.Common.{◌≡◌, ◌∙◌, ℕ, ◌+◌, ◌<◌, ◌≤◌, List, [], ◌∷◌, map, take, drop, replicate, length, get_or, sym, ap, subst, arith, Vec}
use Rattle.std.specs.declared.alloc.Global.{Global}
use Rattle.std.proofs.Math.ListN.{set}
use Rattle.std.proofs.lemmas.List.{get_or-map, length-map, map-set, take_all, drop_more, get_or-replicate, length-replicate}
use Rattle.std.proofs.lemmas.List.Elements.{All-map}
use Rattle.object_graph.specs.declared.parts.Object.{Object}
use Rattle.object_graph.specs.declared.parts.Graph.{Graph}
use Rattle.cell_values.specs.Objects.{absent_object, object_of}
use Rattle.relocator.specs.declared.slots.Slot.{Slot}
use Rattle.relocator.specs.Placing.{rows_of, IsTable}

-- ---- without slots

abbrev pub home_row : ℕ → Object → List ℕ
home_row regions object = replicate (regions + 1) object.home

pub homes_are : (g : Graph) (regions : ℕ) (rows : List (List ℕ)) → rows ≡ map (home_row regions) g.objects.items → IsTable g regions [] rows
homes_are g regions rows is = subst (λ (rs : List (List ℕ)). IsTable g regions [] rs) (sym is) (record {
  objects = length-map g.objects.items (home_row regions);
  widths = All-map (λ (row : List ℕ). length row ≡ regions + 1) (home_row regions) g.objects.items (λ k d below. length-replicate (regions + 1) (get_or g.objects.items k d).home);
  exact = λ o r below within.
      ap (λ (row : List ℕ). get_or row r 0) (get_or-map (home_row regions) g.objects.items o absent_object [] below)
      ∙ get_or-replicate (regions + 1) r (object_of g o).home 0 (omega (arith, within));
})

-- ---- in vectors

row_at : (rows : List (Vec ℕ Global)) (o : ℕ) (old : Vec ℕ Global) → o < length rows → old ≡ get_or rows o old → get_or (rows_of rows) o [] ≡ old.items
row_at rows o old below is = get_or-map (λ (r : Vec ℕ Global). r.items) rows o old [] below ∙ ap (λ (r : Vec ℕ Global). r.items) (sym is)

pub changed_row : (change : List ℕ → List ℕ) (rows : List (Vec ℕ Global)) (o : ℕ) (old new : Vec ℕ Global) → o < length rows → old ≡ get_or rows o old → new.items ≡ change old.items → rows_of (set rows o new) ≡ set (rows_of rows) o (change (get_or (rows_of rows) o []))
changed_row change rows o old new below is put =
    map-set (λ (r : Vec ℕ Global). r.items) rows o new
    ∙ ap (λ (row : List ℕ). set (rows_of rows) o row) (put ∙ ap change (sym (row_at rows o old below is)))

pub fill_row : (rows : List (Vec ℕ Global)) (o place width : ℕ) (old new : Vec ℕ Global) → o < length rows → old ≡ get_or rows o old → new.items ≡ replicate (length old.items) place → length (get_or (rows_of rows) o []) ≡ width → rows_of (set rows o new) ≡ set (rows_of rows) o (replicate width place)
fill_row rows o place width old new below is put long =
    map-set (λ (r : Vec ℕ Global). r.items) rows o new
    ∙ ap (λ (row : List ℕ). set (rows_of rows) o row)
    (put ∙ ap (λ (n : ℕ). replicate n place) (ap (λ (row : List ℕ). length row) (sym (row_at rows o old below is)) ∙ long))

-- the table of all objects, once the last has its row
pub all_homes : (regions : ℕ) (objects : List Object) (i : ℕ) → length objects ≤ i → map (home_row regions) (take i objects) ≡ map (home_row regions) objects
all_homes regions objects i past = ap (λ (os : List Object). map (home_row regions) os) (take_all i objects past)

-- all slots from a place on
pub put_before : (g : Graph) (regions : ℕ) (slots : List Slot) (k : ℕ) (d : Slot) (rows : List (List ℕ)) → k < length slots → IsTable g regions (get_or slots k d ∷ drop (k + 1) slots) rows → IsTable g regions (drop k slots) rows
put_before g regions slots k d rows below table = subst (λ (ss : List Slot). IsTable g regions ss rows) (sym (drop_more slots k d below)) table

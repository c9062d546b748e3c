-- What is taken stands where a result tells.
use Rattle.std.proofs.Common.{◌≡◌, ◌∙◌, ℕ, zero, suc, ◌+◌, ◌-◌, ◌*◌, ◌/◌, ◌%◌, ◌<◌, ◌≤◌, ◌==◌, Bool, true, false, ◌&&◌, if◌then◌else◌, List, [], ◌∷◌, ◌++◌, take, length, map, slice_index_or, Some, refl, sym, ap, subst, arith}
use Rattle.std.specs.List.{All}
use Rattle.std.proofs.lemmas.List.Elements.{All-map}
use Rattle.std.proofs.lemmas.Bool.Decides.{nat_tests}
use Rattle.std.proofs.lemmas.List.{get_or-map, length-map, map-append, take_more}
use Rattle.board_config.specs.declared.board.Board.{Board}
use Rattle.object_graph.specs.declared.parts.Graph.{Graph}
use Rattle.code_blocks.specs.Numbers.{start_at}
use Rattle.code_blocks.specs.declared.parts.Code.{Code}
use Rattle.region_former.specs.declared.table.RegionTable.{RegionTable}
use Rattle.block_splitter.specs.declared.block_range.BlockRange.{BlockRange}
use Rattle.block_splitter.specs.Forms.{is_site, copy_words}
use Rattle.block_splitter.specs.Pieces.{IsRange, IsCopied}
use Rattle.block_splitter.proofs.CopySizeLemmas.{range_is}
use Rattle.cell_values.specs.Objects.{object_of}
use Rattle.placement_programme.specs.Plain.{PlainProgramme, PlainChoice}
use Rattle.placement_programme.specs.declared.variables.VarName.{VarName}
use Rattle.placement_programme.specs.declared.variables.VarName.TheVariants.{StaticData, StaticCode, OverlayData, OverlayCode, KeptData}
use Rattle.relocator.specs.declared.slots.Slot.{Slot}
use Rattle.relocator.specs.declared.places.Places.{Places}
use Rattle.relocator.specs.Slots.{is_code, code_slots}
use Rattle.relocator.specs.Placing.{puts, place_at, chosen_slots}
use Rattle.relocator.specs.SiteWords.{row_length}
use Rattle.relocator.specs.Laws.{CanLayOut, no_slot, slot_at}
use Rattle.relocator.proofs.OwnLemmas.{objects_in_slots}
use Rattle.relink_core.specs.declared.placed_copy.PlacedCopy.{PlacedCopy}
use Rattle.relink_core.specs.Copies.{no_range, range_in, place_in}
use Rattle.result_laws.specs.ChosenJobs.{code_number, next_code}
use Rattle.result_laws.specs.Memories.{IsOfCode}
use Rattle.result_laws.proofs.JobNumbers.{code_numbers_so}
use Rattle.result_laws.specs.PlacementLaws.{regions_on}
use Rattle.printed_lines.specs.declared.taken.TakenItem.{TakenItem}
use Rattle.printed_lines.specs.TakenLines.{object_named, IsListedObject, IsPairName, IsListed}
use Rattle.relink_core.specs.Names.{name_of_slot, range_named, ranges_named}
use Rattle.relink_core.specs.Standing.{HasBytes, IsKnownName, AreStanding}
use Rattle.relinking.specs.TakenItems.{item_by, item_of, items_told, copy_item, CanTell}

-- ---- items

-- an object of a slot's name
data_is : (g : Graph) (c : Code) (s : Slot) (name own : VarName) (o place : ℕ) → name ≡ s.name → name ≡ own
    → ◌≡◌ {A = TakenItem} (record { name = s.name; place = s.at + (object_of g o).home % g.grain; bytes = (object_of g o).size; home = (object_of g o).home }) (item_by g c s own)
    → place ≡ s.at + (object_of g o).home % g.grain
    → ◌≡◌ {A = TakenItem} (record { name = name; place = place; bytes = (object_of g o).size; home = (object_of g o).home }) (item_of g c s)
data_is g c s name own o place same is by there =
    (λ i. record { name = same i; place = there i; bytes = (object_of g o).size; home = (object_of g o).home })
    ∙ (by ∙ ap (item_by g c s) (sym is ∙ same))

-- ---- the ranges of names of code

more_ranges : (name : VarName) (ranges : List BlockRange) (n : ℕ) (d : BlockRange) (found : BlockRange) (rest : List VarName) → ranges_named rest ≡ ranges → slice_index_or ranges n d ≡ found → slice_index_or (ranges_named (name ∷ rest)) (next_code name n) d ≡ found
more_ranges (StaticData o) ranges n d found rest is there = ap (λ (rs : List BlockRange). slice_index_or rs n d) is ∙ there
more_ranges (StaticCode first last) ranges n d found rest is there = ap (λ (rs : List BlockRange). slice_index_or rs n d) is ∙ there
more_ranges (OverlayData r o) ranges n d found rest is there = ap (λ (rs : List BlockRange). slice_index_or rs n d) is ∙ there
more_ranges (OverlayCode r first last) ranges n d found rest is there = ap (λ (rs : List BlockRange). slice_index_or rs n d) is ∙ there
more_ranges (KeptData pair o) ranges n d found rest is there = ap (λ (rs : List BlockRange). slice_index_or rs n d) is ∙ there

first_range : (name : VarName) (d found : BlockRange) (rest : List VarName) → range_named name ≡ Some found → slice_index_or (ranges_named (name ∷ rest)) 0 d ≡ found
first_range (StaticData o) d found rest is = absurd (cc (is))
first_range (StaticCode first last) d found rest is = cc
first_range (OverlayData r o) d found rest is = absurd (cc (is))
first_range (OverlayCode r first last) d found rest is = cc
first_range (KeptData pair o) d found rest is = absurd (cc (is))

range_at : (slots : List Slot) (k : ℕ) (d found : BlockRange) → k < length slots → range_named (slot_at slots k).name ≡ Some found → slice_index_or (ranges_named (map name_of_slot slots)) (code_number slots k) d ≡ found
range_at [] k d found below is = absurd (omega (arith, below))
range_at (s ∷ ss) zero d found below is = first_range s.name d found (map name_of_slot ss) is
range_at (s ∷ ss) (suc k) d found below is =
    more_ranges s.name (ranges_named (map name_of_slot ss)) (code_number ss k) d found (map name_of_slot ss) refl (range_at ss k d found (omega (arith, below)) is)

-- the next slot's number
pub number_more : (slots : List Slot) (k : ℕ) → k < length slots → code_number slots (suc k) ≡ next_code (slot_at slots k).name (code_number slots k)
number_more [] k below = absurd (omega (arith, below))
number_more (s ∷ []) zero below = by_name s.name
  where
    by_name : (name : VarName) → next_code name 0 ≡ next_code name 0
    by_name name = refl
number_more (s ∷ t ∷ ss) zero below = refl
number_more (s ∷ ss) (suc k) below =
    let rest = number_more ss k (omega (arith, below)) in
    ap (next_code s.name) rest ∙ swapped s.name (slot_at ss k).name (code_number ss k)
  where
    later : (b : Bool) (one other n : ℕ) → (if b then suc n else n) ≡ (if b then suc n else n)
    later b one other n = refl

    by_tests : (a b : Bool) (n : ℕ) → (if a then suc (if b then suc n else n) else (if b then suc n else n)) ≡ (if b then suc (if a then suc n else n) else (if a then suc n else n))
    by_tests true true n = refl
    by_tests true false n = refl
    by_tests false true n = refl
    by_tests false false n = refl

    swapped : (first second : VarName) (n : ℕ) → next_code first (next_code second n) ≡ next_code second (next_code first n)
    swapped first second n = by_tests (is_code first) (is_code second) n

pub number_below : (slots : List Slot) (k : ℕ) → code_number slots k ≤ k
number_below [] k = omega arith
number_below (s ∷ ss) zero = omega arith
number_below (s ∷ ss) (suc k) = by_name (is_code s.name) (code_number ss k) (number_below ss k)
  where
    by_name : (b : Bool) (n : ℕ) → n ≤ k → (if b then suc n else n) ≤ suc k
    by_name true n few = omega (arith, few)
    by_name false n few = omega (arith, few)

-- ---- one item of a result

module _ (board : Board) (g : Graph) (c : Code) (t : RegionTable) (p : PlainProgramme) (choice : PlainChoice) (names : List VarName) (copies : List PlacedCopy) (places : Places) (stands : AreStanding board g c t p choice names copies places) (can : CanLayOut g (regions_on choice.on t) board p choice) (k : ℕ) (below : k < length names) where
  abbrev slots : List Slot
  slots = chosen_slots board p choice

  abbrev count : ℕ
  count = regions_on choice.on t

  abbrev s : Slot
  s = slot_at slots k

  pub within : k < length slots
  within =
      let same = ap (λ (xs : List VarName). length xs) stands.taken in
      let long = length-map slots name_of_slot in
      omega (arith, below, same, long)

  pub name_is : (name : VarName) → name ≡ slice_index_or names k name → name ≡ s.name
  name_is name at =
      at ∙ (ap (λ (xs : List VarName). slice_index_or xs k name) stands.taken ∙ get_or-map name_of_slot slots k no_slot name within)

  known : (name : VarName) → name ≡ slice_index_or names k name → IsKnownName g c count name
  known name at = subst (IsKnownName g c count) (sym at) (stands.known k name below)

  -- an object stands in its slot
  place_is : (o r : ℕ) → o < length g.objects.items → r ≤ count → puts s.name r o ≡ true → place_at places o r ≡ s.at + (object_of g o).home % g.grain
  place_is o r inside few own =
      stands.at.table.exact o r inside few ∙ objects_in_slots g count board p choice r o few can k no_slot within own

  pub listed : (o : ℕ) → o < length g.objects.items → o < length places.of.items
  listed o inside =
      let rows = stands.at.table.objects in
      let long = length-map places.of.items (λ row. row.items) in
      omega (arith, inside, rows, long)

  row_there : (o r : ℕ) → o < length g.objects.items → r ≤ count → r < row_length places o
  row_there o r inside few =
      let width = stands.at.table.widths o [] (let rows = stands.at.table.objects in omega (arith, inside, rows)) in
      omega (arith, few, width)

  -- its row has the region in which it stands, or that of its pair
  pub overlay_row : (name : VarName) (r o : ℕ) → name ≡ slice_index_or names k name → name ≡ OverlayData r o → r < row_length places o
  overlay_row name r o at is =
      let inside = subst (IsKnownName g c count) is (known name at) in row_there o r inside.1.1 inside.1.0

  pub kept_row : (name : VarName) (pair o : ℕ) → name ≡ slice_index_or names k name → name ≡ KeptData pair o → 2 * pair - 1 < row_length places o
  kept_row name pair o at is =
      let inside = subst (IsKnownName g c count) is (known name at) in
      let few = inside.1.0 in
      row_there o (2 * pair - 1) inside.1.1 (omega (arith, few))

  same_number : (o : ℕ) → (o == o) ≡ true
  same_number o = grind (arith, nat_tests)

  pub static_item : (name : VarName) (o : ℕ) → name ≡ slice_index_or names k name → name ≡ StaticData o → ◌≡◌ {A = TakenItem} (record { name = name; place = place_at places o 0; bytes = (object_of g o).size; home = (object_of g o).home }) (item_of g c s)
  static_item name o at is =
      let inside = subst (IsKnownName g c count) is (known name at) in
      data_is g c s name (StaticData o) o (place_at places o 0) (name_is name at) is refl
      (place_is o 0 inside (omega arith) (subst (λ (n : VarName). puts n 0 o ≡ true) (sym is ∙ name_is name at) (same_number o)))

  pub overlay_item : (name : VarName) (r o : ℕ) → name ≡ slice_index_or names k name → name ≡ OverlayData r o → ◌≡◌ {A = TakenItem} (record { name = name; place = place_at places o r; bytes = (object_of g o).size; home = (object_of g o).home }) (item_of g c s)
  overlay_item name r o at is =
      let inside = subst (IsKnownName g c count) is (known name at) in
      data_is g c s name (OverlayData r o) o (place_at places o r) (name_is name at) is refl
      (place_is o r inside.1.1 inside.1.0 (subst (λ (n : VarName). puts n r o ≡ true) (sym is ∙ name_is name at) (both_same o r)))
    where
      both_same : (o r : ℕ) → (o == o) && (r == r) ≡ true
      both_same o r = grind (arith, nat_tests)

  pub kept_item : (name : VarName) (pair o : ℕ) → name ≡ slice_index_or names k name → name ≡ KeptData pair o → ◌≡◌ {A = TakenItem} (record { name = name; place = place_at places o (2 * pair - 1); bytes = (object_of g o).size; home = (object_of g o).home }) (item_of g c s)
  kept_item name pair o at is =
      let inside = subst (IsKnownName g c count) is (known name at) in
      let some = inside.0 in
      let few = inside.1.0 in
      data_is g c s name (KeptData pair o) o (place_at places o (2 * pair - 1)) (name_is name at) is refl
      (place_is o (2 * pair - 1) inside.1.1 (omega (arith, few)) (subst (λ (n : VarName). puts n (2 * pair - 1) o ≡ true) (sym is ∙ name_is name at) (of_pair o pair some)))
    where
      of_pair : (o pair : ℕ) → 1 ≤ pair → (o == o) && ((2 * pair - 1 + 1) / 2 == pair) ≡ true
      of_pair o pair some =
          let half : (2 * pair - 1 + 1) / 2 ≡ pair = omega (arith, some) in grind (arith, nat_tests, half)

  -- ---- code

  module _ (code : is_code s.name ≡ true) where
    of_code : IsOfCode slots k
    of_code = (within, code)

    many : length copies ≡ length (code_slots slots)
    many =
        let long = length-map copies place_in in
        let same = ap (λ (xs : List ℕ). length xs) (stands.begins ∙ stands.at.code) in
        omega (arith, long, same)

    pub copy_there : code_number slots k < length copies
    copy_there = let few = (code_numbers_so slots k of_code).0 in let same = many in omega (arith, few, same)

    copy_place : (x : PlacedCopy) → x ≡ slice_index_or copies (code_number slots k) x → x.at ≡ s.at
    copy_place x is =
        ap (λ (y : PlacedCopy). y.at) is
        ∙ (sym (get_or-map place_in copies (code_number slots k) x 0 copy_there)
        ∙ (ap (λ (xs : List ℕ). slice_index_or xs (code_number slots k) 0) (stands.begins ∙ stands.at.code)
        ∙ (code_numbers_so slots k of_code).1))

    copy_range : (x : PlacedCopy) (found : BlockRange) → x ≡ slice_index_or copies (code_number slots k) x → range_named s.name ≡ Some found → x.range ≡ found
    copy_range x found is named =
        ap (λ (y : PlacedCopy). y.range) is
        ∙ (sym (get_or-map range_in copies (code_number slots k) x no_range copy_there)
        ∙ (ap (λ (xs : List BlockRange). slice_index_or xs (code_number slots k) no_range) (stands.copied ∙ ap ranges_named stands.taken)
        ∙ range_at slots k no_range found within named))

    told_as : (x : PlacedCopy) (name own : VarName) (found : BlockRange) → x ≡ slice_index_or copies (code_number slots k) x → name ≡ s.name → name ≡ own → range_named own ≡ Some found
        → ◌≡◌ {A = TakenItem} (record { name = s.name; place = s.at; bytes = 4 * copy_words (is_site g) c.blocks.items found; home = start_at c found.first }) (item_by g c s own)
        → copy_item c name x ≡ item_of g c s
    told_as x name own found at same is range by =
        let there = copy_place x at in
        let blocks = copy_range x found at (subst (λ (n : VarName). range_named n ≡ Some found) (sym is ∙ same) range) in
        let bytes = subst (HasBytes g c) (sym at) (stands.whole (code_number slots k) x copy_there) ∙ ap (λ (r : BlockRange). 4 * copy_words (is_site g) c.blocks.items r) blocks in
        (λ i. record { name = same i; place = there i; bytes = bytes i; home = start_at c (blocks i).first })
        ∙ (by ∙ ap (item_by g c s) (sym is ∙ same))

  -- a copy is told as its range in its slot
  pub code_item : (x : PlacedCopy) (name : VarName) (n : ℕ) → n ≡ code_number slots k → x ≡ slice_index_or copies n x → name ≡ slice_index_or names k name → is_code name ≡ true → copy_item c name x ≡ item_of g c s
  code_item x name n number at named code = by_name name refl
    where
      here : x ≡ slice_index_or copies (code_number slots k) x
      here = at ∙ ap (λ (j : ℕ). slice_index_or copies j x) number

      of : is_code s.name ≡ true
      of = subst (λ (m : VarName). is_code m ≡ true) (name_is name named) code

      by_name : (own : VarName) → name ≡ own → copy_item c name x ≡ item_of g c s
      by_name (StaticData o) is = absurd (cc (code, is))
      by_name (StaticCode first last) is =
          told_as of x name (StaticCode first last) (record { first = first; last = last }) here (name_is name named) is refl refl
      by_name (OverlayData r o) is = absurd (cc (code, is))
      by_name (OverlayCode r first last) is =
          told_as of x name (OverlayCode r first last) (record { first = first; last = last }) here (name_is name named) is refl refl
      by_name (KeptData pair o) is = absurd (cc (code, is))

  pub code_there : (name : VarName) → name ≡ slice_index_or names k name → is_code name ≡ true → code_number slots k < length copies
  code_there name named code = copy_there (subst (λ (m : VarName). is_code m ≡ true) (name_is name named) code)

-- ---- all items

pub number_first : (slots : List Slot) → 0 ≡ code_number slots 0
number_first [] = refl
number_first (s ∷ ss) = refl

-- one item more
pub told_more : (g : Graph) (c : Code) (slots : List Slot) (k : ℕ) (old new : List TakenItem) → k < length slots → old ≡ items_told g c (take k slots) → new ≡ old ++ item_of g c (slot_at slots k) ∷ [] → new ≡ items_told g c (take (k + 1) slots)
told_more g c slots k old new below so_far grown =
    grown
    ∙ (ap (λ (xs : List TakenItem). xs ++ item_of g c (slot_at slots k) ∷ []) so_far
    ∙ (sym (map-append (item_of g c) (take k slots) (slot_at slots k ∷ []))
    ∙ ap (λ (ss : List Slot). map (item_of g c) ss) (sym (take_more slots k no_slot below))))

-- ---- what lines ask

name_kept : (g : Graph) (c : Code) (s : Slot) (own : VarName) → (item_by g c s own).name ≡ s.name
name_kept g c s (StaticData o) = refl
name_kept g c s (StaticCode first last) = refl
name_kept g c s (OverlayData r o) = refl
name_kept g c s (OverlayCode r first last) = refl
name_kept g c s (KeptData pair o) = refl

listed_name : (g : Graph) (c : Code) (most : ℕ) (name : VarName) → IsKnownName g c most name → IsListedObject g.objects.items (object_named name)
listed_name g c most (StaticData o) is = is
listed_name g c most (StaticCode first last) is = tt
listed_name g c most (OverlayData r o) is = is.1.1
listed_name g c most (OverlayCode r first last) is = tt
listed_name g c most (KeptData pair o) is = is.1.1

pair_name : (g : Graph) (c : Code) (most : ℕ) (name : VarName) → IsKnownName g c most name → IsPairName name
pair_name g c most (StaticData o) is = tt
pair_name g c most (StaticCode first last) is = tt
pair_name g c most (OverlayData r o) is = tt
pair_name g c most (OverlayCode r first last) is = tt
pair_name g c most (KeptData pair o) is = is.0

module _ (board : Board) (g : Graph) (c : Code) (t : RegionTable) (p : PlainProgramme) (choice : PlainChoice) (names : List VarName) (copies : List PlacedCopy) (places : Places) (stands : AreStanding board g c t p choice names copies places) where
  known_slot : All (λ s. IsKnownName g c (regions_on choice.on t) s.name) (chosen_slots board p choice)
  known_slot k d below =
      let slots = chosen_slots board p choice in
      let long = length-map slots name_of_slot in
      let there = subst (λ (xs : List VarName). All (IsKnownName g c (regions_on choice.on t)) xs) stands.taken stands.known in
      subst (IsKnownName g c (regions_on choice.on t)) (get_or-map name_of_slot slots k d d.name below) (there k d.name (omega (arith, below, long)))

  pub all_listed : All (IsListed g.objects.items) (items_told g c (chosen_slots board p choice))
  all_listed =
      All-map (IsListed g.objects.items) (item_of g c) (chosen_slots board p choice)
      (λ k d below.
      let s = slice_index_or (chosen_slots board p choice) k d in
      let known = known_slot k d below in
      let kept = sym (name_kept g c s s.name) in
      record {
        object = subst (λ (n : VarName). IsListedObject g.objects.items (object_named n)) kept (listed_name g c (regions_on choice.on t) s.name known);
        pair = subst IsPairName kept (pair_name g c (regions_on choice.on t) s.name known);
      })

  can_tell : (x : PlacedCopy) → IsCopied c g x.range → HasBytes g c x → CanTell c x
  can_tell x copied bytes =
      let range : IsRange c x.range = range_is c x.range copied.shape in
      let ordered = range.ordered in
      let below = range.below in
      let small : copy_words (is_site g) c.blocks.items x.range ≤ 1024 = copied.small in
      let same : 4 * length x.code.words.items ≡ 4 * copy_words (is_site g) c.blocks.items x.range = bytes in
      record { first = omega (arith, ordered, below); small = omega (arith, small, same) }

  pub all_told : All (CanTell c) copies
  all_told k d below = can_tell (slice_index_or copies k d) (stands.pieces k d below) (stands.whole k d below)

-- The programme that a run states, or several together, is one whose choices can be realised.
use Rattle.std.proofs.Common.{◌≡◌, ◌≢◌, ◌∙◌, ◌==◌, ℕ, zero, suc, ◌<◌, ◌≤◌, Bool, true, false, not, ◌&&◌, if◌then◌else◌, List, [], ◌∷◌, ◌++◌, length, map, slice_index_or, Option, Some, None, IsSomeAnd, nat_le, nat_lt, refl, sym, ap, subst, arith}
use Rattle.std.specs.List.{All, AllPairs}
use Rattle.std.proofs.lemmas.Bool.Decides.{nat_tests}
use Rattle.std.proofs.lemmas.List.{get_or_default, get_or-map, length-map, length-append, get_or_append_left}
use Rattle.std.proofs.lemmas.Bool.{and_parts}
use Rattle.list_checks.proofs.TestLemmas.{none_at}
use Rattle.board_config.specs.declared.board.Board.{Board}
use Rattle.object_graph.specs.declared.parts.Graph.{Graph}
use Rattle.code_blocks.specs.declared.parts.Code.{Code}
use Rattle.block_splitter.specs.declared.piece.Piece.{Piece}
use Rattle.block_splitter.specs.Forms.{holds_block}
use Rattle.block_splitter.specs.Pieces.{range_of, ArePieces}
use Rattle.region_former.specs.declared.table.RegionTable.{RegionTable}
use Rattle.dataflow.specs.Overlaid.{region_in, is_border}
use Rattle.profile_runner.specs.Transition.{Transition}
use Rattle.placement_programme.specs.Plain.{PlainVar, PlainChoice, PlainFullVar, PlainFullSide, PlainSide, PlainProgramme}
use Rattle.placement_programme.specs.Programme.{Fits, side_for, IsFeasible}
use Rattle.placement_programme.specs.Rows.{Layout, Candidate, static_data, static_code, overlay_data, overlay_code, kept_data, name_of, fixed_bytes, capacities, weights, on_weights, on_capacities, IsOfSide}
use Rattle.energy_model.specs.Energy.{Scene}
use Rattle.energy_model.specs.Scenes.{scene_of, layout_of}
use Rattle.placement_candidates.specs.Stated.{part_of, AreSomePieces, displaced_at}
use Rattle.placement_candidates.specs.Selected.{no_var, var_in, plain_kept, selected_side, has_overlay, selected_on, selected}
use Rattle.placement_candidates.proofs.ChoiceLemmas.{piece_range}
use Rattle.placement_candidates.proofs.SideLemmas.{number_at, kept, ns, kept_at_place, number_below, number_order}
use Rattle.placement_candidates.specs.Overlaid.{AreOverlaidObjects, is_of_region, displaced_below, overlay_layout, overlay_var, static_candidates, overlay_candidates, on_side, has_on_side, whole_full}
use Rattle.placement_candidates.specs.Whole.{whole_stated}
use Rattle.placement_candidates.proofs.CandidateLemmas.{static_sides, off_var, off_are}
use Rattle.placement_candidates.proofs.EachLemmas.{each_candidate}
use Rattle.placement_candidates.specs.Mixed.{WeightedRun, mixed_var, mixed_side, mixed_full, mixed_stated}
use Rattle.result_laws.specs.Choices.{border_words, side_layout, IsPartFor, IsOfPiece, IsCandidateFor, IsVarFor, IsSideFor, IsChoiceFor}
use Rattle.relinking.proofs.StatedNames.{AreTwoItems, statics_differ, candidates_differ}

-- all pieces are some pieces
pub some_of_all : (c : Code) (g : Graph) (pieces : List Piece) → ArePieces c g pieces → AreSomePieces c g pieces
some_of_all c g pieces are = record { ordered = are.ordered; each = are.each }

-- ---- a side

module _ (on : Bool) (board : Board) (g : Graph) (c : Code) (t : RegionTable) (pieces : List Piece) (make : Candidate → PlainFullVar) (cs : List Candidate) (names : (d : Candidate) → (make d).name ≡ name_of d) (weigh : (d : Candidate) → (make d).weights ≡ weights on (side_layout on board g c t) d) (sides : All (IsOfSide on) cs) (are : All (IsCandidateFor board g c t pieces) cs) (differ : AllPairs AreTwoItems cs) where
  abbrev made : List PlainFullVar
  made = map make cs

  inside : (k : ℕ) → k < length made → k < length cs
  inside k below = let count = length-map cs make in omega (arith, count, below)

  var_is : (k : ℕ) (d : Candidate) → k < length made → var_in made k ≡ make (slice_index_or cs k d)
  var_is k d below = get_or-map make cs k d no_var (inside k below)

  some : (ds : List Candidate) (k : ℕ) → k < length ds → Candidate
  some [] k below = absurd (omega (arith, below))
  some (d ∷ ds) k below = d

  kept_var : (k : ℕ) → k < length made → IsVarFor on board g c t pieces (plain_kept (var_in made k))
  kept_var k below =
      let d = some cs k (inside k below) in
      let one = slice_index_or cs k d in
      subst (λ (v : PlainFullVar). IsVarFor on board g c t pieces (plain_kept v)) (sym (var_is k d below))
      (record { candidate = one; name = names one; side = sides k d (inside k below); weights = weigh one; is = are k d (inside k below) })

  kept_differ : (m n : ℕ) → m < n → n < length made → (var_in made m).name ≢ (var_in made n).name
  kept_differ m n less below same =
      let d = some cs n (inside n below) in
      let first = ap (λ (v : PlainFullVar). v.name) (var_is m d (omega (arith, less, below))) ∙ names (slice_index_or cs m d) in
      let second = ap (λ (v : PlainFullVar). v.name) (var_is n d below) ∙ names (slice_index_or cs n d) in
      differ m n d less (inside n below) (sym first ∙ (same ∙ second))

  pub kept_vars : All (IsVarFor on board g c t pieces) (kept made)
  kept_vars i d below =
      subst (IsVarFor on board g c t pieces) (sym (kept_at_place made i d below)) (kept_var (number_at (ns made) i) (number_below made i below))

  pub kept_different : AllPairs (λ v w. v.name ≢ w.name) (kept made)
  kept_different i j d before below =
      subst (λ (v : PlainVar). v.name ≢ (slice_index_or (kept made) j d).name) (sym (kept_at_place made i d (omega (arith, before, below))))
      (subst (λ (v : PlainVar). (plain_kept (var_in made (number_at (ns made) i))).name ≢ v.name) (sym (kept_at_place made j d below))
      (kept_differ (number_at (ns made) i) (number_at (ns made) j) (number_order made i j before below) (number_below made j below)))

-- ---- a programme of the candidates

module _ (board : Board) (g : Graph) (c : Code) (t : RegionTable) (pieces : List Piece) (overlaid : List ℕ) (are : AreSomePieces c g pieces) (one_each : length t.of_block.items ≡ length c.blocks.items) (may : AreOverlaidObjects c g t overlaid) where
  abbrev w : Scene
  w = scene_of g c t board

  abbrev l : Layout
  l = overlay_layout g c t board

  abbrev statics : List Candidate
  statics = static_candidates w pieces

  abbrev items : List Candidate
  items = static_candidates w pieces ++ overlay_candidates w overlaid pieces

  -- ---- candidates

  part_is : (p : Piece) → IsPartFor g c t.border.items p (part_of w p)
  part_is p = record { first = refl; last = refl; copied = refl; plain = refl; border = refl }

  piece_listed : (j : ℕ) (d : Piece) → j < length pieces → (test : ℕ → Type 0) → ((b : ℕ) → holds_block b (range_of (slice_index_or pieces j d)) ≡ true → test b) → IsOfPiece g c t pieces (part_of w (slice_index_or pieces j d)) test
  piece_listed j d below test blocks =
      let p = slice_index_or pieces j d in
      record { piece = p; listed = (j, below, get_or_default pieces j p d below); part_is = part_is p; blocks = blocks }

  held_of : (regions : List ℕ) (r b : ℕ) (held : Bool) → held ≡ true → held && not (region_in regions b == r) ≡ false → region_in regions b ≡ r
  held_of regions r b held is none = grind (arith, nat_tests, is, none)

  in_region : (r j : ℕ) (d : Piece) → j < length pieces → is_of_region t.of_block.items r (slice_index_or pieces j d) ≡ true → (b : ℕ) → holds_block b (range_of (slice_index_or pieces j d)) ≡ true → region_in t.of_block.items b ≡ r
  in_region r j d below all b held =
      let p = slice_index_or pieces j d in
      let range = piece_range c g pieces j d are below in
      let last : b ≤ p.last = grind (arith, nat_tests, held) in
      let inside = range.below in
      let none = none_at (λ k. holds_block k (range_of p) && not (region_in t.of_block.items k == r)) (length t.of_block.items) b (omega (arith, last, inside, one_each)) (not_true _ all) in
      held_of t.of_block.items r b (holds_block b (range_of p)) held none
    where
      not_true : (x : Bool) → not x ≡ true → x ≡ false
      not_true false is = refl
      not_true true is = cc

  candidates : All (IsCandidateFor board g c t pieces) (statics ++ overlay_candidates w overlaid pieces)
  candidates =
      each_candidate (IsCandidateFor board g c t pieces) w overlaid pieces
      (record {
        object = λ k below. (below, refl);
        code = λ j d below. piece_listed j d below (λ b. Unit {0}) (λ b held. tt);
        region_data = λ r some few j d below. ((some, few), (((may.each j d below).moves, refl), may.each j d below));
        region_code = λ r some few j d below all. ((some, few), piece_listed j d below (λ b. region_in t.of_block.items b ≡ r) (in_region r j d below all));
        pair_data = λ pair some few j d below. (some, (few, (((may.each j d below).moves, refl), may.each j d below)));
      })

  static_listed : All (IsCandidateFor board g c t pieces) statics
  static_listed i d below = first (statics) (overlay_candidates w overlaid pieces) i d below candidates
    where
      first : (xs ys : List Candidate) (i : ℕ) (d : Candidate) → i < length xs → All (IsCandidateFor board g c t pieces) (xs ++ ys) → IsCandidateFor board g c t pieces (slice_index_or xs i d)
      first xs ys i d below all =
          let size = length-append xs ys in
          subst (IsCandidateFor board g c t pieces) (get_or_append_left xs ys d i below) (all i d (omega (arith, below, size)))

  -- ---- sides

  -- the variables of a side are made of the candidates, and weigh what these do
  record IsMadeSide (on : Bool) (cs : List Candidate) (side : PlainFullSide) : Type 0 where
    pub make : Candidate → PlainFullVar
    pub names : (d : Candidate) → (make d).name ≡ name_of d
    pub weigh : (d : Candidate) → (make d).weights ≡ weights on (side_layout on board g c t) d
    pub rows : side.rows ≡ capacities on (side_layout on board g c t)
    pub vars : side.vars ≡ map make cs

  off_weigh : (d : Candidate) → weights false l d ≡ weights false (side_layout false board g c t) d
  off_weigh (static_data d) = refl
  off_weigh (static_code p) = refl
  off_weigh (overlay_data r d) = refl
  off_weigh (overlay_code r p) = refl
  off_weigh (kept_data pair d) = refl

  displaced_are : (n : ℕ) → displaced_below w n ≡ border_words g c t.border.items n
  displaced_are zero = refl
  displaced_are (suc n) =
      ap (λ (ws : List ℕ). ws ++ (if is_border t.border.items n then displaced_at w n ∷ [] else [])) (displaced_are n)

  layout_is : l ≡ side_layout true board g c t
  layout_is = ap (λ (ws : List ℕ). record (layout_of g c t board) { displaced = ws }) (displaced_are (length c.blocks.items))

  on_weigh : (d : Candidate) → weights true l d ≡ weights true (side_layout true board g c t) d
  on_weigh d = ap (λ (k : Layout). on_weights k d) layout_is

  made_side : (on : Bool) (cs : List Candidate) (side : PlainFullSide) → IsMadeSide on cs side → All (IsOfSide on) cs → All (IsCandidateFor board g c t pieces) cs → AllPairs AreTwoItems cs → (on ≡ true → fixed_bytes (side_layout on board g c t) ≤ board.patch.size) → IsSideFor on board g c t pieces (selected_side side)
  made_side on cs side by sides listed differ room =
      record {
        rows = by.rows;
        vars = subst (λ (vs : List PlainFullVar). All (IsVarFor on board g c t pieces) (kept vs)) (sym by.vars)
            (kept_vars on board g c t pieces by.make cs by.names by.weigh sides listed differ);
        different = subst (λ (vs : List PlainFullVar). AllPairs (λ v x. v.name ≢ x.name) (kept vs)) (sym by.vars)
            (kept_different on board g c t pieces by.make cs by.names by.weigh sides listed differ);
        room = room;
      }

  off_is : (off : PlainFullSide) → IsMadeSide false statics off → IsSideFor false board g c t pieces (selected_side off)
  off_is off by =
      made_side false statics off by (static_sides w pieces) static_listed (statics_differ w overlaid pieces may.ascending are.ordered) (λ is. cc)

  on_is : (on : PlainFullSide) → IsMadeSide true items on → has_on_side w l overlaid pieces ≡ true → IsSideFor true board g c t pieces (selected_side on)
  on_is on by there =
      let room = (and_parts (nat_lt 0 t.count && nat_lt 0 (length (overlay_candidates w overlaid pieces))) (nat_le (fixed_bytes l) board.patch.size) there).1 in
      made_side true items on by (λ i d below. tt) candidates (candidates_differ w overlaid pieces may.ascending are.ordered)
      (λ is. subst (λ (k : Layout). fixed_bytes k ≤ board.patch.size) layout_is (fitting (fixed_bytes l) board.patch.size room))
    where
      fitting : (least size : ℕ) → nat_le least size ≡ true → least ≤ size
      fitting least size fits = grind (arith, nat_tests, fits)

  -- ---- choices

  abbrev HasSide : Bool → Option PlainSide → Type 0
  HasSide on side = IsSomeAnd side (IsSideFor on board g c t pieces)

  abbrev FitsSide : List ℕ → Option PlainSide → Type 0
  FitsSide take side = IsSomeAnd side (λ s. Fits s take)

  -- the programme of these sides, where there is the one with overlay
  abbrev selected_of : ℕ → PlainFullSide → PlainFullSide → PlainProgramme
  selected_of base off on =
      selected (record { base = base; off = off; on = if has_on_side w l overlaid pieces then Some on else None })

  where_worth : (on : PlainFullSide) (take : List ℕ) (worth : Bool) → IsMadeSide true items on → has_on_side w l overlaid pieces ≡ true → FitsSide take (if worth then Some (selected_side on) else None) → HasSide true (if worth then Some (selected_side on) else None)
  where_worth on take false by there fits = absurd fits
  where_worth on take true by there fits = on_is on by there

  where_there : (on : PlainFullSide) (take : List ℕ) (there : Bool) → IsMadeSide true items on → has_on_side w l overlaid pieces ≡ there → FitsSide take (selected_on (if there then Some on else None)) → HasSide true (selected_on (if there then Some on else None))
  where_there on take false by is fits = absurd fits
  where_there on take true by is fits = where_worth on take (has_overlay on.vars) by is fits

  side_of : (base : ℕ) (off on : PlainFullSide) (which : Bool) (take : List ℕ) → IsMadeSide false statics off → IsMadeSide true items on → FitsSide take (side_for (selected_of base off on) which) → HasSide which (side_for (selected_of base off on) which)
  side_of base off on false take off_made on_made fits = off_is off off_made
  side_of base off on true take off_made on_made fits = where_there on take (has_on_side w l overlaid pieces) on_made refl fits

  choice_of : (base : ℕ) (off on : PlainFullSide) (choice : PlainChoice) → IsMadeSide false statics off → IsMadeSide true items on → IsFeasible (selected_of base off on) choice → IsChoiceFor board g c t pieces (selected_of base off on) choice
  choice_of base off on choice off_made on_made feasible =
      record { side = side_of base off on choice.on choice.take off_made on_made feasible; feasible = feasible }

  -- ---- what a run states, and what several state together

  pub stated_choice : (moves : List Transition) (choice : PlainChoice) → IsFeasible (whole_stated w l overlaid pieces moves) choice → IsChoiceFor board g c t pieces (whole_stated w l overlaid pieces moves) choice
  stated_choice moves choice feasible =
      let whole = whole_full w l overlaid pieces moves in
      choice_of whole.base whole.off (on_side w l overlaid pieces moves) choice
      (record { make = off_var w l moves; names = λ d. refl; weigh = off_weigh; rows = refl; vars = off_are w l moves pieces })
      (record { make = overlay_var w l moves; names = λ d. refl; weigh = on_weigh; rows = ap on_capacities layout_is; vars = refl }) feasible

  pub mixed_choice : (runs : List WeightedRun) (choice : PlainChoice) → IsFeasible (mixed_stated w l overlaid pieces runs) choice → IsChoiceFor board g c t pieces (mixed_stated w l overlaid pieces runs) choice
  mixed_choice runs choice feasible =
      let mixed = mixed_full w l overlaid pieces runs in
      choice_of mixed.base mixed.off (mixed_side true w l items runs) choice
      (record { make = mixed_var false w l runs; names = λ d. refl; weigh = off_weigh; rows = refl; vars = refl })
      (record { make = mixed_var true w l runs; names = λ d. refl; weigh = on_weigh; rows = ap on_capacities layout_is; vars = refl }) feasible

-- What all taken variables put into the patch range is at most what they weigh there together.
use Rattle.std.proofs.Common.{◌≡◌, ◌∙◌, ℕ, suc, ◌+◌, ◌-◌, ◌*◌, ◌<◌, ◌≤◌, Bool, true, false, List, [], ◌∷◌, length, get_or, refl, sym, ap, subst, arith, if◌then◌else◌}
use Rattle.std.specs.List.{All, sum_by}
use Rattle.std.specs.Prelude.{Option, Some, None, IsSomeAnd}
use Rattle.std.proofs.lemmas.List.Elements.{All-contains, All-head, All-tail}
use Rattle.std.proofs.lemmas.List.Sums.{sum_by-cons}
use Rattle.board_config.specs.declared.board.Board.{Board}
use Rattle.object_graph.specs.declared.parts.Graph.{Graph}
use Rattle.cell_values.specs.Objects.{object_of, datum_of}
use Rattle.code_blocks.specs.declared.parts.Code.{Code}
use Rattle.region_former.specs.declared.table.RegionTable.{RegionTable}
use Rattle.block_splitter.specs.declared.piece.Piece.{Piece}
use Rattle.block_splitter.specs.Pieces.{IsPiece, ArePieces}
use Rattle.block_splitter.specs.Copies.{Patch}
use Rattle.placement_programme.specs.declared.variables.VarName.{VarName}
use Rattle.placement_programme.specs.Plain.{PlainVar, PlainSide}
use Rattle.placement_programme.specs.Programme.{weight_in, weight_at, load_in, Fits}
use Rattle.placement_programme.specs.Rows.{Layout, Datum, Part, Candidate, static_data, static_code, overlay_data, overlay_code, kept_data, name_of, IsOfSide, start_bytes, fixed_bytes, off_code_bytes, on_code_bytes}
use Rattle.placement_programme.proofs.AscendLemmas.{number_below}
use Rattle.placement_programme.proofs.RowLemmas.{pair_inside}
use Rattle.relocator.specs.declared.slots.Slot.{Slot}
use Rattle.relocator.specs.Slots.{is_code, lane_of, no_var, name_at, item_at, items_in, vars_for, slots_from, moved_on, code_slots}
use Rattle.relocator.specs.Laws.{slot_at}
use Rattle.relocator.proofs.WeightLemmas.{IsAmong}
use Rattle.relocator.proofs.LoadLemmas.{weighs}
use Rattle.result_laws.specs.ChosenJobs.{code_number}
use Rattle.result_laws.specs.Memories.{IsOfCode}
use Rattle.result_laws.specs.PlacedPieces.{PlacedPiece, piece_bytes}
use Rattle.result_laws.specs.Choices.{side_layout, IsOfPiece, IsCandidateFor, IsVarFor, IsSideFor}
use Rattle.result_laws.specs.ChosenPlacement.{no_piece, NamesRange, IsChosenPiece}
use Rattle.relink_core.specs.PlanLaws.{borders_on}
use Rattle.relink_core.specs.Counting.{all_jobs}
use Rattle.relink_core.proofs.JobCounts.{by_name, static_data_jobs, static_code_jobs, overlay_data_jobs, overlay_code_jobs, kept_data_jobs}
use Rattle.relink_core.proofs.Weights.{patch_row_on, patch_bytes, patch_weighs, fixed_on, patch_holds}
use Rattle.relink_core.proofs.PieceBytes.{jumps_of, saves_of, priced}

-- ---- pieces of names

-- pieces are those of the names of code among the taken variables, in order
pub data ArePiecesOf (vars : List PlainVar) (regions : List ℕ) : List ℕ → List PlacedPiece → Type 0 where
  NoneTaken : ArePiecesOf vars regions [] []
  NoCode : (k : ℕ) (take : List ℕ) (xs : List PlacedPiece) → is_code (name_at vars k) ≡ false → ArePiecesOf vars regions take xs → ArePiecesOf vars regions (k ∷ take) xs
  OfCode : (k : ℕ) (take : List ℕ) (x : PlacedPiece) (xs : List PlacedPiece) → is_code (name_at vars k) ≡ true → NamesRange regions (name_at vars k) x.range
      → ArePiecesOf vars regions take xs → ArePiecesOf vars regions (k ∷ take) (x ∷ xs)

abbrev slots_in : List PlainVar → (ℕ → ℕ) → List ℕ → List Slot
slots_in vars next take = slots_from next (items_in vars take)

abbrev Named : List ℕ → List Slot → List PlacedPiece → Type 0
Named regions slots xs = (k : ℕ) → IsOfCode slots k → NamesRange regions (slot_at slots k).name (get_or xs (code_number slots k) no_piece).range

-- the slots behind the first one, and the place of that
abbrev behind_first : List PlainVar → (ℕ → ℕ) → ℕ → List ℕ → List Slot
behind_first vars next k take = slots_in vars (moved_on next (item_at vars k)) take

more_code : (vars : List PlainVar) (next : ℕ → ℕ) (k : ℕ) (take : List ℕ) (j : ℕ) → IsOfCode (behind_first vars next k take) j → IsOfCode (slots_in vars next (k ∷ take)) (suc j)
more_code vars next k take j of = let below = of.0 in (omega (arith, below), of.1)

shorter : (b : Bool) (at : ℕ) (rest : List ℕ) (n : ℕ) → n ≡ length (if b then at ∷ rest else rest) → b ≡ false → n ≡ length rest
shorter b at rest n many is = many ∙ ap (λ (t : Bool). length (if t then at ∷ rest else rest)) is

longer : (b : Bool) (at : ℕ) (rest : List ℕ) (n : ℕ) → n ≡ length (if b then at ∷ rest else rest) → b ≡ true → n ≡ suc (length rest)
longer b at rest n many is = many ∙ ap (λ (t : Bool). length (if t then at ∷ rest else rest)) is

split_first : (vars : List PlainVar) (regions : List ℕ) (next : ℕ → ℕ) (k : ℕ) (take : List ℕ) (b : Bool) → is_code (name_at vars k) ≡ b → (xs : List PlacedPiece) → length xs ≡ length (code_slots (slots_in vars next (k ∷ take))) → Named regions (slots_in vars next (k ∷ take)) xs → ((ys : List PlacedPiece) → length ys ≡ length (code_slots (behind_first vars next k take)) → Named regions (behind_first vars next k take) ys → ArePiecesOf vars regions take ys) → ArePiecesOf vars regions (k ∷ take) xs
split_first vars regions next k take false is xs many named rest =
    let later = behind_first vars next k take in
    NoCode k take xs is
    (rest xs (shorter (is_code (name_at vars k)) (next (lane_of (name_at vars k))) (code_slots later) (length xs) many is)
    (λ j of.
    subst (λ (n : ℕ). NamesRange regions (slot_at later j).name (get_or xs n no_piece).range) (ap (λ (b : Bool). if b then suc (code_number later j) else code_number later j) is)
    (named (suc j) (more_code vars next k take j of))))
split_first vars regions next k take true is [] many named rest =
    let count = longer (is_code (name_at vars k)) (next (lane_of (name_at vars k))) (code_slots (behind_first vars next k take)) 0 many is in
    absurd (omega (arith, count))
split_first vars regions next k take true is (x ∷ xs) many named rest =
    let later = behind_first vars next k take in
    let count = longer (is_code (name_at vars k)) (next (lane_of (name_at vars k))) (code_slots later) (suc (length xs)) many is in
    OfCode k take x xs is (named 0 (omega arith, is))
    (rest xs (omega (arith, count))
    (λ j of.
    subst (λ (n : ℕ). NamesRange regions (slot_at later j).name (get_or (x ∷ xs) n no_piece).range) (ap (λ (b : Bool). if b then suc (code_number later j) else code_number later j) is)
    (named (suc j) (more_code vars next k take j of))))

-- so they are where each slot of code has its piece
pub matched : (vars : List PlainVar) (regions : List ℕ) (next : ℕ → ℕ) (take : List ℕ) (xs : List PlacedPiece) → length xs ≡ length (code_slots (slots_in vars next take)) → Named regions (slots_in vars next take) xs → ArePiecesOf vars regions take xs
matched vars regions next [] [] many named = NoneTaken
matched vars regions next [] (x ∷ xs) many named = absurd (omega (arith, many))
matched vars regions next (k ∷ take) xs many named =
    split_first vars regions next k take (is_code (name_at vars k)) refl xs many named (λ ys count each. matched vars regions (moved_on next (item_at vars k)) take ys count each)

-- ---- names of slots

pub names_summed : (vars : List PlainVar) (f : VarName → ℕ) (next : ℕ → ℕ) (take : List ℕ) → sum_by (by_name f) (slots_in vars next take) ≡ sum_by (λ k. f (name_at vars k)) take
names_summed vars f next [] = refl
names_summed vars f next (k ∷ take) =
    let one = sum_by-cons (by_name f) (record { name = name_at vars k; at = next (lane_of (name_at vars k)); span = (item_at vars k).span }) (behind_first vars next k take) in
    let other = sum_by-cons (λ j. f (name_at vars j)) k take in
    let rest = names_summed vars f (moved_on next (item_at vars k)) take in
    omega (arith, one, other, rest)

-- ---- one variable

module _ (g : Graph) (c : Code) (borders : List Bool) (regions : List ℕ) (sites : List Patch) (count : ℕ) where
  -- a name whose variable weighs so much in the patch range: its jobs, and where it is one of code its image and its jumps
  pub record FitsFor (name : VarName) (w : ℕ) : Type 0 where
    pub data_fits : is_code name ≡ false → 44 * all_jobs g count name ≤ w
    pub code_fits : is_code name ≡ true → (x : PlacedPiece) → NamesRange regions name x.range → IsChosenPiece c g regions sites x → 44 * all_jobs g count name + (piece_bytes x + jumps_of c x) ≤ w + saves_of g c borders x

  module _ (board : Board) (t : RegionTable) (pieces : List Piece) (are : ArePieces c g pieces) where
    back_bytes : (d : Datum) → d ≡ datum_of g d.number → (if d.writable then 44 else 0) ≡ 44 * (if (object_of g d.number).writable then 1 else 0)
    back_bytes d is =
        let same : d.writable ≡ (object_of g d.number).writable = ap (λ (x : Datum). x.writable) is in
        ap (λ (b : Bool). if b then 44 else 0) same ∙ by (object_of g d.number).writable
      where
        by : (b : Bool) → (if b then 44 else 0) ≡ 44 * (if b then 1 else 0)
        by true = refl
        by false = refl

    off_piece : (part : Part) (test : ℕ → Type 0) (x : PlacedPiece) → IsOfPiece g c t pieces part test → IsChosenPiece c g regions sites x → x.range ≡ record { first = part.first; last = part.last } → 44 + (piece_bytes x + jumps_of c x) ≤ off_code_bytes part
    off_piece part test x of chosen range =
        let is = priced g c t.border.items regions sites of.piece part x (All-contains (IsPiece c g) pieces of.piece are.each of.listed) of.part_is chosen range in
        let copied = is.copied in
        let jumps = is.jumps in
        omega (arith, copied, jumps)

    on_piece : (part : Part) (test : ℕ → Type 0) (x : PlacedPiece) → borders ≡ t.border.items → IsOfPiece g c t pieces part test → IsChosenPiece c g regions sites x → x.range ≡ record { first = part.first; last = part.last } → 44 + (piece_bytes x + jumps_of c x) ≤ on_code_bytes part + saves_of g c borders x
    on_piece part test x same of chosen range =
        let is = priced g c t.border.items regions sites of.piece part x (All-contains (IsPiece c g) pieces of.piece are.each of.listed) of.part_is chosen range in
        let copied = is.copied in
        let jumps = is.jumps in
        let saves = is.saves in
        let moved = ap (λ (bs : List Bool). saves_of g c bs x) same in
        omega (arith, copied, jumps, saves, moved)

    no_code : (name : VarName) → is_code name ≡ false → is_code name ≡ true → ⊥
    no_code name one other = absurd (cc (one, other))

    pub off_fits : (d : Candidate) → IsOfSide false d → IsCandidateFor board g c t pieces d → FitsFor (name_of d) (patch_bytes false d)
    off_fits (static_data d) side is = record {
      data_fits = λ inert. let jobs = static_data_jobs g count d.number in omega (arith, jobs);
      code_fits = λ code x named chosen. absurd (cc (code));
    }
    off_fits (static_code part) side is = record {
      data_fits = λ inert. absurd (cc (inert));
      code_fits = λ code x named chosen.
          let jobs = static_code_jobs g count part.first part.last in
          let fits = off_piece part (λ b. Unit {0}) x is chosen named in
          omega (arith, jobs, fits);
    }
    off_fits (overlay_data r d) side is = absurd side
    off_fits (overlay_code r part) side is = absurd side
    off_fits (kept_data pair d) side is = absurd side

    pub on_fits : (d : Candidate) → borders ≡ t.border.items → IsCandidateFor board g c t pieces d → FitsFor (name_of d) (patch_bytes true d)
    on_fits (static_data d) same is = record {
      data_fits = λ inert. let jobs = static_data_jobs g count d.number in omega (arith, jobs);
      code_fits = λ code x named chosen. absurd (cc (code));
    }
    on_fits (static_code part) same is = record {
      data_fits = λ inert. absurd (cc (inert));
      code_fits = λ code x named chosen.
          let jobs = static_code_jobs g count part.first part.last in
          let fits = on_piece part (λ b. Unit {0}) x same is chosen named in
          omega (arith, jobs, fits);
    }
    on_fits (overlay_data r d) same is = record {
      data_fits = λ inert.
          let jobs = overlay_data_jobs g count r d.number is.0.0 in
          let back = back_bytes d is.1.0.1 in
          omega (arith, jobs, back);
      code_fits = λ code x named chosen. absurd (cc (code));
    }
    on_fits (overlay_code r part) same is = record {
      data_fits = λ inert. absurd (cc (inert));
      code_fits = λ code x named chosen.
          let jobs = overlay_code_jobs g count r part.first part.last is.0.0 in
          let fits = on_piece part _ x same is.1 chosen named.0 in
          omega (arith, jobs, fits);
    }
    on_fits (kept_data pair d) same is = record {
      data_fits = λ inert.
          let jobs = kept_data_jobs g count pair d.number is.0 in
          let back = back_bytes d is.1.1.0.1 in
          omega (arith, jobs, back);
      code_fits = λ code x named chosen. absurd (cc (code));
    }

  -- ---- all of them

  abbrev pub jobs_at : List PlainVar → ℕ → ℕ
  jobs_at vars k = all_jobs g count (name_at vars k)

  pub vars_fit : (vars : List PlainVar) (row : ℕ) (take : List ℕ) (xs : List PlacedPiece) → ArePiecesOf vars regions take xs → All (λ k. FitsFor (name_at vars k) (weight_at vars row k)) take → All (IsChosenPiece c g regions sites) xs → 44 * sum_by (jobs_at vars) take + (sum_by piece_bytes xs + sum_by (jumps_of c) xs) ≤ load_in vars take row + sum_by (saves_of g c borders) xs
  vars_fit vars row take xs NoneTaken fits chosen = omega arith
  vars_fit vars row take xs (NoCode k ks ys inert rest) fits chosen =
      let here = (fits 0 k (omega arith)).data_fits inert in
      let later = vars_fit vars row ks ys rest (All-tail (λ j. FitsFor (name_at vars j) (weight_at vars row j)) k ks fits) chosen in
      let jobs = sum_by-cons (jobs_at vars) k ks in
      let load = sum_by-cons (weight_at vars row) k ks in
      omega (arith, here, later, jobs, load)
  vars_fit vars row take xs (OfCode k ks x ys code named rest) fits chosen =
      let here = (fits 0 k (omega arith)).code_fits code x named (All-head (IsChosenPiece c g regions sites) x ys chosen) in
      let later = vars_fit vars row ks ys rest (All-tail (λ j. FitsFor (name_at vars j) (weight_at vars row j)) k ks fits) (All-tail (IsChosenPiece c g regions sites) x ys chosen) in
      let jobs = sum_by-cons (jobs_at vars) k ks in
      let load = sum_by-cons (weight_at vars row) k ks in
      let bytes = sum_by-cons piece_bytes x ys in
      let jumps = sum_by-cons (jumps_of c) x ys in
      let saves = sum_by-cons (saves_of g c borders) x ys in
      omega (arith, here, later, jobs, load, bytes, jumps, saves)

-- ---- a side

candidate_among : (on : Bool) (board : Board) (g : Graph) (c : Code) (t : RegionTable) (pieces : List Piece) (d : Candidate) → IsOfSide on d → IsCandidateFor board g c t pieces d → IsAmong (side_layout on board g c t).regions (name_of d)
candidate_among false board g c t pieces (static_data d) side is = tt
candidate_among false board g c t pieces (static_code part) side is = tt
candidate_among false board g c t pieces (overlay_data r d) side is = absurd side
candidate_among false board g c t pieces (overlay_code r part) side is = absurd side
candidate_among false board g c t pieces (kept_data pair d) side is = absurd side
candidate_among true board g c t pieces (static_data d) side is = tt
candidate_among true board g c t pieces (static_code part) side is = tt
candidate_among true board g c t pieces (overlay_data r d) side is = is.0
candidate_among true board g c t pieces (overlay_code r part) side is = is.0
candidate_among true board g c t pieces (kept_data pair d) side is = (is.0, pair_inside board.twins t.count pair is.1.0)

module _ (on : Bool) (board : Board) (g : Graph) (c : Code) (t : RegionTable) (pieces : List Piece) (are : ArePieces c g pieces) (regions : List ℕ) (sites : List Patch) (count : ℕ) where
  abbrev l : Layout
  l = side_layout on board g c t

  candidate_fits : (s : Bool) (d : Candidate) → IsOfSide s d → IsCandidateFor board g c t pieces d → FitsFor g c (borders_on s t) regions sites count (name_of d) (patch_bytes s d)
  candidate_fits false d side is = off_fits g c [] regions sites count board t pieces are d side is
  candidate_fits true d side is = on_fits g c t.border.items regions sites count board t pieces are d refl is

  var_fits : (vars : List PlainVar) (k : ℕ) → IsVarFor on board g c t pieces (get_or vars k no_var) → FitsFor g c (borders_on on t) regions sites count (name_at vars k) (weight_at vars (patch_row_on on l) k)
  var_fits vars k is =
      let fits = candidate_fits on is.candidate is.side is.is in
      let weighed : weight_at vars (patch_row_on on l) k ≡ patch_bytes on is.candidate =
      weighs vars k (patch_row_on on l) ∙ (ap (λ (ws : List (ℕ × ℕ)). weight_in ws (patch_row_on on l)) is.weights
      ∙ patch_weighs on l is.candidate is.side (candidate_among on board g c t pieces is.candidate is.side is.is)) in
      subst (λ (w : ℕ). FitsFor g c (borders_on on t) regions sites count (name_at vars k) w) (sym weighed)
      (subst (λ (n : VarName). FitsFor g c (borders_on on t) regions sites count n (patch_bytes on is.candidate)) (sym is.name) fits)

  abbrev Room : List PlainVar → List ℕ → List PlacedPiece → Type 0
  Room vars take xs =
      fixed_on on l + 44 * sum_by (jobs_at g c (borders_on on t) regions sites count vars) take + (sum_by piece_bytes xs + sum_by (jumps_of c) xs)
      ≤ board.patch.size + sum_by (saves_of g c (borders_on on t)) xs

  fixed_least : (s : Bool) → (s ≡ true → fixed_bytes (side_layout s board g c t) ≤ board.patch.size) → start_bytes (side_layout s board g c t) ≤ board.patch.size → fixed_on s (side_layout s board g c t) ≤ board.patch.size
  fixed_least false room least = least
  fixed_least true room least = room refl

  patch_size : (s : Bool) → (side_layout s board g c t).patch ≡ board.patch.size
  patch_size false = refl
  patch_size true = refl

  pub side_room : (take : List ℕ) (xs : List PlacedPiece) (side : PlainSide) → start_bytes l ≤ board.patch.size → IsSideFor on board g c t pieces side → Fits side take → ArePiecesOf side.vars regions take xs → All (IsChosenPiece c g regions sites) xs → Room side.vars take xs
  side_room take xs side least is fits of chosen =
      let row = patch_row_on on l in
      let holds = patch_holds on l in
      let long : row < length side.rows = subst (λ (cs : List ℕ). row < length cs) (sym is.rows) holds.0 in
      let most : get_or side.rows row 0 ≡ l.patch - fixed_on on l = ap (λ (cs : List ℕ). get_or cs row 0) is.rows ∙ holds.1 in
      let load = fits.rows row long in
      let fixed = fixed_least on is.room least in
      let size = patch_size on in
      let each = vars_fit g c (borders_on on t) regions sites count side.vars row take xs of
      (λ k d below. var_fits side.vars (get_or take k d) (is.vars (get_or take k d) no_var (number_below 0 (length side.vars) take k d fits.numbers below))) chosen in
      omega (arith, most, load, fixed, size, each)

  pub choice_room : (take : List ℕ) (xs : List PlacedPiece) (s : Option PlainSide) → start_bytes l ≤ board.patch.size → IsSomeAnd s (IsSideFor on board g c t pieces) → IsSomeAnd s (λ side. Fits side take) → ArePiecesOf (vars_for s) regions take xs → All (IsChosenPiece c g regions sites) xs → Room (vars_for s) take xs
  choice_room take xs None least is fits of chosen = absurd is
  choice_room take xs (Some side) least is fits of chosen = side_room take xs side least is fits of chosen

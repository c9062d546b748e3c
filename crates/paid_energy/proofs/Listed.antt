-- The pieces of which a choice copies blocks, and their entries.
use Rattle.std.proofs.Common.{◌≡◌, ◌∙◌, ◌⊎◌, inl, inr, ℕ, zero, suc, ◌+◌, ◌<◌, ◌==◌, Bool, true, false, ◌&&◌, if◌then◌else◌, List, [], ◌∷◌, map, drop, length, get_or, Option, Some, None, IsSomeAnd, IfSome, refl, sym, ap, subst, arith}
use Rattle.std.specs.List.{All, list_any}
use Rattle.std.specs.List.Sorted.{IsStrictlyIncreasing}
use Rattle.std.proofs.lemmas.Bool.Decides.{nat_tests}
use Rattle.std.proofs.lemmas.List.Folds.{list_any_at}
use Rattle.list_checks.specs.Sorted.{collected}
use Rattle.list_checks.specs.Tests.{any_below}
use Rattle.list_checks.proofs.TestLemmas.{both, same_tests, any_at, any_found}
use Rattle.list_checks.proofs.SortedLemmas.{any_collected}
use Rattle.board_config.specs.declared.board.Board.{Board}
use Rattle.object_graph.specs.declared.parts.Graph.{Graph}
use Rattle.code_blocks.specs.Early.{has}
use Rattle.code_blocks.specs.declared.parts.Code.{Code}
use Rattle.region_former.specs.declared.table.RegionTable.{RegionTable}
use Rattle.block_splitter.specs.declared.block_range.BlockRange.{BlockRange}
use Rattle.block_splitter.specs.declared.piece.Piece.{Piece}
use Rattle.block_splitter.specs.Forms.{holds_block}
use Rattle.block_splitter.specs.Pieces.{is_entry, range_of, is_range_of, IsPiece, ArePieces}
use Rattle.placement_programme.specs.Bounds.{AscendWithin}
use Rattle.placement_programme.specs.Plain.{PlainVar, PlainSide, PlainProgramme, PlainChoice}
use Rattle.placement_programme.specs.Programme.{Fits, side_for}
use Rattle.placement_programme.specs.declared.variables.VarName.{VarName}
use Rattle.placement_programme.specs.Rows.{Part, Candidate, static_data, static_code, overlay_data, overlay_code, kept_data, name_of}
use Rattle.energy_model.specs.Energy.{piece_in, covering, piece_of}
use Rattle.placement_candidates.specs.Adding.{no_kept, kept_name}
use Rattle.placement_candidates.specs.Whole.{names_of, taken_of as names_taken}
use Rattle.result_laws.specs.Choices.{IsOfPiece, IsCandidateFor, IsVarFor, IsSideFor, IsChoiceFor}
use Rattle.relink_core.proofs.BlockOrder.{collected_are}
use Rattle.paid_energy.specs.Inward.{is_within, IsListed, ArePiecesOf, AreByBlock}

-- ---- entries

pub entries_ascend : (test : ℕ → Bool) (n : ℕ) → IsStrictlyIncreasing (collected test (λ b. b) n)
entries_ascend test n k below = (collected_are test n).rise k (k + 1) 0 (omega arith) (omega (arith, below))

has_collected : (test : ℕ → Bool) (n b : ℕ) → b < n → has (collected test (λ b. b) n) b ≡ test b
has_collected test n b below =
    any_collected test (λ k. k) (λ x. b == x) n
    ∙ same_tests (any_below (λ i. test i && (b == i)) n) (test b)
    (λ some. let (k, less, is) = any_found (λ i. test i && (b == i)) n some in
    let parts = both (test k) (b == k) is in
    let same : b ≡ k = grind (arith, nat_tests, parts.1) in
    rw same parts.0)
    (λ passes. let here : (b == b) ≡ true = grind (arith, nat_tests) in
    any_at (λ i. test i && (b == i)) n b below (rw (passes, here) refl))

-- a piece tells by which of its blocks control may enter
pub tells_entry : (c : Code) (g : Graph) (p : Piece) (b : ℕ) → IsPiece c g p → b < length c.blocks.items → holds_block b (range_of p) ≡ true → has p.entries.items b ≡ is_entry c (range_of p) b
tells_entry c g p b piece below held =
    ap (λ entries. has entries b) piece.entries
    ∙ has_collected (λ k. holds_block k (range_of p) && is_entry c (range_of p) k) (length c.blocks.items) b below
    ∙ ap (λ t. t && is_entry c (range_of p) b) held

own_range : (p : Piece) → is_range_of (range_of p) p ≡ true
own_range p = grind (arith, nat_tests)

-- the search for a piece finds one that is listed
pub any_of : (pieces : List Piece) (range : BlockRange) → IsListed pieces range → list_any (is_range_of range) pieces ≡ true
any_of pieces range (piece, (listed, same)) =
    let here : range_of (get_or pieces listed.0 piece) ≡ range = ap range_of listed.2 ∙ same in
    list_any_at (is_range_of range) pieces listed.0 piece listed.1 (subst (λ (r : BlockRange). is_range_of r (get_or pieces listed.0 piece) ≡ true) here (own_range (get_or pieces listed.0 piece)))

-- ---- the piece of a block

abbrev after : List PlainVar → List ℕ → ℕ → Option BlockRange
after vars take b = piece_of (map (kept_name vars) take) b

-- one variable more before those behind
pub one_before : (vars : List PlainVar) (take : List ℕ) (k d b : ℕ) → k < length take
    → after vars (drop k take) b ≡ covering b (piece_in (kept_name vars (get_or take k d))) (after vars (drop (suc k) take) b)
one_before vars [] k d b below = absurd (omega (arith, below))
one_before vars (n ∷ ns) zero d b below = refl
one_before vars (n ∷ ns) (suc k) d b below = one_before vars ns k d b (omega (arith, below))

pub none_left : (vars : List PlainVar) (take : List ℕ) (b : ℕ) → after vars (drop (length take) take) b ≡ None
none_left vars [] b = refl
none_left vars (n ∷ ns) b = none_left vars ns b

-- ---- it is one of the pieces of the program

abbrev range_or : BlockRange → Option BlockRange → BlockRange
range_or range None = range
range_or range (Some found) = found

one_range : (range other : BlockRange) → Some range ≡ Some other → range ≡ other
one_range range other same = ap (range_or range) same

absurd_none : {A : Type 0} (x : A) → None ≡ Some x → ⊥
absurd_none x is = cc (is)

module _ (board : Board) (g : Graph) (c : Code) (t : RegionTable) (pieces : List Piece) where
  part_listed : (part : Part) (test : ℕ → Type 0) (range : BlockRange) → IsOfPiece g c t pieces part test → ◌≡◌ {A = BlockRange} (record { first = part.first; last = part.last }) range → IsListed pieces range
  part_listed part test range of same =
      let own : range_of of.piece ≡ record { first = part.first; last = part.last } = λ i. record { first = sym of.part_is.first i; last = sym of.part_is.last i } in
      (of.piece, (of.listed, own ∙ same))

  candidate_listed : (d : Candidate) (range : BlockRange) → IsCandidateFor board g c t pieces d → piece_in (name_of d) ≡ Some range → IsListed pieces range
  candidate_listed (static_data d) range is found = absurd (absurd_none range found)
  candidate_listed (static_code part) range is found = part_listed part (λ b. Unit {0}) range is (one_range (record { first = part.first; last = part.last }) range found)
  candidate_listed (overlay_data r d) range is found = absurd (absurd_none range found)
  candidate_listed (overlay_code r part) range is found = part_listed part _ range is.1 (one_range (record { first = part.first; last = part.last }) range found)
  candidate_listed (kept_data pair d) range is found = absurd (absurd_none range found)

  covered : (b : ℕ) (own rest : Option BlockRange) (range : BlockRange) → covering b own rest ≡ Some range → (own ≡ Some range) ⊎ (rest ≡ Some range)
  covered b None rest range found = inr found
  covered b (Some piece) rest range found = by (holds_block b piece) found
    where
      by : (held : Bool) → (if held then Some piece else rest) ≡ Some range → (Some piece ≡ Some range) ⊎ (rest ≡ Some range)
      by true is = inl is
      by false is = inr is

  side_listed : (on : Bool) (vars : List PlainVar) (low : ℕ) (take : List ℕ) (b : ℕ) (range : BlockRange) → All (IsVarFor on board g c t pieces) vars → AscendWithin low (length vars) take → after vars take b ≡ Some range → IsListed pieces range
  side_listed on vars low [] b range all numbers found = absurd (absurd_none range found)
  side_listed on vars low (n ∷ ns) b range all numbers found =
      elim (covered b (piece_in (kept_name vars n)) (after vars ns b) range found) [
        | inl own ↦
            let is = all n no_kept numbers.1 in
            candidate_listed is.candidate range is.is (ap piece_in (sym is.name) ∙ own)
        | inr rest ↦ side_listed on vars (suc n) ns b range all numbers.2 rest
      ]

  listed_on : (on : Bool) (side : Option PlainSide) (take : List ℕ) (b : ℕ) (range : BlockRange) → IsSomeAnd side (IsSideFor on board g c t pieces) → IsSomeAnd side (λ s. Fits s take) → piece_of (names_of side take) b ≡ Some range → IsListed pieces range
  listed_on on None take b range is fits found = absurd is
  listed_on on (Some side) take b range is fits found = side_listed on side.vars 0 take b range is.vars fits.numbers found

-- what a choice copies are pieces
pub are_pieces : (board : Board) (g : Graph) (c : Code) (t : RegionTable) (pieces : List Piece) (p : PlainProgramme) (choice : PlainChoice)
    → IsChoiceFor board g c t pieces p choice → ArePiecesOf pieces (names_taken p choice).names
are_pieces board g c t pieces p choice is b range found =
    listed_on board g c t pieces choice.on (side_for p choice.on) choice.take b range is.side is.feasible found

-- the blocks among which block `b` is copied are those of a piece, if there are some
pub some_listed : (pieces : List Piece) (names : List VarName) (b : ℕ) (found : Option BlockRange) → ArePiecesOf pieces names → found ≡ piece_of names b → IfSome found (IsListed pieces)
some_listed pieces names b None are same = tt
some_listed pieces names b (Some range) are same = are b range (sym same)

pub same_table : (m n : ℕ) (names : List VarName) (xs ys : List (Option BlockRange)) → AreByBlock m names xs → m ≡ n → ys ≡ xs → AreByBlock n names ys
same_table m n names xs ys are count same = subst (λ k. AreByBlock k names ys) count (subst (AreByBlock m names) (sym same) are)

-- whether a block lies inside what is copied with another, as the code tells it
pub within_taken : (c : Code) (g : Graph) (had pieces : List Piece) (here named : Option BlockRange) (b : ℕ) (told : Bool) → ((c : Code) (g : Graph) → ArePieces c g had → b < length c.blocks.items → told ≡ is_within c here b) → had ≡ pieces → ArePieces c g pieces → b < length c.blocks.items → here ≡ named → told ≡ is_within c named b
within_taken c g had pieces here named b told tells had_is are below here_is =
    tells c g (subst (ArePieces c g) (sym had_is) are) below ∙ ap (λ (o : Option BlockRange). is_within c o b) here_is

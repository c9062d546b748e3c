-- The variable of an item is that of its candidate.
use Rattle.std.proofs.Common.{◌≡◌, ◌∙◌, ℕ, ℤ, List, [], ◌∷◌, ◌++◌, map, refl, sym, ap, subst, take, length, slice_index_or, ◌+◌, ◌<◌, arith, if◌then◌else◌, Bool, true, false, ◌≤◌, ◌==◌}
use Rattle.std.specs.List.{All, filter}
use Rattle.std.proofs.lemmas.List.Elements.{filter-append}
use Rattle.std.proofs.lemmas.List.{map-append, append_assoc, append-nil, take_more, get_or-map}
use Rattle.placement_programme.specs.Plain.{PlainFullVar}
use Rattle.placement_candidates.specs.FullVars.{plain_weights, plain_full_var}
use Rattle.placement_candidates.specs.declared.variables.FullVar.{FullVar}
use Rattle.placement_programme.specs.declared.variables.VarName.{VarName}
use Rattle.placement_programme.specs.Rows.{Candidate, static_data, static_code, overlay_data, overlay_code, kept_data, on_weights}
use Rattle.placement_candidates.specs.declared.measured.Measured.{Measured}
use Rattle.placement_candidates.specs.declared.overlay_rows.RowItem.{RowItem}
use Rattle.placement_candidates.specs.declared.overlay_rows.OverlayRows.{OverlayRows}
use Rattle.placement_candidates.specs.OverlayRows.{rows_layout, weights_of, IsItem, IsCandidate}
use Rattle.placement_candidates.specs.OverlayCounted.{layout_in, rows_in, gain_in, on_var, piece_region, CanWeigh, CanWeighPiece}
use Rattle.placement_candidates.specs.Overlaid.{is_of_region}
use Rattle.block_splitter.specs.declared.piece.Piece.{Piece}
use Rattle.placement_candidates.proofs.PieceRegionLemmas.{region_test}

-- weights depend on the rows alone
weights_there : (m : Measured) (candidate : Candidate) → on_weights (rows_layout (rows_in m)) candidate ≡ on_weights (layout_in m) candidate
weights_there m (static_data o) = refl
weights_there m (static_code p) = refl
weights_there m (overlay_data r o) = refl
weights_there m (overlay_code r p) = refl
weights_there m (kept_data pair o) = refl

var_is : (m : Measured) (rows : OverlayRows) (item : RowItem) (gain : ℤ) (weights : List (ℕ × ℕ)) (candidate : Candidate) → rows ≡ rows_in m → IsItem rows item candidate → gain ≡ gain_in m candidate → weights ≡ weights_of rows item → ◌≡◌ {A = PlainFullVar} (record { name = item.name; gain = gain; weights = weights }) (on_var m candidate)
var_is m rows item gain weights candidate same is saves weighs =
    let all = weighs ∙ is.weights ∙ ap (λ (r : OverlayRows). on_weights (rows_layout r) candidate) same ∙ weights_there m candidate in
    λ i. record { name = is.name i; gain = saves i; weights = all i }

-- it is pushed
pub pushed : (A : Type 0) (m : Measured) (rows : OverlayRows) (item : RowItem) (var : FullVar) (Is : OverlayRows → A → Type 0) (candidate : A → Candidate) (a : A) (old new : List FullVar) → rows ≡ rows_in m → IsCandidate rows item (Is rows) candidate → Is (rows_in m) a → var.name ≡ item.name → var.gain ≡ gain_in m (candidate a) → plain_weights var.weights ≡ weights_of rows item → new ≡ old ++ var ∷ [] → map plain_full_var new ≡ map plain_full_var old ++ on_var m (candidate a) ∷ []
pushed A m rows item var Is candidate a old new same can is named saves weighs grown =
    let item_is = can.is a (subst (λ (r : OverlayRows). Is r a) (sym same) is) in
    let var_there = var_is m rows item var.gain (plain_weights var.weights) (candidate a) same item_is saves weighs in
    ap (map plain_full_var) grown
    ∙ map-append plain_full_var old (var ∷ [])
    ∙ ap (λ (name : VarName). map plain_full_var old ++ (record { name = name; gain = var.gain; weights = plain_weights var.weights }) ∷ []) named
    ∙ ap (λ (v : PlainFullVar). map plain_full_var old ++ v ∷ []) var_there

-- variables of some candidates more
pub vars_more : (f : Candidate → PlainFullVar) (first old new : List PlainFullVar) (done chunk next : List Candidate) → new ≡ old ++ map f chunk → old ≡ first ++ map f done → done ++ chunk ≡ next → new ≡ first ++ map f next
vars_more f first old new done chunk next grown so_far is =
    grown
    ∙ ap (λ (vs : List PlainFullVar). vs ++ map f chunk) so_far
    ∙ append_assoc first (map f done) (map f chunk)
    ∙ ap (λ (vs : List PlainFullVar). first ++ vs) (sym (map-append f done chunk) ∙ ap (λ (cs : List Candidate). map f cs) is)

-- one element more
pub mapped_more : (A : Type 0) (f : A → Candidate) (xs : List A) (k : ℕ) (d : A) → k < length xs → map f (take k xs) ++ f (slice_index_or xs k d) ∷ [] ≡ map f (take (k + 1) xs)
mapped_more A f xs k d below =
    sym (map-append f (take k xs) (slice_index_or xs k d ∷ []))
    ∙ ap (λ (ys : List A). map f ys) (sym (take_more xs k d below))

-- one element more, of those that pass a test
filtered : (A : Type 0) (f : A → Candidate) (test : A → Bool) (xs : List A) (k : ℕ) (d : A) → k < length xs → map f (filter test (take k xs)) ++ map f (filter test (slice_index_or xs k d ∷ [])) ≡ map f (filter test (take (k + 1) xs))
filtered A f test xs k d below =
    sym (map-append f (filter test (take k xs)) (filter test (slice_index_or xs k d ∷ [])))
    ∙ ap (λ (ys : List A). map f ys) (sym (filter-append test (take k xs) (slice_index_or xs k d ∷ [])))
    ∙ ap (λ (ys : List A). map f (filter test ys)) (sym (take_more xs k d below))

alone : (A : Type 0) (f : A → Candidate) (test : A → Bool) (x : A) (passes : Bool) → test x ≡ passes → map f (filter test (x ∷ [])) ≡ (if passes then f x ∷ [] else [])
alone A f test x true is = rw is refl
alone A f test x false is = rw is refl

pub filtered_more : (A : Type 0) (f : A → Candidate) (test : A → Bool) (xs : List A) (k : ℕ) (d : A) → k < length xs → test (slice_index_or xs k d) ≡ true → map f (filter test (take k xs)) ++ f (slice_index_or xs k d) ∷ [] ≡ map f (filter test (take (k + 1) xs))
filtered_more A f test xs k d below passes =
    ap (λ (cs : List Candidate). map f (filter test (take k xs)) ++ cs) (sym (alone A f test (slice_index_or xs k d) true passes)) ∙ filtered A f test xs k d below

pub filtered_same : (A : Type 0) (f : A → Candidate) (test : A → Bool) (xs : List A) (k : ℕ) (d : A) → k < length xs → test (slice_index_or xs k d) ≡ false → map f (filter test (take k xs)) ≡ map f (filter test (take (k + 1) xs))
filtered_same A f test xs k d below fails =
    sym (append-nil (map f (filter test (take k xs))))
    ∙ ap (λ (cs : List Candidate). map f (filter test (take k xs)) ++ cs) (sym (alone A f test (slice_index_or xs k d) false fails))
    ∙ filtered A f test xs k d below

pub piece_there : (ps : List Piece) (k : ℕ) → k < length ps → Piece
piece_there [] k below = absurd (omega (arith, below))
piece_there (p ∷ ps) k below = p

-- a piece is tested by the table of regions
pub piece_tested : (m : Measured) (r : ℕ) (table : List ℕ) (k : ℕ) (d : Piece) → CanWeigh m → All (CanWeighPiece m) m.pieces.now → 1 ≤ r → k < length m.pieces.now → table ≡ map (piece_region m.regions.now.of_block.items) m.pieces.now → is_of_region m.regions.now.of_block.items r (slice_index_or m.pieces.now k d) ≡ (slice_index_or table k 0 == r)
piece_tested m r table k d can pieces some below is =
    let regions = m.regions.now.of_block.items in
    let p = slice_index_or m.pieces.now k d in
    let piece = pieces k d below in
    let last = piece.below in
    let same = can.regions in
    let here = ap (λ (xs : List ℕ). slice_index_or xs k 0) is ∙ get_or-map (piece_region regions) m.pieces.now k d 0 below in
    region_test regions r p some piece.ordered (omega (arith, last, same))
    ∙ ap (λ n. n == r) (sym here)

-- none more
pub no_vars_more : (f : Candidate → PlainFullVar) (first old : List PlainFullVar) (done next : List Candidate) → old ≡ first ++ map f done → done ≡ next → old ≡ first ++ map f next
no_vars_more f first old done next so_far is = so_far ∙ ap (λ (cs : List Candidate). first ++ map f cs) is

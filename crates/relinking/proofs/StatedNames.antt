-- The items that a run states are different ones.
use Rattle.std.proofs.Common.{◌≡◌, ◌≢◌, ◌∙◌, inl, inr, ℕ, zero, suc, ◌<◌, ◌≤◌, List, [], ◌∷◌, ◌++◌, length, map, slice_index_or, refl, sym, ap, arith}
use Rattle.std.specs.List.{All, AllPairs, filter}
use Rattle.std.specs.List.Sorted.{IsStrictlyIncreasing}
use Rattle.std.proofs.lemmas.List.Elements.{All-nil, All-cons, All-append, All-map}
use Rattle.std.proofs.lemmas.List.Kept.{AllPairs-filter, AllPairs-from_increasing}
use Rattle.cell_values.specs.Objects.{datum_of}
use Rattle.block_splitter.specs.declared.piece.Piece.{Piece}
use Rattle.block_splitter.specs.Pieces.{range_of, ComesBefore}
use Rattle.placement_programme.specs.declared.variables.VarName.{VarName}
use Rattle.placement_programme.specs.declared.variables.VarName.TheVariants.{StaticData, StaticCode, OverlayData, OverlayCode, KeptData}
use Rattle.placement_programme.specs.Rows.{Candidate, static_data, static_code, overlay_data, overlay_code, kept_data, name_of, pairs_of}
use Rattle.energy_model.specs.Energy.{Scene}
use Rattle.placement_candidates.specs.Stated.{part_of}
use Rattle.placement_candidates.specs.Overlaid.{is_of_region, static_objects, static_pieces, objects_in, pieces_in, objects_of_pair, overlaid_objects, overlaid_pieces, kept_objects, static_candidates, overlay_candidates}
use Rattle.relink_core.proofs.BlockOrder.{pairs_append}

-- ---- what tells names apart: the kind of item, its region or pair, and its object or blocks

abbrev kind : VarName → ℕ
kind (StaticData o) = 0
kind (StaticCode first last) = 1
kind (OverlayData r o) = 2
kind (OverlayCode r first last) = 3
kind (KeptData pair o) = 4

abbrev level : VarName → ℕ
level (StaticData o) = 0
level (StaticCode first last) = 0
level (OverlayData r o) = r
level (OverlayCode r first last) = r
level (KeptData pair o) = pair

abbrev first_of : VarName → ℕ
first_of (StaticData o) = o
first_of (StaticCode first last) = first
first_of (OverlayData r o) = o
first_of (OverlayCode r first last) = first
first_of (KeptData pair o) = o

abbrev last_of : VarName → ℕ
last_of (StaticData o) = o
last_of (StaticCode first last) = last
last_of (OverlayData r o) = o
last_of (OverlayCode r first last) = last
last_of (KeptData pair o) = o

told_apart : (tell : VarName → ℕ) (a b : VarName) → (tell a ≡ tell b → ⊥) → a ≢ b
told_apart tell a b differ same = differ (ap tell same)

-- two candidates are of different names
abbrev pub AreTwoItems : Candidate → Candidate → Type 0
AreTwoItems a b = name_of a ≢ name_of b

-- ---- one list behind another

joined : (P Q : Candidate → Type 0) (xs ys : List Candidate) → AllPairs AreTwoItems xs → AllPairs AreTwoItems ys → All P xs → All Q ys → ((a b : Candidate) → P a → Q b → AreTwoItems a b) → AllPairs AreTwoItems (xs ++ ys)
joined P Q xs ys first second all every differ =
    pairs_append AreTwoItems xs ys first second
    (λ i j d within below. differ (slice_index_or xs i d) (slice_index_or ys j d) (all i d within) (every j d below))

no_pairs : AllPairs AreTwoItems []
no_pairs i j d less below = absurd (omega (arith, below))

one_pair : (c : Candidate) → AllPairs AreTwoItems (c ∷ [])
one_pair c i j d less below = absurd (omega (arith, less, below))

pairs_mapped : {X : Type 0} (R : X → X → Type 0) (f : X → Candidate) (xs : List X) → AllPairs R xs → ((x y : X) → R x y → AreTwoItems (f x) (f y)) → AllPairs AreTwoItems (map f xs)
pairs_mapped R f [] pairs differ = no_pairs
pairs_mapped R f (x ∷ xs) pairs differ =
    joined (λ c. c ≡ f x) (λ c. AreTwoItems (f x) c) (f x ∷ []) (map f xs) (one_pair (f x))
    (pairs_mapped R f xs (λ i j d less below. pairs (suc i) (suc j) d (omega (arith, less)) (omega (arith, below))) differ)
    (All-cons (λ c. c ≡ f x) (f x) [] refl (All-nil (λ c. c ≡ f x)))
    (All-map (λ c. AreTwoItems (f x) c) f xs (λ k d below. differ x (slice_index_or xs k d) (pairs 0 (suc k) d (omega arith) (omega (arith, below)))))
    (λ a b is apart same. apart (ap name_of (sym is) ∙ same))

-- ---- objects, and pieces

rising : (f : ℕ → Candidate) (xs : List ℕ) → IsStrictlyIncreasing xs → ((x : ℕ) → first_of (name_of (f x)) ≡ x) → AllPairs AreTwoItems (map f xs)
rising f xs increase tells =
    pairs_mapped (λ x y. x < y) f xs (AllPairs-from_increasing xs increase)
    (λ x y less. told_apart first_of (name_of (f x)) (name_of (f y)) (λ same. let one = tells x in let other = tells y in omega (arith, less, same, one, other)))

pieces_differ : (f : Piece → Candidate) (ps : List Piece) → AllPairs (λ p q. ComesBefore (range_of p) (range_of q)) ps → ((p : Piece) → first_of (name_of (f p)) ≡ p.first) → ((p : Piece) → last_of (name_of (f p)) ≡ p.last) → AllPairs AreTwoItems (map f ps)
pieces_differ f ps ordered first last = pairs_mapped (λ p q. ComesBefore (range_of p) (range_of q)) f ps ordered by_order
  where
    by_order : (p q : Piece) → ComesBefore (range_of p) (range_of q) → AreTwoItems (f p) (f q)
    by_order p q (inl less) =
        told_apart first_of (name_of (f p)) (name_of (f q)) (λ same. let one = first p in let other = first q in omega (arith, less, same, one, other))
    by_order p q (inr less) =
        let after = less.1 in
        told_apart last_of (name_of (f p)) (name_of (f q)) (λ same. let one = last p in let other = last q in omega (arith, after, same, one, other))

-- ---- by kind, with the greatest region or pair

abbrev IsOf : ℕ → ℕ → Candidate → Type 0
IsOf k most c = (kind (name_of c) ≡ k) × (level (name_of c) ≤ most)

by_kind : (j k m n : ℕ) → (j ≡ k → ⊥) → (a b : Candidate) → IsOf j m a → IsOf k n b → AreTwoItems a b
by_kind j k m n differ a b one other =
    let first = one.0 in
    let second = other.0 in
    told_apart kind (name_of a) (name_of b) (λ same. differ (omega (arith, same, first, second)))

-- items of the region or pair behind others
abbrev IsAt : ℕ → ℕ → Candidate → Type 0
IsAt k n c = (kind (name_of c) ≡ k) × (level (name_of c) ≡ n)

by_level : (j k n : ℕ) (a b : Candidate) → IsOf j n a → IsAt k (suc n) b → AreTwoItems a b
by_level j k n a b one other =
    let first = one.1 in
    let second = other.1 in
    told_apart level (name_of a) (name_of b) (λ same. omega (arith, same, first, second))

more : (k n : ℕ) (xs ys : List Candidate) → All (IsOf k n) xs → All (IsAt k (suc n)) ys → All (IsOf k (suc n)) (xs ++ ys)
more k n xs ys all every =
    All-append (IsOf k (suc n)) xs ys
    (λ i d below. let is = all i d below in let few = is.1 in (is.0, omega (arith, few)))
    (λ i d below. let is = every i d below in let same = is.1 in (is.0, omega (arith, same)))

module _ (w : Scene) (objects : List ℕ) (pieces : List Piece) (increase : IsStrictlyIncreasing objects) (ordered : AllPairs (λ p q. ComesBefore (range_of p) (range_of q)) pieces) where
  at_data : (r : ℕ) → All (IsAt 2 r) (objects_in w objects r)
  at_data r = All-map (IsAt 2 r) (λ o. overlay_data r (datum_of w.graph o)) objects (λ k d below. (refl, refl))

  at_code : (r : ℕ) → All (IsAt 3 r) (pieces_in w pieces r)
  at_code r =
      All-map (IsAt 3 r) (λ p. overlay_code r (part_of w p)) (filter (is_of_region w.regions r) pieces) (λ k d below. (refl, refl))

  at_pair : (pair : ℕ) → All (IsAt 4 pair) (objects_of_pair w objects pair)
  at_pair pair = All-map (IsAt 4 pair) (λ o. kept_data pair (datum_of w.graph o)) objects (λ k d below. (refl, refl))

  of_data : (n : ℕ) → All (IsOf 2 n) (overlaid_objects w objects n)
  of_data zero = All-nil (IsOf 2 0)
  of_data (suc n) = more 2 n (overlaid_objects w objects n) (objects_in w objects (suc n)) (of_data n) (at_data (suc n))

  of_code : (n : ℕ) → All (IsOf 3 n) (overlaid_pieces w pieces n)
  of_code zero = All-nil (IsOf 3 0)
  of_code (suc n) = more 3 n (overlaid_pieces w pieces n) (pieces_in w pieces (suc n)) (of_code n) (at_code (suc n))

  of_pairs : (n : ℕ) → All (IsOf 4 n) (kept_objects w objects n)
  of_pairs zero = All-nil (IsOf 4 0)
  of_pairs (suc n) = more 4 n (kept_objects w objects n) (objects_of_pair w objects (suc n)) (of_pairs n) (at_pair (suc n))

  data_differ : (n : ℕ) → AllPairs AreTwoItems (overlaid_objects w objects n)
  data_differ zero = no_pairs
  data_differ (suc n) =
      joined (IsOf 2 n) (IsAt 2 (suc n)) (overlaid_objects w objects n) (objects_in w objects (suc n)) (data_differ n)
      (rising (λ o. overlay_data (suc n) (datum_of w.graph o)) objects increase (λ o. refl)) (of_data n) (at_data (suc n)) (by_level 2 2 n)

  code_differ : (n : ℕ) → AllPairs AreTwoItems (overlaid_pieces w pieces n)
  code_differ zero = no_pairs
  code_differ (suc n) =
      joined (IsOf 3 n) (IsAt 3 (suc n)) (overlaid_pieces w pieces n) (pieces_in w pieces (suc n)) (code_differ n)
      (pieces_differ (λ p. overlay_code (suc n) (part_of w p)) (filter (is_of_region w.regions (suc n)) pieces)
      (AllPairs-filter (λ p q. ComesBefore (range_of p) (range_of q)) (is_of_region w.regions (suc n)) pieces ordered) (λ p. refl) (λ p. refl))
      (of_code n) (at_code (suc n)) (by_level 3 3 n)

  pairs_differ : (n : ℕ) → AllPairs AreTwoItems (kept_objects w objects n)
  pairs_differ zero = no_pairs
  pairs_differ (suc n) =
      joined (IsOf 4 n) (IsAt 4 (suc n)) (kept_objects w objects n) (objects_of_pair w objects (suc n)) (pairs_differ n)
      (rising (λ o. kept_data (suc n) (datum_of w.graph o)) objects increase (λ o. refl)) (of_pairs n) (at_pair (suc n)) (by_level 4 4 n)

  -- ---- what is static

  below_static : (n : ℕ) → All (λ c. (kind (name_of c) ≡ 0) × (first_of (name_of c) < n)) (static_objects w.graph n)
  below_static zero = All-nil (λ c. (kind (name_of c) ≡ 0) × (first_of (name_of c) < 0))
  below_static (suc n) =
      All-append (λ c. (kind (name_of c) ≡ 0) × (first_of (name_of c) < suc n)) (static_objects w.graph n) (static_data (datum_of w.graph n) ∷ [])
      (λ i d below. let is = below_static n i d below in let few = is.1 in (is.0, omega (arith, few)))
      (All-cons (λ c. (kind (name_of c) ≡ 0) × (first_of (name_of c) < suc n)) (static_data (datum_of w.graph n)) [] (refl, omega arith)
      (All-nil (λ c. (kind (name_of c) ≡ 0) × (first_of (name_of c) < suc n))))

  static_differ : (n : ℕ) → AllPairs AreTwoItems (static_objects w.graph n)
  static_differ zero = no_pairs
  static_differ (suc n) =
      joined (λ c. (kind (name_of c) ≡ 0) × (first_of (name_of c) < n)) (λ c. first_of (name_of c) ≡ n) (static_objects w.graph n) (static_data (datum_of w.graph n) ∷ [])
      (static_differ n) (one_pair (static_data (datum_of w.graph n))) (below_static n)
      (All-cons (λ c. first_of (name_of c) ≡ n) (static_data (datum_of w.graph n)) [] refl (All-nil (λ c. first_of (name_of c) ≡ n)))
      (λ a b one other. let less = one.1 in told_apart first_of (name_of a) (name_of b) (λ same. omega (arith, less, other, same)))

  abbrev IsStatic : Candidate → Type 0
  IsStatic c = kind (name_of c) ≤ 1

  abbrev IsOverlay : Candidate → Type 0
  IsOverlay c = 2 ≤ kind (name_of c)

  statics : All IsStatic (static_candidates w pieces)
  statics =
      All-append IsStatic (static_objects w.graph (length w.graph.objects.items)) (static_pieces w pieces)
      (λ i d below. let is = (below_static (length w.graph.objects.items) i d below).0 in omega (arith, is))
      (All-map IsStatic (λ p. static_code (part_of w p)) pieces (λ i d below. omega arith))

  pub statics_differ : AllPairs AreTwoItems (static_candidates w pieces)
  statics_differ =
      let n = length w.graph.objects.items in
      joined (λ c. (kind (name_of c) ≡ 0) × (first_of (name_of c) < n)) (λ c. kind (name_of c) ≡ 1) (static_objects w.graph n) (static_pieces w pieces)
      (static_differ n) (pieces_differ (λ p. static_code (part_of w p)) pieces ordered (λ p. refl) (λ p. refl)) (below_static n)
      (All-map (λ c. kind (name_of c) ≡ 1) (λ p. static_code (part_of w p)) pieces (λ i d below. refl))
      (λ a b one other. let first = one.0 in told_apart kind (name_of a) (name_of b) (λ same. omega (arith, first, other, same)))

  -- ---- all of both sides

  abbrev regional : List Candidate
  regional = overlaid_objects w objects w.region_count ++ overlaid_pieces w pieces w.region_count

  abbrev twins : List Candidate
  twins = kept_objects w objects (pairs_of w.board.twins w.region_count)

  overlays : All IsOverlay (overlay_candidates w objects pieces)
  overlays =
      All-append IsOverlay regional twins
      (All-append IsOverlay (overlaid_objects w objects w.region_count) (overlaid_pieces w pieces w.region_count)
      (λ i d below. let is = (of_data w.region_count i d below).0 in omega (arith, is))
      (λ i d below. let is = (of_code w.region_count i d below).0 in omega (arith, is)))
      (λ i d below. let is = (of_pairs (pairs_of w.board.twins w.region_count) i d below).0 in omega (arith, is))

  regional_below : All (λ c. kind (name_of c) ≤ 3) regional
  regional_below =
      All-append (λ c. kind (name_of c) ≤ 3) (overlaid_objects w objects w.region_count) (overlaid_pieces w pieces w.region_count)
      (λ i d below. let is = (of_data w.region_count i d below).0 in omega (arith, is))
      (λ i d below. let is = (of_code w.region_count i d below).0 in omega (arith, is))

  overlays_differ : AllPairs AreTwoItems (overlay_candidates w objects pieces)
  overlays_differ =
      let n = w.region_count in
      let pairs = pairs_of w.board.twins n in
      joined (λ c. kind (name_of c) ≤ 3) (IsOf 4 pairs) regional twins
      (joined (IsOf 2 n) (IsOf 3 n) (overlaid_objects w objects n) (overlaid_pieces w pieces n) (data_differ n) (code_differ n) (of_data n) (of_code n)
      (by_kind 2 3 n n (λ same. cc)))
      (pairs_differ pairs) regional_below (of_pairs pairs)
      (λ a b one other. let last = other.0 in told_apart kind (name_of a) (name_of b) (λ same. omega (arith, one, last, same)))

  pub candidates_differ : AllPairs AreTwoItems (static_candidates w pieces ++ overlay_candidates w objects pieces)
  candidates_differ =
      joined IsStatic IsOverlay (static_candidates w pieces) (overlay_candidates w objects pieces) statics_differ overlays_differ statics overlays
      (λ a b one other. told_apart kind (name_of a) (name_of b) (λ same. omega (arith, one, other, same)))

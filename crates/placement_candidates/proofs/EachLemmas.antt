-- What holds of each candidate of both sides, by kind; and sums over them.
use Rattle.std.proofs.Common.{◌≡◌, ℕ, zero, suc, ◌+◌, ◌*◌, ◌<◌, ◌≤◌, Bool, true, false, List, [], ◌∷◌, ◌++◌, length, map, refl, arith}
use Rattle.std.specs.List.{All, filter, sum_by}
use Rattle.std.proofs.lemmas.Nat.{mul-le}
use Rattle.std.proofs.lemmas.List.Elements.{All-nil, All-cons, All-append, All-map}
use Rattle.std.proofs.lemmas.List.Sums.{sum_by-cons, sum_by-append}
use Rattle.placement_programme.specs.Rows.{Candidate, static_data, static_code, overlay_data, overlay_code, kept_data, pairs_of}
use Rattle.block_splitter.specs.declared.piece.Piece.{Piece}
use Rattle.cell_values.specs.Objects.{datum_of}
use Rattle.energy_model.specs.Energy.{Scene}
use Rattle.placement_candidates.specs.Stated.{part_of}
use Rattle.placement_candidates.specs.Overlaid.{is_of_region, static_objects, static_pieces, objects_in, pieces_in, objects_of_pair, overlaid_objects, overlaid_pieces, kept_objects, static_candidates, overlay_candidates}

-- what holds of each kind; a piece is overlaid in a region that all its blocks have
pub record OfEachKind (P : Candidate → Type 0) (w : Scene) (objects : List ℕ) (pieces : List Piece) : Type 0 where
  pub object : (k : ℕ) → k < length w.graph.objects.items → P (static_data (datum_of w.graph k))
  pub code : All (λ p. P (static_code (part_of w p))) pieces
  pub region_data : (r : ℕ) → 1 ≤ r → r ≤ w.region_count → All (λ o. P (overlay_data r (datum_of w.graph o))) objects
  pub region_code : (r : ℕ) → 1 ≤ r → r ≤ w.region_count → All (λ p. is_of_region w.regions r p ≡ true → P (overlay_code r (part_of w p))) pieces
  pub pair_data : (pair : ℕ) → 1 ≤ pair → pair ≤ pairs_of w.board.twins w.region_count → All (λ o. P (kept_data pair (datum_of w.graph o))) objects

-- what holds of those that pass a test
filtered_each : (test : Piece → Bool) (P : Piece → Type 0) (ps : List Piece) → All (λ p. test p ≡ true → P p) ps → All P (filter test ps)
filtered_each test P [] each = All-nil P
filtered_each test P (p ∷ ps) each =
    by_test (test p) refl (filtered_each test P ps (λ k d below. each (suc k) d (omega (arith, below))))
  where
    by_test : (passes : Bool) → test p ≡ passes → All P (filter test ps) → All P (filter test (p ∷ ps))
    by_test true is rest = rw is (All-cons P p (filter test ps) (each 0 p (omega arith) is) rest)
    by_test false is rest = rw is rest

module _ (P : Candidate → Type 0) (w : Scene) (objects : List ℕ) (pieces : List Piece) (of : OfEachKind P w objects pieces) where
  data_each : (n : ℕ) → n ≤ length w.graph.objects.items → All P (static_objects w.graph n)
  data_each zero few = All-nil P
  data_each (suc n) few =
      All-append P (static_objects w.graph n) (static_data (datum_of w.graph n) ∷ []) (data_each n (omega (arith, few)))
      (All-cons P (static_data (datum_of w.graph n)) [] (of.object n (omega (arith, few))) (All-nil P))

  region_data_each : (n : ℕ) → n ≤ w.region_count → All P (overlaid_objects w objects n)
  region_data_each zero few = All-nil P
  region_data_each (suc n) few =
      All-append P (overlaid_objects w objects n) (objects_in w objects (suc n)) (region_data_each n (omega (arith, few)))
      (All-map P (λ o. overlay_data (suc n) (datum_of w.graph o)) objects (of.region_data (suc n) (omega arith) few))

  region_code_each : (n : ℕ) → n ≤ w.region_count → All P (overlaid_pieces w pieces n)
  region_code_each zero few = All-nil P
  region_code_each (suc n) few =
      let some = filter (is_of_region w.regions (suc n)) pieces in
      All-append P (overlaid_pieces w pieces n) (pieces_in w pieces (suc n)) (region_code_each n (omega (arith, few)))
      (All-map P (λ p. overlay_code (suc n) (part_of w p)) some
      (filtered_each (is_of_region w.regions (suc n)) (λ p. P (overlay_code (suc n) (part_of w p))) pieces (of.region_code (suc n) (omega arith) few)))

  pair_data_each : (n : ℕ) → n ≤ pairs_of w.board.twins w.region_count → All P (kept_objects w objects n)
  pair_data_each zero few = All-nil P
  pair_data_each (suc n) few =
      All-append P (kept_objects w objects n) (objects_of_pair w objects (suc n)) (pair_data_each n (omega (arith, few)))
      (All-map P (λ o. kept_data (suc n) (datum_of w.graph o)) objects (of.pair_data (suc n) (omega arith) few))

  pub each_candidate : All P (static_candidates w pieces ++ overlay_candidates w objects pieces)
  each_candidate =
      let static = All-append P (static_objects w.graph (length w.graph.objects.items)) (static_pieces w pieces) (data_each (length w.graph.objects.items) (omega arith))
      (All-map P (λ p. static_code (part_of w p)) pieces of.code) in
      let regions = All-append P (overlaid_objects w objects w.region_count) (overlaid_pieces w pieces w.region_count)
      (region_data_each w.region_count (omega arith)) (region_code_each w.region_count (omega arith)) in
      let pairs = pair_data_each (pairs_of w.board.twins w.region_count) (omega arith) in
      All-append P (static_candidates w pieces) (overlay_candidates w objects pieces) static
      (All-append P (overlaid_objects w objects w.region_count ++ overlaid_pieces w pieces w.region_count) (kept_objects w objects (pairs_of w.board.twins w.region_count)) regions pairs)

-- ---- sums: so much for an object, and so much for a piece

abbrev pub by_kind : ℕ → ℕ → Candidate → ℕ
by_kind datum part (static_data o) = datum
by_kind datum part (static_code p) = part
by_kind datum part (overlay_data r o) = datum
by_kind datum part (overlay_code r p) = part
by_kind datum part (kept_data pair o) = datum

module _ (datum part : ℕ) where
  abbrev most : List Candidate → ℕ
  most cs = sum_by (by_kind datum part) cs

  same_each : {A : Type 0} (f : A → Candidate) (value : ℕ) (xs : List A) → ((x : A) → by_kind datum part (f x) ≡ value) → most (map f xs) ≡ length xs * value
  same_each f value [] same = omega arith
  same_each f value (x ∷ xs) same =
      let rest = same_each f value xs same in
      let sum = sum_by-cons (by_kind datum part) (f x) (map f xs) in
      let here = same x in
      omega (arith, rest, sum, here)

  passed : (passes : Bool) (p : Piece) (test : Piece → Bool) (ps : List Piece) → test p ≡ passes → length (filter test ps) ≤ length ps → length (filter test (p ∷ ps)) ≤ suc (length ps)
  passed true p test ps is rest = rw is (omega (arith, rest))
  passed false p test ps is rest = rw is (omega (arith, rest))

  few_filtered : (test : Piece → Bool) (ps : List Piece) → length (filter test ps) ≤ length ps
  few_filtered test [] = omega arith
  few_filtered test (p ∷ ps) = passed (test p) p test ps refl (few_filtered test ps)

  objects_most : (w : Scene) (n : ℕ) → most (static_objects w.graph n) ≡ n * datum
  objects_most w zero = omega arith
  objects_most w (suc n) =
      let earlier = objects_most w n in
      let sum = sum_by-append (by_kind datum part) (static_objects w.graph n) (static_data (datum_of w.graph n) ∷ []) in
      let one = sum_by-cons (by_kind datum part) (static_data (datum_of w.graph n)) [] in
      omega (arith, earlier, sum, one)

  regions_most : (w : Scene) (objects : List ℕ) (n : ℕ) → most (overlaid_objects w objects n) ≡ n * (length objects * datum)
  regions_most w objects zero = omega arith
  regions_most w objects (suc n) =
      let earlier = regions_most w objects n in
      let sum = sum_by-append (by_kind datum part) (overlaid_objects w objects n) (objects_in w objects (suc n)) in
      let here = same_each (λ (o : ℕ). overlay_data (suc n) (datum_of w.graph o)) datum objects (λ o. refl) in
      omega (arith, earlier, sum, here)

  pairs_most : (w : Scene) (objects : List ℕ) (n : ℕ) → most (kept_objects w objects n) ≡ n * (length objects * datum)
  pairs_most w objects zero = omega arith
  pairs_most w objects (suc n) =
      let earlier = pairs_most w objects n in
      let sum = sum_by-append (by_kind datum part) (kept_objects w objects n) (objects_of_pair w objects (suc n)) in
      let here = same_each (λ (o : ℕ). kept_data (suc n) (datum_of w.graph o)) datum objects (λ o. refl) in
      omega (arith, earlier, sum, here)

  pieces_most : (w : Scene) (pieces : List Piece) (n : ℕ) → most (overlaid_pieces w pieces n) ≤ n * (length pieces * part)
  pieces_most w pieces zero = omega arith
  pieces_most w pieces (suc n) =
      let earlier = pieces_most w pieces n in
      let some = filter (is_of_region w.regions (suc n)) pieces in
      let sum = sum_by-append (by_kind datum part) (overlaid_pieces w pieces n) (pieces_in w pieces (suc n)) in
      let here = same_each (λ (p : Piece). overlay_code (suc n) (part_of w p)) part some (λ p. refl) in
      let few = mul-le (length some) part (length pieces) part (few_filtered (is_of_region w.regions (suc n)) pieces) (omega arith) in
      omega (arith, earlier, sum, here, few)

  pub all_most : (w : Scene) (objects : List ℕ) (pieces : List Piece) → most (static_candidates w pieces ++ overlay_candidates w objects pieces) ≤ length w.graph.objects.items * datum + length pieces * part + w.region_count * (length objects * datum) + w.region_count * (length pieces * part) + pairs_of w.board.twins w.region_count * (length objects * datum)
  all_most w objects pieces =
      let n = w.region_count in
      let f = by_kind datum part in
      let whole = sum_by-append f (static_candidates w pieces) (overlay_candidates w objects pieces) in
      let static = sum_by-append f (static_objects w.graph (length w.graph.objects.items)) (static_pieces w pieces) in
      let overlay = sum_by-append f (overlaid_objects w objects n ++ overlaid_pieces w pieces n) (kept_objects w objects (pairs_of w.board.twins n)) in
      let regions = sum_by-append f (overlaid_objects w objects n) (overlaid_pieces w pieces n) in
      let first = objects_most w (length w.graph.objects.items) in
      let second = same_each (λ (p : Piece). static_code (part_of w p)) part pieces (λ p. refl) in
      let third = regions_most w objects n in
      let fourth = pieces_most w pieces n in
      let fifth = pairs_most w objects (pairs_of w.board.twins n) in
      omega (arith, whole, static, overlay, regions, first, second, third, fourth, fifth)

-- What the parts of a whole plan's code give together.
use Rattle.std.proofs.Common.{◌≡◌, ℕ, zero, suc, ◌+◌, ◌<◌, ◌≤◌, List, [], ◌∷◌, ◌++◌, map, take, drop, length, slice_index, slice_index_or, refl, sym, ◌∙◌, ap, subst, arith}
use Rattle.std.specs.Prelude.{Vec}
use Rattle.std.specs.declared.alloc.Global.{Global}
use Rattle.std.specs.Borrow.{Bor}
use Rattle.std.specs.List.{sum_by}
use Rattle.std.proofs.lemmas.List.{drop_more, drop_all}
use Rattle.std.proofs.lemmas.List.Sums.{sum_by-cons}
use Rattle.std.proofs.lemmas.List.Sorted.{sum_by-IsPermutation, All-permutation}
use Rattle.patch_code.specs.declared.stub_plan.Stub.{Stub}
use Rattle.patch_code.specs.declared.stub_plan.StubPlan.{StubPlan}
use Rattle.patch_code.specs.declared.stub_plan.StubSizes.{StubSizes}
use Rattle.patch_code.specs.Homes.{AreOrdered, bytes_if_before}
use Rattle.patch_code.specs.Serving.{ServingStub, serving_home, serving_size, serving_bytes, served_before, places_from, AreStubWords, AreServed}
use Rattle.patch_code.specs.Overlay.{OverlayPlan, switch_at, serving_at, serving_place, overlay_images_at, CanServeAt, CanServe, CanServeFrom, CanHold}
use Rattle.patch_code.specs.Layout.{image_places}
use Rattle.patch_code.specs.StubPlans.{serving_stub, seen_stub, serving_stubs, words_of, overlay_plan, overlay_sizes}
use Rattle.patch_code.proofs.Order.{ascend_from}
use Rattle.patch_code.proofs.Serves.{can_from, AreSoFar, one_served, all_served}

-- where the stub of a number stands
pub place_at : (first : ℕ) (stubs : List (Bor Stub)) (i : ℕ) → i ≤ length stubs → slice_index (places_from first (serving_stubs stubs)) i ≡ first + sum_by serving_size (map seen_stub (take i stubs))
place_at first [] zero within = omega arith
place_at first [] (suc i) within = absurd (omega (arith, within))
place_at first (stub ∷ stubs) zero within = omega arith
place_at first (stub ∷ stubs) (suc i) within =
    let rest = place_at (first + serving_size (seen_stub stub)) stubs i (omega (arith, within)) in
    let more = sum_by-cons serving_size (seen_stub stub) (map seen_stub (take i stubs)) in
    rest ∙ omega (arith, more)

-- the number of places is one more
pub places_count : (first : ℕ) (stubs : List ServingStub) → length (places_from first stubs) ≡ length stubs + 1
places_count first [] = refl
places_count first (stub ∷ stubs) = let rest = places_count (first + serving_size stub) stubs in omega (arith, rest)

pub places_small : (first : ℕ) (stubs : List ServingStub) (i : ℕ) → i ≤ length stubs → slice_index (places_from first stubs) i ≤ first + serving_bytes stubs
places_small first [] zero within = omega arith
places_small first [] (suc i) within = absurd (omega (arith, within))
places_small first (stub ∷ stubs) zero within = omega arith
places_small first (stub ∷ stubs) (suc i) within =
    let rest = places_small (first + serving_size stub) stubs i (omega (arith, within)) in
    let more = sum_by-cons serving_size stub stubs in
    omega (arith, rest, more)

module _ (p : OverlayPlan) (ordered : List ServingStub) (by_home : AreOrdered ServingStub serving_home p.stubs ordered) where
  pub bytes_same : serving_bytes ordered ≡ serving_bytes p.stubs
  bytes_same = sum_by-IsPermutation serving_size p.stubs ordered by_home.same

  pub before_same : (home : ℕ) → served_before home ordered ≡ served_before home p.stubs
  before_same home = sum_by-IsPermutation (bytes_if_before serving_home serving_size home) p.stubs ordered by_home.same

  pub stubs_fit : CanHold p → serving_at p + serving_bytes ordered < 4294967296
  stubs_fit can =
      let ends = can.ends in
      let same = bytes_same in
      omega (arith, ends, same)

  pub stubs_can : CanHold p → CanServeFrom 2047 (switch_at p) (serving_at p) ordered
  stubs_can can =
      can_from 2047 (switch_at p) (serving_at p) ordered (ascend_from serving_home serving_size ordered by_home.ascend)
      (λ k d below.
      let stub : ServingStub = slice_index_or ordered k d in
      let here = All-permutation (CanServe p) p.stubs ordered by_home.same can.stubs k d below in
      let few = can.few in
      let region = here.region in
      subst (λ n. CanServeAt 2047 (switch_at p) (serving_at p + n) stub) (sym (before_same stub.home))
      (record { above = here.above; below = here.below; region = omega (arith, few, region); body = here.body; reach = here.reach }))

-- ---- words of stubs, while they grow

module _ (base switch first : ℕ) (ordered : List (Bor Stub)) where
  -- words so far, and the stubs that are left, of which the next stands at an address
  abbrev pub IsSoFar : ℕ → List (Bor Stub) → List ℕ → Type 0
  IsSoFar at left words =
      AreSoFar base switch first (serving_stubs ordered) at (serving_stubs left) words
      × (CanServeFrom 2047 switch at (serving_stubs left)
      × (at + serving_bytes (serving_stubs left) ≡ first + serving_bytes (serving_stubs ordered)))

  one_done : (at : ℕ) (x : Bor Stub) (left : List (Bor Stub)) (words here : List ℕ) → AreStubWords base switch at (seen_stub x) here → IsSoFar at (x ∷ left) words → IsSoFar (at + serving_size (seen_stub x)) left (words ++ here)
  one_done at x left words here are so_far =
      let more = sum_by-cons serving_size (seen_stub x) (serving_stubs left) in
      let bytes = so_far.1.1 in (
        one_served base switch first (serving_stubs ordered) at (seen_stub x) (serving_stubs left) words here so_far.0 are,
        (so_far.1.0.1, omega (arith, more, bytes)),
      )

  pub one_more : (k at next : ℕ) (x : Bor Stub) (words new here : List ℕ) → k < length ordered → x ≡ slice_index_or ordered k x → new ≡ words ++ here → next ≡ at + serving_size (seen_stub x) → AreStubWords base switch at (seen_stub x) here → IsSoFar at (drop k ordered) words → IsSoFar next (drop (k + 1) ordered) new
  one_more k at next x words new here below is grown moved are so_far =
      let rest : List (Bor Stub) = drop (k + 1) ordered in
      let left : drop k ordered ≡ x ∷ rest = drop_more ordered k x below ∙ ap (λ (y : Bor Stub). y ∷ rest) (sym is) in
      subst (λ n. IsSoFar n rest new) (sym moved)
      (subst (λ (ws : List ℕ). IsSoFar (at + serving_size (seen_stub x)) rest ws) (sym grown)
      (one_done at x rest words here are (subst (λ (xs : List (Bor Stub)). IsSoFar at xs words) left so_far)))

  pub all_done : (k at : ℕ) (words : List ℕ) → length ordered ≤ k → IsSoFar at (drop k ordered) words → AreServed base switch first (serving_stubs ordered) words
  all_done k at words past so_far =
      all_served base switch first (serving_stubs ordered) at words
      (subst (λ (xs : List (Bor Stub)). AreSoFar base switch first (serving_stubs ordered) at (serving_stubs xs) words) (drop_all k ordered past) so_far.0)

-- ---- places of a plan's parts, as they are counted

module _ (plan : StubPlan) (sizes : StubSizes) (are : sizes ≡ overlay_sizes (overlay_plan plan)) where
  pub stub_places_are : (ordered given : List (Bor Stub)) (stubs listed : List Stub) (places : List ℕ) → stubs ≡ plan.stubs.items → AreOrdered ServingStub serving_home (map serving_stub stubs) (serving_stubs ordered) → given ≡ ordered → listed ≡ plan.stubs.items → places ≡ map (λ stub. plan.base + 64 + sizes.start + served_before stub.home (serving_stubs given)) (map serving_stub listed) → places ≡ map (serving_place (overlay_plan plan)) (overlay_plan plan).stubs
  stub_places_are ordered given stubs listed places same by_home all whole is =
      let by_plan : AreOrdered ServingStub serving_home (map serving_stub plan.stubs.items) (serving_stubs ordered) =
      subst (λ (xs : List Stub). AreOrdered ServingStub serving_home (map serving_stub xs) (serving_stubs ordered)) same by_home in
      is
      ∙ (λ t. map (λ stub. plan.base + 64 + (are t).start + served_before stub.home (serving_stubs (all t))) (map serving_stub (whole t)))
      ∙ (λ t. map (λ stub. serving_at (overlay_plan plan) + before_same (overlay_plan plan) (serving_stubs ordered) by_plan stub.home t) (overlay_plan plan).stubs)

  pub image_places_are : (places : List ℕ) (images : List (Vec ℕ Global)) → images ≡ plan.images.items → places ≡ image_places (plan.base + 64 + sizes.start + sizes.stubs + sizes.routine) (map words_of images) → places ≡ image_places (overlay_images_at (overlay_plan plan)) (overlay_plan plan).images
  image_places_are places images same is =
      is ∙ λ t. image_places (plan.base + 64 + (are t).start + (are t).stubs + (are t).routine) (map words_of (same t))

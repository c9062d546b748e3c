-- Stubs one behind the other, in the order of their blocks.
use Rattle.std.proofs.Common.{◌≡◌, ◌∙◌, ℕ, ◌+◌, ◌*◌, ◌%◌, ◌<◌, ◌≤◌, Bool, true, false, ◌&&◌, ◌==◌, if◌then◌else◌, List, [], ◌∷◌, ◌++◌, map, take, length, get_or, refl, sym, ap, subst, arith}
use Rattle.std.specs.List.{All, list_any, sum_by}
use Rattle.std.proofs.lemmas.Bool.{eqb-true, eq-eqb}
use Rattle.std.proofs.lemmas.List.{take_more, map-append}
use Rattle.std.proofs.lemmas.List.Folds.{list_any_at}
use Rattle.std.proofs.lemmas.List.Sums.{sum_by-cons, sum_by_push, sum_by_more, sum_by_more_le}
use Rattle.list_checks.specs.Sorted.{collected}
use Rattle.list_checks.proofs.SortedLemmas.{any_collected}
use Rattle.list_checks.proofs.TestLemmas.{any_found, both}
use Rattle.object_graph.specs.declared.parts.Graph.{Graph}
use Rattle.code_blocks.specs.declared.parts.Code.{Code}
use Rattle.dataflow.specs.Overlaid.{is_border}
use Rattle.block_splitter.specs.Forms.{displaced_size}
use Rattle.patch_code.specs.declared.stub_plan.Stub.{Stub}
use Rattle.patch_code.specs.Serving.{ServingStub, serving_size, serving_bytes}
use Rattle.patch_code.specs.StubPlans.{serving_stub}
use Rattle.result_laws.specs.ChosenPlacement.{ChosenPlacement}
use Rattle.result_laws.specs.PlacedView.{Serves}
use Rattle.relink_core.specs.declared.serving_plan.ServingPlan.{ServingPlan}
use Rattle.relink_core.specs.StubBlocks.{needs_stub, stub_blocks, test_size, first_kind, stub_size, ReachesFrom, HasRoomFor, NeedsStub, is_copied}
use Rattle.relink_core.specs.Serving.{IsPlacedWith, AreStubsFrom}
use Rattle.relink_core.proofs.ServingMade.{entered_alone}

-- ---- blocks that are served

-- what is collected passes
collected_passes : (test : ℕ → Bool) (n k d : ℕ) → k < length (collected test (λ b. b) n) → (get_or (collected test (λ b. b) n) k d < n) × (test (get_or (collected test (λ b. b) n) k d) ≡ true)
collected_passes test n k d below =
    let all = collected test (λ b. b) n in
    let wanted = get_or all k d in
    let listed : list_any (λ b. b == wanted) all ≡ true = list_any_at (λ b. b == wanted) all k d below (eq-eqb wanted wanted refl) in
    let found = any_found (λ b. test b && (b == wanted)) n (sym (any_collected test (λ b. b) (λ b. b == wanted) n) ∙ listed) in
    let parts = both (test found.0) (found.0 == wanted) found.2 in
    let same = eqb-true found.0 wanted parts.1 in
    (subst (λ (b : ℕ). b < n) same found.1, subst (λ (b : ℕ). test b ≡ true) same parts.0)

pub all_needed : (w : ServingPlan) → All (NeedsStub w) (stub_blocks w.source.now.code.now w.regions.now w.copies.now)
all_needed w = λ k d below.
    let passes = collected_passes (needs_stub w.source.now.code.now w.regions.now w.copies.now) (length w.source.now.code.now.blocks.items) k d below in
    record { below = passes.0; served = passes.1 }

-- ---- stubs so far

-- stubs of some blocks, the first at `first`, end at `at`
pub record AreSoFar (w : ServingPlan) (first : ℕ) (blocks : List ℕ) (at : ℕ) (stubs : List Stub) : Type 0 where
  pub aligned : at % 4 ≡ 0
  pub bytes : at ≡ first + sum_by (stub_size w.source.now w.regions.now w.copies.now) blocks
  pub ends : at ≡ first + serving_bytes (map serving_stub stubs)
  pub serve : (pl : ChosenPlacement) → IsPlacedWith w.source.now w.regions.now w.copies.now pl → AreStubsFrom w.source.now.code.now w.source.now.graph.now pl first blocks (map serving_stub stubs)

pub none_yet : (w : ServingPlan) (first : ℕ) → first % 4 ≡ 0 → AreSoFar w first [] first []
none_yet w first aligned = record { aligned = aligned; bytes = omega arith; ends = omega arith; serve = λ pl placed. tt }

stubs_push : (c : Code) (g : Graph) (pl : ChosenPlacement) (at b : ℕ) (s : ServingStub) (bs : List ℕ) (ss : List ServingStub) → AreStubsFrom c g pl at bs ss → Serves c g pl (at + serving_bytes ss + 88) b s → AreStubsFrom c g pl at (bs ++ b ∷ []) (ss ++ s ∷ [])
stubs_push c g pl at b s [] [] are serves = (subst (λ (a : ℕ). Serves c g pl (a + 88) b s) (omega arith) serves, tt)
stubs_push c g pl at b s [] (t ∷ ts) are serves = absurd are
stubs_push c g pl at b s (d ∷ ds) [] are serves = absurd are
stubs_push c g pl at b s (d ∷ ds) (t ∷ ts) are serves =
    let bytes = sum_by-cons serving_size t ts in
    (are.0, stubs_push c g pl (at + serving_size t) b s ds ts are.1 (subst (λ (a : ℕ). Serves c g pl (a + 88) b s) (omega (arith, bytes)) serves))

times_four : (copied : Bool) (n : ℕ) → (if copied then 8 else 4 * n) % 4 ≡ 0
times_four true n = refl
times_four false n = omega arith

test_of_four : (border : Bool) → (if border then 88 else 0) % 4 ≡ 0
test_of_four true = refl
test_of_four false = refl

pub stays_aligned : (w : ServingPlan) (at b : ℕ) → at % 4 ≡ 0 → (at + test_size w.regions.now b) % 4 ≡ 0
stays_aligned w at b aligned = let test = test_of_four (is_border w.regions.now.border.now b) in omega (arith, aligned, test)

-- the body of a stub where control enters a region stands 88 bytes behind it
pub body_stands : (w : ServingPlan) (at b test : ℕ) → test ≡ test_size w.regions.now b → is_border w.regions.now.border.now b ≡ true → at + 88 ≡ at + test
body_stands w at b test is enters =
    ap (λ n. at + n) (sym (is ∙ ap (λ (t : Bool). if t then 88 else 0) enters))

sized_four : (w : ServingPlan) (b : ℕ) → stub_size w.source.now w.regions.now w.copies.now b % 4 ≡ 0
sized_four w b =
    let test = test_of_four (is_border w.regions.now.border.now b) in
    let body = times_four (is_copied w.copies.now b) (displaced_size (first_kind w.source.now b)) in
    omega (arith, test, body)

pub so_far_more : (w : ServingPlan) (first at next i d : ℕ) (blocks : List ℕ) (old new : List Stub) (stub : Stub) → i < length blocks → AreSoFar w first (take i blocks) at old → serving_size (serving_stub stub) ≡ stub_size w.source.now w.regions.now w.copies.now (get_or blocks i d) → next ≡ at + serving_size (serving_stub stub) → new ≡ old ++ stub ∷ [] → ((pl : ChosenPlacement) → IsPlacedWith w.source.now w.regions.now w.copies.now pl → Serves w.source.now.code.now w.source.now.graph.now pl (at + 88) (get_or blocks i d) (serving_stub stub)) → AreSoFar w first (take (i + 1) blocks) next new
so_far_more w first at next i d blocks old new stub below so_far size is grown serves =
    let b = get_or blocks i d in
    let four = sized_four w b in
    let aligned = so_far.aligned in
    let bytes = so_far.bytes in
    let ends = so_far.ends in
    let more = sum_by_more (stub_size w.source.now w.regions.now w.copies.now) blocks i d below in
    let mapped : map serving_stub new ≡ map serving_stub old ++ serving_stub stub ∷ [] =
    ap (λ (xs : List Stub). map serving_stub xs) grown ∙ map-append serving_stub old (stub ∷ []) in
    let served : serving_bytes (map serving_stub new) ≡ serving_bytes (map serving_stub old) + serving_size (serving_stub stub) =
    ap serving_bytes mapped ∙ sum_by_push serving_size (map serving_stub old) (serving_stub stub) in
    record {
      aligned = omega (arith, is, size, four, aligned);
      bytes = omega (arith, is, size, bytes, more);
      ends = omega (arith, is, ends, served);
      serve = λ pl placed.
          subst (λ (bs : List ℕ). AreStubsFrom w.source.now.code.now w.source.now.graph.now pl first bs (map serving_stub new)) (sym (take_more blocks i d below))
          (subst (λ (ss : List ServingStub). AreStubsFrom w.source.now.code.now w.source.now.graph.now pl first (take i blocks ++ b ∷ []) ss) (sym mapped)
          (stubs_push w.source.now.code.now w.source.now.graph.now pl first b (serving_stub stub) (take i blocks) (map serving_stub old) (so_far.serve pl placed)
          (subst (λ (a : ℕ). Serves w.source.now.code.now w.source.now.graph.now pl (a + 88) b (serving_stub stub)) ends (serves pl placed))));
    }

-- ---- room

-- the next stub ends by the limit
pub next_ends : (w : ServingPlan) (first limit at i d : ℕ) (blocks : List ℕ) (stubs : List Stub) → i < length blocks → HasRoomFor w.source.now w.regions.now w.copies.now first limit blocks → AreSoFar w first (take i blocks) at stubs → at + stub_size w.source.now w.regions.now w.copies.now (get_or blocks i d) ≤ limit
next_ends w first limit at i d blocks stubs below room so_far =
    let ends = room.ends in
    let bytes = so_far.bytes in
    let more = sum_by_more_le (stub_size w.source.now w.regions.now w.copies.now) blocks i d below in
    omega (arith, ends, bytes, more)

reach_by : (border copied : Bool) (at n limit : ℕ) → border ≡ true → copied ≡ false → at + ((if border then 88 else 0) + (if copied then 8 else 4 * n)) ≤ limit → (at + (if border then 88 else 0)) + 4 * n ≤ limit
reach_by true false at n limit enters none ends = omega (arith, ends)
reach_by true true at n limit enters none ends = cc
reach_by false copied at n limit enters none ends = cc

-- what it displaces reaches where it leads
pub next_reaches : (w : ServingPlan) (first limit at i d : ℕ) (blocks : List ℕ) (stubs : List Stub) → i < length blocks → All (NeedsStub w) blocks → HasRoomFor w.source.now w.regions.now w.copies.now first limit blocks → AreSoFar w first (take i blocks) at stubs → is_copied w.copies.now (get_or blocks i d) ≡ false → ReachesFrom w.source.now (get_or blocks i d) (at + test_size w.regions.now (get_or blocks i d))
next_reaches w first limit at i d blocks stubs below needs room so_far none =
    let b = get_or blocks i d in
    let enters = entered_alone w b (needs i d below) none in
    let ends = next_ends w first limit at i d blocks stubs below room so_far in
    let bytes = so_far.bytes in
    room.reach b (at + test_size w.regions.now b) enters none (omega (arith, bytes)) (stays_aligned w at b so_far.aligned)
    (reach_by (is_border w.regions.now.border.now b) (is_copied w.copies.now b) at (displaced_size (first_kind w.source.now b)) limit enters none ends)

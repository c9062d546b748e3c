-- A plan without regions whose stubs are plain, as a whole plan.
use Rattle.std.proofs.Common.{inl, inr, ◌≡◌, ℕ, zero, suc, ◌+◌, ◌*◌, ◌%◌, ◌<◌, ◌==◌, nat_lt, if◌then◌else◌, List, [], ◌∷◌, ◌++◌, map, length, slice_index_or, refl, sym, ◌∙◌, ap, subst, arith}
use Rattle.std.specs.Prelude.{All, AllPairs}
use Rattle.std.specs.List.{flat_map, concat}
use Rattle.std.specs.List.Sorted.{IsPermutation, IsStrictlyIncreasing}
use Rattle.std.proofs.lemmas.List.Elements.{All-nil, All-cons, All-head, All-tail}
use Rattle.std.proofs.lemmas.List.Sums.{sum_by-cons}
use Rattle.std.proofs.lemmas.List.Sorted.{IsPermutation-map, All-permutation}
use Rattle.rv32im.specs.declared.instructions.Instr.{Instr}
use Rattle.rv32im.specs.Sequences.{MeanAll, jump_absolute}
use Rattle.patch_code.specs.declared.job.CopyJob.{CopyJob}
use Rattle.patch_code.specs.Switching.{routine, jobs_code}
use Rattle.patch_code.specs.declared.stub_plan.Body.{Body}
use Rattle.patch_code.specs.declared.stub_plan.Body.TheVariants.{Jump, Words}
use Rattle.patch_code.specs.declared.stub_plan.Stub.{Stub}
use Rattle.patch_code.specs.declared.stub_plan.StubPlan.{StubPlan}
use Rattle.patch_code.specs.declared.stub_plan.StubCode.{StubCode}
use Rattle.patch_code.specs.Start.{start_bytes}
use Rattle.patch_code.specs.PlainStubs.{PlainStub, CanJump, home_of, stub_code, stub_bytes, stubs_bytes, bytes_below}
use Rattle.patch_code.specs.Layout.{CanStand, SparesRest, AreCodeWords, images_at, stub_place, image_places}
use Rattle.patch_code.specs.Serving.{StubBody, jumps_to, runs_words, ServingStub, serving_home, test_code, serving_size, serving_bytes, served_before, IsBody, AreStubWords, AreServed}
use Rattle.patch_code.specs.Overlay.{switching, switch_code, switch_bytes, switch_at, serving_at, serving_place, overlay_images_at, rest_bytes, CanServeAt, SparesWords, CanHold, AreOverlayWords}
use Rattle.patch_code.specs.StubPlans.{Jumps, IsPlain, start_of, jump_of, plain_stub, code_plan, IsPlainPlan, IsStubCode, body_of, serving_stub, HasLists, overlay_plan, IsOverlayCode}
use Rattle.patch_code.proofs.Order.{below_more}

-- ---- a plain stub

plain_size : (stub : Stub) → IsPlain stub → serving_size (serving_stub stub) ≡ 8
plain_size stub is = by stub.region stub.body is.region is.jumps
  where
    by : (r : ℕ) (b : Body) → r ≡ 0 → Jumps b → serving_size (record { home = stub.home; temp = stub.temp; region = r; body = body_of b }) ≡ 8
    by zero (Jump to) none jumps = refl
    by zero (Words words) none jumps = absurd jumps
    by (suc r) b none jumps = absurd (omega (arith, none))

plain_serves : (switch at : ℕ) (stub : Stub) → IsPlain stub → CanJump (plain_stub stub) → CanServeAt 0 switch at (serving_stub stub)
plain_serves switch at stub is can = by stub.region stub.body is.region is.jumps can.aligned can.within
  where
    by : (r : ℕ) (b : Body) → r ≡ 0 → Jumps b → jump_of b % 4 ≡ 0 → jump_of b < 4294967296 → CanServeAt 0 switch at (record { home = stub.home; temp = stub.temp; region = r; body = body_of b })
    by zero (Jump to) none jumps even small =
        record { above = can.above; below = can.below; region = omega arith; body = (even, small); reach = tt }
    by zero (Words words) none jumps even small = absurd jumps
    by (suc r) b none jumps even small = absurd (omega (arith, none))

-- what a stub is as a plain one
abbrev goes_to : StubBody → ℕ
goes_to (jumps_to to) = to
goes_to (runs_words words) = 0

abbrev plain_of : ServingStub → PlainStub
plain_of stub = record { home = stub.home; temp = stub.temp; to = goes_to stub.body }

same_to : (b : Body) → goes_to (body_of b) ≡ jump_of b
same_to (Jump to) = refl
same_to (Words words) = refl

same_stub : (stub : Stub) → plain_of (serving_stub stub) ≡ plain_stub stub
same_stub stub = ap (λ to. record { home = stub.home; temp = stub.temp; to = to }) (same_to stub.body)

same_stubs : (stubs : List Stub) → map plain_of (map serving_stub stubs) ≡ map plain_stub stubs
same_stubs [] = refl
same_stubs (stub ∷ stubs) = let one = same_stub stub in let rest = same_stubs stubs in λ t. one t ∷ rest t

-- one of no region that jumps
record IsJump (stub : ServingStub) : Type 0 where
  region : stub.region ≡ 0
  to : ℕ
  body : stub.body ≡ jumps_to to

plain_jump : (stub : Stub) → IsPlain stub → IsJump (serving_stub stub)
plain_jump stub is = record { region = is.region; to = jump_of stub.body; body = by stub.body is.jumps }
  where
    by : (b : Body) → Jumps b → body_of b ≡ jumps_to (jump_of b)
    by (Jump to) jumps = refl
    by (Words words) jumps = absurd jumps

plain_jumps : (stubs : List Stub) → All IsPlain stubs → All IsJump (map serving_stub stubs)
plain_jumps [] all = All-nil IsJump
plain_jumps (stub ∷ stubs) all =
    All-cons IsJump (serving_stub stub) (map serving_stub stubs) (plain_jump stub (All-head IsPlain stub stubs all))
    (plain_jumps stubs (All-tail IsPlain stub stubs all))

-- ---- plain stubs

same_bytes : (stubs : List Stub) → All IsPlain stubs → serving_bytes (map serving_stub stubs) ≡ stubs_bytes (map plain_stub stubs)
same_bytes [] all = refl
same_bytes (stub ∷ stubs) all =
    let size = plain_size stub (All-head IsPlain stub stubs all) in
    let rest = same_bytes stubs (All-tail IsPlain stub stubs all) in
    let one = sum_by-cons serving_size (serving_stub stub) (map serving_stub stubs) in
    let other = sum_by-cons stub_bytes (plain_stub stub) (map plain_stub stubs) in
    omega (arith, size, rest, one, other)

same_before : (home : ℕ) (stubs : List Stub) → All IsPlain stubs → served_before home (map serving_stub stubs) ≡ bytes_below home (map plain_stub stubs)
same_before home [] all = refl
same_before home (stub ∷ stubs) all =
    let size = plain_size stub (All-head IsPlain stub stubs all) in
    let rest = same_before home stubs (All-tail IsPlain stub stubs all) in
    let one = below_more serving_home serving_size home (serving_stub stub) (map serving_stub stubs) in
    let other = below_more home_of stub_bytes home (plain_stub stub) (map plain_stub stubs) in
    one ∙ ((λ t. (if nat_lt stub.home home then size t else 0) + rest t) ∙ sym other)

same_homes : (stubs : List Stub) → map serving_home (map serving_stub stubs) ≡ map home_of (map plain_stub stubs)
same_homes [] = refl
same_homes (stub ∷ stubs) = ap (λ (hs : List ℕ). stub.home ∷ hs) (same_homes stubs)

all_serve : (switch : ℕ) (place : ServingStub → ℕ) (stubs : List Stub) → All IsPlain stubs → All CanJump (map plain_stub stubs) → All (λ (stub : ServingStub). CanServeAt 0 switch (place stub) stub) (map serving_stub stubs)
all_serve switch place [] all can = All-nil (λ (stub : ServingStub). CanServeAt 0 switch (place stub) stub)
all_serve switch place (stub ∷ stubs) all can =
    All-cons (λ (stub : ServingStub). CanServeAt 0 switch (place stub) stub) (serving_stub stub) (map serving_stub stubs)
    (plain_serves switch (place (serving_stub stub)) stub (All-head IsPlain stub stubs all) (All-head CanJump (plain_stub stub) (map plain_stub stubs) can))
    (all_serve switch place stubs (All-tail IsPlain stub stubs all) (All-tail CanJump (plain_stub stub) (map plain_stub stubs) can))

-- ---- plans

module _ (plan : StubPlan) (is : IsPlainPlan plan) where
  pub plain_lists : HasLists plan
  plain_lists =
      record {
        leave = ap (λ xs. length xs) is.leave ∙ sym is.regions;
        enter = ap (λ xs. length xs) is.enter ∙ sym is.regions;
        kept_leave = ap (λ xs. length xs) is.kept_leave ∙ sym is.regions;
        kept_enter = ap (λ xs. length xs) is.kept_enter ∙ sym is.regions;
      }

  no_switch : switch_code (overlay_plan plan) ≡ []
  no_switch = ap (λ n. if n == 0 then [] else routine jobs_code (switching (overlay_plan plan))) is.regions

  pub no_bytes : switch_bytes (overlay_plan plan) ≡ 0
  no_bytes = ap (λ (code : List Instr). 4 * length code) no_switch

  pub same_all : serving_bytes (overlay_plan plan).stubs ≡ stubs_bytes (code_plan plan).stubs
  same_all = same_bytes plan.stubs.items is.stubs

  spares_words : (job : CopyJob) → SparesRest (code_plan plan) job → SparesWords (overlay_plan plan) job
  spares_words job (inl before) = inl before
  spares_words job (inr past) =
      let bytes = same_all in
      let none = no_bytes in
      inr (omega (arith, past, bytes, none))

  pub plain_holds : CanStand (code_plan plan) → CanHold (overlay_plan plan)
  plain_holds can =
      let none = is.regions in
      let bytes = same_all in
      let no_more = no_bytes in
      let ends = can.ends in
      record {
        start = can.start;
        few = omega (arith, none);
        stubs = subst (λ n. All (λ (stub : ServingStub). CanServeAt n (switch_at (overlay_plan plan)) (serving_place (overlay_plan plan) stub) stub) (overlay_plan plan).stubs) (sym none)
            (all_serve (switch_at (overlay_plan plan)) (serving_place (overlay_plan plan)) plan.stubs.items is.stubs can.jumps);
        apart = subst (λ (hs : List ℕ). AllPairs (λ a b. a ≡ b → ⊥) hs) (sym (same_homes plan.stubs.items)) can.apart;
        jobs = λ i below. absurd (omega (arith, none, below));
        spared = λ k d below. spares_words (slice_index_or (overlay_plan plan).start.jobs k d) (can.spared k d below);
        ends = omega (arith, ends, bytes, no_more);
      }

  -- what can stand there has small sizes
  pub plain_small : CanStand (code_plan plan) → start_bytes (start_of plan) + rest_bytes (overlay_plan plan) < 4294967296
  plain_small can =
      let bytes = same_all in
      let none = no_bytes in
      let ends = can.ends in
      omega (arith, ends, bytes, none)

  -- ---- words

  two_mean : (here rest : List ℕ) (temp to : ℕ) (more : List Instr) → MeanAll here (jump_absolute temp to) → MeanAll rest more → MeanAll (here ++ rest) (jump_absolute temp to ++ more)
  two_mean [] rest temp to more one others = absurd one
  two_mean (a ∷ []) rest temp to more one others = absurd one.1
  two_mean (a ∷ b ∷ []) rest temp to more one others = (one.0, (one.1.0, others))
  two_mean (a ∷ b ∷ c ∷ words) rest temp to more one others = absurd one.1.1

  none_means : (words : List ℕ) → MeanAll words [] → words ≡ []
  none_means [] mean = refl
  none_means (word ∷ words) mean = absurd mean

  jump_means : (base switch at : ℕ) (stub : ServingStub) (words : List ℕ) → IsJump stub → AreStubWords base switch at stub words → MeanAll words (stub_code (plain_of stub))
  jump_means base switch at stub words jump are =
      let no_test : are.test ≡ [] =
      none_means are.test (subst (λ r. MeanAll are.test (test_code base stub.temp at switch r)) jump.region are.tests) in
      let body : MeanAll are.body (jump_absolute stub.temp (goes_to stub.body)) = by stub.body jump.to jump.body are.does in
      subst (λ (ws : List ℕ). MeanAll ws (stub_code (plain_of stub))) (sym (are.whole ∙ ap (λ (ws : List ℕ). ws ++ are.body) no_test)) body
    where
      IsRun : StubBody → Type 0
      IsRun (jumps_to to) = ⊥
      IsRun (runs_words words) = Unit {0}

      apart : (given : List ℕ) (to : ℕ) → runs_words given ≡ jumps_to to → ⊥
      apart given to same = subst (λ b. IsRun b) same tt

      by : (b : StubBody) (to : ℕ) → b ≡ jumps_to to → IsBody stub.temp b are.body → MeanAll are.body (jump_absolute stub.temp (goes_to b))
      by (jumps_to to) other same does = does
      by (runs_words given) other same does = absurd (apart given other same)

  jumps_mean : (base switch at : ℕ) (ordered : List ServingStub) (words : List ℕ) → All IsJump ordered → AreServed base switch at ordered words → MeanAll words (flat_map stub_code (map plain_of ordered))
  jumps_mean base switch at [] words all none = subst (λ (ws : List ℕ). MeanAll ws []) (sym none) tt
  jumps_mean base switch at (stub ∷ stubs) words all (here, (rest, (whole, (are, others)))) =
      subst (λ (ws : List ℕ). MeanAll ws (stub_code (plain_of stub) ++ flat_map stub_code (map plain_of stubs))) (sym whole)
      (two_mean here rest stub.temp (goes_to stub.body) (flat_map stub_code (map plain_of stubs))
      (jump_means base switch at stub here (All-head IsJump stub stubs all) are)
      (jumps_mean base switch (at + serving_size stub) stubs rest (All-tail IsJump stub stubs all) others))

  homes_kept : (ordered : List ServingStub) → map serving_home ordered ≡ map home_of (map plain_of ordered)
  homes_kept [] = refl
  homes_kept (stub ∷ stubs) = ap (λ (hs : List ℕ). stub.home ∷ hs) (homes_kept stubs)

  plain_words : (words : List ℕ) → AreOverlayWords (overlay_plan plan) words → AreCodeWords (code_plan plan) words
  plain_words words are =
      let no_routine : are.switch ≡ [] = none_means are.switch (subst (λ (is : List Instr). MeanAll are.switch is) no_switch are.switches) in
      let all = All-permutation IsJump (map serving_stub plan.stubs.items) are.ordered are.by_home.same (plain_jumps plan.stubs.items is.stubs) in
      record {
        first = are.first;
        ordered = map plain_of are.ordered;
        jumps = are.served;
        whole = are.whole ∙ ap (λ (xs : List ℕ). are.first ++ (are.served ++ (xs ++ concat (code_plan plan).images))) no_routine;
        starts = are.starts;
        by_home = record {
          same = subst (λ (xs : List PlainStub). IsPermutation xs (map plain_of are.ordered)) (same_stubs plan.stubs.items)
              (IsPermutation-map plain_of (map serving_stub plan.stubs.items) are.ordered are.by_home.same);
          ascend = subst (λ (hs : List ℕ). IsStrictlyIncreasing hs) (homes_kept are.ordered) are.by_home.ascend;
        };
        mean = jumps_mean plan.base (switch_at (overlay_plan plan)) (serving_at (overlay_plan plan)) are.ordered are.served all are.serves;
      }

  -- ---- places

  places_same : (stubs : List Stub) → map (serving_place (overlay_plan plan)) (map serving_stub stubs) ≡ map (stub_place (code_plan plan)) (map plain_stub stubs)
  places_same [] = refl
  places_same (stub ∷ stubs) =
      let one = same_before stub.home plan.stubs.items is.stubs in
      let rest = places_same stubs in
      λ t. (serving_at (overlay_plan plan) + one t) ∷ rest t

  pub plain_code : (code : StubCode) → IsOverlayCode (overlay_plan plan) code → IsStubCode (code_plan plan) code
  plain_code code are =
      let bytes = same_all in
      let none = no_bytes in
      let images : overlay_images_at (overlay_plan plan) ≡ images_at (code_plan plan) = omega (arith, bytes, none) in
      record {
        words = plain_words code.words.items are.words;
        start = are.start;
        stub_at = are.stub_at ∙ places_same plan.stubs.items;
        image_at = are.image_at ∙ ap (λ at. image_places at (code_plan plan).images) images;
      }

-- Two lists of stubs that serve the same homes, and the words of plans with the same parts.
use Rattle.std.proofs.Common.{◌≡◌, ◌∙◌, ◌⊎◌, inl, inr, ℕ, zero, suc, ◌+◌, ◌*◌, ◌<◌, ◌≤◌, ◌==◌, Bool, true, false, if◌then◌else◌, Option, Some, None, List, [], ◌∷◌, ◌++◌, length, get_or, refl, sym, ap, subst, arith}
use Rattle.std.specs.Prelude.{Contains, replicate}
use Rattle.std.specs.List.{sum_by, concat}
use Rattle.std.proofs.lemmas.List.Sums.{sum_by-cons}
use Rattle.std.proofs.lemmas.List.Sorted.{Contains-permutation, IsPermutation-sym, sum_by-IsPermutation}
use Rattle.rv32im.specs.declared.instructions.Instr.{Instr}
use Rattle.rv32im.specs.Sequences.{MeanAll, jump_absolute}
use Rattle.patch_code.specs.declared.job.CopyJob.{CopyJob}
use Rattle.patch_code.specs.Jobs.{fences}
use Rattle.patch_code.specs.Parts.{SwitchPlan, twin_of, twin_in}
use Rattle.patch_code.specs.Switching.{routine, jobs_code, IsCodeOf}
use Rattle.patch_code.specs.Start.{StartPlan, AreStartWords, start_bytes, start_stub}
use Rattle.patch_code.specs.Homes.{AreOrdered}
use Rattle.patch_code.specs.Counts.{kept_words, region_words, first_words}
use Rattle.patch_code.specs.Serving.{StubBody, jumps_to, runs_words, ServingStub, IsBody, AreStubWords, AreServed, test_code, serving_home, serving_size}
use Rattle.patch_code.specs.Overlay.{OverlayPlan, switching, switch_code, switch_bytes, switch_at, serving_at, AreOverlayWords}
use Rattle.patch_code.proofs.Coded.{same_routine}
use Rattle.patch_code.proofs.Counts.{routine_count_so}
use Rattle.patch_code.proofs.Order.{Ascend, ascend_from, ascend_behind}
use Rattle.patch_code.proofs.WordLemmas.{bytes_are}
use Rattle.paid_energy.proofs.AlikeWords.{AreSmall, small_left, small_right, same_words}

-- ---- two lists by home

-- each of one list has its like in the other
abbrev pub HasLike : (ServingStub → ServingStub → Type 0) → List ServingStub → ServingStub → Type 0
HasLike R others s = (t : ServingStub) × (Contains others t × ((s.home ≡ t.home) × R s t))

-- place by place
abbrev pub AreAlike : (ServingStub → ServingStub → Type 0) → List ServingStub → List ServingStub → Type 0
AreAlike R [] [] = Unit {0}
AreAlike R [] (t ∷ ts) = ⊥
AreAlike R (s ∷ ss) [] = ⊥
AreAlike R (s ∷ ss) (t ∷ ts) = ((s.home ≡ t.home) × R s t) × AreAlike R ss ts

first_or_later : (s t : ServingStub) (ss : List ServingStub) → Contains (s ∷ ss) t → Ascend serving_home serving_size (s ∷ ss) → (s ≡ t) ⊎ (Contains ss t × (s.home < t.home))
first_or_later s t ss (zero, below, is) rise = inl is
first_or_later s t ss (suc k, below, is) rise =
    let inside : k < length ss = omega (arith, below) in
    let less : s.home < (get_or ss k t).home = rise 0 (suc k) t (omega arith) (omega (arith, inside)) in
    let at = ap (λ (u : ServingStub). u.home) is in
    inr ((k, inside, is), omega (arith, less, at))

head_in : (s : ServingStub) (ss : List ServingStub) → Contains (s ∷ ss) s
head_in s ss = (0, omega arith, refl)

tail_in : (s t : ServingStub) (ss : List ServingStub) → Contains ss t → Contains (s ∷ ss) t
tail_in s t ss (k, below, is) = (suc k, omega (arith, below), is)

none_in : (t : ServingStub) → Contains [] t → ⊥
none_in t (k, below, is) = omega (arith, below)

behind_head : (s t : ServingStub) (ss : List ServingStub) → Contains ss t → Ascend serving_home serving_size (s ∷ ss) → s.home < t.home
behind_head s t ss (k, below, is) rise =
    let less : s.home < (get_or ss k t).home = rise 0 (suc k) t (omega arith) (omega (arith, below)) in
    let at = ap (λ (u : ServingStub). u.home) is in
    omega (arith, less, at)

-- the likes of what is behind the first are behind the first
like_behind : (R : ServingStub → ServingStub → Type 0) (s t u : ServingStub) (ts : List ServingStub) → Ascend serving_home serving_size (t ∷ ts) → s.home ≡ t.home → s.home < u.home → HasLike R (t ∷ ts) u → HasLike R ts u
like_behind R s t u ts rise heads less (x, (there, like)) =
    elim (first_or_later t x ts there rise) [
      | inl is ↦
          let home = like.0 in
          let at = ap (λ (y : ServingStub). y.home) is in
          absurd (omega (arith, heads, less, home, at))
      | inr later ↦ (x, (later.0, like))
    ]

pub align : (R S : ServingStub → ServingStub → Type 0) (ss ts : List ServingStub) → Ascend serving_home serving_size ss → Ascend serving_home serving_size ts → ((s : ServingStub) → Contains ss s → HasLike R ts s) → ((t : ServingStub) → Contains ts t → HasLike S ss t) → AreAlike R ss ts
align R S [] [] rise up forth back = tt
align R S [] (t ∷ ts) rise up forth back = none_in (back t (head_in t ts)).0 (back t (head_in t ts)).1.0
align R S (s ∷ ss) [] rise up forth back = none_in (forth s (head_in s ss)).0 (forth s (head_in s ss)).1.0
align R S (s ∷ ss) (t ∷ ts) rise up forth back =
    let head = first in (
      head,
      align R S ss ts (ascend_behind serving_home serving_size s ss rise) (ascend_behind serving_home serving_size t ts up)
          (λ u inside. like_behind R s t u ts up head.0 (behind_head s u ss inside rise) (forth u (tail_in s u ss inside)))
          (λ u inside. like_behind S t s u ss rise (sym head.0) (behind_head t u ts inside up) (back u (tail_in t u ts inside))),
    )
  where
    never : (x y : ServingStub) → t.home < x.home → s.home ≡ x.home → t.home ≡ y.home → (s ≡ y) ⊎ (Contains ss y × (s.home < y.home)) → ⊥
    never x y above one other (inl is) = let at = ap (λ (z : ServingStub). z.home) is in omega (arith, above, one, other, at)
    never x y above one other (inr later) = let less = later.1 in omega (arith, above, one, other, less)

    first : (s.home ≡ t.home) × R s t
    first =
        let l = forth s (head_in s ss) in
        let m = back t (head_in t ts) in
        elim (first_or_later t l.0 ts l.1.0 up) [
          | inl is ↦ subst (λ (x : ServingStub). (s.home ≡ x.home) × R s x) (sym is) l.1.1
          | inr later ↦ absurd (never l.0 m.0 later.1 l.1.1.0 m.1.1.0 (first_or_later s m.0 ss m.1.0 rise))
        ]

-- lists that are equal place by place
pub alike_same : (ss ts : List ServingStub) → AreAlike (λ s t. s ≡ t) ss ts → ss ≡ ts
alike_same [] [] alike = refl
alike_same [] (t ∷ ts) alike = absurd alike
alike_same (s ∷ ss) [] alike = absurd alike
alike_same (s ∷ ss) (t ∷ ts) alike = let first = alike.0.1 in let rest = alike_same ss ts alike.1 in λ i. first i ∷ rest i

pub alike_sums : (R : ServingStub → ServingStub → Type 0) (f : ServingStub → ℕ) → ((s t : ServingStub) → s.home ≡ t.home → R s t → f s ≡ f t) → (ss ts : List ServingStub) → AreAlike R ss ts → sum_by f ss ≡ sum_by f ts
alike_sums R f each [] [] alike = refl
alike_sums R f each [] (t ∷ ts) alike = absurd alike
alike_sums R f each (s ∷ ss) [] alike = absurd alike
alike_sums R f each (s ∷ ss) (t ∷ ts) alike =
    let here = each s t alike.0.0 alike.0.1 in
    let rest = alike_sums R f each ss ts alike.1 in
    let one = sum_by-cons f s ss in
    let other = sum_by-cons f t ts in
    omega (arith, here, rest, one, other)

module _ (R S : ServingStub → ServingStub → Type 0) (ss ts o u : List ServingStub) (one : AreOrdered ServingStub serving_home ss o) (other : AreOrdered ServingStub serving_home ts u) (forth : (s : ServingStub) → Contains ss s → HasLike R ts s) (back : (t : ServingStub) → Contains ts t → HasLike S ss t) where
  moved : (Q : ServingStub → ServingStub → Type 0) (xs ys : List ServingStub) (s : ServingStub) → ((t : ServingStub) → Contains xs t → Contains ys t) → HasLike Q xs s → HasLike Q ys s
  moved Q xs ys s into (t, (there, like)) = (t, (into t there, like))

  pub ordered_alike : AreAlike R o u
  ordered_alike =
      align R S o u (ascend_from serving_home serving_size o one.ascend) (ascend_from serving_home serving_size u other.ascend)
      (λ s inside. moved R ts u s (λ t there. Contains-permutation ts u t other.same there) (forth s (Contains-permutation o ss s (IsPermutation-sym ss o one.same) inside)))
      (λ t inside. moved S ss o t (λ s there. Contains-permutation ss o s one.same there) (back t (Contains-permutation u ts t (IsPermutation-sym ts u other.same) inside)))

  pub sums_same : (f : ServingStub → ℕ) → ((s t : ServingStub) → s.home ≡ t.home → R s t → f s ≡ f t) → sum_by f ss ≡ sum_by f ts
  sums_same f each =
      sym (sum_by-IsPermutation f ss o one.same) ∙ (alike_sums R f each o u ordered_alike ∙ sum_by-IsPermutation f ts u other.same)

-- ---- words of stubs

body_same : (t : ℕ) (body : StubBody) (ws vs : List ℕ) → AreSmall ws → AreSmall vs → IsBody t body ws → IsBody t body vs → ws ≡ vs
body_same t (jumps_to to) ws vs small more one other = same_words (jump_absolute t to) ws vs small more one other
body_same t (runs_words given) ws vs small more one other = one ∙ sym other

stub_same : (base switch at : ℕ) (stub : ServingStub) (ws vs : List ℕ) → AreSmall ws → AreSmall vs → AreStubWords base switch at stub ws → AreStubWords base switch at stub vs → ws ≡ vs
stub_same base switch at stub ws vs small more one other =
    let first = subst AreSmall one.whole small in
    let second = subst AreSmall other.whole more in
    let test = same_words (test_code base stub.temp at switch stub.region) one.test other.test (small_left one.test one.body first) (small_left other.test other.body second) one.tests other.tests in
    let body = body_same stub.temp stub.body one.body other.body (small_right one.test one.body first) (small_right other.test other.body second) one.does other.does in
    one.whole ∙ ((λ i. test i ++ body i) ∙ sym other.whole)

pub served_same : (base switch at : ℕ) (stubs : List ServingStub) (ws vs : List ℕ) → AreSmall ws → AreSmall vs → AreServed base switch at stubs ws → AreServed base switch at stubs vs → ws ≡ vs
served_same base switch at [] ws vs small more one other = one ∙ sym other
served_same base switch at (stub ∷ stubs) ws vs small more (here, (rest, (whole, (are, later)))) (there, (others, (also, (too, behind)))) =
    let first = subst AreSmall whole small in
    let second = subst AreSmall also more in
    let front = stub_same base switch at stub here there (small_left here rest first) (small_left there others second) are too in
    let back = served_same base switch (at + serving_size stub) stubs rest others (small_right here rest first) (small_right there others second) later behind in
    whole ∙ ((λ i. front i ++ back i) ∙ sym also)

start_same : (p : StartPlan) (ws vs : List ℕ) → AreSmall ws → AreSmall vs → AreStartWords p ws → AreStartWords p vs → ws ≡ vs
start_same p ws vs small more one other =
    let first = small_right (replicate 16 0) one.0 (subst AreSmall one.1.0 small) in
    let second = small_right (replicate 16 0) other.0 (subst AreSmall other.1.0 more) in
    let stub = same_words (start_stub p) one.0 other.0 first second one.1.1 other.1.1 in
    one.1.0 ∙ (ap (λ (xs : List ℕ). replicate 16 0 ++ xs) stub ∙ sym other.1.0)

-- ---- words of plans

pub overlay_same : (p q : OverlayPlan) (ws vs : List ℕ) (are : AreOverlayWords p ws) (too : AreOverlayWords q vs) → AreSmall ws → AreSmall vs → p.start ≡ q.start → switch_code p ≡ switch_code q → are.ordered ≡ too.ordered → p.images ≡ q.images → switch_at p ≡ switch_at q → serving_at p ≡ serving_at q → ws ≡ vs
overlay_same p q ws vs are too small more start code ordered images switch_there serving_there =
    let first = subst AreSmall are.whole small in
    let second = subst AreSmall too.whole more in
    let behind = small_right are.first (are.served ++ (are.switch ++ concat p.images)) first in
    let behind_too = small_right too.first (too.served ++ (too.switch ++ concat q.images)) second in
    let last = small_right are.served (are.switch ++ concat p.images) behind in
    let last_too = small_right too.served (too.switch ++ concat q.images) behind_too in
    let front : are.first ≡ too.first =
    start_same q.start are.first too.first (small_left are.first (are.served ++ (are.switch ++ concat p.images)) first) (small_left too.first (too.served ++ (too.switch ++ concat q.images)) second)
    (subst (λ (s : StartPlan). AreStartWords s are.first) start are.starts) too.starts in
    let serves : AreServed q.start.base (switch_at q) (serving_at q) too.ordered are.served =
    subst (λ (s : StartPlan). AreServed s.base (switch_at q) (serving_at q) too.ordered are.served) start
    (subst (λ (n : ℕ). AreServed p.start.base n (serving_at q) too.ordered are.served) switch_there
    (subst (λ (n : ℕ). AreServed p.start.base (switch_at p) n too.ordered are.served) serving_there
    (subst (λ (ss : List ServingStub). AreServed p.start.base (switch_at p) (serving_at p) ss are.served) ordered are.serves))) in
    let served : are.served ≡ too.served =
    served_same q.start.base (switch_at q) (serving_at q) too.ordered are.served too.served (small_left are.served (are.switch ++ concat p.images) behind) (small_left too.served (too.switch ++ concat q.images) behind_too) serves too.serves in
    let switch : are.switch ≡ too.switch =
    same_words (switch_code q) are.switch too.switch (small_left are.switch (concat p.images) last) (small_left too.switch (concat q.images) last_too)
    (subst (λ (is : List Instr). MeanAll are.switch is) code are.switches) too.switches in
    are.whole ∙ ((λ i. front i ++ (served i ++ (switch i ++ concat (images i)))) ∙ sym too.whole)

-- ---- the routine

-- two plans of switches with the same jobs in all regions
pub record HaveSameJobs (w u : SwitchPlan (List CopyJob)) : Type 0 where
  pub base : w.base ≡ u.base
  pub fence_i : w.fence_i ≡ u.fence_i
  pub twins : w.twins ≡ u.twins
  pub regions : w.regions ≡ u.regions
  pub leave : (i : ℕ) → i < u.regions → w.leave i ≡ u.leave i
  pub enter : (i : ℕ) → i < u.regions → w.enter i ≡ u.enter i
  pub kept_leave : (i : ℕ) → i < u.regions → w.kept_leave i ≡ u.kept_leave i
  pub kept_enter : (i : ℕ) → i < u.regions → w.kept_enter i ≡ u.kept_enter i

abbrev code_of : SwitchPlan (List CopyJob) → SwitchPlan (List Instr)
code_of w =
    record {
      base = w.base;
      fence_i = w.fence_i;
      twins = w.twins;
      regions = w.regions;
      leave = λ i. jobs_code (w.leave i);
      enter = λ i. jobs_code (w.enter i);
      kept_leave = λ i. jobs_code (w.kept_leave i);
      kept_enter = λ i. jobs_code (w.kept_enter i);
    }

own_code : (w : SwitchPlan (List CopyJob)) → IsCodeOf (code_of w) w
own_code w = record { base = refl; fence_i = refl; twins = refl; regions = refl; leave = λ i below. refl; enter = λ i below. refl; kept_leave = λ i below. refl; kept_enter = λ i below. refl }

other_code : (w u : SwitchPlan (List CopyJob)) → HaveSameJobs w u → IsCodeOf (code_of w) u
other_code w u same =
    record {
      base = same.base;
      fence_i = same.fence_i;
      twins = same.twins;
      regions = same.regions;
      leave = λ i below. ap jobs_code (same.leave i below);
      enter = λ i below. ap jobs_code (same.enter i below);
      kept_leave = λ i below. ap jobs_code (same.kept_leave i below);
      kept_enter = λ i below. ap jobs_code (same.kept_enter i below);
    }

pub switch_same : (p q : OverlayPlan) → HaveSameJobs (switching p) (switching q) → switch_code p ≡ switch_code q
switch_same p q same =
    let code = sym (same_routine (code_of (switching p)) (switching p) (own_code (switching p))) ∙ same_routine (code_of (switching p)) (switching q) (other_code (switching p) (switching q) same) in
    let regions : p.regions ≡ q.regions = same.regions in
    λ i. if regions i == 0 then [] else code i

-- ---- how many words

-- the same with as many jobs
pub record HaveAsManyJobs (w u : SwitchPlan (List CopyJob)) : Type 0 where
  pub fence_i : w.fence_i ≡ u.fence_i
  pub twins : w.twins ≡ u.twins
  pub regions : w.regions ≡ u.regions
  pub leave : (i : ℕ) → i < u.regions → length (w.leave i) ≡ length (u.leave i)
  pub enter : (i : ℕ) → i < u.regions → length (w.enter i) ≡ length (u.enter i)
  pub kept_leave : (i : ℕ) → i < u.regions → length (w.kept_leave i) ≡ length (u.kept_leave i)
  pub kept_enter : (i : ℕ) → i < u.regions → length (w.kept_enter i) ≡ length (u.kept_enter i)

kept_same : (twin : Option ℕ) (js ks : List CopyJob) → length js ≡ length ks → kept_words twin js ≡ kept_words twin ks
kept_same None js ks same = refl
kept_same (Some twin) js ks same = omega (arith, same)

module _ (w u : SwitchPlan (List CopyJob)) (same : HaveAsManyJobs w u) where
  twins_same : (r : ℕ) → twin_in w r ≡ twin_in u r
  twins_same r = let twins = same.twins in let regions = same.regions in λ i. if twins i then twin_of (regions i) r else None

  region_same : (i : ℕ) → i < u.regions → region_words w i ≡ region_words u i
  region_same i below =
      let leave = same.leave i below in
      let enter = same.enter i below in
      let left = ap (λ (t : Option ℕ). kept_words t (w.kept_leave i)) (twins_same (i + 1)) ∙ kept_same (twin_in u (i + 1)) (w.kept_leave i) (u.kept_leave i) (same.kept_leave i below) in
      let entered = ap (λ (t : Option ℕ). kept_words t (w.kept_enter i)) (twins_same (i + 1)) ∙ kept_same (twin_in u (i + 1)) (w.kept_enter i) (u.kept_enter i) (same.kept_enter i below) in
      omega (arith, leave, enter, left, entered)

  first_same : (n : ℕ) → n ≤ u.regions → first_words w n ≡ first_words u n
  first_same zero within = refl
  first_same (suc n) within =
      let earlier = first_same n (omega (arith, within)) in
      let here = region_same n (omega (arith, within)) in
      omega (arith, earlier, here)

  pub routine_same : length (routine jobs_code w) ≡ length (routine jobs_code u)
  routine_same =
      let one = routine_count_so w in
      let other = routine_count_so u in
      let fence = ap (λ (b : Bool). length (fences b)) same.fence_i in
      let regions = ap (first_words w) same.regions ∙ first_same u.regions (omega arith) in
      omega (arith, one, other, fence, regions)

length_by : (b : Bool) (is js : List Instr) → length is ≡ length js → 4 * length (if b then [] else is) ≡ 4 * length (if b then [] else js)
length_by true is js same = refl
length_by false is js same = ap (λ (n : ℕ). 4 * n) same

pub switch_bytes_same : (p q : OverlayPlan) → HaveAsManyJobs (switching p) (switching q) → switch_bytes p ≡ switch_bytes q
switch_bytes_same p q same =
    let regions : p.regions ≡ q.regions = same.regions in
    ap (λ (n : ℕ). 4 * length (if n == 0 then [] else routine jobs_code (switching p))) regions
    ∙ length_by (q.regions == 0) (routine jobs_code (switching p)) (routine jobs_code (switching q)) (routine_same (switching p) (switching q) same)

pub start_bytes_same : (p q : StartPlan) → p.fence_i ≡ q.fence_i → length p.jobs ≡ length q.jobs → start_bytes p ≡ start_bytes q
start_bytes_same p q fence jobs =
    let one = bytes_are p in
    let other = bytes_are q in
    let same = ap (λ (b : Bool). length (fences b)) fence in
    omega (arith, one, other, same, jobs)

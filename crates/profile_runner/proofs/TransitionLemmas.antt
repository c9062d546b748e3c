-- One transition more: where earlier transitions are stays, and each count grows by what the last one did.
use Rattle.std.proofs.Common.{◌≡◌, ◌∙◌, ℕ, zero, suc, ◌+◌, ◌<◌, ◌≤◌, ◌==◌, nat_lt, Bool, true, ◌&&◌, if◌then◌else◌, List, [], ◌∷◌, ◌++◌, length, refl, sym, ap, arith, length-append}
use Rattle.std.proofs.Math.Seq.{get_or-append_seam}
use Rattle.std.proofs.lemmas.List.{get_or_append_left}
use Rattle.code_blocks.specs.Early.{has}
use Rattle.list_checks.specs.Sorted.{count_below}
use Rattle.profile_runner.specs.Transition.{Transition, no_transition, transition_at}
use Rattle.profile_runner.specs.Standing.{number_of, begins, block_of, units_run, region_of, entered, current}
use Rattle.profile_runner.specs.Counts.{is_edge, is_access_to, arrivals_of, edges_of, accesses_of, switches_of}
use Rattle.profile_runner.specs.Tallies.{is_switch}
use Rattle.profile_runner.proofs.CountLemmas.{count_same}

-- ---- the transitions

before : (ms : List Transition) (m : Transition) (j : ℕ) → j < length ms → transition_at (ms ++ m ∷ []) j ≡ transition_at ms j
before ms m j below = get_or_append_left ms (m ∷ []) no_transition j below

here : (ms : List Transition) (m : Transition) → transition_at (ms ++ m ∷ []) (length ms) ≡ m
here ms m = get_or-append_seam ms m [] no_transition

pub one_longer : (ms : List Transition) (m : Transition) → length (ms ++ m ∷ []) ≡ suc (length ms)
one_longer ms m = let sum = length-append ms (m ∷ []) in omega (arith, sum)

-- ---- where earlier transitions are

begins_before : (starts : List ℕ) (ms : List Transition) (m : Transition) (j : ℕ) → j < length ms → begins starts (ms ++ m ∷ []) j ≡ begins starts ms j
begins_before starts ms m j below = ap (λ (x : Transition). has starts x.at) (before ms m j below)

begins_here : (starts : List ℕ) (ms : List Transition) (m : Transition) → begins starts (ms ++ m ∷ []) (length ms) ≡ has starts m.at
begins_here starts ms m = ap (λ (x : Transition). has starts x.at) (here ms m)

number_before : (starts : List ℕ) (ms : List Transition) (m : Transition) (j : ℕ) → j < length ms → number_of starts (transition_at (ms ++ m ∷ []) j).at ≡ number_of starts (transition_at ms j).at
number_before starts ms m j below = ap (λ (x : Transition). number_of starts x.at) (before ms m j below)

number_here : (starts : List ℕ) (ms : List Transition) (m : Transition) → number_of starts (transition_at (ms ++ m ∷ []) (length ms)).at ≡ number_of starts m.at
number_here starts ms m = ap (λ (x : Transition). number_of starts x.at) (here ms m)

choose : {A : Type 0} (b c : Bool) (x y z w : A) → b ≡ c → x ≡ z → y ≡ w → (if b then x else y) ≡ (if c then z else w)
choose b c x y z w test first second = rw (test, first, second) refl

block_before : (starts : List ℕ) (ms : List Transition) (m : Transition) (j : ℕ) → j < length ms → block_of starts (ms ++ m ∷ []) j ≡ block_of starts ms j
block_before starts ms m zero below = number_before starts ms m 0 below
block_before starts ms m (suc j) below =
    choose (begins starts (ms ++ m ∷ []) (suc j)) (begins starts ms (suc j)) _ _ _ _
    (begins_before starts ms m (suc j) below) (number_before starts ms m (suc j) below) (block_before starts ms m j (omega arith))

units_before : (starts : List ℕ) (ms : List Transition) (m : Transition) (j : ℕ) → j < length ms → units_run starts (ms ++ m ∷ []) j ≡ units_run starts ms j
units_before starts ms m zero below = refl
units_before starts ms m (suc j) below =
    choose (begins starts (ms ++ m ∷ []) (suc j)) (begins starts ms (suc j)) 1 _ 1 _
    (begins_before starts ms m (suc j) below) refl (ap suc (units_before starts ms m j (omega arith)))

current_before : (starts regions : List ℕ) (ms : List Transition) (m : Transition) (j : ℕ) → j ≤ length ms → current starts regions (ms ++ m ∷ []) j ≡ current starts regions ms j
current_before starts regions ms m zero below = refl
current_before starts regions ms m (suc j) below =
    let earlier = current_before starts regions ms m j (omega arith) in
    let number = number_before starts ms m j (omega arith) in
    choose (begins starts (ms ++ m ∷ []) j) (begins starts ms j) _ _ _ _
    (begins_before starts ms m j (omega arith))
    (ap (λ c. entered c (region_of regions (number_of starts (transition_at (ms ++ m ∷ []) j).at))) earlier
    ∙ ap (λ k. entered (current starts regions ms j) (region_of regions k)) number)
    earlier

-- ---- where the last transition is

block_last : (starts : List ℕ) (ms : List Transition) (m : Transition) (b n : ℕ) → n ≡ length ms → ((i : ℕ) → length ms ≡ suc i → b ≡ block_of starts ms i) → (length ms ≡ 0 → has starts m.at ≡ true) → block_of starts (ms ++ m ∷ []) n ≡ (if has starts m.at then number_of starts m.at else b)
block_last starts ms m b zero is earlier first =
    let begun = first (sym is) in
    let at = ap (λ n. number_of starts (transition_at (ms ++ m ∷ []) n).at) is ∙ number_here starts ms m in
    rw begun at
block_last starts ms m b (suc i) is earlier first =
    let at = ap (λ n. number_of starts (transition_at (ms ++ m ∷ []) n).at) is ∙ number_here starts ms m in
    let test = ap (λ n. begins starts (ms ++ m ∷ []) n) is ∙ begins_here starts ms m in
    choose (begins starts (ms ++ m ∷ []) (suc i)) (has starts m.at) _ _ _ b test at
    (block_before starts ms m i (omega (arith, is)) ∙ sym (earlier i (sym is)))

pub block_here : (starts : List ℕ) (ms : List Transition) (m : Transition) (b : ℕ) → ((i : ℕ) → length ms ≡ suc i → b ≡ block_of starts ms i) → (length ms ≡ 0 → has starts m.at ≡ true) → block_of starts (ms ++ m ∷ []) (length ms) ≡ (if has starts m.at then number_of starts m.at else b)
block_here starts ms m b earlier first = block_last starts ms m b (length ms) refl earlier first

units_last : (starts : List ℕ) (ms : List Transition) (m : Transition) (u n : ℕ) → n ≡ length ms → ((i : ℕ) → length ms ≡ suc i → u ≡ units_run starts ms i) → (length ms ≡ 0 → has starts m.at ≡ true) → units_run starts (ms ++ m ∷ []) n ≡ (if has starts m.at then 1 else suc u)
units_last starts ms m u zero is earlier first = let begun = first (sym is) in rw begun refl
units_last starts ms m u (suc i) is earlier first =
    let test = ap (λ n. begins starts (ms ++ m ∷ []) n) is ∙ begins_here starts ms m in
    choose (begins starts (ms ++ m ∷ []) (suc i)) (has starts m.at) 1 _ 1 (suc u) test refl
    (ap suc (units_before starts ms m i (omega (arith, is)) ∙ sym (earlier i (sym is))))

pub units_here : (starts : List ℕ) (ms : List Transition) (m : Transition) (u : ℕ) → ((i : ℕ) → length ms ≡ suc i → u ≡ units_run starts ms i) → (length ms ≡ 0 → has starts m.at ≡ true) → units_run starts (ms ++ m ∷ []) (length ms) ≡ (if has starts m.at then 1 else suc u)
units_here starts ms m u earlier first = units_last starts ms m u (length ms) refl earlier first

pub current_here : (starts regions : List ℕ) (ms : List Transition) (m : Transition) → current starts regions (ms ++ m ∷ []) (suc (length ms)) ≡ (if has starts m.at then entered (current starts regions ms (length ms)) (region_of regions (number_of starts m.at)) else current starts regions ms (length ms))
current_here starts regions ms m =
    let earlier = current_before starts regions ms m (length ms) (omega arith) in
    choose (begins starts (ms ++ m ∷ []) (length ms)) (has starts m.at) _ _ _ _
    (begins_here starts ms m)
    (ap (λ c. entered c (region_of regions (number_of starts (transition_at (ms ++ m ∷ []) (length ms)).at))) earlier
    ∙ ap (λ k. entered (current starts regions ms (length ms)) (region_of regions k)) (number_here starts ms m))
    earlier

-- ---- the counts

grown : (f g : ℕ → Bool) (ms : List Transition) (m : Transition) (last : Bool) → ((j : ℕ) → j < length ms → g j ≡ f j) → g (length ms) ≡ last → count_below g (length (ms ++ m ∷ [])) ≡ count_below f (length ms) + (if last then 1 else 0)
grown f g ms m last same at =
    rw (one_longer ms m)
    (let earlier = count_same f g (length ms) same in
    ap (λ n. n + (if g (length ms) then 1 else 0)) earlier
    ∙ ap (λ b. count_below f (length ms) + (if b then 1 else 0)) at)

pub arrivals_more : (starts : List ℕ) (ms : List Transition) (m : Transition) (b : ℕ) → arrivals_of starts (ms ++ m ∷ []) b ≡ arrivals_of starts ms b + (if has starts m.at && (number_of starts m.at == b) then 1 else 0)
arrivals_more starts ms m b =
    grown (λ i. begins starts ms i && (number_of starts (transition_at ms i).at == b))
    (λ i. begins starts (ms ++ m ∷ []) i && (number_of starts (transition_at (ms ++ m ∷ []) i).at == b))
    ms m _
    (λ j below. ap (λ (x : Transition). has starts x.at && (number_of starts x.at == b)) (before ms m j below))
    (ap (λ (x : Transition). has starts x.at && (number_of starts x.at == b)) (here ms m))

pub edges_more : (starts : List ℕ) (ms : List Transition) (m : Transition) (block a b : ℕ) → block_of starts (ms ++ m ∷ []) (length ms) ≡ block → edges_of starts (ms ++ m ∷ []) a b ≡ edges_of starts ms a b + (if m.goes_on && (block == a) && (nat_lt b (length starts) && (number_of starts m.next == b)) then 1 else 0)
edges_more starts ms m block a b is =
    grown (is_edge starts ms a b) (is_edge starts (ms ++ m ∷ []) a b) ms m _
    (λ j below.
    ap (λ (x : Transition). x.goes_on && (block_of starts (ms ++ m ∷ []) j == a) && (nat_lt b (length starts) && (number_of starts x.next == b))) (before ms m j below)
    ∙ ap (λ k. (transition_at ms j).goes_on && (k == a) && (nat_lt b (length starts) && (number_of starts (transition_at ms j).next == b))) (block_before starts ms m j below))
    (ap (λ (x : Transition). x.goes_on && (block_of starts (ms ++ m ∷ []) (length ms) == a) && (nat_lt b (length starts) && (number_of starts x.next == b))) (here ms m)
    ∙ ap (λ k. m.goes_on && (k == a) && (nat_lt b (length starts) && (number_of starts m.next == b))) is)

pub accesses_more : (starts regions : List ℕ) (ms : List Transition) (m : Transition) (region : ℕ) (write : Bool) (o r : ℕ) → current starts regions (ms ++ m ∷ []) (suc (length ms)) ≡ region → accesses_of starts regions (ms ++ m ∷ []) write o r ≡ accesses_of starts regions ms write o r + (if is_access_to write o m.access && (region == r) then 1 else 0)
accesses_more starts regions ms m region write o r is =
    grown (λ i. is_access_to write o (transition_at ms i).access && (current starts regions ms (suc i) == r))
    (λ i. is_access_to write o (transition_at (ms ++ m ∷ []) i).access && (current starts regions (ms ++ m ∷ []) (suc i) == r))
    ms m _
    (λ j below.
    ap (λ (x : Transition). is_access_to write o x.access && (current starts regions (ms ++ m ∷ []) (suc j) == r)) (before ms m j below)
    ∙ ap (λ k. is_access_to write o (transition_at ms j).access && (k == r)) (current_before starts regions ms m (suc j) (omega arith)))
    (ap (λ (x : Transition). is_access_to write o x.access && (current starts regions (ms ++ m ∷ []) (suc (length ms)) == r)) (here ms m)
    ∙ ap (λ k. is_access_to write o m.access && (k == r)) is)

pub switches_more : (starts regions : List ℕ) (ms : List Transition) (m : Transition) (old new s r : ℕ) → current starts regions ms (length ms) ≡ old → current starts regions (ms ++ m ∷ []) (suc (length ms)) ≡ new → switches_of starts regions (ms ++ m ∷ []) s r ≡ switches_of starts regions ms s r + (if is_switch old new s r then 1 else 0)
switches_more starts regions ms m old new s r was is =
    grown (λ i. is_switch (current starts regions ms i) (current starts regions ms (suc i)) s r)
    (λ i. is_switch (current starts regions (ms ++ m ∷ []) i) (current starts regions (ms ++ m ∷ []) (suc i)) s r)
    ms m _
    (λ j below.
    ap (λ k. is_switch k (current starts regions (ms ++ m ∷ []) (suc j)) s r) (current_before starts regions ms m j (omega arith))
    ∙ ap (λ k. is_switch (current starts regions ms j) k s r) (current_before starts regions ms m (suc j) (omega arith)))
    (ap (λ k. is_switch k (current starts regions (ms ++ m ∷ []) (suc (length ms))) s r) (current_before starts regions ms m (length ms) (omega arith) ∙ was)
    ∙ ap (λ k. is_switch old k s r) is)

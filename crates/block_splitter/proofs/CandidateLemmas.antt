-- Functions, loops and single blocks by their last blocks.
use Rattle.std.proofs.Common.{◌≡◌, ◌∙◌, ◌⊎◌, inl, inr, ℕ, zero, suc, ◌+◌, ◌-◌, ◌<◌, ◌≤◌, ◌==◌, Bool, true, false, ◌||◌, List, [], ◌∷◌, ◌++◌, slice_index_or, Option, Some, None, is_some, refl, sym, ap, subst, arith, append-nil}
use Rattle.std.specs.List.{All, AllPairs, Contains, list_any}
use Rattle.std.specs.List.Sorted.{IsStrictlyIncreasing}
use Rattle.std.proofs.lemmas.Bool.{both_ways, cases_lt, eq-eqb}
use Rattle.std.proofs.lemmas.Bool.Decides.{nat_tests}
use Rattle.std.proofs.lemmas.List.{append_assoc, get_or-map}
use Rattle.std.proofs.lemmas.List.Elements.{All-push}
use Rattle.std.proofs.lemmas.List.Folds.{Any-from_list_any, list_any_at, list_any-append}
use Rattle.elf_reader.specs.File.{PlainView}
use Rattle.code_blocks.specs.Blocks.{IsCode}
use Rattle.code_blocks.specs.Numbers.{starts_of, start_at, end_at}
use Rattle.code_blocks.specs.Leads.{owner_of, owner_at, is_of}
use Rattle.code_blocks.specs.declared.parts.Block.{Block}
use Rattle.code_blocks.specs.declared.parts.Code.{Code}
use Rattle.code_blocks.specs.declared.ends.End.{End}
use Rattle.code_blocks.specs.declared.ends.End.TheVariants as end
use Rattle.block_splitter.specs.declared.block_range.BlockRange.{BlockRange}
use Rattle.block_splitter.specs.Forms.{holds_block}
use Rattle.block_splitter.specs.Pieces.{IsRange, IsFunction, jump_targets, IsLoop, IsSingle, HasShape, ComesBefore}
use Rattle.block_splitter.specs.Facts.{block_count, target_of, to_block, range_to, IsOnly, StartsSingle, StartsLoop, StartsFunction, IsRunFirst, is_range, AddsEnding, AreCandidates}
use Rattle.block_splitter.proofs.FunctionLemmas.{owner_is, is_owner, between}
use Rattle.block_splitter.proofs.MeasureLemmas.{one_start}
use Rattle.block_splitter.proofs.OrderLemmas.{same_is}

-- ---- what a range holds

pub holds : (range : BlockRange) (b : ℕ) → range.first ≤ b → b ≤ range.last → holds_block b range ≡ true
holds range b low high = grind (arith, nat_tests, low, high)

pub held : (range : BlockRange) (b : ℕ) → holds_block b range ≡ true → (range.first ≤ b) × (b ≤ range.last)
held range b is = (grind (arith, nat_tests, is), grind (arith, nat_tests, is))

never_of : (b : Bool) → (b ≡ true → ⊥) → b ≡ false
never_of true is = absurd (is refl)
never_of false is = refl

true_both : (a b : Bool) → (a ≡ true → b ≡ true) → (b ≡ true → a ≡ true) → a ≡ b
true_both true b first second = sym (first refl)
true_both false true first second = second refl
true_both false false first second = refl

-- ---- the first block of a function

-- a first block that is carried on from the block before
pub run_goes_on : (c : Code) (k first : ℕ) → owner_at c k ≡ owner_at c (suc k) → IsRunFirst c k first → IsRunFirst c (suc k) first
run_goes_on c k first same is = record {
  upto = let upto = is.upto in omega (arith, upto);
  mine = λ f mine. is.mine f (is_owner c f k (same ∙ owner_is c f (suc k) mine));
  least = λ f a mine lower. is.least f a (is_owner c f k (same ∙ owner_is c f (suc k) mine)) lower;
}

pub run_begins : (v : PlainView) (c : Code) (k : ℕ) → IsCode v c → suc k < block_count c → (owner_at c k ≡ owner_at c (suc k) → ⊥) → IsRunFirst c (suc k) (suc k)
run_begins v c k code below differs = record {
  upto = omega arith;
  mine = λ f mine. mine;
  least = λ f a mine lower.
      never_of (is_of c f a)
      (λ earlier.
      let here = between v c f a k (suc k) code (omega (arith, lower)) (omega arith) below earlier mine in
      differs (owner_is c f k here ∙ sym (owner_is c f (suc k) mine)));
}

pub run_at_start : (c : Code) → IsRunFirst c 0 0
run_at_start c = record {
  upto = omega arith;
  mine = λ f mine. mine;
  least = λ f a mine lower. absurd (omega (arith, lower));
}

-- ---- shapes by their last blocks

some_is : (x y : ℕ) → Some x ≡ Some y → x ≡ y
some_is x y same = cc

no_some : (x : ℕ) → None ≡ Some x → ⊥
no_some x same = cc

one_of : (x a : ℕ) → Contains (x ∷ []) a → x ≡ a
one_of x a (zero, below, here) = here
one_of x a (suc k, below, here) = absurd (omega (arith, below))

none_of : (a : ℕ) → Contains [] a → ⊥
none_of a (k, below, here) = absurd (omega (arith, below))

jumps_to : (e : End) (a : ℕ) → Contains (jump_targets e) a → target_of e ≡ Some a
jumps_to (end.Fall next) a found = absurd (none_of a found)
jumps_to (end.Branch target next) a found = ap Some (one_of target a found)
jumps_to (end.Jump target) a found = ap Some (one_of target a found)
jumps_to (end.Call target back link) a found = absurd (none_of a found)
jumps_to (end.Tail target) a found = absurd (none_of a found)
jumps_to (end.Indirect back) a found = absurd (none_of a found)
jumps_to end.Stop a found = absurd (none_of a found)

first_of : (x a : ℕ) → Some x ≡ Some a → Contains (x ∷ []) a
first_of x a same = (0, omega arith, some_is x a same)

target_jumps : (e : End) (a : ℕ) → target_of e ≡ Some a → Contains (jump_targets e) a
target_jumps (end.Fall next) a is = absurd (no_some a is)
target_jumps (end.Branch target next) a is = first_of target a is
target_jumps (end.Jump target) a is = first_of target a is
target_jumps (end.Call target back link) a is = absurd (no_some a is)
target_jumps (end.Tail target) a is = absurd (no_some a is)
target_jumps (end.Indirect back) a is = absurd (no_some a is)
target_jumps end.Stop a is = absurd (no_some a is)

-- block `b` closes no loop where it doesn't jump, or jumps to no block
pub no_target : (c : Code) (b : ℕ) → target_of (end_at c b) ≡ None → IsOnly (StartsLoop c b) None
no_target c b none k = (
  (λ starts. absurd (no_some (start_at c k) (sym none ∙ jumps_to (end_at c b) (start_at c k) starts.1.back))),
  λ same. absurd (no_some k same),
)

-- the first block of a loop is the one at its target
loop_first : (c : Code) (b a first k : ℕ) → IsStrictlyIncreasing (starts_of c) → target_of (end_at c b) ≡ Some a → first < block_count c → start_at c first ≡ a → StartsLoop c b k → first ≡ k
loop_first c b a first k ascending target below at (f, loop) =
    let same = some_is a (start_at c k) (sym target ∙ jumps_to (end_at c b) (start_at c k) loop.back) in
    let ordered = loop.is_range.ordered in
    let within = loop.is_range.below in
    one_start c first k ascending below (omega (arith, ordered, within)) (at ∙ same)

pub loops : (v : PlainView) (c : Code) (b a first f : ℕ) → IsCode v c → b < block_count c → target_of (end_at c b) ≡ Some a → first < block_count c → start_at c first ≡ a → first ≤ b → owner_at c first ≡ Some f → owner_at c b ≡ Some f → IsOnly (StartsLoop c b) (Some first)
loops v c b a first f code below target within at le mine last k = (
  (λ starts. ap Some (loop_first c b a first k code.ascending target within at starts)),
  λ same.
      let here : first ≡ k = some_is first k same in
      subst (StartsLoop c b) here (
        f,
        record {
          is_range = record { ordered = le; below = below };
          back = target_jumps (end_at c b) (start_at c first) (target ∙ ap Some (sym at));
          inside = λ j is.
              let place = held (to_block b first) j is in
              between v c f first j b code place.0 place.1 below (is_owner c f first mine) (is_owner c f b last);
        },
      ),
)

pub no_loop : (c : Code) (b a first : ℕ) → IsStrictlyIncreasing (starts_of c) → target_of (end_at c b) ≡ Some a → first < block_count c → start_at c first ≡ a → ((f : ℕ) → first ≤ b → owner_at c first ≡ Some f → owner_at c b ≡ Some f → ⊥) → IsOnly (StartsLoop c b) None
no_loop c b a first ascending target within at never k = (
  (λ starts.
      let here : k ≡ first = sym (loop_first c b a first k ascending target within at starts) in
      let (f, loop) = subst (StartsLoop c b) here starts in
      let ordered : first ≤ b = loop.is_range.ordered in
      absurd (never f ordered
      (owner_is c f first (loop.inside first (holds (to_block b first) first (omega arith) ordered)))
      (owner_is c f b (loop.inside b (holds (to_block b first) b ordered (omega arith)))))),
  λ same. absurd (no_some k same),
)

-- the first block of a function is the one that is carried on
function_first : (c : Code) (b first k : ℕ) → IsRunFirst c b first → StartsFunction c b k → first ≡ k
function_first c b first k is (f, whole) =
    let ordered : k ≤ b = whole.is_range.ordered in
    let within = whole.is_range.below in
    let mine : is_of c f b ≡ true = whole.exact b within ∙ holds (to_block b k) b ordered (omega arith) in
    let here : is_of c f k ≡ true = whole.exact k (omega (arith, ordered, within)) ∙ holds (to_block b k) k (omega arith) ordered in
    let upto = is.upto in
    elim (cases_lt k first) [
      | inl lower ↦ absurd (both_ways _ (is.least f k mine lower) here)
      | inr from ↦
          let low = (held (to_block b k) first (sym (whole.exact first (omega (arith, upto, within))) ∙ is.mine f mine)).0 in
          omega (arith, from, low)
    ]

exact_at : (v : PlainView) (c : Code) (b first f j : ℕ) → IsCode v c → b < block_count c → IsRunFirst c b first → is_of c f b ≡ true → (suc b < block_count c → owner_at c (suc b) ≡ Some f → ⊥) → j < block_count c → is_of c f j ≡ holds_block j (to_block b first)
exact_at v c b first f j code below is mine ends within =
    true_both (is_of c f j) (holds_block j (to_block b first))
    (λ here.
    holds (to_block b first) j
    (elim (cases_lt j first) [ inl lower ↦ absurd (both_ways _ (is.least f j mine lower) here) | inr from ↦ from ])
    (elim (cases_lt b j) [
      | inl higher ↦ absurd (ends (omega (arith, higher, within)) (owner_is c f (suc b) (between v c f b (suc b) j code (omega arith) (omega (arith, higher)) within mine here)))
      | inr upto ↦ upto
    ]))
    (λ inside.
    let place = held (to_block b first) j inside in
    between v c f first j b code place.0 place.1 below (is.mine f mine) mine)

pub functions : (v : PlainView) (c : Code) (b first f : ℕ) → IsCode v c → b < block_count c → IsRunFirst c b first → owner_at c b ≡ Some f → (suc b < block_count c → owner_at c (suc b) ≡ Some f → ⊥) → IsOnly (StartsFunction c b) (Some first)
functions v c b first f code below is owner ends k = (
  (λ starts. ap Some (function_first c b first k is starts)),
  λ same.
      let here : first ≡ k = some_is first k same in
      subst (StartsFunction c b) here (
        f,
        record {
          is_range = record { ordered = is.upto; below = below };
          exact = λ j within. exact_at v c b first f j code below is (is_owner c f b owner) ends within;
        },
      ),
)

pub no_function : (c : Code) (b : ℕ) → ((f : ℕ) → owner_at c b ≡ Some f → (suc b < block_count c → owner_at c (suc b) ≡ Some f → ⊥) → ⊥) → IsOnly (StartsFunction c b) None
no_function c b never k = (
  (λ starts.
      let (f, whole) = starts in
      let ordered : k ≤ b = whole.is_range.ordered in
      let within = whole.is_range.below in
      absurd (never f
      (owner_is c f b (whole.exact b within ∙ holds (to_block b k) b ordered (omega arith)))
      (λ below next.
      let high = (held (to_block b k) (suc b) (sym (whole.exact (suc b) below) ∙ is_owner c f (suc b) next)).1 in
      absurd (omega (arith, high))))),
  λ same. absurd (no_some k same),
)

-- ---- lists of ranges

range_itself : (r : BlockRange) → is_range r r ≡ true
range_itself r = rw (eq-eqb r.first r.first refl, eq-eqb r.last r.last refl) refl

or_left : (a b : Bool) → a ≡ true → a || b ≡ true
or_left a b is = rw is refl

or_right : (a b : Bool) → b ≡ true → a || b ≡ true
or_right true b is = refl
or_right false b is = is

-- the ranges that end at a block come behind others
all_append : (P : BlockRange → Type 0) (xs ys : List BlockRange) → All P xs → All P ys → All P (xs ++ ys)
all_append P xs [] first second = subst (All P) (sym (append-nil xs)) first
all_append P xs (y ∷ ys) first second =
    subst (All P) (append_assoc xs (y ∷ []) ys)
    (all_append P (xs ++ y ∷ []) ys (All-push P xs y first (second 0 y (omega arith))) (λ j d below. second (suc j) d (omega (arith, below))))

one_all : (Q : BlockRange → Type 0) (r : BlockRange) → Q r → All Q (r ∷ [])
one_all Q r is zero d below = is
one_all Q r is (suc k) d below = absurd (omega (arith, below))

only_sound : (P : ℕ → Type 0) (Q : BlockRange → Type 0) (b : ℕ) (o : Option ℕ) → IsOnly P o → ((k : ℕ) → P k → Q (to_block b k)) → All Q (range_to b o)
only_sound P Q b None only sound = λ j d below. absurd (omega (arith, below))
only_sound P Q b (Some first) only sound = one_all Q (to_block b first) (sound first ((only first).1 refl))

only_whole : (P : ℕ → Type 0) (b : ℕ) (o : Option ℕ) (r : BlockRange) → IsOnly P o → r.last ≡ b → P r.first → list_any (is_range r) (range_to b o) ≡ true
only_whole P b None r only last is = absurd (no_some r.first ((only r.first).0 is))
only_whole P b (Some first) r only last is =
    let same : first ≡ r.first = some_is first r.first ((only r.first).0 is) in
    or_left (is_range r (to_block b first)) false (rw (eq-eqb r.first first (sym same), eq-eqb r.last b last) refl)

ended_at : (P : BlockRange → Type 0) (r : BlockRange) (b : ℕ) → r.last ≡ b → P r → P (to_block b r.first)
ended_at P r b last is = subst P (λ i. record { first = r.first; last = last i }) is

pieces_any : (c : Code) (b : ℕ) (old new : List BlockRange) (s l f : Option ℕ) (r : BlockRange) → new ≡ ((old ++ range_to b s) ++ range_to b l) ++ range_to b f
    → ((list_any (is_range r) old || list_any (is_range r) (range_to b s)) || list_any (is_range r) (range_to b l)) || list_any (is_range r) (range_to b f) ≡ true → list_any (is_range r) new ≡ true
pieces_any c b old new s l f r is found =
    ap (list_any (is_range r)) is
    ∙ list_any-append (is_range r) ((old ++ range_to b s) ++ range_to b l) (range_to b f)
    ∙ ap (λ (t : Bool). t || list_any (is_range r) (range_to b f)) (list_any-append (is_range r) (old ++ range_to b s) (range_to b l))
    ∙ ap (λ (t : Bool). (t || list_any (is_range r) (range_to b l)) || list_any (is_range r) (range_to b f)) (list_any-append (is_range r) old (range_to b s))
    ∙ found

pub adds_ending : (c : Code) (b : ℕ) (old new : List BlockRange) (s l f : Option ℕ) → IsOnly (StartsSingle c b) s → IsOnly (StartsLoop c b) l → IsOnly (StartsFunction c b) f → new ≡ ((old ++ range_to b s) ++ range_to b l) ++ range_to b f → AddsEnding c b old new
adds_ending c b old new s l f single loop whole is = record {
  sound = λ sound.
      subst (All (HasShape c)) (sym is)
      (all_append (HasShape c) ((old ++ range_to b s) ++ range_to b l) (range_to b f)
      (all_append (HasShape c) (old ++ range_to b s) (range_to b l)
      (all_append (HasShape c) old (range_to b s) sound
      (only_sound (StartsSingle c b) (HasShape c) b s single (λ k starts. (starts.0, inr (inr starts.1)))))
      (only_sound (StartsLoop c b) (HasShape c) b l loop (λ k starts. (starts.0, inr (inl starts.1)))))
      (only_sound (StartsFunction c b) (HasShape c) b f whole (λ k starts. (starts.0, inl starts.1))));
  kept = λ r found. pieces_any c b old new s l f r is (or_left _ _ (or_left _ _ (or_left _ _ found)));
  whole = λ r shape last.
      pieces_any c b old new s l f r is
      (elim shape.1 [
        | inl function ↦ or_right _ _ (only_whole (StartsFunction c b) b f r whole last (shape.0, ended_at (λ x. IsFunction c shape.0 x) r b last function))
        | inr other ↦ elim other [
          | inl looped ↦ or_left _ _ (or_right _ _ (only_whole (StartsLoop c b) b l r loop last (shape.0, ended_at (λ x. IsLoop c shape.0 x) r b last looped)))
          | inr alone ↦ or_left _ _ (or_left _ _ (or_right _ _ (only_whole (StartsSingle c b) b s r single last (shape.0, ended_at (λ x. IsSingle c shape.0 x) r b last alone))))
        ]
      ]);
}

-- ---- all of them

-- a list that has the same ranges has the same shapes
pub same_sound : (c : Code) (old new : List BlockRange) → All (HasShape c) old → ((test : BlockRange → Bool) → list_any test new ≡ list_any test old) → All (HasShape c) new
same_sound c old new sound same = λ k d below.
    let r = slice_index_or new k d in
    let found : list_any (is_range r) old ≡ true = sym (same (is_range r)) ∙ list_any_at (is_range r) new k d below (range_itself r) in
    let (j, s, within, here, is) = Any-from_list_any (is_range r) old found in
    subst (HasShape c) (sym (same_is r s is)) (subst (HasShape c) here (sound j s within))

-- ---- the first block of a function, as it is carried on

previous : (b : ℕ) → 0 < b → b ≡ suc (b - 1)
previous b some = omega (arith, some)

pub run_carried : (c : Code) (b before : ℕ) → 0 < b → owner_at c (b - 1) ≡ owner_at c b → ((k : ℕ) → b ≡ suc k → IsRunFirst c k before) → IsRunFirst c b before
run_carried c b before some same is =
    let next = previous b some in
    subst (λ (x : ℕ). IsRunFirst c x before) (sym next)
    (run_goes_on c (b - 1) before (same ∙ ap (owner_at c) next) (is (b - 1) next))

pub run_new : (v : PlainView) (c : Code) (b : ℕ) → IsCode v c → b < block_count c → (b ≡ 0) ⊎ ((0 < b) × (owner_at c (b - 1) ≡ owner_at c b → ⊥)) → IsRunFirst c b b
run_new v c b code below (inl start) = subst (λ (x : ℕ). IsRunFirst c x x) (sym start) (run_at_start c)
run_new v c b code below (inr (some, differs)) =
    let next = previous b some in
    subst (λ (x : ℕ). IsRunFirst c x x) (sym next)
    (run_begins v c (b - 1) code (subst (λ (x : ℕ). x < block_count c) next below) (λ same. differs (same ∙ ap (owner_at c) (sym next))))

-- ---- the last block of a function

owner_there : (c : Code) (b : ℕ) (block : Block) → b < block_count c → block ≡ slice_index_or c.blocks.items b block → owner_at c b ≡ block.function
owner_there c b block below is = get_or-map owner_of c.blocks.items b block None below ∙ ap owner_of (sym is)

some_there : (o : Option ℕ) → is_some o ≡ true → (f : ℕ) × (o ≡ Some f)
some_there None is = cc
some_there (Some f) is = (f, refl)

-- no block stands behind the last of all
pub ends_last : (c : Code) (b n : ℕ) (block : Block) → b < block_count c → block ≡ slice_index_or c.blocks.items b block → is_some block.function ≡ true → b + 1 ≡ n → n ≡ block_count c
    → (((b + 1) == n) ≡ true → (f : ℕ) × (owner_at c b ≡ Some f) × (suc b < block_count c → owner_at c (suc b) ≡ Some f → ⊥))
    × (((f : ℕ) × (owner_at c b ≡ Some f) × (suc b < block_count c → owner_at c (suc b) ≡ Some f → ⊥)) → ((b + 1) == n) ≡ true)
ends_last c b n block below is some last count = (
  (λ yes. let (f, owner) = some_there block.function some in (f, owner_there c b block below is ∙ owner, λ within next. absurd (omega (arith, within, last, count)))),
  (λ ends. eq-eqb (b + 1) n last),
)

-- three lists behind one another
pub chained : (b number : ℕ) (old first second new : List BlockRange) (s l f : Option ℕ) → number ≡ b → first ≡ old ++ range_to number s → second ≡ first ++ range_to number l → new ≡ second ++ range_to number f → new ≡ ((old ++ range_to b s) ++ range_to b l) ++ range_to b f
chained b number old first second new s l f is one two three =
    three ∙ (λ i. (two ∙ (λ j. one j ++ range_to number l)) i ++ range_to number f) ∙ ap (λ (n : ℕ). ((old ++ range_to n s) ++ range_to n l) ++ range_to n f) is

-- all shapes end at one of the blocks
pub shape_below : (c : Code) (r : BlockRange) → HasShape c r → r.last < block_count c
shape_below c r (f, inl whole) = whole.is_range.below
shape_below c r (f, inr (inl loop)) = loop.is_range.below
shape_below c r (f, inr (inr single)) = single.is_range.below

pub shape_range : (c : Code) (r : BlockRange) → HasShape c r → IsRange c r
shape_range c r (f, inl whole) = whole.is_range
shape_range c r (f, inr (inl loop)) = loop.is_range
shape_range c r (f, inr (inr single)) = single.is_range

pub are_candidates : (c : Code) (n : ℕ) (old new : List BlockRange) → block_count c ≤ n → All (HasShape c) old → ((r : BlockRange) → HasShape c r → r.last < n → list_any (is_range r) old ≡ true) → AllPairs ComesBefore new → ((test : BlockRange → Bool) → list_any test new ≡ list_any test old)
    → AreCandidates c new
are_candidates c n old new all sound whole ordered same = record {
  ordered = ordered;
  sound = same_sound c old new sound same;
  whole = λ r shape. let below = shape_below c r shape in same (is_range r) ∙ whole r shape (omega (arith, below, all));
}

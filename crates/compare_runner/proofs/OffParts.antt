-- Steps fetch no word at a form of the next unit before its time where none of their parts does: each part is looked at behind
-- the words before it.
use Rattle.std.proofs.Common.{◌≡◌, ◌∙◌, ◌⊎◌, inl, inr, ℕ, zero, suc, ◌+◌, ◌*◌, ◌<◌, ◌≤◌, false, List, [], ◌∷◌, ◌++◌, length, map, drop, refl, sym, ap, subst, arith}
use Rattle.std.specs.Prelude.{All, Contains}
use Rattle.std.proofs.lemmas.Bool.{both_ways}
use Rattle.std.proofs.lemmas.List.{append_assoc, get_or-map, length-map}
use Rattle.std.proofs.lemmas.List.Elements.{All-head, All-tail, All-nil, All-cons, All-append}
use Rattle.board_config.specs.declared.board.Board.{Board}
use Rattle.flat_machine.specs.Lines.{words_from}
use Rattle.flat_machine.specs.Mapping.{in_range}
use Rattle.flat_machine.specs.declared.events.FlatEvent.{FlatEvent}
use Rattle.result_laws.specs.Walks.{address_in}
use Rattle.relink_core.specs.declared.unit_forms.UnitAt.{UnitAt}
use Rattle.compare_runner.specs.Comings.{EndsInPatch}

-- ---- an event of a list of two parts

heads : (d e : FlatEvent) (es fs : List FlatEvent) → d ∷ es ≡ e ∷ fs → d ≡ e
heads d e es fs same = cc

tails : (d e : FlatEvent) (es fs : List FlatEvent) → d ∷ es ≡ e ∷ fs → es ≡ fs
tails d e es fs same = cc

-- is one of the first, or of the second
pub data IsOfParts (es fs gs : List FlatEvent) (e : FlatEvent) (rest : List FlatEvent) : Type 0 where
  OfFirst : (more : List FlatEvent) → es ≡ gs ++ e ∷ more → IsOfParts es fs gs e rest
  OfSecond : (more : List FlatEvent) → gs ≡ es ++ more → fs ≡ more ++ e ∷ rest → IsOfParts es fs gs e rest

of_more : (d h : FlatEvent) (es fs gs : List FlatEvent) (e : FlatEvent) (rest : List FlatEvent) → d ≡ h → IsOfParts es fs gs e rest → IsOfParts (d ∷ es) fs (h ∷ gs) e rest
of_more d h es fs gs e rest same (OfFirst more whole) = OfFirst more (ap (λ (x : FlatEvent). x ∷ es) same ∙ ap (λ (xs : List FlatEvent). h ∷ xs) whole)
of_more d h es fs gs e rest same (OfSecond more before behind) =
    OfSecond more (ap (λ (x : FlatEvent). x ∷ gs) (sym same) ∙ ap (λ (xs : List FlatEvent). d ∷ xs) before) behind

pub of_parts : (es fs gs : List FlatEvent) (e : FlatEvent) (rest : List FlatEvent) → es ++ fs ≡ gs ++ e ∷ rest → IsOfParts es fs gs e rest
of_parts [] fs gs e rest whole = OfSecond gs refl whole
of_parts (d ∷ es) fs [] e rest whole = OfFirst es (ap (λ (x : FlatEvent). x ∷ es) (heads d e (es ++ fs) rest whole))
of_parts (d ∷ es) fs (h ∷ gs) e rest whole =
    of_more d h es fs gs e rest (heads d h (es ++ fs) (gs ++ e ∷ rest) whole) (of_parts es fs gs e rest (tails d h (es ++ fs) (gs ++ e ∷ rest) whole))

-- ---- what holds of all events

pub all_there : (P : FlatEvent → Type 0) (fs : List FlatEvent) (e : FlatEvent) (rest : List FlatEvent) → All P (fs ++ e ∷ rest) → P e
all_there P [] e rest all = All-head P e rest all
all_there P (f ∷ fs) e rest all = all_there P fs e rest (All-tail P f (fs ++ e ∷ rest) all)

all_before : (P : FlatEvent → Type 0) (fs rest : List FlatEvent) → All P (fs ++ rest) → All P fs
all_before P [] rest all = All-nil P
all_before P (f ∷ fs) rest all =
    All-cons P f fs (All-head P f (fs ++ rest) all) (all_before P fs rest (All-tail P f (fs ++ rest) all))

-- ---- words one behind the other

-- the place of an event that fetches one of them
pub record IsWordAt (a n k : ℕ) (e : FlatEvent) : Type 0 where
  pub below : k < n
  pub at : e.at ≡ a + 4 * k

word_behind : (a n k : ℕ) (e : FlatEvent) → IsWordAt (a + 4) n k e → IsWordAt a (suc n) (suc k) e
word_behind a n k e word =
    let below = word.below in
    let at = word.at in
    record { below = omega (arith, below); at = omega (arith, at) }

number_heads : (x y : ℕ) (xs ys : List ℕ) → x ∷ xs ≡ y ∷ ys → x ≡ y
number_heads x y xs ys same = cc

number_tails : (x y : ℕ) (xs ys : List ℕ) → x ∷ xs ≡ y ∷ ys → xs ≡ ys
number_tails x y xs ys same = cc

pub word_there : (fs : List FlatEvent) (e : FlatEvent) (rest : List FlatEvent) (a n : ℕ) → map address_in (fs ++ e ∷ rest) ≡ words_from a n → IsWordAt a n (length fs) e
word_there [] e rest a zero same = absurd (cc (same))
word_there (f ∷ fs) e rest a zero same = absurd (cc (same))
word_there [] e rest a (suc n) same =
    let first : e.at ≡ a = number_heads e.at a (map address_in rest) (words_from (a + 4) n) same in
    record { below = omega arith; at = omega (arith, first) }
word_there (f ∷ fs) e rest a (suc n) same =
    word_behind a n (length fs) e (word_there fs e rest (a + 4) n (number_tails f.at a (map address_in (fs ++ e ∷ rest)) (words_from (a + 4) n) same))

-- what holds of all their addresses holds of them
pub each_address : (P : ℕ → Type 0) (es : List FlatEvent) (fetched : List ℕ) → map address_in es ≡ fetched → All P fetched → All (λ (e : FlatEvent). P e.at) es
each_address P es fetched same each k d below =
    let count = length-map es address_in in
    let there = subst (λ (xs : List ℕ). All P xs) (sym same) each k 0 (omega (arith, count, below)) in
    subst P (get_or-map address_in es k d 0 below) there

-- and what holds of all but the first
pub each_behind : (P : ℕ → Type 0) (es : List FlatEvent) (fetched : List ℕ) → map address_in es ≡ fetched → All P (drop 1 fetched) → All (λ (e : FlatEvent). P e.at) (drop 1 es)
each_behind P [] fetched same each = All-nil (λ (e : FlatEvent). P e.at)
each_behind P (e ∷ es) [] same each = absurd (cc (same))
each_behind P (e ∷ es) (a ∷ rest) same each = each_address P es rest (number_tails e.at a (map address_in es) rest same) each

pub each_from : (P : ℕ → Type 0) (a n : ℕ) → ((k : ℕ) → k < n → P (a + 4 * k)) → All P (words_from a n)
each_from P a zero each = All-nil P
each_from P a (suc n) each =
    let first : a + 4 * 0 ≡ a = omega arith in
    All-cons P a (words_from (a + 4) n) (subst P first (each 0 (omega arith)))
    (each_from P (a + 4) n
    (λ k below. let place : a + 4 * suc k ≡ a + 4 + 4 * k = omega arith in subst P place (each (suc k) (omega (arith, below)))))

-- ---- the patch range

-- it is not fetched there
abbrev pub IsOutside : Board → FlatEvent → Type 0
IsOutside board e = in_range board.patch e.at ≡ false

pub never_ends : (board : Board) (es : List FlatEvent) → All (IsOutside board) es → EndsInPatch board es → ⊥
never_ends board es all ends =
    both_ways (in_range board.patch ends.last.at)
    (all_there (IsOutside board) ends.before ends.last [] (subst (All (IsOutside board)) ends.whole all)) ends.fetched

-- ---- parts

-- it is at no form of a unit
abbrev pub IsNoForm : List UnitAt → ℕ → FlatEvent → Type 0
IsNoForm units home e = (x : UnitAt) → Contains units x → x.home ≡ home → x.at ≡ e.at → ⊥

-- a form stands where control comes behind some steps, while region `to` is current, and another was before
abbrev pub MayCount : Board → (from to : ℕ) → UnitAt → List FlatEvent → Type 0
MayCount board from to x fs = (x.region ≡ 0) ⊎ ((x.region ≡ to) × ((from ≡ to) ⊎ EndsInPatch board fs))

-- `least` words or more are before the first that is looked at
module _ (units : List UnitAt) (board : Board) (from to home least : ℕ) where
  -- of the words of a part, behind others, none is fetched at a form of the unit that stands there then
  abbrev pub PartIsOff : List FlatEvent → List FlatEvent → Type 0
  PartIsOff before es =
      (fs rest : List FlatEvent) (e : FlatEvent) (x : UnitAt) → es ≡ fs ++ e ∷ rest → least ≤ length (before ++ fs) → Contains units x → x.home ≡ home
      → x.at ≡ e.at → MayCount board from to x (before ++ fs) → ⊥

  parts_by : (before es fs gs rest : List FlatEvent) (e : FlatEvent) (x : UnitAt) → PartIsOff before es → PartIsOff (before ++ es) fs → IsOfParts es fs gs e rest → least ≤ length (before ++ gs) → Contains units x → x.home ≡ home → x.at ≡ e.at → MayCount board from to x (before ++ gs) → ⊥
  parts_by before es fs gs rest e x one other (OfFirst more whole) some listed own at counts = one gs more e x whole some listed own at counts
  parts_by before es fs gs rest e x one other (OfSecond more first behind) some listed own at counts =
      let same : before ++ gs ≡ before ++ es ++ more = ap (λ (xs : List FlatEvent). before ++ xs) first ∙ sym (append_assoc before es more) in
      other more rest e x behind (subst (λ (xs : List FlatEvent). least ≤ length xs) same some) listed own at
      (subst (λ (xs : List FlatEvent). MayCount board from to x xs) same counts)

  pub parts_off : (before es fs : List FlatEvent) → PartIsOff before es → PartIsOff (before ++ es) fs → PartIsOff before (es ++ fs)
  parts_off before es fs one other gs rest e x whole some listed own at counts =
      parts_by before es fs gs rest e x one other (of_parts es fs gs e rest whole) some listed own at counts

  pub never_off : (before es : List FlatEvent) → All (IsNoForm units home) es → PartIsOff before es
  never_off before es all fs rest e x whole some listed own at counts =
      all_there (IsNoForm units home) fs e rest (subst (All (IsNoForm units home)) whole all) x listed own at

  -- the first word may be at one
  pub behind_off : 0 < least → (es : List FlatEvent) → All (IsNoForm units home) (drop 1 es) → PartIsOff [] es
  behind_off most es all [] rest e x whole some listed own at counts = omega (arith, most, some)
  behind_off most es all (f ∷ fs) rest e x whole some listed own at counts =
      all_there (IsNoForm units home) fs e rest (subst (λ (xs : List FlatEvent). All (IsNoForm units home) (drop 1 xs)) whole all) x listed own at

  -- where no word is fetched in the patch range, of the forms in one region those in the one that was current count
  outside_counts : (fs : List FlatEvent) (x : UnitAt) → All (IsOutside board) fs → MayCount board from to x fs → (x.region ≡ 0) ⊎ (x.region ≡ from)
  outside_counts fs x all (inl none) = inl none
  outside_counts fs x all (inr (region, inl same)) = inr (region ∙ sym same)
  outside_counts fs x all (inr (region, inr ends)) = absurd (never_ends board fs all ends)

  pub outside_off : (before es : List FlatEvent) → All (IsOutside board) before → All (IsOutside board) es
      → ((fs rest : List FlatEvent) (e : FlatEvent) (x : UnitAt) → es ≡ fs ++ e ∷ rest → least ≤ length (before ++ fs) → Contains units x → x.at ≡ e.at → (x.region ≡ 0) ⊎ (x.region ≡ from) → ⊥)
      → PartIsOff before es
  outside_off before es first all apart fs rest e x whole some listed own at counts =
      let here : All (IsOutside board) fs = all_before (IsOutside board) fs (e ∷ rest) (subst (All (IsOutside board)) whole all) in
      apart fs rest e x whole some listed at (outside_counts (before ++ fs) x (All-append (IsOutside board) before fs first here) counts)

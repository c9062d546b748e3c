-- Why one search among reaches tells which section has some bytes.
use Rattle.std.proofs.Common.{◌≡◌, ◌∙◌, ◌⊎◌, inl, inr, ℕ, zero, suc, ◌+◌, ◌-◌, ◌<◌, ◌≤◌, ◌==◌, nat_le, Bool, true, false, ◌&&◌, if◌then◌else◌, List, length, slice_index_or, refl, sym, ap, subst, arith}
use Rattle.std.specs.List.{list_any}
use Rattle.std.specs.List.Sorted.{IsNonDecreasingBy, IsPartitionPoint}
use Rattle.std.proofs.lemmas.Bool.{cases_Bool, cases_lt, eq-eqb, eqb-true, leb-true}
use Rattle.std.proofs.lemmas.Bool.Decides.{nat_tests}
use Rattle.std.proofs.lemmas.List.Folds.{list_any_at}
use Rattle.list_checks.specs.Tests.{any_below, lies_in}
use Rattle.list_checks.proofs.StepLemmas.{length_built, built_at, any_place}
use Rattle.list_checks.proofs.TestLemmas.{both, any_at, any_found}
use Rattle.elf_reader.specs.File.{PlainView}
use Rattle.elf_reader.specs.Loaded.{section_at}
use Rattle.loaded_file.specs.declared.reaches.Reach.{Reach}
use Rattle.loaded_file.specs.declared.reaches.SectionKind.{SectionKind}
use Rattle.loaded_file.specs.Reaches.{is_of_kind, holds_range, section_end, own_reach, passes_own, AreOwnReaches, no_reach, reach_at, further, reach_below, reaches_below, reaches_from, IsReach, AreReaches}
use Rattle.loaded_file.proofs.ByteRangeLemmas.{both_made}

-- ---- the reaches of the sections, each by itself

same_reach : Reach → Reach → Bool
same_reach q r = (r.start == q.start) && (r.furthest_end == q.furthest_end) && (r.section == q.section)

record IsSame (q r : Reach) : Type 0 where
  pub start : r.start ≡ q.start
  pub end : r.furthest_end ≡ q.furthest_end
  pub section : r.section ≡ q.section

same_parts : (q r : Reach) → same_reach q r ≡ true → IsSame q r
unfolding same_reach
same_parts q r same =
    let last = both ((r.start == q.start) && (r.furthest_end == q.furthest_end)) (r.section == q.section) same in
    let first = both (r.start == q.start) (r.furthest_end == q.furthest_end) last.0 in
    record { start = eqb-true _ _ first.0; end = eqb-true _ _ first.1; section = eqb-true _ _ last.1 }

same_itself : (q : Reach) → same_reach q q ≡ true
unfolding same_reach
same_itself q = both_made _ _ (both_made _ _ (eq-eqb q.start q.start refl) (eq-eqb q.furthest_end q.furthest_end refl)) (eq-eqb q.section q.section refl)

own_true : (kind : SectionKind) (v : PlainView) (own : List Reach) → AreOwnReaches kind v own → (i : ℕ) → i < length own → IsReach kind v (reach_at own i)
own_true kind v own are i below =
    let r = reach_at own i in
    let found = list_any_at (same_reach r) own i no_reach below (same_itself r) in
    let (k, inside, passes) = any_found (passes_own kind v (same_reach r)) (length v.sections) (sym (are.exact (same_reach r)) ∙ found) in
    let parts = both (is_of_kind kind v k) (same_reach r (own_reach v k)) passes in
    let same = same_parts r (own_reach v k) parts.1 in
    let number : k ≡ r.section = same.section in
    let begins : (section_at v k).addr ≡ r.start = same.start in
    record {
      of_kind = subst (λ (j : ℕ). is_of_kind kind v j ≡ true) number parts.0;
      below = subst (λ (j : ℕ). j < length v.sections) number inside;
      begins = subst (λ (j : ℕ). (section_at v j).addr ≤ r.start) number (omega (arith, begins));
      ends = subst (λ (j : ℕ). section_end v j ≡ r.furthest_end) number same.end;
    }

own_all : (kind : SectionKind) (v : PlainView) (own : List Reach) → AreOwnReaches kind v own → (k : ℕ) → k < length v.sections → is_of_kind kind v k ≡ true → (i : ℕ) × ((i < length own) × IsSame (own_reach v k) (reach_at own i))
own_all kind v own are k below of_kind =
    let asked = same_reach (own_reach v k) in
    let found = any_at (passes_own kind v asked) (length v.sections) k below (both_made _ _ of_kind (same_itself (own_reach v k))) in
    let (i, at) = any_place asked own no_reach (are.exact asked ∙ found) in
    (i, (at.0, same_parts (own_reach v k) (reach_at own i) at.1))

-- ---- the further of two

start_by : (b : Bool) (last r : Reach) → (if b then r else record last { start = r.start }).start ≡ r.start
start_by true last r = refl
start_by false last r = refl

start_of : (last r : Reach) → (further last r).start ≡ r.start
start_of last r = start_by (nat_le last.furthest_end r.furthest_end) last r

record IsBehind (one other end : ℕ) : Type 0 where
  pub first : one ≤ end
  pub second : other ≤ end

end_by : (b : Bool) (last r : Reach) → nat_le last.furthest_end r.furthest_end ≡ b → IsBehind last.furthest_end r.furthest_end (if b then r else record last { start = r.start }).furthest_end
end_by true last r is = record { first = leb-true _ _ is; second = omega arith }
end_by false last r is = record { first = omega arith; second = grind (arith, nat_tests, is) }

end_of : (last r : Reach) → IsBehind last.furthest_end r.furthest_end (further last r).furthest_end
end_of last r = end_by (nat_le last.furthest_end r.furthest_end) last r refl

true_by : (kind : SectionKind) (v : PlainView) (b : Bool) (last r : Reach) → IsReach kind v last → last.start ≤ r.start → IsReach kind v r → IsReach kind v (if b then r else record last { start = r.start })
true_by kind v true last r earlier order here = here
true_by kind v false last r earlier order here =
    let begins = earlier.begins in
    record { of_kind = earlier.of_kind; below = earlier.below; begins = omega (arith, begins, order); ends = earlier.ends }

first_by : (kind : SectionKind) (v : PlainView) (b : Bool) (last r : Reach) → nat_le last.furthest_end r.furthest_end ≡ b → last.furthest_end ≡ 0 → IsReach kind v r → IsReach kind v (if b then r else record last { start = r.start })
first_by kind v true last r is none here = here
first_by kind v false last r is none here = absurd (grind (arith, nat_tests, is, none))

-- ---- the furthest of the first ones

start_below : (own : List Reach) (k : ℕ) → (reach_below own (suc k)).start ≡ (reach_at own k).start
start_below own k = start_of (reach_below own k) (reach_at own k)

true_below : (kind : SectionKind) (v : PlainView) (own : List Reach) → AreOwnReaches kind v own → (k : ℕ) → k < length own → IsReach kind v (reach_below own (suc k))
true_below kind v own are zero below =
    first_by kind v (nat_le 0 (reach_at own 0).furthest_end) no_reach (reach_at own 0) refl refl (own_true kind v own are 0 below)
true_below kind v own are (suc k) below =
    let last = reach_below own (suc k) in
    let r = reach_at own (suc k) in
    let earlier = true_below kind v own are k (omega (arith, below)) in
    let start = start_below own k in
    let rises : (reach_at own k).start ≤ r.start = are.ascending k (suc k) no_reach (omega arith) below in
    true_by kind v (nat_le last.furthest_end r.furthest_end) last r earlier (omega (arith, start, rises)) (own_true kind v own are (suc k) below)

-- the end grows
end_grows : (own : List Reach) (i j : ℕ) → i ≤ j → (reach_below own i).furthest_end ≤ (reach_below own j).furthest_end
end_grows own i zero order =
    let same : i ≡ 0 = omega (arith, order) in
    rw same (omega arith)
end_grows own i (suc j) order =
    let place : (i ≡ suc j) ⊎ (i ≤ j) = grind (arith, order) in
    elim place [
      | inl same ↦ rw same (omega arith)
      | inr earlier ↦
          let so_far = end_grows own i j earlier in
          let more = (end_of (reach_below own j) (reach_at own j)).first in
          omega (arith, so_far, more)
    ]

-- ---- the list of these

length_joined : (own : List Reach) (n : ℕ) → length (reaches_below own n) ≡ n
length_joined own n = length_built (reaches_below own) (λ k. reach_below own (suc k)) refl (λ k. refl) n

joined_at : (own : List Reach) (n i : ℕ) (d : Reach) → i < n → slice_index_or (reaches_below own n) i d ≡ reach_below own (suc i)
joined_at own n i d below = built_at (reaches_below own) (λ k. reach_below own (suc k)) d refl (λ k. refl) n i below

joined_start : (own : List Reach) (n i : ℕ) (d : Reach) → i < n → (slice_index_or (reaches_below own n) i d).start ≡ (reach_at own i).start
joined_start own n i d below = ap (λ (r : Reach). r.start) (joined_at own n i d below) ∙ start_below own i

joined_end : (own : List Reach) (n i : ℕ) (d : Reach) → i < n → (slice_index_or (reaches_below own n) i d).furthest_end ≡ (reach_below own (suc i)).furthest_end
joined_end own n i d below = ap (λ (r : Reach). r.furthest_end) (joined_at own n i d below)

joined_rise : (own : List Reach) → IsNonDecreasingBy (λ r. r.start) own → IsNonDecreasingBy (λ r. r.start) (reaches_below own (length own))
joined_rise own rises i j d order below =
    let n = length own in
    let count = length_joined own n in
    let inside : j < n = omega (arith, count, below) in
    let first = joined_start own n i d (omega (arith, order, inside)) in
    let second = joined_start own n j d inside in
    let rise : (reach_at own i).start ≤ (reach_at own j).start = rises i j no_reach order inside in
    omega (arith, first, second, rise)

joined_further : (own : List Reach) → IsNonDecreasingBy (λ r. r.furthest_end) (reaches_below own (length own))
joined_further own i j d order below =
    let n = length own in
    let count = length_joined own n in
    let inside : j < n = omega (arith, count, below) in
    let first = joined_end own n i d (omega (arith, order, inside)) in
    let second = joined_end own n j d inside in
    let grows = end_grows own (suc i) (suc j) (omega (arith, order)) in
    omega (arith, first, second, grows)

from_made : (start end : ℕ) (r : Reach) → r.start ≡ start → end ≤ r.furthest_end → reaches_from start end r ≡ true
from_made start end r begins ends = both_made _ _ (eq-eqb r.start start begins) (grind (arith, nat_tests, ends))

joined_all : (kind : SectionKind) (v : PlainView) (own : List Reach) → AreOwnReaches kind v own → (k : ℕ) → k < length v.sections → is_of_kind kind v k ≡ true → list_any (reaches_from (section_at v k).addr (section_end v k)) (reaches_below own (length own)) ≡ true
joined_all kind v own are k below of_kind =
    let n = length own in
    let count = length_joined own n in
    let (i, at) = own_all kind v own are k below of_kind in
    let inside = at.0 in
    let r = reach_at (reaches_below own n) i in
    let start : r.start ≡ (section_at v k).addr = joined_start own n i no_reach inside ∙ at.1.start in
    let ends = at.1.end in
    let takes = (end_of (reach_below own i) (reach_at own i)).second in
    let end = joined_end own n i no_reach inside in
    list_any_at (reaches_from (section_at v k).addr (section_end v k)) (reaches_below own n) i no_reach (omega (arith, count, inside))
    (from_made (section_at v k).addr (section_end v k) r start (omega (arith, ends, takes, end)))

-- what the sections reach one by one tells how far they reach together
pub joined_reaches : (kind : SectionKind) (v : PlainView) (own : List Reach) → AreOwnReaches kind v own → AreReaches kind v (reaches_below own (length own))
joined_reaches kind v own are =
    let n = length own in
    record {
      ascending = joined_rise own are.ascending;
      further_on = joined_further own;
      true_ones = λ i below.
          let count = length_joined own n in
          let inside : i < n = omega (arith, count, below) in
          subst (λ (r : Reach). IsReach kind v r) (sym (joined_at own n i no_reach inside)) (true_below kind v own are i inside);
      all = joined_all kind v own are;
    }

-- ---- a search

record Lies (base size a n : ℕ) : Type 0 where
  pub from : base ≤ a
  pub to : a + n ≤ base + size

lies_parts : (base size a n : ℕ) → lies_in base size a n ≡ true → Lies base size a n
lies_parts base size a n lies = record { from = grind (arith, nat_tests, lies); to = grind (arith, nat_tests, lies) }

lies_made : (base size a n : ℕ) → base ≤ a → a + n ≤ base + size → lies_in base size a n ≡ true
lies_made base size a n from to = grind (arith, nat_tests, from, to)

-- `begun` reaches of a list begin at an address or before
abbrev pub HasBegun : List Reach → ℕ → ℕ → Type 0
HasBegun reaches a begun = IsPartitionPoint (λ r. nat_le r.start a ≡ true) (λ r. nat_le r.start a ≡ false) reaches begun

later_start : (start a addr : ℕ) → nat_le start a ≡ false → start ≡ addr → addr ≤ a → ⊥
later_start start a addr later is from = grind (arith, nat_tests, later, is, from)

none_holds : (kind : SectionKind) (v : PlainView) (reaches : List Reach) (a n begun k : ℕ) → AreReaches kind v reaches → begun ≤ length reaches → HasBegun reaches a begun → ((i : ℕ) → i + 1 ≡ begun → (reach_at reaches i).furthest_end < a + n) → k < length v.sections → holds_range kind v a n k ≡ true → ⊥
none_holds kind v reaches a n begun k are bound point short below holds =
    let s = section_at v k in
    let parts = both (is_of_kind kind v k) (lies_in s.addr s.size a n) holds in
    let lies = lies_parts s.addr s.size a n parts.1 in
    let from = lies.from in
    let to = lies.to in
    let (i, at) = any_place (reaches_from s.addr (section_end v k)) reaches no_reach (are.all k below parts.0) in
    let inside = at.0 in
    let r = reach_at reaches i in
    let facts = both (r.start == s.addr) (nat_le (section_end v k) r.furthest_end) at.1 in
    let start = eqb-true r.start s.addr facts.0 in
    let end = leb-true (section_end v k) r.furthest_end facts.1 in
    elim (cases_lt i begun) [
      | inl earlier ↦
          let (last, is) : (last : ℕ) × (last + 1 ≡ begun) = (begun - 1, omega (arith, earlier)) in
          let rises : r.furthest_end ≤ (reach_at reaches last).furthest_end = are.further_on i last no_reach (omega (arith, is, earlier)) (omega (arith, is, bound)) in
          let ends = short last is in
          absurd (omega (arith, to, end, rises, ends))
      | inr behind ↦ later_start r.start a s.addr (point.1 i no_reach behind inside) start from
    ]

-- where the last reach that begins there ends too early, no section has the bytes
pub none_over : (kind : SectionKind) (v : PlainView) (reaches : List Reach) (a n begun : ℕ) → AreReaches kind v reaches → begun ≤ length reaches → HasBegun reaches a begun → ((i : ℕ) → i + 1 ≡ begun → (reach_at reaches i).furthest_end < a + n) → any_below (holds_range kind v a n) (length v.sections) ≡ false
none_over kind v reaches a n begun are bound point short =
    elim (cases_Bool (any_below (holds_range kind v a n) (length v.sections))) [
      | inl found ↦
          let (k, below, holds) = any_found (holds_range kind v a n) (length v.sections) found in
          absurd (none_holds kind v reaches a n begun k are bound point short below holds)
      | inr none ↦ none
    ]

-- else the section that it names has them
pub some_over : (kind : SectionKind) (v : PlainView) (reaches : List Reach) (a n begun i : ℕ) → AreReaches kind v reaches → begun ≤ length reaches → HasBegun reaches a begun → i + 1 ≡ begun → a + n ≤ (reach_at reaches i).furthest_end → ((reach_at reaches i).section < length v.sections) × (holds_range kind v a n (reach_at reaches i).section ≡ true)
some_over kind v reaches a n begun i are bound point is long =
    let r = reach_at reaches i in
    let below : i < length reaches = omega (arith, is, bound) in
    let told = are.true_ones i below in
    let s = section_at v r.section in
    let first = leb-true r.start a (point.0 i no_reach (omega arith) (omega (arith, is))) in
    let begins = told.begins in
    let ends = told.ends in
    (told.below, both_made _ _ told.of_kind (lies_made s.addr s.size a n (omega (arith, first, begins)) (omega (arith, long, ends))))

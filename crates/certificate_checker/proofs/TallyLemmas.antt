-- Sums over an assignment, with one mark changed.
use Rattle.std.proofs.Common.{◌≡◌, ◌∙◌, inl, inr, ℕ, zero, suc, ◌+◌, ◌*◌, ◌^◌, ◌<◌, ◌≤◌, List, [], length, length-set, slice_index, slice_set, sym, ap, refl, subst, arith}
use Rattle.std.specs.List.{sum_by}
use Rattle.std.proofs.lemmas.Bool.{cases_eq}
use Rattle.placement_programme.specs.Plain.{PlainSide}
use Rattle.placement_programme.specs.Bounds.{IsWithinBounds}
use Rattle.placement_programme.specs.Programme.{gain_at, weights_at, weight_in, weight_at}
use Rattle.placement_programme.specs.Sums.{sum_below}
use Rattle.placement_programme.proofs.TakeLemmas.{below_same, below_at_most}
use Rattle.placement_programme.proofs.WeightLemmas.{weights_are, weight_small}
use Rattle.certificate_checker.specs.Fixings.{fixing_of}
use Rattle.certificate_checker.specs.Rules.{if_one, load_of, kept, kept_at}
use Rattle.certificate_checker.specs.declared.fixings.Fixing.{Fixing}
use Rattle.certificate_checker.specs.declared.fixings.Fixing.TheVariants.{Zero, One, Free}
use Rattle.certificate_checker.proofs.Children.{mark_same, mark_other}
use Rattle.certificate_checker.proofs.Limits.{gain_small, gains_so_far, kept_at_most, one_at_most, many_small}
use Rattle.certificate_checker.specs.Tallies.{if_free, AreTallies, IsAssignmentOf, HasRoomFor, HasSameRoomFor, Fixes}
use Rattle.certificate_checker.specs.declared.assignments.Assignment.{Assignment}

-- what a variable adds that is fixed to one, and any other
one_adds : (f : Fixing) (m : ℕ) → f ≡ One → if_one f m ≡ m
one_adds f m is = subst (λ g. if_one g m ≡ m) (sym is) refl

other_adds : (f : Fixing) (m : ℕ) → (f ≡ One → ⊥) → if_one f m ≡ 0
other_adds Zero m other = refl
other_adds One m other = absurd (other refl)
other_adds Free m other = refl

-- sums over the variables that are fixed to one, with one variable more
pub sum_one : (f : ℕ → ℕ) (marks : List Fixing) (n next total now : ℕ) → next ≡ suc n → fixing_of marks n ≡ One → total ≡ sum_below n (λ j. if_one (fixing_of marks j) (f j)) → now ≡ total + f n → now ≡ sum_below next (λ j. if_one (fixing_of marks j) (f j))
sum_one f marks n next total now is_next is so_far more =
    let here = one_adds (fixing_of marks n) (f n) is in
    subst (λ m. now ≡ sum_below m (λ j. if_one (fixing_of marks j) (f j))) (sym is_next) (omega (arith, here, so_far, more))

pub sum_other : (f : ℕ → ℕ) (marks : List Fixing) (n next total now : ℕ) → next ≡ suc n → (fixing_of marks n ≡ One → ⊥) → total ≡ sum_below n (λ j. if_one (fixing_of marks j) (f j)) → now ≡ total → now ≡ sum_below next (λ j. if_one (fixing_of marks j) (f j))
sum_other f marks n next total now is_next disjoint so_far same =
    let here = other_adds (fixing_of marks n) (f n) disjoint in
    subst (λ m. now ≡ sum_below m (λ j. if_one (fixing_of marks j) (f j))) (sym is_next) (omega (arith, here, so_far, same))

-- no sum passes that of all gains
pub open_small : (s : PlainSide) (marks : List Fixing) (n : ℕ) → n < length s.vars → sum_below n (kept_at s marks 1 []) + gain_at s.vars n ≤ sum_by (λ v. v.gain) s.vars
open_small s marks n inside =
    let less = below_at_most (kept_at s marks 1 []) (gain_at s.vars) n (λ j below. let most = kept_at_most (fixing_of marks j) (1 * gain_at s.vars j) 0 in omega (arith, most)) in
    let gains = gains_so_far s.vars (suc n) (omega arith) in
    omega (arith, less, gains)

-- a sum over the marks below n
pub sum_set : (f : Fixing → ℕ → ℕ) (marks : List Fixing) (j : ℕ) (new : Fixing) (n : ℕ) → j < n → j < length marks → sum_below n (λ k. f (fixing_of (slice_set marks j new) k) k) + f (fixing_of marks j) j ≡ sum_below n (λ k. f (fixing_of marks k) k) + f new j
sum_set f marks j new zero below inside = absurd (omega (arith, below))
sum_set f marks j new (suc n) below inside =
    elim (cases_eq j n) [
      | inl last ↦
          let rest = below_same (λ k. f (fixing_of (slice_set marks j new) k) k) (λ k. f (fixing_of marks k) k) n (λ k before. ap (λ m. f m k) (mark_other marks j new k (omega (arith, before, last)))) in
          let here : f (fixing_of (slice_set marks j new) n) n ≡ f new j = subst (λ i. f (fixing_of (slice_set marks j new) i) i ≡ f new j) last (ap (λ m. f m j) (mark_same marks j new inside)) in
          let old : f (fixing_of marks n) n ≡ f (fixing_of marks j) j = subst (λ i. f (fixing_of marks i) i ≡ f (fixing_of marks j) j) last refl in
          omega (arith, rest, here, old)
      | inr earlier ↦
          let rest = sum_set f marks j new n (omega (arith, below, earlier)) inside in
          let here = ap (λ m. f m n) (mark_other marks j new n (λ same. earlier (sym same))) in
          omega (arith, rest, here)
    ]

-- a sum over the marks where the changed mark is known
sum_changed : (f : Fixing → ℕ → ℕ) (marks : List Fixing) (j : ℕ) (old new : Fixing) (n before after : ℕ) → j < n → j < length marks → fixing_of marks j ≡ old → before ≡ sum_below n (λ k. f (fixing_of marks k) k) → after + f old j ≡ before + f new j → after ≡ sum_below n (λ k. f (fixing_of (slice_set marks j new) k) k)
sum_changed f marks j old new n before after below inside is was change =
    let step = sum_set f marks j new n below inside in
    let here = ap (λ m. f m j) is in
    omega (arith, step, here, was, change)

-- all sums of an assignment
pub tallies_set : (s : PlainSide) (a b : Assignment) (j : ℕ) (old new : Fixing) → j < length s.vars → AreTallies s a → fixing_of a.marks.items j ≡ old → b.marks.items ≡ slice_set a.marks.items j new → length b.loads.items ≡ length a.loads.items
    → ((row : ℕ) → slice_index b.loads.items row + if_one old (weight_at s.vars row j) ≡ slice_index a.loads.items row + if_one new (weight_at s.vars row j))
    → b.gains + if_one old (gain_at s.vars j) ≡ a.gains + if_one new (gain_at s.vars j)
    → b.bound + kept old (1 * gain_at s.vars j) 0 ≡ a.bound + kept new (1 * gain_at s.vars j) 0
    → b.free_count + if_free old ≡ a.free_count + if_free new
    → AreTallies s b
tallies_set s a b j old new below tallies is marks room loads gains bound free =
    let marked = tallies.marked in
    let long = ap length marks in
    let set = length-set a.marks.items j new in
    let inside : j < length a.marks.items = omega (arith, below, marked) in
    record {
      marked = omega (arith, marked, long, set);
      room = room ∙ tallies.room;
      loads = λ row. subst (λ ms. slice_index b.loads.items row ≡ load_of s ms row) (sym marks) (sum_changed (λ m k. if_one m (weight_at s.vars row k)) a.marks.items j old new (length s.vars) (slice_index a.loads.items row) (slice_index b.loads.items row) below inside is (tallies.loads row) (loads row));
      gains = subst (λ ms. b.gains ≡ sum_below (length s.vars) (λ k. if_one (fixing_of ms k) (gain_at s.vars k))) (sym marks) (sum_changed (λ m k. if_one m (gain_at s.vars k)) a.marks.items j old new (length s.vars) a.gains b.gains below inside is tallies.gains gains);
      bound = subst (λ ms. b.bound ≡ sum_below (length s.vars) (kept_at s ms 1 [])) (sym marks) (sum_changed (λ m k. kept m (1 * gain_at s.vars k) 0) a.marks.items j old new (length s.vars) a.bound b.bound below inside is tallies.bound bound);
      free_count = subst (λ ms. b.free_count ≡ sum_below (length s.vars) (λ k. if_free (fixing_of ms k))) (sym marks) (sum_changed (λ m k. if_free m) a.marks.items j old new (length s.vars) a.free_count b.free_count below inside is tallies.free_count free);
    }

-- a row's load with and without the weight of a variable
pub load_apart : (s : PlainSide) (j : ℕ) (ws : List (ℕ × ℕ)) (light heavy a b : List ℕ) → light ≡ a → heavy ≡ b → ws ≡ weights_at s.vars j → ((row : ℕ) → slice_index heavy row ≡ slice_index light row + weight_in ws row) → (row : ℕ) → slice_index b row ≡ slice_index a row + weight_at s.vars row j
load_apart s j ws light heavy a b of_light of_heavy is sums row =
    let under = ap (λ l. slice_index l row) of_light in
    let over = ap (λ l. slice_index l row) of_heavy in
    let weight = ap (λ l. weight_in l row) is in
    let sum = sums row in
    omega (arith, under, over, weight, sum)

-- a term is no more than the sum
term_below : (f : ℕ → ℕ) (j n : ℕ) → j < n → f j ≤ sum_below n f
term_below f j zero below = absurd (omega (arith, below))
term_below f j (suc n) below =
    elim (cases_eq j n) [
      | inl last ↦ let here = ap f last in omega (arith, here)
      | inr earlier ↦ let rest = term_below f j n (omega (arith, below, earlier)) in omega (arith, rest)
    ]

pub load_term : (s : PlainSide) (a : Assignment) (j row : ℕ) → j < length s.vars → AreTallies s a → fixing_of a.marks.items j ≡ One → weight_at s.vars row j ≤ slice_index a.loads.items row
load_term s a j row below tallies is =
    let term = term_below (λ k. if_one (fixing_of a.marks.items k) (weight_at s.vars row k)) j (length s.vars) below in
    let here = ap (λ m. if_one m (weight_at s.vars row j)) is in
    let sum = tallies.loads row in
    omega (arith, term, here, sum)

pub gain_term : (s : PlainSide) (a : Assignment) (j : ℕ) → j < length s.vars → AreTallies s a → fixing_of a.marks.items j ≡ One → gain_at s.vars j ≤ a.gains
gain_term s a j below tallies is =
    let term = term_below (λ k. if_one (fixing_of a.marks.items k) (gain_at s.vars k)) j (length s.vars) below in
    let here = ap (λ m. if_one m (gain_at s.vars j)) is in
    let sum = tallies.gains in
    omega (arith, term, here, sum)

pub bound_term : (s : PlainSide) (a : Assignment) (j : ℕ) (m : Fixing) → j < length s.vars → AreTallies s a → fixing_of a.marks.items j ≡ m → kept m (1 * gain_at s.vars j) 0 ≤ a.bound
bound_term s a j m below tallies is =
    let term = term_below (kept_at s a.marks.items 1 []) j (length s.vars) below in
    let here = ap (λ f. kept f (1 * gain_at s.vars j) 0) is in
    let sum = tallies.bound in
    omega (arith, term, here, sum)

-- sums are small
pub gains_bounded : (s : PlainSide) (a : Assignment) → IsWithinBounds s → AreTallies s a → a.gains < 2 ^ 104
gains_bounded s a bounds tallies =
    let less = below_at_most (λ k. if_one (fixing_of a.marks.items k) (gain_at s.vars k)) (gain_at s.vars) (length s.vars) (λ k inside. one_at_most (fixing_of a.marks.items k) (gain_at s.vars k)) in
    let all = gains_so_far s.vars (length s.vars) (omega arith) in
    let sum = tallies.gains in
    let total = bounds.gains in
    omega (arith, less, all, sum, total)

pub open_few : (s : PlainSide) (marks : List Fixing) (open_gain : ℕ) → IsWithinBounds s → open_gain ≡ sum_below (length s.vars) (kept_at s marks 1 []) → open_gain < 2 ^ 104
open_few s marks open_gain bounds is =
    let less = below_at_most (kept_at s marks 1 []) (gain_at s.vars) (length s.vars) (λ k inside. let most = kept_at_most (fixing_of marks k) (1 * gain_at s.vars k) 0 in omega (arith, most)) in
    let all = gains_so_far s.vars (length s.vars) (omega arith) in
    let total = bounds.gains in
    omega (arith, less, all, is, total)

pub bound_small : (s : PlainSide) (a : Assignment) → IsWithinBounds s → AreTallies s a → a.bound < 2 ^ 104
bound_small s a bounds tallies = open_few s a.marks.items a.bound bounds tallies.bound

pub load_bounded : (s : PlainSide) (a : Assignment) (row : ℕ) → IsWithinBounds s → AreTallies s a → slice_index a.loads.items row ≤ 2 ^ 62
load_bounded s a row bounds tallies =
    let each = λ (k : ℕ) (inside : k < length s.vars).
    let least = one_at_most (fixing_of a.marks.items k) (weight_at s.vars row k) in
    let weights = weights_are (length s.rows) s.vars k bounds.weights inside in
    let small = weight_small (2 ^ 32) (weights_at s.vars k) row (omega arith) weights.small in
    let most : if_one (fixing_of a.marks.items k) (weight_at s.vars row k) ≤ 2 ^ 32 = omega (arith, least, small) in
    most in
    let all = many_small (λ k. if_one (fixing_of a.marks.items k) (weight_at s.vars row k)) (length s.vars) (2 ^ 32) each in
    let sum = tallies.loads row in
    let few = bounds.few_vars in
    omega (arith, all, sum, few)

-- what was fixed to zero is so
pub zero_there : (s : PlainSide) (marks now : List Fixing) (j : ℕ) → j < length s.vars → length s.vars ≤ length marks → now ≡ slice_set marks j Zero → fixing_of now j ≡ Zero
zero_there s marks now j below marked is =
    ap (λ ms. fixing_of ms j) is ∙ mark_same marks j Zero (omega (arith, below, marked))

pub gain_bounded : (s : PlainSide) (j : ℕ) → j < length s.vars → IsWithinBounds s → gain_at s.vars j < 2 ^ 104
gain_bounded s j below bounds =
    let small = gain_small s.vars j below in
    let total = bounds.gains in
    omega (arith, small, total)

pub free_term : (s : PlainSide) (a : Assignment) (j : ℕ) → j < length s.vars → AreTallies s a → fixing_of a.marks.items j ≡ Free → 1 ≤ a.free_count
free_term s a j below tallies is =
    let term = term_below (λ k. if_free (fixing_of a.marks.items k)) j (length s.vars) below in
    let here = ap if_free is in
    let sum = tallies.free_count in
    omega (arith, term, here, sum)

free_small : (m : Fixing) → if_free m ≤ 1
free_small Zero = omega arith
free_small One = omega arith
free_small Free = omega arith

pub free_few : (s : PlainSide) (a : Assignment) → IsWithinBounds s → AreTallies s a → a.free_count ≤ 4000
free_few s a bounds tallies =
    let all = many_small (λ k. if_free (fixing_of a.marks.items k)) (length s.vars) 1 (λ k inside. free_small (fixing_of a.marks.items k)) in
    let sum = tallies.free_count in
    let few = bounds.few_vars in
    omega (arith, all, sum, few)

-- an assignment with one mark changed is one of the side
pub fixed_exact : (s : PlainSide) (a b : Assignment) (j : ℕ) (f : Fixing) → IsAssignmentOf s a → Fixes s j f a b → IsAssignmentOf s b
fixed_exact s a b j f exact fixes =
    record { tallies = fixes.tallies; long = ap length fixes.marks ∙ (length-set a.marks.items j f ∙ exact.long) }

-- nothing is added where nothing is fixed
pub nothing_fixed : (f : ℕ → ℕ) (n : ℕ) (marks : List Fixing) → ((k : ℕ) → k < n → fixing_of marks k ≡ Free) → sum_below n (λ j. if_one (fixing_of marks j) (f j)) ≡ 0
nothing_fixed f zero marks all = refl
nothing_fixed f (suc n) marks all =
    let rest = nothing_fixed f n marks (λ k below. all k (omega (arith, below))) in
    let here = ap (λ m. if_one m (f n)) (all n (omega arith)) in
    omega (arith, rest, here)

-- what is added for a free variable is 0 exactly where all are fixed
free_one : (m : Fixing) → if_free m ≡ 0 → m ≡ Free → ⊥
free_one Zero none is = cc
free_one One none is = cc
free_one Free none is = absurd (omega (arith, none))

not_free : (m : Fixing) → (m ≡ Free → ⊥) → if_free m ≡ 0
not_free Zero other = refl
not_free One other = refl
not_free Free other = absurd (other refl)

pub none_free : (marks : List Fixing) (n : ℕ) → sum_below n (λ j. if_free (fixing_of marks j)) ≡ 0 → (k : ℕ) → k < n → fixing_of marks k ≡ Free → ⊥
none_free marks n none k inside is =
    let term = term_below (λ j. if_free (fixing_of marks j)) k n inside in
    free_one (fixing_of marks k) (omega (arith, term, none)) is

pub all_fixed : (marks : List Fixing) (n : ℕ) → ((k : ℕ) → k < n → fixing_of marks k ≡ Free → ⊥) → sum_below n (λ j. if_free (fixing_of marks j)) ≡ 0
all_fixed marks zero fixed = refl
all_fixed marks (suc n) fixed =
    let rest = all_fixed marks n (λ k below. fixed k (omega (arith, below))) in
    let here = not_free (fixing_of marks n) (fixed n (omega arith)) in
    omega (arith, rest, here)

pub same_room : (s : PlainSide) (a b : Assignment) → HasRoomFor s a → IsAssignmentOf s b → HasSameRoomFor a b
same_room s a b fits exact =
    record { marks = exact.long ∙ sym fits.marks; loads = exact.tallies.room ∙ sym fits.loads }

-- The stated list: what is finished, where it splits, and its first entries.
use Rattle.std.proofs.Common.{◌≡◌, inl, inr, ℕ, zero, suc, ◌+◌, ◌<◌, ◌≤◌, List, [], ◌∷◌, ◌++◌, length, take, slice_set, refl, subst, arith}
use Rattle.std.proofs.lemmas.Bool.{cases_lt}
use Rattle.placement_programme.specs.Plain.{PlainSide}
use Rattle.placement_programme.specs.Programme.{gain_at}
use Rattle.certificate_checker.specs.Nodes.{PlainTree}
use Rattle.certificate_checker.specs.Rules.{Holds}
use Rattle.certificate_checker.proofs.Duality.{Agrees}
use Rattle.certificate_checker.proofs.TreeBounds.{tree_bounds}
use Rattle.branch_bound.specs.Assignments.{FailsEveryLeafRule, IsGreatestFree}
use Rattle.branch_bound.specs.Entries.{StatedFrom, alone, split, Each}
use Rattle.branch_bound.specs.Searching.{EntryBelow}
use Rattle.certificate_checker.specs.declared.fixings.Fixing.{Fixing}
use Rattle.certificate_checker.specs.declared.fixings.Fixing.TheVariants.{Zero, One}
use Rattle.branch_bound.proofs.Greater.{leaf_more, dual_more}
use Rattle.branch_bound.proofs.MarkLemmas.{picks, chosen_is, picks_fit, agrees_self, agrees_back}

pub fails_less : (s : PlainSide) (less best : ℕ) (marks : List Fixing) → less ≤ best → FailsEveryLeafRule s best marks → FailsEveryLeafRule s less marks
fails_less s less best marks order fails =
    record {
      within = fails.within;
      open_or_better = λ holds. fails.open_or_better (leaf_more s less best marks order holds);
      unbounded = λ holds. fails.unbounded (dual_more s less best marks 1 [] order holds);
    }

pub entry_more : (s : PlainSide) (best more : ℕ) (marks : List Fixing) → best ≤ more → EntryBelow s best marks → EntryBelow s more marks
entry_more s best more marks order below fits = let here = below fits in omega (arith, here, order)

-- facts of each of a list
pub each_more : (P Q : List Fixing → Type 0) (es : List (List Fixing)) → ((e : List Fixing) → P e → Q e) → Each P es → Each Q es
each_more P Q [] more all = tt
each_more P Q (e ∷ es) more all = (more e all.0, each_more P Q es more all.1)

pub each_less : (P : List Fixing → Type 0) (n : ℕ) (es : List (List Fixing)) → Each P es → Each P (take n es)
each_less P zero es all = tt
each_less P (suc n) [] all = tt
each_less P (suc n) (e ∷ es) all = (all.0, each_less P n es all.1)

pub each_fewer : (P : List Fixing → Type 0) (m n : ℕ) (es : List (List Fixing)) → m ≤ n → Each P (take n es) → Each P (take m es)
each_fewer P zero n es order all = tt
each_fewer P (suc m) zero es order all = absurd (omega (arith, order))
each_fewer P (suc m) (suc n) [] order all = tt
each_fewer P (suc m) (suc n) (e ∷ es) order all = (all.0, each_fewer P m n es (omega (arith, order)) all.1)

pub each_join : (P : List Fixing → Type 0) (es fs : List (List Fixing)) → Each P es → Each P fs → Each P (es ++ fs)
each_join P [] fs all more = more
each_join P (e ∷ es) fs all more = (all.0, each_join P es fs all.1 more)

-- the first n of two lists, of which the first holds
pub each_second : (P : List Fixing → Type 0) (n after : ℕ) (es fs : List (List Fixing)) → n ≤ after + length es → Each P es → Each P (take after fs) → Each P (take n (es ++ fs))
each_second P n after [] fs order all more = each_fewer P n after fs (omega (arith, order)) more
each_second P zero after (e ∷ es) fs order all more = tt
each_second P (suc n) after (e ∷ es) fs order all more = (all.0, each_second P n after es fs (omega (arith, order)) all.1 more)

-- the first n of two lists that the first has
pub each_first : (P : List Fixing → Type 0) (n : ℕ) (es fs : List (List Fixing)) → n < length es → Each P (take n es) → Each P (take n (es ++ fs))
each_first P n [] fs order all = absurd (omega arith)
each_first P zero (e ∷ es) fs order all = tt
each_first P (suc n) (e ∷ es) fs order all = (all.0, each_first P n es fs (omega (arith, order)) all.1)

-- the entries of a list agree with the first
pub entries_agree : (s : PlainSide) (start : ℕ) (marks : List Fixing) (es : List (List Fixing)) → StatedFrom s start marks es → Each (λ e. Agrees s marks (picks e)) es
entries_agree s start marks es (alone {marks = m} none) = (agrees_self s m, tt)
entries_agree s start marks es (split {marks = m} {j = j} {ones = ones} {zeroes = zeroes} splits greatest by_one by_zero) =
    let first = entries_agree s start (slice_set m j One) ones by_one in
    let second = entries_agree s start (slice_set m j Zero) zeroes by_zero in
    let to_one = each_more (λ e. Agrees s (slice_set m j One) (picks e)) (λ e. Agrees s m (picks e)) ones (λ e agrees. agrees_back s m j One (picks e) greatest.holds agrees) first in
    let to_zero = each_more (λ e. Agrees s (slice_set m j Zero) (picks e)) (λ e. Agrees s m (picks e)) zeroes (λ e agrees. agrees_back s m j Zero (picks e) greatest.holds agrees) second in
    (agrees_self s m, each_join (λ e. Agrees s m (picks e)) ones zeroes to_one to_zero)

-- in a finished subtree no entry gains more
pub finished : (s : PlainSide) (start best : ℕ) (marks : List Fixing) (t : PlainTree) (es : List (List Fixing)) → Holds s best marks t → StatedFrom s start marks es → Each (EntryBelow s best) es
finished s start best marks t es holds stated =
    each_more (λ e. Agrees s marks (picks e)) (EntryBelow s best) es
    (λ e agrees fits.
    let bounded = tree_bounds s best marks t (picks e) holds (picks_fit s e fits) agrees in
    let gains = chosen_is s e (gain_at s.vars) in
    omega (arith, bounded, gains))
    (entries_agree s start marks es stated)

pub one_greatest : (s : PlainSide) (marks : List Fixing) (j k : ℕ) → IsGreatestFree s marks j → IsGreatestFree s marks k → j ≡ k
one_greatest s marks j k first second =
    elim (cases_lt j k) [
      | inl less ↦
          let below = second.first j less first.holds in
          let most = first.greatest k second.inside second.holds in
          absurd (omega (arith, below, most))
      | inr more ↦
          elim (cases_lt k j) [
            | inl less ↦
                let below = first.first k less second.holds in
                let most = second.greatest j first.inside first.holds in
                absurd (omega (arith, below, most))
            | inr same ↦ omega (arith, more, same)
          ]
    ]

-- the lists of the two children
pub record TwoLists (s : PlainSide) (start : ℕ) (marks : List Fixing) (j : ℕ) (es : List (List Fixing)) : Type 0 where
  pub ones : List (List Fixing)
  pub zeroes : List (List Fixing)
  pub by_one : StatedFrom s start (slice_set marks j One) ones
  pub by_zero : StatedFrom s start (slice_set marks j Zero) zeroes
  pub whole : es ≡ marks ∷ (ones ++ zeroes)

pub two_lists : (s : PlainSide) (start best : ℕ) (marks : List Fixing) (j : ℕ) (es : List (List Fixing)) → start ≤ best → FailsEveryLeafRule s best marks → IsGreatestFree s marks j → StatedFrom s start marks es → TwoLists s start marks j es
two_lists s start best marks j es order fails greatest (alone {marks = m} none) =
    absurd (none record { not_full = λ full. full j greatest.inside greatest.holds; fails = fails_less s start best m order fails })
two_lists s start best marks j es order fails greatest (split {marks = m} {j = k} {ones = ones} {zeroes = zeroes} splits other by_one by_zero) =
    let same = one_greatest s m k j other greatest in
    record {
      ones = ones;
      zeroes = zeroes;
      by_one = subst (λ i. StatedFrom s start (slice_set m i One) ones) same by_one;
      by_zero = subst (λ i. StatedFrom s start (slice_set m i Zero) zeroes) same by_zero;
      whole = refl;
    }

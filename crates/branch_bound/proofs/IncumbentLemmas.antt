-- Incumbents of a programme.
use Rattle.std.proofs.Common.{◌≡◌, ℕ, ◌+◌, ◌<◌, ◌≤◌, pos, Bool, true, false, List, [], ◌∷◌, length, Option, Some, None, IsSomeAnd, sym, ap, subst, arith}
use Rattle.std.proofs.lemmas.Int.{ints}
use Rattle.placement_programme.specs.Plain.{PlainSide, PlainProgramme}
use Rattle.placement_programme.specs.Programme.{Fits, taken_gains, side_for, gain, gain_on, net_gain}
use Rattle.branch_bound.specs.Assignments.{taken}
use Rattle.branch_bound.specs.Entries.{takes_on}
use Rattle.branch_bound.specs.Searching.{IsIncumbent, KeepsIncumbent}
use Rattle.branch_bound.specs.declared.incumbents.Incumbent.{Incumbent}

side_or : Option PlainSide → PlainSide → PlainSide
side_or None s = s
side_or (Some s) other = s

pub same_side : (a b : PlainSide) → Some a ≡ Some b → a ≡ b
unfolding side_or
same_side a b is = ap (λ o. side_or o a) is

-- a side's gain where it isn't that of the empty choice
net_is : (s : PlainSide) (take : List ℕ) (g : ℕ) → taken_gains s take ≡ g + s.fixed → net_gain s take ≡ pos g
net_is s take g sum = omega (arith, ints, sum)

off_is : (p : PlainProgramme) (s : PlainSide) (take : List ℕ) (g : ℕ) → p.off ≡ s → taken_gains s take ≡ g + s.fixed → 0 < g → gain p record { on = false; take = take } ≡ pos g
off_is p s [] g same sum some = absurd (omega (arith, sum, some))
off_is p s (k ∷ ks) g same sum some =
    subst (λ t. net_gain t (k ∷ ks) ≡ pos g) (sym same) (net_is s (k ∷ ks) g sum)

pub gain_is : (p : PlainProgramme) (on : Bool) (s : PlainSide) (take : List ℕ) (g : ℕ) → side_for p on ≡ Some s → taken_gains s take ≡ g + s.fixed → 0 < g → gain p record { on = on; take = take } ≡ pos g
gain_is p false s take g is sum some = off_is p s take g (same_side p.off s is) sum some
gain_is p true s take g is sum some =
    subst (λ side. gain_on side take ≡ pos g) (sym is) (net_is s take g sum)

pub new_incumbent : (p : PlainProgramme) (s : PlainSide) (best : Incumbent) → side_for p best.on ≡ Some s → Fits s (taken s best.marks.items) → taken_gains s (taken s best.marks.items) ≡ best.gain + s.fixed → 0 < best.gain → length s.vars ≤ length best.marks.items → IsIncumbent p best
new_incumbent p s best is fits sum some long =
    record {
      accepted = record {
        feasible = subst (λ side. IsSomeAnd side (λ t. Fits t (takes_on side best.marks.items))) (sym is) fits;
        gains = subst (λ side. gain p record { on = best.on; take = takes_on side best.marks.items } ≡ pos best.gain) (sym is) (gain_is p best.on s (taken s best.marks.items) best.gain is sum some);
      };
      marked = subst (λ side. IsSomeAnd side (λ t. length t.vars ≤ length best.marks.items)) (sym is) long;
    }

pub keeps_new : (on : Bool) (s : PlainSide) (old best : Incumbent) → best.on ≡ on → Fits s (taken s best.marks.items) → taken_gains s (taken s best.marks.items) ≡ best.gain + s.fixed → 0 < best.gain → length s.vars ≤ length best.marks.items → KeepsIncumbent on s old best
keeps_new on s old best same fits sum some long p is holds =
    new_incumbent p s best (subst (λ b. side_for p b ≡ Some s) (sym same) is) fits sum some long

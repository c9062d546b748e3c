-- Each side has a stated list, which is no longer than all its partial assignments on one way of splitting.
use Rattle.std.proofs.Common.{◌≡◌, ◌⊎◌, inl, inr, ℕ, zero, suc, ◌+◌, ◌*◌, ◌^◌, ◌<◌, ◌≤◌, List, [], ◌∷◌, ◌++◌, length, length-append, slice_index, slice_set, Option, Some, None, sym, refl, subst, arith}
use Rattle.std.specs.List.{count_by}
use Rattle.std.proofs.Math.Nat.{pow-succ'}
use Rattle.std.proofs.lemmas.Bool.{cases_lt}
use Rattle.std.proofs.lemmas.List.{length-replicate}
use Rattle.std.proofs.lemmas.List.Sums.{count_by-le-length}
use Rattle.placement_programme.specs.Plain.{PlainSide, PlainProgramme, PlainChoice}
use Rattle.placement_programme.specs.Programme.{gain_at}
use Rattle.placement_programme.specs.Sums.{sum_below}
use Rattle.certificate_checker.specs.Nodes.{PlainCertificate}
use Rattle.certificate_checker.specs.Shows.{all_free}
use Rattle.certificate_checker.specs.Rules.{load_of, bound, kept_at, moved_at, OverHolds, DualHolds}
use Rattle.certificate_checker.proofs.Children.{zero_not_free}
use Rattle.branch_bound.specs.StatedLists.{StatedListsExist}
use Rattle.branch_bound.specs.Greatest.{Greatest, GainsMore}
use Rattle.branch_bound.specs.Assignments.{FailsEveryLeafRule, IsGreatestFree}
use Rattle.branch_bound.specs.Entries.{Splits, StatedFrom, alone, split, StatedOn, vars_on, all_vars}
use Rattle.branch_bound.specs.Solving.{EndsWithin, Certifies}
use Rattle.branch_bound.specs.declared.outcomes.Status.{Status}
use Rattle.branch_bound.specs.declared.outcomes.Status.TheVariants.{Optimal, BestFound}
use Rattle.certificate_checker.specs.Fixings.{fixing_of, is_free}
use Rattle.certificate_checker.specs.declared.fixings.Fixing.{Fixing}
use Rattle.certificate_checker.specs.declared.fixings.Fixing.TheVariants.{Zero, One, Free}
use Rattle.branch_bound.proofs.GreatestLemmas.{new_greatest, old_greatest}
use Rattle.branch_bound.proofs.MarkLemmas.{fewer_free}

-- a fact holds or doesn't
abbrev Decided : Type 0 → Type 0
Decided P = P ⊎ (P → ⊥)

pub one_not_free : One ≡ Free → ⊥
one_not_free same = cc

free_decided : (m : Fixing) → Decided (m ≡ Free)
free_decided Zero = inr zero_not_free
free_decided One = inr one_not_free
free_decided Free = inl refl

over_decided : (s : PlainSide) (marks : List Fixing) (n : ℕ) → n ≤ length s.rows → ((row : ℕ) × OverHolds s marks row) ⊎ ((row : ℕ) → row < n → OverHolds s marks row → ⊥)
over_decided s marks zero inside = inr (λ row below over. absurd (omega (arith, below)))
over_decided s marks (suc n) inside =
    elim (cases_lt (slice_index s.rows n) (load_of s marks n)) [
      | inl exceeded ↦ inl (n, record { inside = omega (arith, inside); exceeded = exceeded })
      | inr held ↦
          elim (over_decided s marks n (omega (arith, inside))) [
            | inl found ↦ inl found
            | inr none ↦ inr (λ row below over.
                elim (cases_lt row n) [
                  | inl before ↦ none row before over
                  | inr last ↦
                      let same : row ≡ n = omega (arith, below, last) in
                      let there : OverHolds s marks n = subst (λ r. OverHolds s marks r) same over in
                      let exceeded = there.exceeded in
                      omega (arith, held, exceeded)
                ])
          ]
    ]

dual_decided : (s : PlainSide) (best : ℕ) (marks : List Fixing) → Decided (DualHolds s best marks 1 [])
dual_decided s best marks =
    elim (cases_lt (1 * (best + s.fixed) + sum_below (length s.vars) (moved_at s marks [])) (bound s [] + sum_below (length s.vars) (kept_at s marks 1 []))) [
      | inl less ↦ inr (λ dual. let sums = dual.sums in omega (arith, less, sums))
      | inr most ↦ inl record { least = omega arith; most = omega arith; rows = tt; sums = most }
    ]

more_decided : (gain : ℕ → ℕ) (best : Option ℕ) (n : ℕ) → Decided (GainsMore gain best n)
more_decided gain None n = inl tt
more_decided gain (Some j) n =
    elim (cases_lt (gain j) (gain n)) [ inl less ↦ inl less | inr most ↦ inr (λ less. omega (arith, most, less)) ]

-- the greatest of the free
greatest_more : (s : PlainSide) (marks : List Fixing) (n : ℕ) (best : Option ℕ) → Greatest (λ k. fixing_of marks k ≡ Free) (gain_at s.vars) n best → Decided (GainsMore (gain_at s.vars) best n) → Decided (fixing_of marks n ≡ Free) → (more : Option ℕ) × Greatest (λ k. fixing_of marks k ≡ Free) (gain_at s.vars) (suc n) more
greatest_more s marks n best so_far (inl more) (inl here) =
    (Some n, new_greatest (λ k. fixing_of marks k ≡ Free) (gain_at s.vars) n best so_far here more)
greatest_more s marks n best so_far (inl more) (inr fixed) =
    (best, old_greatest (λ k. fixing_of marks k ≡ Free) (gain_at s.vars) n best so_far (λ both. fixed both.0))
greatest_more s marks n best so_far (inr less) here =
    (best, old_greatest (λ k. fixing_of marks k ≡ Free) (gain_at s.vars) n best so_far (λ both. less both.1))

greatest_there : (s : PlainSide) (marks : List Fixing) (n : ℕ) → (best : Option ℕ) × Greatest (λ k. fixing_of marks k ≡ Free) (gain_at s.vars) n best
greatest_there s marks zero = (None, λ k below holds. absurd (omega (arith, below)))
greatest_there s marks (suc n) =
    let rest = greatest_there s marks n in
    greatest_more s marks n rest.0 rest.1 (more_decided (gain_at s.vars) rest.0 n) (free_decided (fixing_of marks n))

fails_decided : (s : PlainSide) (best : ℕ) (marks : List Fixing) (j : ℕ) → IsGreatestFree s marks j → Decided (FailsEveryLeafRule s best marks)
fails_decided s best marks j greatest =
    elim (over_decided s marks (length s.rows) (omega arith)) [
      | inl over ↦ inr (λ fails. fails.within over.0 over.1)
      | inr none ↦
          elim (dual_decided s best marks) [
            | inl dual ↦ inr (λ fails. fails.unbounded dual)
            | inr unbounded ↦
                inl record {
                  within = λ row over. none row over.inside over;
                  open_or_better = λ leaf. leaf.full j greatest.inside greatest.holds;
                  unbounded = unbounded;
                }
          ]
    ]

-- a list from some marks, of fewer than 2 ^ (k + 1) entries where at most k are free
abbrev HasList : PlainSide → ℕ → List Fixing → ℕ → Type 0
HasList s start marks k =
    (es : List (List Fixing)) × (StatedFrom s start marks es × (suc (length es) ≤ 2 ^ suc k))

one_power : (k : ℕ) → 1 ≤ 2 ^ k
one_power zero = omega arith
one_power (suc k) = let power = pow-succ' 2 k in let rest = one_power k in omega (arith, power, rest)

one_entry : (s : PlainSide) (start : ℕ) (marks : List Fixing) (k : ℕ) → (Splits s start marks → ⊥) → HasList s start marks k
one_entry s start marks k none =
    let power = pow-succ' 2 k in
    let some = one_power k in
    (marks ∷ [], (alone none, omega (arith, power, some)))

both_lists : (s : PlainSide) (start : ℕ) (marks : List Fixing) (j k : ℕ) → Splits s start marks → IsGreatestFree s marks j → HasList s start (slice_set marks j One) k → HasList s start (slice_set marks j Zero) k → HasList s start marks (suc k)
both_lists s start marks j k splits greatest ones zeroes =
    let power = pow-succ' 2 (suc k) in
    let long = length-append ones.0 zeroes.0 in
    let of_one = ones.1.1 in
    let of_zero = zeroes.1.1 in
    (marks ∷ (ones.0 ++ zeroes.0), (split splits greatest ones.1.0 zeroes.1.0, omega (arith, power, long, of_one, of_zero)))

not_split : (s : PlainSide) (start : ℕ) (marks : List Fixing) → ((j : ℕ) → j < length s.vars → fixing_of marks j ≡ Free → ⊥) → Splits s start marks → ⊥
not_split s start marks full splits = splits.not_full full

splits_from : (s : PlainSide) (start : ℕ) (marks : List Fixing) (best : Option ℕ) → Greatest (λ k. fixing_of marks k ≡ Free) (gain_at s.vars) (length s.vars) best → ((j : ℕ) × (Splits s start marks × IsGreatestFree s marks j)) ⊎ (Splits s start marks → ⊥)
splits_from s start marks None full = inr (not_split s start marks full)
splits_from s start marks (Some j) found =
    elim (fails_decided s start marks j found) [
      | inl fails ↦ inl (j, (record { not_full = λ full. full j found.inside found.holds; fails = fails }, found))
      | inr passes ↦ inr (λ splits. passes splits.fails)
    ]

-- a node that splits has a free variable
splits_there : (s : PlainSide) (start : ℕ) (marks : List Fixing) → ((j : ℕ) × (Splits s start marks × IsGreatestFree s marks j)) ⊎ (Splits s start marks → ⊥)
splits_there s start marks =
    let greatest = greatest_there s marks (length s.vars) in
    splits_from s start marks greatest.0 greatest.1

pub has_list : (s : PlainSide) (start k : ℕ) (marks : List Fixing) → count_by is_free marks ≤ k → HasList s start marks k
has_list s start zero marks few =
    elim (splits_there s start marks) [
      | inl found ↦ let fewer = fewer_free marks found.0 One found.1.1.holds refl in absurd (omega (arith, fewer, few))
      | inr none ↦ one_entry s start marks zero none
    ]
has_list s start (suc k) marks few =
    elim (splits_there s start marks) [
      | inl found ↦
          let ones = fewer_free marks found.0 One found.1.1.holds refl in
          let zeroes = fewer_free marks found.0 Zero found.1.1.holds refl in
          let by_one = has_list s start k (slice_set marks found.0 One) (omega (arith, ones, few)) in
          let by_zero = has_list s start k (slice_set marks found.0 Zero) (omega (arith, zeroes, few)) in
          both_lists s start marks found.0 k found.1.0 found.1.1 by_one by_zero
      | inr none ↦ one_entry s start marks (suc k) none
    ]

pub all_free_few : (s : PlainSide) → count_by is_free (all_free s) ≤ length s.vars
all_free_few s =
    let counted = count_by-le-length is_free (all_free s) in
    let all = length-replicate {A = Fixing} (length s.vars) Free in
    omega (arith, counted, all)

-- the list of a side that may be missing
list_on : (side : Option PlainSide) (start : ℕ) → (es : List (List Fixing)) × (StatedOn side start es × (suc (length es) ≤ 2 ^ suc (vars_on side)))
list_on None start = ([], (refl, omega arith))
list_on (Some s) start = has_list s start (length s.vars) (all_free s) (all_free_few s)

two_powers : (a b : ℕ) → 2 ^ suc a + 2 ^ suc b ≤ 2 ^ suc (a + b) + 2
two_powers a zero =
    let same : a + 0 ≡ a = omega arith in
    subst (λ n. 2 ^ suc a + 2 ^ suc zero ≤ 2 ^ suc n + 2) (sym same) (omega arith)
two_powers a (suc b) =
    let rest = two_powers a b in
    let next : a + suc b ≡ suc (a + b) = omega arith in
    let of_sum = pow-succ' 2 (suc (a + b)) in
    let of_b = pow-succ' 2 (suc b) in
    let of_a = pow-succ' 2 a in
    let some = one_power a in
    subst (λ n. 2 ^ suc a + 2 ^ suc (suc b) ≤ 2 ^ suc n + 2) (sym next) (omega (arith, rest, of_sum, of_b, of_a, some))

pub stated_lists_exist : StatedListsExist
stated_lists_exist p start =
    let off = list_on (Some p.off) start in
    let on = list_on p.on start in
    let first = off.1.1 in
    let second = on.1.1 in
    let both = two_powers (length p.off.vars) (vars_on p.on) in
    let next : suc (length p.off.vars + vars_on p.on) ≡ all_vars p + 1 = omega arith in (
      off.0,
      (
        on.0,
        (
          record { off_list = off.1.0; on_list = on.1.0 },
          subst (λ m. length off.0 + length on.0 ≤ 2 ^ m) next (omega (arith, first, second, both)),
        ),
      ),
    )

short_lists : (p : PlainProgramme) (n : ℕ) (c : PlainChoice) → EndsWithin p n c → 2 ^ (all_vars p + 1) ≤ n → ⊥
short_lists p n c ends enough =
    let lists = stated_lists_exist p ends.1.0 in
    let more = ends.1.1.2 lists.0 lists.1.0 lists.1.1.0 in
    let few = lists.1.1.1 in
    omega (arith, more, few, enough)

-- so a budget of 2 to the power of all variables and one more is enough
pub enough_nodes : (p : PlainProgramme) (n : ℕ) (c : PlainCertificate) (status : Status) → Certifies p n c status → 2 ^ (all_vars p + 1) ≤ n → status ≡ Optimal
enough_nodes p n c Optimal certifies enough = refl
enough_nodes p n c (BestFound m) certifies enough = absurd (short_lists p n c.choice certifies.3 enough)

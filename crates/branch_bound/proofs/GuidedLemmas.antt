-- From the visit of a node and the searches of its children to the search below it.
use Rattle.std.proofs.Common.{◌≡◌, inl, inr, ℕ, suc, ◌<◌, ◌≤◌, Bool, true, false, ◌&&◌, List, length, Result, Ok, Err, IfOk, refl, sym, subst, arith}
use Rattle.std.specs.List.{count_by}
use Rattle.std.proofs.lemmas.Int.{ints}
use Rattle.placement_programme.specs.Plain.{PlainSide, PlainProgramme, PlainChoice}
use Rattle.certificate_checker.specs.Fixings.{is_free}
use Rattle.certificate_checker.specs.Shows.{all_free, IsAccepted}
use Rattle.certificate_checker.specs.declared.fixings.Fixing.{Fixing}
use Rattle.lagrangian_bound.specs.declared.guiding.NodeBound.{NodeBound}
use Rattle.branch_bound.specs.Guided.{Gains, Asks, Stand, Spends, SearchesSide, SearchesOn}
use Rattle.branch_bound.specs.FirstSearch.{nodes_within, SearchesBoth, FirstSearch, IfUnfinished}
use Rattle.branch_bound.specs.declared.side_visiting.Round.{Round}
use Rattle.branch_bound.specs.declared.side_visiting.Round.TheVariants.{Certified, Unfinished}
use Rattle.branch_bound.specs.declared.side_visiting.Visit.{Visit}
use Rattle.branch_bound.proofs.ListLemmas.{all_free_few}

-- a choice that is accepted gains one number
pub gains_once : (p : PlainProgramme) (c : PlainChoice) (best : ℕ) → IsAccepted p c best → Gains p c best
gains_once p c best is gains other =
    let here = is.gains in
    let there = other.gains in
    omega (arith, ints, here, there)

-- there are more levels than free variables at the root
pub root_deep : (s : PlainSide) (marks : List Fixing) → length s.vars ≤ 4000 → marks ≡ all_free s → count_by is_free marks < 4097
root_deep s marks few is =
    let counted = all_free_few s in
    subst (λ ms. count_by is_free ms < 4097) (sym is) (omega (arith, counted, few))

-- what is told of a round without a certificate
pub unfinished_more : (P Q : ℕ → Type 0) (r : Round) → ((n : ℕ) → P n → Q n) → IfUnfinished P r → IfUnfinished Q r
unfinished_more P Q (Certified c) more told = tt
unfinished_more P Q (Unfinished best) more told = more best.gain told

-- both rounds, the second one from what the first one came upon
pub rounds_told : {G E : Type 0} (answers : G → PlainSide → List Fixing → ℕ → NodeBound → G → Type 0) (p : PlainProgramme) (budget first : ℕ) (r : Result Round E) → SearchesBoth answers p (nodes_within 1000 1000000 p budget) false 0 first → IfOk r (IfUnfinished (SearchesBoth answers p (nodes_within 10000 8000000 p budget) true first)) → IfOk r (IfUnfinished (FirstSearch answers p budget))
rounds_told answers p budget first (Ok round) one two =
    unfinished_more (SearchesBoth answers p (nodes_within 10000 8000000 p budget) true first) (FirstSearch answers p budget) round (λ n told. (first, (one, told))) two
rounds_told answers p budget first (Err e) one two = two

module _ {G : Type 0} (answers : G → PlainSide → List Fixing → ℕ → NodeBound → G → Type 0) (p : PlainProgramme) (nodes budget : ℕ) (needs : Bool) (best between : ℕ) (is : nodes ≡ budget) where
  -- a round that leaves the on side out
  pub left_out : (off : Bool) → needs ≡ true → off ≡ false → SearchesSide answers p false p.off nodes best off between → SearchesBoth answers p budget needs best between
  left_out off needed none by_off =
      subst (λ n. SearchesBoth answers p n needs best between) is (off, (between, (by_off, inl (needed, none, refl))))

  -- a round of both sides
  pub both_sides : (off on : Bool) (last : ℕ) → SearchesSide answers p false p.off nodes best off between → SearchesOn answers p p.on nodes between on last → (more : ℕ) → (more ≡ last) × ((off && on) ≡ false) → SearchesBoth answers p budget needs best more
  both_sides off on last by_off by_on more told =
      subst (λ n. SearchesBoth answers p n needs best more) is
      (off, (between, (by_off, inr (on, (subst (λ n. SearchesOn answers p p.on nodes between on n) (sym told.0) by_on, told.1)))))

module _ {G : Type 0} (answers : G → PlainSide → List Fixing → ℕ → NodeBound → G → Type 0) (p : PlainProgramme) (on : Bool) (s : PlainSide) (marks : List Fixing) where
  pub spent_on : (old new : Stand G) (visit found : Visit) → visit ≡ found → Asks answers p on s marks old.guide old.best new.best new.guide visit → old.left ≡ suc new.left → Spends answers p on s marks old found new
  spent_on old new visit found is asks less =
      record { asks = subst (λ v. Asks answers p on s marks old.guide old.best new.best new.guide v) is asks; spends = less }

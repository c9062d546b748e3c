-- A walk over the text of a tree.
use Rattle.std.proofs.Common.{◌≡◌, ◌∙◌, ◌↔◌, IsTrue, ℕ, zero, suc, ◌-◌, ◌≤◌, Bool, List, [], ◌∷◌, length, Ok, Err, refl, sym, ap, arith}
use Rattle.placement_programme.specs.Plain.{PlainSide}
use Rattle.placement_programme.proofs.RowLemmas.{rows_higher}
use Rattle.certificate_checker.specs.declared.fault.CertFault.{CertFault}
use Rattle.certificate_checker.specs.declared.fields.Part.TheVariants.{Node}
use Rattle.certificate_checker.specs.Nodes.{PlainTree, branch, over, dual}
use Rattle.certificate_checker.specs.Rules.{DualHolds}
use Rattle.certificate_checker.specs.Parts.{SumsHold}
use Rattle.certificate_checker.specs.Digits.{number_at}
use Rattle.certificate_checker.specs.declared.fields.Part.{Part}
use Rattle.certificate_checker.specs.Reading.{number_in, entries_at, over_at, dual_at, tree_at, cut_off, below_all}
use Rattle.certificate_checker.specs.Loading.{IsLoaded}
use Rattle.certificate_checker.specs.declared.fixings.Fixing.{Fixing}
use Rattle.certificate_checker.proofs.FieldLaws.{ranged_take}
use Rattle.certificate_checker.proofs.Pricing.{dual_tested}

-- a branch whose parts are read, or the first that is not
pub var_broken : (total levels : ℕ) (bytes : List ℕ) (e : CertFault) → number_in Node 0 4294967295 total bytes ≡ Err e → tree_at total (suc levels) (0 ∷ bytes) ≡ Err e
unfolding tree_at
var_broken total levels bytes e a = rw a refl

pub branch_read : (total levels : ℕ) (bytes : List ℕ) (var : ℕ) (r0 : List ℕ) (l : PlainTree) (r1 : List ℕ) (r : PlainTree) (r2 : List ℕ) → number_in Node 0 4294967295 total bytes ≡ Ok (var, r0) → tree_at total levels r0 ≡ Ok (l, r1) → tree_at total levels r1 ≡ Ok (r, r2) → tree_at total (suc levels) (0 ∷ bytes) ≡ Ok (branch var l r, r2)
unfolding tree_at
branch_read total levels bytes var r0 l r1 r r2 a b c = rw (a, b, c) refl

-- a dual node's rule, by the prices that its rows make and their reach
pub listed_tested : (s : PlainSide) (best : ℕ) (marks : List Fixing) (prices : ℕ → ℕ) (scale row_end total : ℕ) (ms : List (ℕ × ℕ)) (b : Bool) → IsLoaded s prices row_end total ms → row_end ≤ length s.rows → 1 ≤ scale → scale ≤ 65536 → (IsTrue b ↔ SumsHold s best marks scale total prices) → (IsTrue b ↔ DualHolds s best marks scale ms)
listed_tested s best marks prices scale row_end total ms b loaded within least most test =
    dual_tested s best marks scale total prices ms b (rows_higher 0 row_end (length s.rows) ms within loaded.ascending) (loaded.values within) least most (loaded.bound within) test

-- a number is no less than the least
pub number_from : (part : Part) (least most total : ℕ) (bytes : List ℕ) (n : ℕ) (rest : List ℕ) → number_in part least most total bytes ≡ Ok (n, rest) → least ≤ n
unfolding number_in
number_from part least most total bytes n rest e = (ranged_take part least most total bytes (number_at bytes) n rest e).1

pub over_read : (total : ℕ) (bytes : List ℕ) (row : ℕ) (rest : List ℕ) → number_in Node 0 4294967295 total bytes ≡ Ok (row, rest) → over_at total bytes ≡ Ok (over row, rest)
unfolding over_at
over_read total bytes row rest a = rw a refl

pub dual_read : (total : ℕ) (bytes : List ℕ) (scale : ℕ) (r0 : List ℕ) (count : ℕ) (r1 : List ℕ) (ms : List (ℕ × ℕ)) (r2 : List ℕ) → number_in Node 1 65536 total bytes ≡ Ok (scale, r0) → number_in Node 0 4294967295 total r0 ≡ Ok (count, r1) → entries_at total count 0 r1 ≡ Ok (ms, r2) → dual_at total bytes ≡ Ok (dual scale ms, r2)
unfolding dual_at
dual_read total bytes scale r0 count r1 ms r2 a b c = rw (a, b, c) refl

-- the first byte of a tree
pub heads : (a b : ℕ) (xs ys : List ℕ) → a ∷ xs ≡ b ∷ ys → a ≡ b
heads a b xs ys same = cc

pub above : (levels : ℕ) → (levels ≡ 0 → ⊥) → suc (levels - 1) ≡ levels
above levels some = omega (arith, some)

cut_at : (total levels : ℕ) → tree_at total levels [] ≡ Err (cut_off total)
unfolding tree_at
cut_at total zero = refl
cut_at total (suc levels) = refl

pub tree_cut : (total levels : ℕ) (bytes : List ℕ) (e : CertFault) → bytes ≡ [] → e ≡ cut_off total → tree_at total levels bytes ≡ Err e
tree_cut total levels bytes e none is = ap (tree_at total levels) none ∙ (cut_at total levels ∙ ap (λ f. Err f) (sym is))

below_at : (total tag : ℕ) (rest : List ℕ) → tree_at total 0 (tag ∷ rest) ≡ Err (below_all total (tag ∷ rest) tag)
unfolding tree_at
below_at total tag rest = refl

pub tree_below : (total levels : ℕ) (bytes : List ℕ) (tag : ℕ) (rest : List ℕ) (e : CertFault) → levels ≡ 0 → bytes ≡ tag ∷ rest → e ≡ below_all total bytes tag → tree_at total levels bytes ≡ Err e
tree_below total levels bytes tag rest e none first is =
    ap (λ n. tree_at total n bytes) none
    ∙ (ap (tree_at total 0) first ∙ (below_at total tag rest ∙ (ap (λ bs. Err (below_all total bs tag)) (sym first) ∙ ap (λ f. Err f) (sym is))))

pub tree_same : (total levels : ℕ) (bytes : List ℕ) (tag : ℕ) (rest : List ℕ) → (levels ≡ 0 → ⊥) → tag ≡ 0 → bytes ≡ tag ∷ rest → tree_at total (suc (levels - 1)) (0 ∷ rest) ≡ tree_at total levels bytes
tree_same total levels bytes tag rest some zeroed first =
    ap (λ n. tree_at total n (0 ∷ rest)) (above levels some)
    ∙ ap (tree_at total levels) (ap (λ b. b ∷ rest) (sym zeroed) ∙ sym first)

-- A tree that holds has no failing node, and else there is one first; so a certificate has one answer.
use Rattle.std.proofs.Common.{◌≡◌, ◌∙◌, inl, inr, ℕ, pos, List, Option, Some, None, slice_set, sym, ap, subst, refl, arith}
use Rattle.placement_programme.specs.Plain.{PlainSide, PlainProgramme, PlainChoice}
use Rattle.certificate_checker.specs.Nodes.{PlainTree, branch, over, dual, leaf, PlainCertificate}
use Rattle.certificate_checker.specs.Rules.{Holds, FirstWrong}
use Rattle.certificate_checker.specs.Shows.{all_free, IsAccepted, ShownBy, SideWrong, TreeWrong, in_32_bits, optimal, best_found, bad_choice, wrong}
use Rattle.certificate_checker.specs.Laws.{OneAnswer}
use Rattle.certificate_checker.specs.declared.fixings.Fixing.{Fixing}
use Rattle.certificate_checker.specs.declared.fixings.Fixing.TheVariants.{Zero, One}

pub not_both : (s : PlainSide) (best : ℕ) (marks : List Fixing) (t : PlainTree) (n d : ℕ) → Holds s best marks t → FirstWrong s best marks t n d → ⊥
not_both s best marks (over row) n d holds fails = fails.0 holds
not_both s best marks (dual scale ms) n d holds fails = fails.0 holds
not_both s best marks leaf n d holds fails = fails.0 holds
not_both s best marks (branch j l r) n d holds fails =
    elim fails [
      | inl here ↦ here.0 holds.0
      | inr below ↦
          elim below [
            | inl zero ↦ not_both s best (slice_set marks j Zero) l zero.1.0 zero.1.1.0 holds.1 zero.1.1.1.0
            | inr one ↦ not_both s best (slice_set marks j One) r one.2.0 one.2.1.0 holds.2 one.2.1.1.0
          ]
    ]

abbrev pub Same : ℕ → ℕ → ℕ → ℕ → Type 0
Same n d m e = (n ≡ m) × (d ≡ e)

pub first_same : (s : PlainSide) (best : ℕ) (marks : List Fixing) (t : PlainTree) (n d m e : ℕ) → FirstWrong s best marks t n d → FirstWrong s best marks t m e → Same n d m e
first_same s best marks (over row) n d m e one other = (omega (arith, one.1, other.1), omega (arith, one.2, other.2))
first_same s best marks (dual scale ms) n d m e one other = (omega (arith, one.1, other.1), omega (arith, one.2, other.2))
first_same s best marks leaf n d m e one other = (omega (arith, one.1, other.1), omega (arith, one.2, other.2))
first_same s best marks (branch j l r) n d m e one other =
    elim one [
      | inl here ↦
          elim other [
            | inl there ↦ (omega (arith, here.1, there.1), omega (arith, here.2, there.2))
            | inr below ↦ elim below [ inl zero ↦ absurd (here.0 zero.0) | inr second ↦ absurd (here.0 second.0) ]
          ]
      | inr below ↦
          elim below [
            | inl zero ↦
                elim other [
                  | inl there ↦ absurd (there.0 zero.0)
                  | inr under ↦
                      elim under [
                        | inl again ↦
                            let same = first_same s best (slice_set marks j Zero) l zero.1.0 zero.1.1.0 again.1.0 again.1.1.0 zero.1.1.1.0 again.1.1.1.0 in
                            let a = zero.1.1.1 in
                            let b = again.1.1.1 in
                            (omega (arith, same.0, a.1, b.1), omega (arith, same.1, a.2, b.2))
                        | inr second ↦ absurd (not_both s best (slice_set marks j Zero) l zero.1.0 zero.1.1.0 second.1 zero.1.1.1.0)
                      ]
                ]
            | inr second ↦
                elim other [
                  | inl there ↦ absurd (there.0 second.0)
                  | inr under ↦
                      elim under [
                        | inl again ↦ absurd (not_both s best (slice_set marks j Zero) l again.1.0 again.1.1.0 second.1 again.1.1.1.0)
                        | inr twice ↦
                            let same = first_same s best (slice_set marks j One) r second.2.0 second.2.1.0 twice.2.0 twice.2.1.0 second.2.1.1.0 twice.2.1.1.0 in
                            let a = second.2.1.1 in
                            let b = twice.2.1.1 in
                            (omega (arith, same.0, a.1, b.1), omega (arith, same.1, a.2, b.2))
                      ]
                ]
          ]
    ]

pub side_same : (side : Option PlainSide) (best : ℕ) (t : Option PlainTree) (n d m e : ℕ) → SideWrong side best t n d → SideWrong side best t m e → Same n d m e
side_same None best None n d m e one other = absurd one
side_same None best (Some t) n d m e one other = (omega (arith, one.0, other.0), omega (arith, one.1, other.1))
side_same (Some s) best None n d m e one other = (omega (arith, one.0, other.0), omega (arith, one.1, other.1))
side_same (Some s) best (Some t) n d m e one other = first_same s best (all_free s) t n d m e one other

pub not_shown : (side : Option PlainSide) (best : ℕ) (t : Option PlainTree) (n d : ℕ) → ShownBy side best t → SideWrong side best t n d → ⊥
not_shown None best None n d shown fails = fails
not_shown None best (Some t) n d shown fails = shown
not_shown (Some s) best None n d shown fails = shown
not_shown (Some s) best (Some t) n d shown fails = not_both s best (all_free s) t n d shown fails

pub tree_same : (p : PlainProgramme) (c : PlainCertificate) (best side n d other m e : ℕ) → TreeWrong p c best side n d → TreeWrong p c best other m e → (side ≡ other) × Same n d m e
tree_same p c best side n d other m e a b =
    elim a [
      | inl off ↦
          elim b [
            | inl again ↦ (omega (arith, off.0, again.0), side_same (Some p.off) best c.off n d m e off.1 again.1)
            | inr on ↦ absurd (not_shown (Some p.off) best c.off n d on.1 off.1)
          ]
      | inr on ↦
          elim b [
            | inl off ↦ absurd (not_shown (Some p.off) best c.off m e on.1 off.1)
            | inr again ↦ (omega (arith, on.0, again.0), side_same p.on best c.on n d m e on.2 again.2)
          ]
    ]

pub tree_not_shown : (p : PlainProgramme) (c : PlainCertificate) (best side n d : ℕ) → TreeWrong p c best side n d → ShownBy (Some p.off) best c.off → ShownBy p.on best c.on → ⊥
tree_not_shown p c best side n d fails off on =
    elim fails [
      | inl first ↦ not_shown (Some p.off) best c.off n d off first.1
      | inr second ↦ not_shown p.on best c.on n d on second.2
    ]

-- a choice has one gain
pub best_same : (p : PlainProgramme) (c : PlainChoice) (a b : ℕ) → IsAccepted p c a → IsAccepted p c b → a ≡ b
best_same p c a b one other = let same : pos a ≡ pos b = sym one.gains ∙ other.gains in cc

pub no_tree_shown : (p : PlainProgramme) (best : ℕ) (t : Option PlainTree) → t ≡ None → ShownBy (Some p.off) best t → ⊥
no_tree_shown p best None none shown = shown
no_tree_shown p best (Some t) none shown = cc

pub wrong_same : (side n d other m e a b x y : ℕ) → side ≡ other → Same n d m e → a ≡ in_32_bits n → b ≡ in_32_bits d → x ≡ in_32_bits m → y ≡ in_32_bits e → wrong side a b ≡ wrong other x y
wrong_same side n d other m e a b x y sides same is_a is_b is_x is_y =
    let nodes = same.0 in
    let depths = same.1 in
    let first = ap in_32_bits nodes in
    let second = ap in_32_bits depths in
    cc

pub one_answer : OneAnswer
one_answer p c bad_choice bad_choice a b = refl
one_answer p c bad_choice best_found a b = absurd (a b.0.0 b.0.1)
one_answer p c bad_choice optimal a b = absurd (a b.0 b.1.accepted)
one_answer p c bad_choice (wrong side node depth) a b = absurd (a b.0 b.1.1.1.0)
one_answer p c best_found bad_choice a b = absurd (b a.0.0 a.0.1)
one_answer p c best_found best_found a b = refl
one_answer p c best_found optimal a b = absurd (no_tree_shown p b.0 c.off a.1 b.1.off)
one_answer p c best_found (wrong side node depth) a b = absurd (b.1.1.1.1 (a.1, a.2))
one_answer p c optimal bad_choice a b = absurd (b a.0 a.1.accepted)
one_answer p c optimal best_found a b = absurd (no_tree_shown p a.0 c.off b.1 a.1.off)
one_answer p c optimal optimal a b = refl
one_answer p c optimal (wrong side node depth) a b =
    let f = b.1.1.1 in
    let same = best_same p c.choice b.0 a.0 f.0 a.1.accepted in
    let fails : TreeWrong p c a.0 side b.1.0 b.1.1.0 = subst (λ best. TreeWrong p c best side b.1.0 b.1.1.0) same f.2 in
    absurd (tree_not_shown p c a.0 side b.1.0 b.1.1.0 fails a.1.off a.1.on)
one_answer p c (wrong side node depth) bad_choice a b = absurd (b a.0 a.1.1.1.0)
one_answer p c (wrong side node depth) best_found a b = absurd (a.1.1.1.1 (b.1, b.2))
one_answer p c (wrong side node depth) optimal a b =
    let f = a.1.1.1 in
    let same = best_same p c.choice a.0 b.0 f.0 b.1.accepted in
    let fails : TreeWrong p c b.0 side a.1.0 a.1.1.0 = subst (λ best. TreeWrong p c best side a.1.0 a.1.1.0) same f.2 in
    absurd (tree_not_shown p c b.0 side a.1.0 a.1.1.0 fails b.1.off b.1.on)
one_answer p c (wrong side node depth) (wrong other m e) a b =
    let f = a.1.1.1 in
    let g = b.1.1.1 in
    let same = best_same p c.choice a.0 b.0 f.0 g.0 in
    let fails : TreeWrong p c b.0 side a.1.0 a.1.1.0 = subst (λ best. TreeWrong p c best side a.1.0 a.1.1.0) same f.2 in
    let both = tree_same p c b.0 side a.1.0 a.1.1.0 other b.1.0 b.1.1.0 fails g.2 in
    wrong_same side a.1.0 a.1.1.0 other b.1.0 b.1.1.0 node depth m e both.0 both.1 f.3 f.4 g.3 g.4

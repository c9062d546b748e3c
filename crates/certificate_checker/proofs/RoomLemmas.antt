-- A certificate that is checked as it is read.
use Rattle.std.proofs.Common.{◌≡◌, ◌∙◌, inl, inr, ℕ, suc, ◌+◌, ◌<◌, ◌≤◌, ◌==◌, Bool, true, false, List, [], ◌∷◌, ◌++◌, length, Option, Some, None, option_map, Result, Ok, Err, refl, sym, ap, subst, arith}
use Rattle.std.specs.Prelude.{IsSomeAnd, MatchOption, IfSome}
use Rattle.std.proofs.Math.Nat.{le-max_left, le-max_right}
use Rattle.std.proofs.lemmas.Bool.{ne_eqb}
use Rattle.placement_programme.specs.Plain.{PlainSide, PlainProgramme, PlainChoice}
use Rattle.placement_programme.specs.Bounds.{AscendWithin}
use Rattle.placement_programme.specs.Programme.{Fits, side_for}
use Rattle.placement_programme.specs.declared.sides.Side.{Side}
use Rattle.certificate_checker.specs.declared.fields.Part.TheVariants.{Head}
use Rattle.certificate_checker.specs.declared.walking.Failing.{Failing}
use Rattle.certificate_checker.specs.Nodes.{PlainTree, PlainCertificate}
use Rattle.certificate_checker.specs.Shows.{IsAccepted, in_32_bits, Answers}
use Rattle.certificate_checker.specs.Reading.{◌>>=◌, number_in, vars_at, flag_at, choice_at, tree_at, most_levels, PlainTrees, second_at, trees_at, trees_for, body_at}
use Rattle.certificate_checker.specs.Spelling.{has_tree}
use Rattle.certificate_checker.specs.Walks.{SideAnswers}
use Rattle.certificate_checker.specs.Rooms.{AreTaken, most_of, vars_of, IsBest, AnswersFor, gain_behind, verdict_for, KeepsChoice}
use Rattle.certificate_checker.proofs.NumberLaws.{chosen}
use Rattle.certificate_checker.proofs.FieldLaws.{bind_ok, done, done_is}
use Rattle.certificate_checker.proofs.Failures.{number_here}

-- numbers that ascend, one more
ascend_push : (low high : ℕ) (ks : List ℕ) (k : ℕ) → low ≤ high → AscendWithin low high ks → high ≤ k → AscendWithin low (k + 1) (ks ++ k ∷ [])
ascend_push low high [] k order all past = (omega (arith, order, past), omega arith, tt)
ascend_push low high (n ∷ ks) k order all past =
    let inside = all.1 in
    (all.0, omega (arith, inside, past), ascend_push (suc n) high ks k inside all.2 past)

ascend_last : (low high : ℕ) (ks : List ℕ) (k : ℕ) → AscendWithin low high (ks ++ k ∷ []) → k < high
ascend_last low high [] k all = all.1
ascend_last low high (n ∷ ks) k all = ascend_last (suc n) high ks k all.2

pub taken_past : (limit row_end k next : ℕ) (taken ks : List ℕ) → AreTaken limit row_end taken ks → row_end ≤ k → limit ≤ k → next ≡ k + 1 → AreTaken limit next taken (ks ++ k ∷ [])
taken_past limit row_end k next taken ks so_far past out is =
    let few = so_far.few in
    record {
      ascending = subst (λ n. AscendWithin 0 n (ks ++ k ∷ [])) (sym is) (ascend_push 0 row_end ks k (omega arith) so_far.ascending past);
      tight = λ high all. let last = ascend_last 0 high ks k all in omega (arith, last, is);
      all = λ within. absurd (omega (arith, within, out, is));
      few = omega (arith, few, past, is);
      room = so_far.room;
    }

pub taken_here : (limit row_end k next : ℕ) (taken more ks : List ℕ) → AreTaken limit row_end taken ks → row_end ≤ k → k < limit → next ≡ k + 1 → more ≡ taken ++ k ∷ [] → length more ≡ length taken + 1 → AreTaken limit next more (ks ++ k ∷ [])
taken_here limit row_end k next taken more ks so_far past inside is is_more longer =
    let few = so_far.few in
    record {
      ascending = subst (λ n. AscendWithin 0 n (ks ++ k ∷ [])) (sym is) (ascend_push 0 row_end ks k (omega arith) so_far.ascending past);
      tight = λ high all. let last = ascend_last 0 high ks k all in omega (arith, last, is);
      all = λ within. is_more ∙ ap (λ (l : List ℕ). l ++ k ∷ []) (so_far.all (omega (arith, past, inside)));
      few = omega (arith, few, past, is, longer);
      room = omega (arith, few, past, inside, longer);
    }

-- a choice that is read
pub choice_read : (total : ℕ) (bytes : List ℕ) (on : Bool) (r0 : List ℕ) (count : ℕ) (r1 ks r2 : List ℕ) → flag_at total bytes ≡ Ok (on, r0) → number_in Head 0 4294967295 total r0 ≡ Ok (count, r1) → vars_at total count 0 r1 ≡ Ok (ks, r2) → choice_at total bytes ≡ Ok (record { on = on; take = ks }, r2)
unfolding choice_at
choice_read total bytes on r0 count r1 ks r2 a b c = rw (a, b, c) refl

far_misfits : (side : Option PlainSide) (limit row_end : ℕ) (taken ks : List ℕ) → AreTaken limit row_end taken ks → limit ≡ vars_of side → limit < row_end → IsSomeAnd side (λ s. Fits s ks) → ⊥
far_misfits None limit row_end taken ks all is far fits = fits
far_misfits (Some s) limit row_end taken ks all is far fits =
    let within = all.tight (length s.vars) fits.numbers in
    omega (arith, within, is, far)

-- a number that is no variable
pub far_not_accepted : (p : PlainProgramme) (on : Bool) (limit row_end : ℕ) (taken ks : List ℕ) → AreTaken limit row_end taken ks → limit ≡ vars_of (side_for p on) → limit < row_end → (b : ℕ) → IsAccepted p record { on = on; take = ks } b → ⊥
far_not_accepted p on limit row_end taken ks all is far b accepted =
    far_misfits (side_for p on) limit row_end taken ks all is far accepted.feasible

-- trees that are read
pub one_tree : (total : ℕ) (bytes : List ℕ) (count : ℕ) (r0 : List ℕ) (t : PlainTree) (r1 : List ℕ) → number_in Head 1 2 total bytes ≡ Ok (count, r0) → tree_at total most_levels r0 ≡ Ok (t, r1) → count ≡ 1 → trees_at total bytes ≡ Ok ((Some t, None), r1)
unfolding trees_at
one_tree total bytes count r0 t r1 a b is =
    let number = a ∙ ap (λ (n : ℕ). done (n, r0)) is in
    rw (number, b) refl

pub two_trees : (total : ℕ) (bytes : List ℕ) (count : ℕ) (r0 : List ℕ) (t : PlainTree) (r1 : List ℕ) (u : PlainTree) (r2 : List ℕ) → number_in Head 1 2 total bytes ≡ Ok (count, r0) → tree_at total most_levels r0 ≡ Ok (t, r1) → (count ≡ 1 → ⊥) → tree_at total most_levels r1 ≡ Ok (u, r2) → trees_at total bytes ≡ Ok ((Some t, Some u), r2)
unfolding trees_at
two_trees total bytes count r0 t r1 u r2 a b other c =
    let test = ne_eqb count 1 other in
    rw (a, b, test, c) refl

-- whether there are trees
abbrev Trees : Type 0
Trees = PlainTrees × List ℕ

some_tree : (total : ℕ) (bytes : List ℕ) (x : Trees) → trees_at total bytes ≡ Ok x → has_tree x.0.0 ≡ true
unfolding trees_at
some_tree total bytes x e =
    let a = bind_ok (number_in Head 1 2 total bytes) (λ count. tree_at total most_levels count.1 >>= λ off. second_at count.0 total off) x e in
    let b = bind_ok (tree_at total most_levels a.0.1) (λ off. second_at a.0.0 total off) x a.2 in
    elim (chosen (a.0.0 == 1) (done ((Some b.0.0, None), b.0.1)) (tree_at total most_levels b.0.1 >>= λ on. Ok ((Some b.0.0, Some on.0), on.1)) (done x) b.2) [
      | inl one ↦ subst (λ (y : Trees). has_tree y.0.0 ≡ true) (done_is ((Some b.0.0, None), b.0.1) x one.1) refl
      | inr two ↦
          let c = bind_ok (tree_at total most_levels b.0.1) (λ on. Ok ((Some b.0.0, Some on.0), on.1)) x two.1 in
          subst (λ (y : Trees). has_tree y.0.0 ≡ true) (done_is ((Some b.0.0, Some c.0.0), c.0.1) x c.2) refl
    ]

pub trees_claimed : (total : ℕ) (claimed : Bool) (bytes : List ℕ) (x : Trees) → trees_for claimed total bytes ≡ Ok x → (has_tree x.0.0 ≡ claimed) × (claimed ≡ false → x.0.1 ≡ None)
trees_claimed total true bytes x e = (some_tree total bytes x e, λ other. absurd (let f : true ≡ false = other in cc))
trees_claimed total false bytes x e =
    subst (λ (y : Trees). (has_tree y.0.0 ≡ false) × (false ≡ false → y.0.1 ≡ None)) (done_is ((None, None), bytes) x e) (refl, λ same. refl)

no_tree : (t : Option PlainTree) → has_tree t ≡ false → t ≡ None
no_tree None e = refl
no_tree (Some t) e = absurd (let f : true ≡ false = e in cc)

some_has : (t : Option PlainTree) → has_tree t ≡ true → t ≡ None → ⊥
some_has t has none = let f : has_tree t ≡ false = ap has_tree none in let g : true ≡ false = sym has ∙ f in cc

at_start : (n m : ℕ) → m ≡ in_32_bits (0 + n) → m ≡ in_32_bits n
at_start n m is = let same : 0 + n ≡ n = omega arith in subst (λ k. m ≡ in_32_bits k) same is

-- the verdict is the certificate's answer
pub verdict_right : (p : PlainProgramme) (c : PlainCertificate) (kept : PlainChoice) (best : Option ℕ) (claimed : Bool) (off on : Result (Unit {0}) Failing) → IsBest p c.choice kept best → has_tree c.off ≡ claimed → (claimed ≡ false → c.on ≡ None) → AnswersFor (Some p.off) best c.off off → AnswersFor p.on (gain_behind best off) c.on on → Answers p c (verdict_for best claimed off on) × KeepsChoice c.choice kept (verdict_for best claimed off on)
verdict_right p c kept None claimed off on is has none a b = (is, tt)
verdict_right p c kept (Some g) false off on is has none a b = (((g, is.0), no_tree c.off has, none refl), is.1)
verdict_right p c kept (Some g) true (Err f) on is has none a b =
    ((g, (a.0, (a.1.0, (is.0, (λ nones. some_has c.off has nones.0), inl (refl, a.1.1.0), at_start a.0 f.node a.1.1.1.0, at_start a.1.0 f.depth a.1.1.1.1)))), tt)
verdict_right p c kept (Some g) true (Ok u) (Err f) is has none a b =
    ((g, (b.0, (b.1.0, (is.0, (λ nones. some_has c.off has nones.0), inr (refl, a, b.1.1.0), at_start b.0 f.node b.1.1.1.0, at_start b.1.0 f.depth b.1.1.1.1)))), tt)
verdict_right p c kept (Some g) true (Ok u) (Ok v) is has none a b =
    ((g, record { accepted = is.0; off = a; on = b }), is.1)

-- a body that is read
pub body_read : (total : ℕ) (bytes : List ℕ) (claimed : Bool) (r0 : List ℕ) (c : PlainChoice) (r1 : List ℕ) (ts : PlainTrees) (r2 : List ℕ) → flag_at total bytes ≡ Ok (claimed, r0) → choice_at total r0 ≡ Ok (c, r1) → trees_for claimed total r1 ≡ Ok (ts, r2) → length r2 ≡ 0 → body_at total bytes ≡ Ok (record { choice = c; off = ts.0; on = ts.1 })
unfolding body_at
body_read total bytes claimed r0 c r1 ts r2 x y z none = rw (x, y, z, none) refl

-- a side that is answered for each gain
pub answered : (side : Option PlainSide) (t : Option PlainTree) (r : Result (Unit {0}) Failing) (best : Option ℕ) → ((b : ℕ) → SideAnswers side b t r) → AnswersFor side best t r
answered side t r None each = tt
answered side t r (Some b) each = each b

-- a missing tree fails at its node 0
pub missing_first : (s : PlainSide) (best : ℕ) (r : Result (Unit {0}) Failing) → r ≡ Err record { node = 0; depth = 0 } → SideAnswers (Some s) best None r
missing_first s best r is =
    subst (λ (q : Result (Unit {0}) Failing). SideAnswers (Some s) best None q) (sym is)
    (0, (0, ((refl, refl), (number_here 0 (omega arith), number_here 0 (omega arith)))))

abbrev choice_of : Bool → List ℕ → PlainChoice
choice_of on l = record { on = on; take = l }

-- the gain of a choice whose numbers were all kept
pub best_of : (p : PlainProgramme) (on : Bool) (taken ks : List ℕ) (best : Option ℕ) → taken ≡ ks → MatchOption best ((b : ℕ) → IsAccepted p record { on = on; take = taken } b → ⊥) (IsAccepted p record { on = on; take = taken }) → IfSome best (λ b. b ≤ 20282409603651670423947251286016) → IsBest p record { on = on; take = ks } record { on = on; take = taken } best
best_of p on taken ks None same accepted small = λ b is. accepted b (subst (λ l. IsAccepted p record { on = on; take = l } b) (sym same) is)
best_of p on taken ks (Some g) same accepted small =
    (subst (λ l. IsAccepted p record { on = on; take = l } g) same accepted, ap (λ l. choice_of on l) same, small)

-- a length that is that of the longer side suffices for both
pub enough_off : (n k : ℕ) (other : Option ℕ) → k ≡ most_of n other → n ≤ k
enough_off n k None is = omega (arith, is)
enough_off n k (Some m) is = let less = le-max_left n m in omega (arith, is, less)

pub enough_on : (n k : ℕ) (on : Option Side) → k ≡ most_of n (option_map (λ s. length s.vars.items) on) → IfSome on (λ s. length s.vars.items ≤ k)
enough_on n k None is = tt
enough_on n k (Some s) is = let less = le-max_right n (length s.vars.items) in omega (arith, is, less)

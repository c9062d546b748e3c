-- Nodes that wait, one more and one fewer.
use Rattle.std.proofs.Common.{◌≡◌, ◌≢◌, inl, inr, ℕ, zero, suc, ◌+◌, ◌<◌, Bool, true, false, List, [], ◌∷◌, ◌++◌, length, slice_set, Some, refl, sym, subst, ◌∙◌, arith, length-append}
use Rattle.std.specs.List.{Contains}
use Rattle.std.proofs.lemmas.Bool.{cases_eq}
use Rattle.std.proofs.lemmas.List.{get_or-set_same, get_or-set_other, length-set}
use Rattle.std.proofs.lemmas.List.Elements.{Contains-append_left, Contains-append_right, Contains-append_cases}
use Rattle.reach_graph.specs.Queues.{waits_at, IsQueue, IsAdded, IsTaken}

pub contains_last : (xs : List ℕ) (x : ℕ) → Contains (xs ++ x ∷ []) x
contains_last xs x = Contains-append_right xs (x ∷ []) x (0, omega arith, refl)

contains_one : (x n : ℕ) → Contains (x ∷ []) n → n ≡ x
contains_one x n (zero, below, is) = sym is
contains_one x n (suc k, below, is) = absurd (omega (arith, below))

set_here : (waits : List Bool) (node : ℕ) (b : Bool) → node < length waits → waits_at (slice_set waits node b) node ≡ b
set_here waits node b inside = get_or-set_same waits node b false inside

set_there : (waits : List Bool) (node n : ℕ) (b : Bool) → n ≢ node → waits_at (slice_set waits node b) n ≡ waits_at waits n
set_there waits node n b other = get_or-set_other waits node n b false other

pub queue_grown : (waiting : List ℕ) (waits : List Bool) (node : ℕ) → node < length waits → IsQueue waiting waits
    → IsQueue (waiting ++ node ∷ []) (slice_set waits node true)
queue_grown waiting waits node below q =
    record {
      listed = λ n is. elim (cases_eq n node) [
        | inl same ↦ subst (Contains (waiting ++ node ∷ [])) (sym same) (contains_last waiting node)
        | inr other ↦ Contains-append_left waiting (node ∷ []) n (q.listed n (sym (set_there waits node n true other) ∙ is))
      ];
      inside = λ n has. elim (Contains-append_cases waiting (node ∷ []) n has) [
        | inl old ↦ let in_old = q.inside n old in omega (arith, in_old, length-set waits node true)
        | inr new ↦ let same = contains_one node n new in omega (arith, same, below, length-set waits node true)
      ];
    }

pub added_new : (node : ℕ) (waiting : List ℕ) (waits : List Bool) → node < length waits
    → IsAdded node waiting waits (waiting ++ node ∷ []) (slice_set waits node true)
added_new node waiting waits below =
    record {
      size = length-set waits node true;
      few = omega (arith, length-append waiting (node ∷ []));
      queue = queue_grown waiting waits node below;
      here = set_here waits node true below;
      others = λ n is. elim (cases_eq n node) [
        | inl same ↦ subst (λ m. waits_at (slice_set waits node true) m ≡ true) (sym same) (set_here waits node true below)
        | inr other ↦ set_there waits node n true other ∙ is
      ];
    }

pub taken_some : (waiting rest : List ℕ) (waits : List Bool) (node : ℕ) → IsQueue waiting waits → waiting ≡ rest ++ node ∷ []
    → IsTaken waiting waits (Some node) rest (slice_set waits node false)
taken_some waiting rest waits node q is =
    let below = q.inside node (subst (λ xs. Contains xs node) (sym is) (contains_last rest node)) in (
      below,
      (
        is,
        (
          refl,
          record {
            listed = λ n on. elim (cases_eq n node) [
              | inl same ↦ absurd (off waits node n below same on)
              | inr other ↦
                  elim (Contains-append_cases rest (node ∷ []) n (subst (λ xs. Contains xs n) is (q.listed n (sym (set_there waits node n false other) ∙ on)))) [
                    | inl old ↦ old
                    | inr new ↦ absurd (other (contains_one node n new))
                  ]
            ];
            inside = λ n has.
                let old = q.inside n (subst (λ xs. Contains xs n) (sym is) (Contains-append_left rest (node ∷ []) n has)) in
                omega (arith, old, length-set waits node false);
          },
        ),
      ),
    )
  where
    off : (waits : List Bool) (node n : ℕ) → node < length waits → n ≡ node → waits_at (slice_set waits node false) n ≡ true → ⊥
    off waits node n below same on =
        let no = subst (λ m. waits_at (slice_set waits node false) m ≡ false) (sym same) (set_here waits node false below) in cc

-- ---- the nodes that wait first

still_off : (waits waits' : List Bool) (n : ℕ) → ((m : ℕ) → waits_at waits m ≡ true → waits_at waits' m ≡ true) → waits_at waits' n ≡ false
    → (b : Bool) → waits_at waits n ≡ b → waits_at waits n ≡ false
still_off waits waits' n still off true is = let on = still n is in absurd (cc)
still_off waits waits' n still off false is = is

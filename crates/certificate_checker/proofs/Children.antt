-- What a variable that is fixed changes of the marks.
use Rattle.std.proofs.Common.{◌≡◌, ◌≢◌, ◌⊎◌, inl, inr, ℕ, ◌<◌, Bool, true, false, List, length, slice_set, sym, subst, get_or-set_other, get_or-set_same}
use Rattle.std.proofs.lemmas.Bool.{cases_eq, cases_lt}
use Rattle.std.proofs.lemmas.List.{get_or_past}
use Rattle.placement_programme.specs.Plain.{PlainSide}
use Rattle.certificate_checker.specs.Fixings.{fixing_of}
use Rattle.certificate_checker.specs.declared.fixings.Fixing.{Fixing}
use Rattle.certificate_checker.specs.declared.fixings.Fixing.TheVariants.{Zero, One, Free}
use Rattle.certificate_checker.proofs.Duality.{AgreesAt, Agrees}

pub zero_not_free : Zero ≡ Free → ⊥
zero_not_free same = cc

-- a variable that is free has an entry
pub free_inside : (marks : List Fixing) (j : ℕ) → fixing_of marks j ≡ Free → j < length marks
free_inside marks j is =
    elim (cases_lt j (length marks)) [
      | inl inside ↦ inside
      | inr past ↦ absurd (zero_not_free (subst (λ f. f ≡ Free) (get_or_past marks j Zero past) is))
    ]

-- the variable that was fixed, and the others
pub mark_same : (marks : List Fixing) (j : ℕ) (f : Fixing) → j < length marks → fixing_of (slice_set marks j f) j ≡ f
mark_same marks j f inside = get_or-set_same marks j f Zero inside

pub mark_other : (marks : List Fixing) (j : ℕ) (f : Fixing) (k : ℕ) → k ≢ j → fixing_of (slice_set marks j f) k ≡ fixing_of marks k
mark_other marks j f k other = get_or-set_other marks j k f Zero other

pub agrees_set : (s : PlainSide) (marks : List Fixing) (j : ℕ) (f : Fixing) (x : ℕ → Bool) → j < length marks → Agrees s marks x → AgreesAt f (x j) → Agrees s (slice_set marks j f) x
agrees_set s marks j f x inside agrees here k below =
    elim (cases_eq k j) [
      | inl same ↦
          let at_j : AgreesAt (fixing_of (slice_set marks j f) j) (x j) = subst (λ m. AgreesAt m (x j)) (sym (mark_same marks j f inside)) here in
          subst (λ i. AgreesAt (fixing_of (slice_set marks j f) i) (x i)) (sym same) at_j
      | inr other ↦ subst (λ m. AgreesAt m (x k)) (sym (mark_other marks j f k other)) (agrees k below)
    ]

-- a selection agrees with one of the two children
pub one_child : (s : PlainSide) (marks : List Fixing) (j : ℕ) (x : ℕ → Bool) (b : Bool) → x j ≡ b → j < length marks → Agrees s marks x → Agrees s (slice_set marks j Zero) x ⊎ Agrees s (slice_set marks j One) x
one_child s marks j x false is inside agrees = inl (agrees_set s marks j Zero x inside agrees is)
one_child s marks j x true is inside agrees = inr (agrees_set s marks j One x inside agrees is)

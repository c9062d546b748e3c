-- What units do with a register, one unit more.
use Rattle.std.proofs.Common.{◌≡◌, ◌⊎◌, inl, inr, ℕ, ◌+◌, ◌<◌, List, length, sym, subst, arith}
use Rattle.std.specs.Prelude.{◌↔◌}
use Rattle.std.proofs.lemmas.Bool.{cases_eq}
use Rattle.reach_graph.specs.Reaching.{HasMark}
use Rattle.reach_graph.proofs.MarkLemmas.{none_in_zero}
use Rattle.code_blocks.specs.declared.parts.Unit.{Unit}
use Rattle.dataflow.specs.Live.{unit_in, Uses, Defines}
use Rattle.dataflow.specs.Summaries.{NoneDefines, UsedFirst, PassesOver}
use Rattle.dataflow.proofs.MarkLemmas.{all_set}

pub used_none : (us : List Unit) (x : ℕ) → HasMark 0 x ↔ UsedFirst us 0 x
used_none us x = (λ has. absurd (none_in_zero x has), λ first. let below = first.below in absurd (omega (arith, below)))

pub kept_all : (us : List Unit) (x : ℕ) → x < 32 → HasMark 18446744073709551615 x ↔ NoneDefines us 0 x
kept_all us x low = (λ has k below defines. omega (arith, below), λ none. all_set x low)

pub used_more : (us : List Unit) (i x used kept used' : ℕ) (u : Unit) → u ≡ unit_in us i → (HasMark used x ↔ UsedFirst us i x) → (HasMark kept x ↔ NoneDefines us i x)
    → (HasMark used' x ↔ (HasMark used x ⊎ (HasMark kept x × Uses u x))) → HasMark used' x ↔ UsedFirst us (i + 1) x
used_more us i x used kept used' u is was none step = (
  λ has. elim (step.0 has) [
    | inl old ↦
        let first = was.0 old in
        record { k = first.k; below = let b = first.below in omega (arith, b); uses = first.uses; before = first.before }
    | inr new ↦ record { k = i; below = omega arith; uses = subst (λ (v : Unit). Uses v x) is new.1; before = none.0 new.0 }
  ],
  λ first. step.1 (elim (cases_eq first.k i) [
    | inl same ↦
        inr (
          none.1 (subst (λ (k : ℕ). NoneDefines us k x) same first.before),
          subst (λ (v : Unit). Uses v x) (sym is) (subst (λ (k : ℕ). Uses (unit_in us k) x) same first.uses),
        )
    | inr other ↦
        inl (was.1 (record { k = first.k; below = let b = first.below in omega (arith, b, other); uses = first.uses; before = first.before }))
  ]),
)

pub kept_more : (us : List Unit) (i x kept kept' : ℕ) (u : Unit) → u ≡ unit_in us i → (HasMark kept x ↔ NoneDefines us i x)
    → (HasMark kept' x ↔ (HasMark kept x × (Defines u x → ⊥))) → HasMark kept' x ↔ NoneDefines us (i + 1) x
kept_more us i x kept kept' u is none step = (
  λ has k below defines. elim (cases_eq k i) [
    | inl same ↦
        (step.0 has).1 (subst (λ (v : Unit). Defines v x) (sym is) (subst (λ (j : ℕ). Defines (unit_in us j) x) same defines))
    | inr other ↦ none.0 (step.0 has).0 k (omega (arith, below, other)) defines
  ],
  λ all. step.1 (none.1 (λ k below. all k (omega (arith, below))), λ defines. all i (omega arith) (subst (λ (v : Unit). Defines v x) is defines)),
)

-- what passes over a block: nothing where it has no units
pub kept_passes : (us : List Unit) (kept new count x : ℕ) → count ≡ length us → (count ≡ 0 → new ≡ 0) → (0 < count → new ≡ kept) → (HasMark kept x ↔ NoneDefines us (length us) x)
    → HasMark new x ↔ PassesOver us x
kept_passes us kept new count x same none some told =
    elim (cases_eq count 0) [
      | inl zero ↦
          let is : new ≡ 0 = none zero in (
            λ has. absurd (none_in_zero x (subst (λ (w : ℕ). HasMark w x) is has)),
            λ over. let s = over.some in absurd (omega (arith, s, zero, same)),
          )
      | inr other ↦
          let is : new ≡ kept = some (omega (arith, other)) in (
            λ has. record { some = omega (arith, same, other); none = told.0 (subst (λ (w : ℕ). HasMark w x) is has) },
            λ over. subst (λ (w : ℕ). HasMark w x) (sym is) (told.1 over.none),
          )
    ]

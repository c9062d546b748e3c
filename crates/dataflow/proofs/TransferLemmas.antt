-- Against the flow of control over units.
use Rattle.std.proofs.Common.{◌≡◌, ◌≢◌, ◌⊎◌, inl, inr, ℕ, ◌+◌, ◌-◌, ◌<◌, ◌≤◌, List, ◌∷◌, length, drop, slice_index_or, refl, sym, ◌∙◌, ap, subst, arith}
use Rattle.std.specs.Prelude.{◌↔◌}
use Rattle.std.proofs.lemmas.List.{drop_more}
use Rattle.object_graph.specs.declared.parts.Site.{Site}
use Rattle.code_blocks.specs.declared.parts.Unit.{Unit}
use Rattle.code_blocks.specs.Leads.{no_unit}
use Rattle.reach_graph.specs.Reaching.{HasMark}
use Rattle.dataflow.specs.Points.{IsHolder, site_at}
use Rattle.dataflow.specs.Flows.{written, first_source, second_source, stored}
use Rattle.dataflow.specs.Transfers.{LeadsInto, AreBefore}

-- the units from the one before place `k` on
pub units_from : (units : List Unit) (k : ℕ) → 0 < k → k ≤ length units → drop (k - 1) units ≡ slice_index_or units (k - 1) no_unit ∷ drop k units
units_from units k some within =
    let same : k - 1 + 1 ≡ k = omega arith in
    drop_more units (k - 1) no_unit (omega arith) ∙ ap (λ (m : ℕ). slice_index_or units (k - 1) no_unit ∷ drop m units) same

-- what register `x` holds before a unit is in a register of a word behind it
abbrev pub Carries : List Site → Unit → ℕ → ℕ → Type 0
Carries sites u word x =
    ((x ≢ written u.instr) × HasMark word x)
    ⊎ (HasMark word (written u.instr) × IsHolder x × ((x ≡ first_source (site_at sites u.at) u.instr) ⊎ (x ≡ second_source u.instr)))

module _ (sites : List Site) (u : Unit) (us : List Unit) (behind word x : ℕ) (are : AreBefore sites us behind word) where
  -- what comes to a marked place is carried or stored
  leads_carries : IsHolder x → LeadsInto sites (u ∷ us) behind x → Carries sites u word x ⊎ (x ≡ stored u.instr)
  leads_carries holder into =
      elim into.leads [
        | inl (memory, same) ↦ inr same
        | inr (z, holds, passes, leads) ↦
            let has : HasMark word z = (are z).1 (holds, record { place = into.place; leads = leads; marked = into.marked }) in
            elim passes [
              | inl (same, other) ↦ inl (inl (other, subst (λ (k : ℕ). HasMark word k) (sym same) has))
              | inr (same, from) ↦ inl (inr (subst (λ (k : ℕ). HasMark word k) same has, holder, from))
            ]
      ]

  -- what is carried comes to one
  carries_leads : Carries sites u word x → IsHolder x × LeadsInto sites (u ∷ us) behind x
  carries_leads carries =
      elim carries [
        | inl (other, has) ↦
            let (holder, into) = (are x).0 has in
            (holder, record { place = into.place; leads = inr (x, holder, inl (refl, other), into.leads); marked = into.marked })
        | inr (has, holder, from) ↦
            let (holds, into) = (are (written u.instr)).0 has in
            (holder, record { place = into.place; leads = inr (written u.instr, holds, inr (refl, from), into.leads); marked = into.marked })
      ]

-- what is carried, and what is stored where memory is marked, are the registers before one unit more
pub unit_before : (sites : List Site) (u : Unit) (us : List Unit) (behind word kept new : ℕ) → HasMark behind 0 → AreBefore sites us behind word
    → ((x : ℕ) → HasMark kept x ↔ Carries sites u word x) → ((x : ℕ) → HasMark new x ↔ (HasMark kept x ⊎ (IsHolder x × (x ≡ stored u.instr))))
    → AreBefore sites (u ∷ us) behind new
unit_before sites u us behind word kept new memory are carries is x = (
  λ has. elim ((is x).0 has) [
    | inl old ↦ carries_leads sites u us behind word x are ((carries x).0 old)
    | inr (holder, same) ↦ (holder, record { place = 0; leads = inl (refl, same); marked = memory })
  ],
  λ (holder, into). (is x).1 (elim (leads_carries sites u us behind word x are holder into) [
    | inl old ↦ inl ((carries x).1 old)
    | inr here ↦ inr (holder, here)
  ]),
)

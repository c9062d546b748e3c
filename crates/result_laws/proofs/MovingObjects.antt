-- Objects whose places differ in two regions are ones that may be overlaid.
use Rattle.std.proofs.Common.{◌≡◌, ◌∙◌, ◌⊎◌, inl, inr, ℕ, ◌+◌, ◌%◌, ◌==◌, Bool, ◌&&◌, if◌then◌else◌, List, [], ◌∷◌, refl, sym, ap, subst}
use Rattle.std.specs.Prelude.{All}
use Rattle.std.proofs.lemmas.Bool.{cases_Bool, eqb-true}
use Rattle.std.proofs.lemmas.List.Elements.{All-head, All-tail}
use Rattle.object_graph.specs.declared.parts.Graph.{Graph}
use Rattle.code_blocks.specs.declared.parts.Code.{Code}
use Rattle.dataflow.specs.Live.{LiveAt}
use Rattle.dataflow.specs.Overlaid.{MayBeOverlaid}
use Rattle.placement_programme.specs.declared.variables.VarName.{VarName}
use Rattle.placement_programme.specs.declared.variables.VarName.TheVariants.{StaticData, StaticCode, OverlayData, OverlayCode, KeptData}
use Rattle.cell_values.specs.Objects.{object_of}
use Rattle.relocator.specs.declared.slots.Slot.{Slot}
use Rattle.relocator.specs.Slots.{pair_of}
use Rattle.relocator.specs.Placing.{puts, place_in, placed}
use Rattle.result_laws.specs.ChosenPlacement.{MayMove}

module _ (c : Code) (g : Graph) (regions : List ℕ) (borders : List Bool) where
  abbrev pub Overlaid : ℕ → Type 0
  Overlaid o = MayBeOverlaid (λ b x. LiveAt c x b 0) c g regions borders o

  abbrev Moves : Slot → Type 0
  Moves s = MayMove c g regions borders s.name

  module _ (from to o : ℕ) where
    by_object : (object : ℕ) (before behind : Bool) → Overlaid object → ((object == o) && before ≡ (object == o) && behind) ⊎ Overlaid o
    by_object object before behind may =
        elim (cases_Bool (object == o)) [
          | inl same ↦ inr (subst Overlaid (eqb-true object o same) may)
          | inr other ↦ inl (ap (λ (t : Bool). t && before) other ∙ sym (ap (λ (t : Bool). t && behind) other))
        ]

    by_name : (name : VarName) → MayMove c g regions borders name → (puts name from o ≡ puts name to o) ⊎ Overlaid o
    by_name (StaticData object) may = inl refl
    by_name (StaticCode first last) may = inl refl
    by_name (OverlayData own object) may = by_object object (own == from) (own == to) may
    by_name (OverlayCode own first last) may = inl refl
    by_name (KeptData pair object) may = by_object object (pair_of from == pair) (pair_of to == pair) may

    by_slots : (grain home : ℕ) (slots : List Slot) → All Moves slots → (place_in grain home slots from o ≡ place_in grain home slots to o) ⊎ Overlaid o
    by_slots grain home [] may = inl refl
    by_slots grain home (s ∷ slots) may =
        elim (by_name s.name (All-head Moves s slots may)) [
          | inr overlaid ↦ inr overlaid
          | inl same ↦ elim (by_slots grain home slots (All-tail Moves s slots may)) [
            | inr overlaid ↦ inr overlaid
            | inl rest ↦ inl (both_same grain home s slots same rest)
          ]
        ]
      where
        both_same : (grain home : ℕ) (s : Slot) (slots : List Slot) → puts s.name from o ≡ puts s.name to o → place_in grain home slots from o ≡ place_in grain home slots to o → place_in grain home (s ∷ slots) from o ≡ place_in grain home (s ∷ slots) to o
        both_same grain home s slots same rest = λ t. if same t then s.at + home % grain else rest t

    -- an object has one place in two regions, or may be overlaid
    pub stays_or_moves : (slots : List Slot) → All Moves slots → (placed g slots from o ≡ placed g slots to o) ⊎ Overlaid o
    stays_or_moves slots may = by_slots g.grain (object_of g o).home slots may

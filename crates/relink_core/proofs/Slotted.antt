-- The jobs of names are those of slots with these names.
use Rattle.std.proofs.Common.{◌≡◌, ◌∙◌, ℕ, suc, ◌+◌, ◌%◌, ◌<◌, Bool, true, false, List, [], ◌∷◌, ◌++◌, length, map, get_or, refl, ap, arith, if◌then◌else◌}
use Rattle.std.specs.List.{All}
use Rattle.std.proofs.lemmas.List.Elements.{All-head, All-tail}
use Rattle.object_graph.specs.declared.parts.Graph.{Graph}
use Rattle.cell_values.specs.Objects.{object_of}
use Rattle.placement_programme.specs.declared.variables.VarName.{VarName}
use Rattle.placement_programme.specs.declared.variables.VarName.TheVariants.{StaticData, StaticCode, OverlayData, OverlayCode, KeptData}
use Rattle.patch_code.specs.declared.job.CopyJob.{CopyJob}
use Rattle.relocator.specs.declared.places.Places.{Places}
use Rattle.relocator.specs.declared.slots.Slot.{Slot}
use Rattle.relocator.specs.Slots.{is_code, code_slots}
use Rattle.relocator.specs.Placing.{puts, place_at}
use Rattle.result_laws.specs.ChosenJobs.{Images, into_slot, home_jobs, from_image, job_into, jobs_home, next_code, entering, leaving}
use Rattle.relink_core.specs.Naming.{IsKnown, name_in, object_into, code_into, named_into, back_jobs, named_home, named_entering, named_leaving}

-- a test lets a name pass only where it puts its object into the scratchpad in the region
abbrev pub PutsAt : ℕ → VarName → Type 0
PutsAt r (StaticData o) = puts (StaticData o) r o ≡ true
PutsAt r (StaticCode first last) = Unit {0}
PutsAt r (OverlayData own o) = puts (OverlayData own o) r o ≡ true
PutsAt r (OverlayCode own first last) = Unit {0}
PutsAt r (KeptData pair o) = puts (KeptData pair o) r o ≡ true

module _ (g : Graph) (places : Places) (images : Images) (r : ℕ) where
  -- a slot whose object has the place in the table that the slot gives it
  abbrev pub Stands : Slot → Type 0
  Stands s = (o : ℕ) → o < length g.objects.items → puts s.name r o ≡ true → place_at places o r ≡ s.at + (object_of g o).home % g.grain

  into_same : (s : Slot) (n o : ℕ) → place_at places o r ≡ s.at + (object_of g o).home % g.grain → object_into g places r o ≡ into_slot g s.at o
  into_same s n o is = λ i. record { from = (object_of g o).home; to = is i; bytes = (object_of g o).size }

  back_same : (s : Slot) (o : ℕ) → place_at places o r ≡ s.at + (object_of g o).home % g.grain → back_jobs g places r o ≡ home_jobs g s.at o
  back_same s o is = λ i. if (object_of g o).writable then record { from = is i; to = (object_of g o).home; bytes = (object_of g o).size } ∷ [] else []

  code_same : (s : Slot) (n : ℕ) → get_or places.code.items n 0 ≡ s.at → code_into places images n ≡ from_image images n s.at
  code_same s n is = λ i. record { from = images.at n; to = is i; bytes = images.bytes n }

  abbrev HasCode : Slot → ℕ → Type 0
  HasCode s n = is_code s.name ≡ true → get_or places.code.items n 0 ≡ s.at

  named_same : (name : VarName) (at span n : ℕ) → IsKnown g name → PutsAt r name → Stands (record { name = name; at = at; span = span }) → HasCode (record { name = name; at = at; span = span }) n → named_into g places images r n name ≡ job_into g images n at name
  named_same (StaticData o) at span n known puts_it stands code = into_same (record { name = StaticData o; at = at; span = span }) n o (stands o known puts_it)
  named_same (StaticCode first last) at span n known puts_it stands code = code_same (record { name = StaticCode first last; at = at; span = span }) n (code refl)
  named_same (OverlayData own o) at span n known puts_it stands code = into_same (record { name = OverlayData own o; at = at; span = span }) n o (stands o known puts_it)
  named_same (OverlayCode own first last) at span n known puts_it stands code = code_same (record { name = OverlayCode own first last; at = at; span = span }) n (code refl)
  named_same (KeptData pair o) at span n known puts_it stands code = into_same (record { name = KeptData pair o; at = at; span = span }) n o (stands o known puts_it)

  home_same : (name : VarName) (at span : ℕ) → IsKnown g name → PutsAt r name → Stands (record { name = name; at = at; span = span }) → named_home g places r name ≡ jobs_home g at name
  home_same (StaticData o) at span known puts_it stands = back_same (record { name = StaticData o; at = at; span = span }) o (stands o known puts_it)
  home_same (StaticCode first last) at span known puts_it stands = refl
  home_same (OverlayData own o) at span known puts_it stands = back_same (record { name = OverlayData own o; at = at; span = span }) o (stands o known puts_it)
  home_same (OverlayCode own first last) at span known puts_it stands = refl
  home_same (KeptData pair o) at span known puts_it stands = back_same (record { name = KeptData pair o; at = at; span = span }) o (stands o known puts_it)

  module _ (which : VarName → Bool) (passes : (name : VarName) → which name ≡ true → PutsAt r name) where
    same_if : {T : Type 0} (b : Bool) (x y z : T) → (b ≡ true → x ≡ y) → (if b then x else z) ≡ (if b then y else z)
    same_if true x y z is = is refl
    same_if false x y z is = refl

    code_behind : (s : Slot) (ss : List Slot) (n : ℕ) → ((j : ℕ) → j < length (code_slots (s ∷ ss)) → get_or places.code.items (n + j) 0 ≡ get_or (code_slots (s ∷ ss)) j 0) → (j : ℕ) → j < length (code_slots ss) → get_or places.code.items (next_code s.name n + j) 0 ≡ get_or (code_slots ss) j 0
    code_behind s ss n each = by (is_code s.name) each
      where
        by : (b : Bool) → ((j : ℕ) → j < length (if b then s.at ∷ code_slots ss else code_slots ss) → get_or places.code.items (n + j) 0 ≡ get_or (if b then s.at ∷ code_slots ss else code_slots ss) j 0) → (j : ℕ) → j < length (code_slots ss) → get_or places.code.items ((if b then suc n else n) + j) 0 ≡ get_or (code_slots ss) j 0
        by true each j below =
            let next : suc n + j ≡ n + suc j = omega arith in
            ap (λ (k : ℕ). get_or places.code.items k 0) next ∙ each (suc j) (omega (arith, below))
        by false each j below = each j below

    code_here : (s : Slot) (ss : List Slot) (n : ℕ) → ((j : ℕ) → j < length (code_slots (s ∷ ss)) → get_or places.code.items (n + j) 0 ≡ get_or (code_slots (s ∷ ss)) j 0) → HasCode s n
    code_here s ss n each = by (is_code s.name) each
      where
        by : (b : Bool) → ((j : ℕ) → j < length (if b then s.at ∷ code_slots ss else code_slots ss) → get_or places.code.items (n + j) 0 ≡ get_or (if b then s.at ∷ code_slots ss else code_slots ss) j 0) → b ≡ true → get_or places.code.items n 0 ≡ s.at
        by true each is =
            let here : n ≡ n + 0 = omega arith in
            ap (λ (k : ℕ). get_or places.code.items k 0) here ∙ each 0 (omega arith)
        by false each is = absurd (cc (is))

    pub entering_same : (n : ℕ) (slots : List Slot) → All (λ s. IsKnown g s.name) slots → All Stands slots → ((j : ℕ) → j < length (code_slots slots) → get_or places.code.items (n + j) 0 ≡ get_or (code_slots slots) j 0) → named_entering which g places images r n (map name_in slots) ≡ entering which g images n slots
    entering_same n [] known stands code = refl
    entering_same n (s ∷ ss) known stands code =
        let here = same_if (which s.name) (named_into g places images r n s.name ∷ []) (job_into g images n s.at s.name ∷ []) []
        (λ yes. ap (λ (job : CopyJob). job ∷ []) (named_same s.name s.at s.span n (All-head (λ t. IsKnown g t.name) s ss known) (passes s.name yes) (All-head Stands s ss stands) (code_here s ss n code))) in
        let rest = entering_same (next_code s.name n) ss (All-tail (λ t. IsKnown g t.name) s ss known) (All-tail Stands s ss stands) (code_behind s ss n code) in
        λ i. here i ++ rest i

    pub leaving_same : (slots : List Slot) → All (λ s. IsKnown g s.name) slots → All Stands slots → named_leaving which g places r (map name_in slots) ≡ leaving which g slots
    leaving_same [] known stands = refl
    leaving_same (s ∷ ss) known stands =
        let here = same_if (which s.name) (named_home g places r s.name) (jobs_home g s.at s.name) []
        (λ yes. home_same s.name s.at s.span (All-head (λ t. IsKnown g t.name) s ss known) (passes s.name yes) (All-head Stands s ss stands)) in
        let rest = leaving_same ss (All-tail (λ t. IsKnown g t.name) s ss known) (All-tail Stands s ss stands) in
        λ i. here i ++ rest i

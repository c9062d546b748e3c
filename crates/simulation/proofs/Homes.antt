-- What stands still at the homes of objects that nothing writes.
use Rattle.std.proofs.Common.{◌≡◌, ◌∙◌, inl, inr, ℕ, ◌+◌, ◌<◌, Bool, true, false, Option, Some, None, sym, subst}
use Rattle.std.proofs.lemmas.Bool.{cases_eq}
use Rattle.flat_machine.specs.State.{State}
use Rattle.cell_values.specs.declared.values.Cell.{Cell}
use Rattle.cell_values.specs.declared.values.Cell.TheVariants.{Byte, Part, Mist}
use Rattle.cell_values.specs.Origins.{Origin}
use Rattle.cell_values.specs.Stands.{Places, Uppers, IsByte, CellStands}
use Rattle.object_machine.specs.Program.{Program}
use Rattle.object_machine.specs.State.{SourceState}
use Rattle.object_machine.specs.Paired.{Origins}
use Rattle.simulation.specs.Setups.{Setup}
use Rattle.simulation.specs.Relation.{Alike}
use Rattle.simulation.specs.Names.{CellNamesNone, StateNamesNone}
use Rattle.simulation.specs.Changes.{OthersStay, AreAtHomeToo}
use Rattle.simulation.specs.Unwritten.{AreUnwritten, IsOneByte, HomesStandStill}
use Rattle.simulation.specs.RegionLaws.{matters, UnwrittenAreHome, HomesStayed}
use Rattle.simulation.proofs.Stays.{whole_stays, cell_stays}

module _ (p : Program) (l : Setup) (live : ℕ → ℕ → Type 0) (r u : ℕ) (first s : SourceState) (made m : Origins) (t : State) (alike : Alike p l live r u s m t) (kept : AreUnwritten p first made s m) (still : HomesStandStill p l r first made) where
  -- at home, and elsewhere
  here : (o i : ℕ) → i < p.objects.size o → l.place r o ≡ p.objects.home o → CellStands (l.place r) (l.upper r) (m.cells o i) (s.cells o i) (t.hart.mem (p.objects.home o + i))
  here o i below same =
      subst (λ a. CellStands (l.place r) (l.upper r) (m.cells o i) (s.cells o i) (t.hart.mem (a + i))) same (alike.cells o i below)

  away : (o i : ℕ) → p.objects.writable o ≡ false → i < p.objects.size o → (l.place r o ≡ p.objects.home o → ⊥) → CellStands (l.place r) (l.upper r) (m.cells o i) (s.cells o i) (t.hart.mem (p.objects.home o + i))
  away o i is below other =
      let a : ℕ = p.objects.home o + i in
      let stands = still.bytes o i is below other in
      let byte = alike.still a (still.is_still o i is below other) in
      let placed : CellStands (l.place r) (l.upper r) (made.cells o i) (first.cells o i) (t.hart.mem a) =
      subst (λ b. CellStands (l.place r) (l.upper r) (made.cells o i) (first.cells o i) b) (sym byte) stands in
      let cell : CellStands (l.place r) (l.upper r) (made.cells o i) (s.cells o i) (t.hart.mem a) =
      subst (λ c. CellStands (l.place r) (l.upper r) (made.cells o i) c (t.hart.mem a)) (sym (kept.cells o i is)) placed in
      subst (λ y. CellStands (l.place r) (l.upper r) y (s.cells o i) (t.hart.mem a)) (sym (kept.origins o i is)) cell

  pub home_too : AreAtHomeToo p l r s m t
  home_too o i is below =
      elim (cases_eq (l.place r o) (p.objects.home o)) [
        | inl same ↦ here o i below same
        | inr other ↦ away o i is below other
      ]

-- ---- the next region

known_byte : (x : Option ℕ) (w k b c : ℕ) → x ≡ Some w → IsByte x k b → IsByte x k c → b ≡ c
known_byte (Some x) w k b c is one other = one ∙ sym other
known_byte None w k b c is one other = cc

one_byte : (place : Places) (up : Uppers) (origin : Origin) (c : Cell) (a b : ℕ) → IsOneByte up origin c → CellStands place up origin c a → CellStands place up origin c b → a ≡ b
one_byte place up origin (Byte n) a b is one other = one ∙ sym other
one_byte place up origin (Part true o d k) a b is one other = known_byte (up origin o d) is.0 k a b is.1 one other
one_byte place up origin (Part false o d k) a b is one other = one ∙ sym other
one_byte place up origin Mist a b is one other = absurd is

-- where cells can be one byte alone, the bytes at home are those at the object's place
pub home_as_placed : (p : Program) (l : Setup) (live : ℕ → ℕ → Type 0) (r u : ℕ) (first s : SourceState) (made m : Origins) (t : State) (o i : ℕ) → Alike p l live r u s m t → AreAtHomeToo p l r s m t → AreUnwritten p first made s m → IsOneByte (l.upper r) (made.cells o i) (first.cells o i) → p.objects.writable o ≡ false → i < p.objects.size o → t.hart.mem (p.objects.home o + i) ≡ t.hart.mem (l.place r o + i)
home_as_placed p l live r u first s made m t o i alike homes kept one is below =
    let cell : IsOneByte (l.upper r) (made.cells o i) (s.cells o i) =
    subst (λ c. IsOneByte (l.upper r) (made.cells o i) c) (sym (kept.cells o i is)) one in
    let now : IsOneByte (l.upper r) (m.cells o i) (s.cells o i) =
    subst (λ y. IsOneByte (l.upper r) y (s.cells o i)) (sym (kept.origins o i is)) cell in
    one_byte (l.place r) (l.upper r) (m.cells o i) (s.cells o i) (t.hart.mem (p.objects.home o + i)) (t.hart.mem (l.place r o + i)) now
    (homes o i is below) (alike.cells o i below)

pub home_stayed : (p : Program) (l : Setup) (lives : ℕ → Type 0) (moving : ℕ → Bool) (from to : ℕ) (first s : SourceState) (made m : Origins) (t : State) (o i : ℕ) → AreAtHomeToo p l from s m t → AreUnwritten p first made s m → HomesStandStill p l to first made → OthersStay l moving from to → StateNamesNone moving lives s → IsOneByte (l.upper from) (made.cells o i) (first.cells o i) → p.objects.writable o ≡ false → i < p.objects.size o → (l.place to o ≡ p.objects.home o → ⊥) → t.hart.mem (p.objects.home o + i) ≡ l.still to (p.objects.home o + i)
home_stayed p l lives moving from to first s made m t o i homes kept still others free one is below away =
    let a : ℕ = p.objects.home o + i in
    let cell = kept.cells o i is in
    let origin = kept.origins o i is in
    let named : CellNamesNone moving (first.cells o i) = subst (λ c. CellNamesNone moving c) cell (free.cells o i) in
    let cell_now : CellStands (l.place from) (l.upper from) (m.cells o i) (first.cells o i) (t.hart.mem a) =
    subst (λ c. CellStands (l.place from) (l.upper from) (m.cells o i) c (t.hart.mem a)) cell (homes o i is below) in
    let now : CellStands (l.place from) (l.upper from) (made.cells o i) (first.cells o i) (t.hart.mem a) =
    subst (λ y. CellStands (l.place from) (l.upper from) y (first.cells o i) (t.hart.mem a)) origin cell_now in
    let then_ : CellStands (l.place from) (l.upper from) (made.cells o i) (first.cells o i) (l.still to a) =
    cell_stays moving (l.place to) (l.place from) (l.upper to) (l.upper from) (made.cells o i) (first.cells o i) (l.still to a)
    (λ hi q d stays. sym (whole_stays l moving from to others (made.cells o i) hi q d stays)) named (still.bytes o i is below away) in
    one_byte (l.place from) (l.upper from) (made.cells o i) (first.cells o i) (t.hart.mem a) (l.still to a) one now then_

pub unwritten_are_home : UnwrittenAreHome
unwritten_are_home p l live r u first s made m t alike kept still = home_too p l (matters live) r u first s made m t alike kept still

pub homes_stayed : HomesStayed
homes_stayed p l live moving from to u first s made m t o i alike kept still next others free one is below away =
    home_stayed p l (matters live u) moving from to first s made m t o i
    (home_too p l (matters live) from u first s made m t alike kept still) kept next others free one is below away

-- What both machines have in common stays so where objects move that nothing names.
use Rattle.std.proofs.Common.{◌≡◌, ◌∙◌, inl, inr, ℕ, ◌+◌, ◌*◌, ◌%◌, ◌<◌, ◌==◌, not, Bool, true, false, Some, sym, ap, subst, arith}
use Rattle.std.proofs.lemmas.Bool.Decides.{nat_tests}
use Rattle.rv32im.specs.Words.{plus, upper_half}
use Rattle.rv32im.specs.Acts.{register}
use Rattle.flat_machine.specs.Sizes.{HasWords}
use Rattle.flat_machine.specs.State.{State}
use Rattle.cell_values.specs.declared.values.Val.{Val}
use Rattle.cell_values.specs.declared.values.Val.TheVariants.{Int, Addr, Hi, Low, Piece, Unknown}
use Rattle.cell_values.specs.declared.values.Cell.{Cell}
use Rattle.cell_values.specs.declared.values.Cell.TheVariants.{Byte, Part, Mist}
use Rattle.cell_values.specs.Objects.{Objects}
use Rattle.cell_values.specs.Origins.{Origin}
use Rattle.cell_values.specs.Stands.{upper_word, Places, Uppers, Is, IsByte, whole, Stands, CellStands}
use Rattle.object_machine.specs.Program.{Program}
use Rattle.object_machine.specs.State.{SourceState, value}
use Rattle.object_machine.specs.Paired.{Origins}
use Rattle.simulation.specs.Setups.{Setup}
use Rattle.simulation.specs.Relation.{Alike}
use Rattle.simulation.specs.Names.{NamesNone, CellNamesNone, StateNamesNone}
use Rattle.simulation.specs.Changes.{OthersStay, IsByteOf, ChangesRegion, AreAtHomeToo}
use Rattle.simulation.specs.RegionLaws.{matters, PlacesDecide, RegionsChange}

-- ---- objects that move

unmoved : (a b : ℕ) → not (a == b) ≡ false → a ≡ b
unmoved a b stays = grind (arith, nat_tests, stays)

pub places_decide : PlacesDecide
places_decide l from to first last =
    record {
      place = λ o stays. unmoved (l.place to o) (l.place from o) stays;
      upper = λ origin o d stays.
          let same = unmoved (l.place to o) (l.place from o) stays in
          let place : Some (upper_word (l.place to) o d) ≡ Some (upper_word (l.place from) o d) =
          ap (λ a. Some (upper_half (plus a d) * 4096)) same in
          last origin o d ∙ place ∙ sym (first origin o d);
    }

-- ---- values and cells

-- the word whose bytes parts are is one in both regions
pub whole_stays : (l : Setup) (moving : ℕ → Bool) (from to : ℕ) → OthersStay l moving from to → (origin : Origin) (hi : Bool) (o d : ℕ) → moving o ≡ false → whole (l.place to) (l.upper to) origin hi o d ≡ whole (l.place from) (l.upper from) origin hi o d
whole_stays l moving from to others origin true o d stays = others.upper origin o d stays
whole_stays l moving from to others origin false o d stays = ap (λ a. Some (plus a d)) (others.place o stays)

-- between two such words, also back
pub cell_stays : (moving : ℕ → Bool) (place place' : Places) (up up' : Uppers) (origin : Origin) (c : Cell) (b : ℕ) → ((hi : Bool) (o d : ℕ) → moving o ≡ false → whole place' up' origin hi o d ≡ whole place up origin hi o d) → CellNamesNone moving c → CellStands place up origin c b → CellStands place' up' origin c b
cell_stays moving place place' up up' origin (Byte n) b same none stands = stands
cell_stays moving place place' up up' origin (Part hi o d k) b same none stands =
    subst (λ w. IsByte w k b) (sym (same hi o d none)) stands
cell_stays moving place place' up up' origin Mist b same none stands = tt

module _ (l : Setup) (moving : ℕ → Bool) (from to : ℕ) (others : OthersStay l moving from to) where
  value_stays : (os : Objects) (origin : Origin) (x : Val) (w : ℕ) → NamesNone moving x → Stands os (l.place from) (l.upper from) origin x w → Stands os (l.place to) (l.upper to) origin x w
  value_stays os origin (Int n) w none stands = stands
  value_stays os origin (Addr o d) w none stands =
      subst (λ a. w ≡ plus a d) (sym (others.place o none)) stands
  value_stays os origin (Hi o d) w none stands =
      subst (λ x. Is x w) (sym (others.upper origin o d none)) stands
  value_stays os origin (Low n) w none stands = stands
  value_stays os origin (Piece hi o d k) w none stands =
      subst (λ x. IsByte x k (w % 256)) (sym (whole_stays l moving from to others origin hi o d none)) stands
  value_stays os origin Unknown w none stands = tt

  moved_cell : (origin : Origin) (c : Cell) (b : ℕ) → CellNamesNone moving c → CellStands (l.place from) (l.upper from) origin c b → CellStands (l.place to) (l.upper to) origin c b
  moved_cell origin c b none stands =
      cell_stays moving (l.place from) (l.place to) (l.upper from) (l.upper to) origin c b
      (λ hi o d stays. whole_stays l moving from to others origin hi o d stays) none stands

-- ---- states

module _ (p : Program) (l : Setup) (live : ℕ → ℕ → Type 0) (moving : ℕ → Bool) (from to u : ℕ) (s : SourceState) (m : Origins) (t t' : State) (alike : Alike p l live from u s m t) (homes : AreAtHomeToo p l from s m t) (others : OthersStay l moving from to) (free : StateNamesNone moving (live u) s) (change : ChangesRegion p l live from to u t t') where
  -- a byte that is an object's stands for its cell
  carried_stands : (o i b : ℕ) → i < p.objects.size o → IsByteOf p l from t.hart.mem o i b → CellStands (l.place from) (l.upper from) (m.cells o i) (s.cells o i) b
  carried_stands o i b below (inl same) =
      subst (λ c. CellStands (l.place from) (l.upper from) (m.cells o i) (s.cells o i) c) (sym same) (alike.cells o i below)
  carried_stands o i b below (inr home) =
      subst (λ c. CellStands (l.place from) (l.upper from) (m.cells o i) (s.cells o i) c) (sym home.1) (homes o i home.0 below)

  reg_stays : (k : ℕ) → live u k → Stands p.objects (l.place to) (l.upper to) (m.regs k) (value s.regs k) (register t'.hart.regs k)
  reg_stays k lives =
      subst (λ w. Stands p.objects (l.place to) (l.upper to) (m.regs k) (value s.regs k) w) (sym (change.regs k lives))
      (value_stays l moving from to others p.objects (m.regs k) (value s.regs k) (register t.hart.regs k) (free.regs k lives) (alike.regs k lives))

  fixed_stays : (a : ℕ) → p.is_fixed a ≡ true → CellStands (l.place to) (l.upper to) (m.fixed a) (s.fixed a) (t'.hart.mem a)
  fixed_stays a is =
      subst (λ b. CellStands (l.place to) (l.upper to) (m.fixed a) (s.fixed a) b) (sym (change.fixed a is))
      (moved_cell l moving from to others (m.fixed a) (s.fixed a) (t.hart.mem a) (free.fixed a) (alike.fixed a is))

  cell_moves : (o i : ℕ) → i < p.objects.size o → CellStands (l.place to) (l.upper to) (m.cells o i) (s.cells o i) (t'.hart.mem (l.place to o + i))
  cell_moves o i below =
      moved_cell l moving from to others (m.cells o i) (s.cells o i) (t'.hart.mem (l.place to o + i)) (free.cells o i)
      (carried_stands o i (t'.hart.mem (l.place to o + i)) below (change.objects o i below))

  pub switched : HasWords t' → Alike p l live to u s m t'
  switched words =
      record {
        regs = reg_stays;
        values = alike.values;
        fixed = fixed_stays;
        cells = cell_moves;
        fixed_words = alike.fixed_words;
        cell_words = alike.cell_words;
        still = change.still;
        map = change.map ∙ alike.map;
        going = change.outcome ∙ alike.going;
        source_going = alike.source_going;
        words = words;
        input = change.input ∙ alike.input;
        output = change.output ∙ alike.output;
      }

pub regions_change : RegionsChange
regions_change p l live moving from to u s m t t' alike homes others free change words =
    switched p l (matters live) moving from to u s m t t' alike homes others free change words

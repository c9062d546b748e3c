-- Where each upper part is made by a LUI, any origin may be taken for a LUI.
use Rattle.std.proofs.Common.{◌≡◌, ℕ, ◌+◌, ◌*◌, true, false, sym, subst}
use Rattle.flat_machine.specs.State.{State}
use Rattle.cell_values.specs.Objects.{Objects}
use Rattle.cell_values.specs.declared.values.Val.{Val}
use Rattle.cell_values.specs.declared.values.Val.TheVariants.{Int, Addr, Hi, Low, Piece, Unknown}
use Rattle.cell_values.specs.declared.values.Cell.{Cell}
use Rattle.cell_values.specs.declared.values.Cell.TheVariants.{Byte, Part, Mist}
use Rattle.cell_values.specs.Origins.{Origin, ByLui}
use Rattle.cell_values.specs.Stands.{Places, Uppers, Stands, CellStands, moved_uppers}
use Rattle.object_machine.specs.Program.{Program}
use Rattle.object_machine.specs.State.{SourceState, value}
use Rattle.object_machine.specs.Runs.{Steps}
use Rattle.object_machine.specs.Paired.{Origins, at_start}
use Rattle.simulation.specs.Setups.{Setup}
use Rattle.simulation.specs.Made.{IsMade, CellIsMade, AreMade}
use Rattle.simulation.specs.Relation.{Alike}
use Rattle.simulation.specs.Rules.{LiveRules}
use Rattle.simulation.specs.Laws.{Keeps}
use Rattle.simulation.specs.Forms.{FormAt}
use Rattle.simulation.specs.Ways.{AtAny, Arrivals, within}
use Rattle.simulation.specs.Unnamed.{unnamed}
use Rattle.simulation.proofs.Steps.{alike_on}
use Rattle.simulation.proofs.AnyRegions.{runs_keep}
use Rattle.simulation.proofs.Unnamed.{unnamed_paired}

by_lui : (os : Objects) (place : Places) (m : Origin) (x : Val) (w : ℕ) → Stands os place (moved_uppers place) m x w → Stands os place (moved_uppers place) ByLui x w
by_lui os place m (Int n) w stands = stands
by_lui os place m (Addr o d) w stands = stands
by_lui os place m (Hi o d) w stands = stands
by_lui os place m (Low n) w stands = stands
by_lui os place m (Piece true o d k) w stands = stands
by_lui os place m (Piece false o d k) w stands = stands
by_lui os place m Unknown w stands = stands

cell_by_lui : (place : Places) (m : Origin) (c : Cell) (b : ℕ) → CellStands place (moved_uppers place) m c b → CellStands place (moved_uppers place) ByLui c b
cell_by_lui place m (Byte n) b stands = stands
cell_by_lui place m (Part true o d k) b stands = stands
cell_by_lui place m (Part false o d k) b stands = stands
cell_by_lui place m Mist b stands = stands

value_made : (p : Program) (x : Val) → IsMade p ByLui x
value_made p (Hi o d) = tt
value_made p (Piece true o d k) = tt
value_made p x = tt

cell_made : (p : Program) (c : Cell) → CellIsMade p ByLui c
cell_made p (Part true o d k) = tt
cell_made p c = tt

pub all_made : (p : Program) (s : SourceState) → AreMade p s at_start
all_made p s =
    record {
      regs = λ k. value_made p (value s.regs k);
      fixed = λ a. cell_made p (s.fixed a);
      cells = λ o i. cell_made p (s.cells o i);
    }

module _ (p : Program) (l : Setup) (r : ℕ) (moved : l.upper r ≡ moved_uppers (l.place r)) where
  value_reset : (m : Origin) (x : Val) (w : ℕ) → Stands p.objects (l.place r) (l.upper r) m x w → Stands p.objects (l.place r) (l.upper r) ByLui x w
  value_reset m x w stands =
      subst (λ (up : Uppers). Stands p.objects (l.place r) up ByLui x w) (sym moved)
      (by_lui p.objects (l.place r) m x w (subst (λ (up : Uppers). Stands p.objects (l.place r) up m x w) moved stands))

  cell_reset : (m : Origin) (c : Cell) (b : ℕ) → CellStands (l.place r) (l.upper r) m c b → CellStands (l.place r) (l.upper r) ByLui c b
  cell_reset m c b stands =
      subst (λ (up : Uppers). CellStands (l.place r) up ByLui c b) (sym moved)
      (cell_by_lui (l.place r) m c b (subst (λ (up : Uppers). CellStands (l.place r) up m c b) moved stands))

  pub alike_reset : (live : ℕ → ℕ → Type 0) (u : ℕ) (s : SourceState) (m : Origins) (t : State) → Alike p l live r u s m t → Alike p l live r u s at_start t
  alike_reset live u s m t alike =
      alike_on p l live r u u s m at_start t s.regs s.pc t.hart.regs t.hart.pc alike
      (λ k lives. value_reset (m.regs k) _ _ (alike.regs k lives))
      alike.values
      (λ a fixed. cell_reset (m.fixed a) _ _ (alike.fixed a fixed))
      (λ o i below. cell_reset (m.cells o i) _ _ (alike.cells o i below))
      alike.words

-- where both machines are at a unit, they are so with all origins set to LUI
pub any_reset : (p : Program) (l : Setup) (live : ℕ → ℕ → Type 0) (form : ℕ → ℕ → ℕ → Type 0) (holds : ℕ → SourceState → Origins → Type 0) → ((r : ℕ) → l.upper r ≡ moved_uppers (l.place r)) → ((r : ℕ) (s : SourceState) (m : Origins) → holds r s m → holds r s at_start) → (s : SourceState) (m : Origins) (t : State) → AtAny p l live form holds s m t → AtAny p l live form holds s at_start t
any_reset p l live form holds moved forgets s m t at =
    record {
      region = at.region;
      sound = at.sound;
      held = forgets at.region s m at.held;
      alike = alike_reset p l at.region (moved at.region) live s.pc s m t at.alike;
      made = all_made p s;
      at = at.at;
    }

-- A run of a program whose upper parts are all made by LUIs, paired or not, is kept in at most four steps for each unit and
-- `most` for each arrival: units stand at forms, and what holds of the other machine doesn't look at origins.
pub moved_code_keeps : (p : Program) (l : Setup) (live : ℕ → ℕ → Type 0) (comes form : ℕ → ℕ → ℕ → Type 0) (holds : ℕ → SourceState → Origins → Type 0) (most : ℕ) → LiveRules (unnamed p) live → ((r u a : ℕ) → form r u a → FormAt (unnamed p) l live (comes r) r u a) → Arrivals (unnamed p) l live comes form holds (within most) → ((r : ℕ) → l.upper r ≡ moved_uppers (l.place r)) → ((r : ℕ) (s : SourceState) (m : Origins) → holds r s m → holds r s at_start) → (n : ℕ) (s s' : SourceState) (t : State) → AtAny (unnamed p) l live form holds s at_start t → Steps p n s s' → Keeps n (n * (4 + most)) s' t
moved_code_keeps p l live comes form holds most rules forms arrivals moved forgets n s s' t at steps =
    runs_keep (unnamed p) l live comes form holds most (λ m. at_start) rules forms arrivals
    (any_reset (unnamed p) l live form holds moved forgets) n s s' at_start t at (unnamed_paired p n s s' steps)

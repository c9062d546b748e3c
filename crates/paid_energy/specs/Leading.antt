-- Where the words of a unit lead the flat machine, by the form at which it runs.
use Rattle.std.specs.Prelude.{◌≡◌, ◌⊎◌, ℕ, suc, ◌+◌, ◌<◌, Bool, true, false, not, List, length, Option, Some}
use Rattle.rv32im.specs.Acts.{Registers}
use Rattle.rv32im.specs.declared.instructions.Instr.{Instr}
use Rattle.board_config.specs.declared.board.Board.{Board}
use Rattle.flat_machine.specs.declared.events.FlatEvent.{FlatEvent}
use Rattle.flat_machine.specs.Runs.{Does}
use Rattle.flat_machine.specs.State.{State}
use Rattle.object_graph.specs.declared.parts.Graph.{Graph}
use Rattle.code_blocks.specs.Numbers.{start_at, end_at}
use Rattle.code_blocks.specs.declared.ends.End.{End}
use Rattle.code_blocks.specs.declared.ends.End.TheVariants.{Fall}
use Rattle.code_blocks.specs.declared.ends.End.TheVariants as ends
use Rattle.code_blocks.specs.declared.parts.Code.{Code}
use Rattle.block_splitter.specs.declared.unit_kind.UnitKind.{UnitKind}
use Rattle.block_splitter.specs.declared.unit_kind.UnitKind.TheVariants.{Plain, Branch}
use Rattle.block_splitter.specs.Forms.{holds_block, is_site, kind_of, body_at}
use Rattle.block_splitter.specs.Copies.{Copy, is_inside, kind_in, place_of, address_of}
use Rattle.result_laws.specs.Kinds.{takes}
use Rattle.result_laws.specs.CopyLaws.{falls_to, place_behind}
use Rattle.object_machine.specs.declared.events.Outcome.TheVariants.{GoesOn}
use Rattle.object_machine.specs.State.{SourceState}
use Rattle.object_machine.specs.Step.{Reads, next_state}
use Rattle.energy_model.specs.Energy.{may_stay}
use Rattle.patch_code.specs.Overlay.{OverlayPlan}
use Rattle.patch_code.specs.Served.{body_at as stub_body}
use Rattle.result_laws.specs.HomeLaws.{unnamed_in}
use Rattle.result_laws.specs.LiveUnits.{StandsThere}
use Rattle.result_laws.specs.ChosenPlacement.{ChosenPlacement, copy_in}
use Rattle.result_laws.specs.PlacedLaws.{IsPlacedResult}
use Rattle.result_laws.specs.PlacedForms.{StandsAs, AtHome, InCopy, InStub}
use Rattle.result_laws.specs.Walks.{UnitRuns}

-- ---- from a copy

-- how many units a block has
abbrev pub unit_count : Code → ℕ → ℕ
unit_count c b = length (body_at c.blocks.items b).units

-- control falls behind a block, if its last unit is no branch that is taken
abbrev pub falls_behind : Bool → End → Bool
falls_behind taken (Fall next) = true
falls_behind taken (ends.Branch target next) = not taken
falls_behind taken other = false

-- From unit `k` of block `b` of a copy, if the unit at `v` is next: to the unit behind it; where the block ends in no call and
-- no jump by a register, to the copy of a block of the piece, to which control falls if it does; behind the copy, if control falls
-- out of the piece; and home
pub data LeadsFromCopy (x : Copy) (c : Code) (b k : ℕ) (taken : Bool) (v : ℕ) : ℕ → Type 0 where
  ToNext : suc k < unit_count c b → LeadsFromCopy x c b k taken v (address_of x (place_of x b (suc k)))
  Stays : (d : ℕ) → suc k ≡ unit_count c b → may_stay (end_at c b) ≡ true
      → (falls_behind taken (end_at c b) ≡ true → falls_to (end_at c b) ≡ Some v) → holds_block d x.range ≡ true → start_at c d ≡ v
      → LeadsFromCopy x c b k taken v (address_of x (place_of x d 0))
  FallsOut : suc k ≡ unit_count c b → falls_behind taken (end_at c b) ≡ true → falls_to (end_at c b) ≡ Some v → is_inside x v ≡ false
      → LeadsFromCopy x c b k taken v (address_of x (place_behind x b))
  Leaves : suc k ≡ unit_count c b → falls_behind taken (end_at c b) ≡ false
      → (may_stay (end_at c b) ≡ false) ⊎ (is_inside x v ≡ false) → LeadsFromCopy x c b k taken v v

-- ---- from a stub

-- a jump home stands behind a displaced unit that doesn't jump, whose home is `u`
abbrev pub LeadsFromStub : ℕ → ℕ → UnitKind → ℕ → ℕ → Type 0
LeadsFromStub at u Plain v to = (to ≡ at + 4) × (v ≡ u + 4)
LeadsFromStub at u kind v to = to ≡ v

-- ---- from any form

-- words at home lead home
abbrev pub LeadsOn : (c : Code) (g : Graph) (pl : ChosenPlacement) (plan : OverlayPlan) (regs : Registers) (v to u a : ℕ) → StandsAs c g pl plan u a → Type 0
LeadsOn c g pl plan regs v to _ _ (AtHome u b k there bare) = to ≡ v
LeadsOn c g pl plan regs v to _ _ (InCopy u n b k inside held there) =
    LeadsFromCopy (copy_in c g pl n) c b k (takes (kind_in (copy_in c g pl n) b k) regs) v to
LeadsOn c g pl plan regs v to _ _ (InStub u b stub there listed serves uncopied) =
    LeadsFromStub (stub_body plan stub) u (kind_of (is_site g) (body_at c.blocks.items b) 0) v to

-- a unit from which the program goes on leads the flat machine so
abbrev pub UnitsLead : Type 0
UnitsLead =
    (file out : List ℕ) (board : Board) (g : Graph) (c : Code) (pl : ChosenPlacement) (result : IsPlacedResult file out board g c pl)
    (s : SourceState) (read : Option Instr) (t t' : State) (es : List FlatEvent)
    (unit : UnitRuns file out board g c pl result.view.plan s read t es)
    → Reads ((unnamed_in file board g).word s.pc) read → Does es t t' → (next_state (unnamed_in file board g) s read).outcome ≡ GoesOn
    → LeadsOn c g pl result.view.plan t.hart.regs (next_state (unnamed_in file board g) s read).pc t'.hart.pc s.pc t.hart.pc unit.match.at.stands

-- ---- branches

-- a branch that is taken goes to its target, and one that isn't to the next unit
abbrev pub BranchGoes : Bool → ℕ → ℕ → ℕ → Type 0
BranchGoes true target behind v = v ≡ target
BranchGoes false target behind v = v ≡ behind

abbrev pub GoesAs : UnitKind → Registers → ℕ → ℕ → Type 0
GoesAs (Branch kind rs1 rs2 target) regs behind v = BranchGoes (takes (Branch kind rs1 rs2 target) regs) target behind v
GoesAs other regs behind v = Unit {0}

-- by the registers of the flat machine as by those of the program
abbrev pub BranchesGo : Type 0
BranchesGo =
    (file out : List ℕ) (board : Board) (g : Graph) (c : Code) (pl : ChosenPlacement) (result : IsPlacedResult file out board g c pl)
    (s : SourceState) (read : Option Instr) (t : State) (es : List FlatEvent) (b k : ℕ)
    (unit : UnitRuns file out board g c pl result.view.plan s read t es)
    → Reads ((unnamed_in file board g).word s.pc) read → (next_state (unnamed_in file board g) s read).outcome ≡ GoesOn
    → StandsThere c s.pc b k
    → GoesAs (kind_of (is_site g) (body_at c.blocks.items b) k) t.hart.regs (s.pc + 4) (next_state (unnamed_in file board g) s read).pc

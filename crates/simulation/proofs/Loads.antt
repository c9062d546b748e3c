-- Loads: what a place holds stands for what the flat machine takes from its address.
use Rattle.std.proofs.Common.{◌≡◌, ℕ, ◌+◌, ◌%◌, ◌<◌, true, false, Option, Some, None, refl, sym, ◌∙◌, subst, arith, List}
use Rattle.std.specs.Prelude.{ℤ}
use Rattle.rv32im.specs.Words.{plus, offset}
use Rattle.rv32im.specs.Table.{Means}
use Rattle.rv32im.specs.Acts.{register, with_register, after_write, loaded, load_width}
use Rattle.rv32im.specs.declared.instructions.Instr.{Instr}
use Rattle.rv32im.specs.declared.instructions.Instr.TheVariants.{Load}
use Rattle.rv32im.specs.declared.instructions.LoadKind.{LoadKind}
use Rattle.rv32im.specs.declared.instructions.LoadKind.TheVariants.{Lb, Lh, Lw, Lbu, Lhu}
use Rattle.flat_machine.specs.Mapping.{can_access}
use Rattle.flat_machine.specs.declared.events.FlatEvent.{FlatEvent}
use Rattle.flat_machine.specs.State.{State}
use Rattle.flat_machine.specs.Step.{performed}
use Rattle.flat_machine.specs.Sizes.{HasWords}
use Rattle.cell_values.specs.Laws.{HoldsWord}
use Rattle.cell_values.specs.Origins.{Origin}
use Rattle.cell_values.specs.Stands.{Stands, CellStands, CellHoldsWord}
use Rattle.cell_values.proofs.Loads.{join_stands, pieces_stand, halves_stand}
use Rattle.cell_values.proofs.Keeps.{cells_keep_words}
use Rattle.cell_values.specs.Cells.{put_at}
use Rattle.object_machine.specs.Program.{Program, Target}
use Rattle.object_machine.specs.State.{SourceState, value, wrote, faulted}
use Rattle.object_machine.specs.Places.{Where, InFixed, InObject, Nowhere, read_fault}
use Rattle.object_machine.specs.Memory.{cell_at, loaded_value}
use Rattle.object_machine.specs.Flow.{falls_on}
use Rattle.object_machine.specs.Step.{Reads, acts, load_place, loads_from}
use Rattle.object_machine.specs.Paired.{Origins, origin_at, loaded_origin, made_in, is_paired_site}
use Rattle.simulation.specs.Setups.{Setup, Sound}
use Rattle.simulation.specs.Made.{IsMade}
use Rattle.simulation.specs.Units.{StandsAt}
use Rattle.simulation.specs.Relation.{Alike, After, LeadsTold}
use Rattle.simulation.specs.Forms.{ActsAs, OneWordFor}
use Rattle.simulation.proofs.OneUnit.{StepPremises, StepsAs}
use Rattle.simulation.proofs.Steps.{is_at, fetched_words, fault_leads, falls_leads, after_going, put_there, put_other, with_writes, wrote_on, one_read, one_written, paired_by, Operand, reads_on, keeps_on, acts_leads, performs_leads, falls_home}
use Rattle.simulation.proofs.Places.{Reaches, Goes, Offsets, IsNamed, load_is_width, goes_access, reached_below, reached_access}

-- ---- what a load takes

module _ (p : Program) (l : Setup) (live : ℕ → ℕ → Type 0) (r u : ℕ) (s : SourceState) (m : Origins) (t : State) (sound : Sound p l r) (alike : Alike p l live r u s m t) where
  cell_stands : (n : ℕ) (x : Where) (at : ℕ) → Reaches p l r n x at → (i b : ℕ) → i < n → b ≡ at + i → CellStands (l.place r) (l.upper r) (origin_at m x i) (cell_at s x i) (t.hart.mem b)
  cell_stands n (InFixed a) at reached i b below is =
      let here = reached.0 in
      let same : a + i ≡ b = omega arith in
      subst (λ q. CellStands (l.place r) (l.upper r) (m.fixed (a + i)) (s.fixed (a + i)) (t.hart.mem q)) same
      (alike.fixed (a + i) (reached.1 i below))
  cell_stands n (InObject o d) at reached i b below is =
      let here = reached.0 in
      let inside = reached.1 in
      let same : l.place r o + (d + i) ≡ b = omega arith in
      subst (λ q. CellStands (l.place r) (l.upper r) (m.cells o (d + i)) (s.cells o (d + i)) (t.hart.mem q)) same
      (alike.cells o (d + i) (omega arith))
  cell_stands n (Nowhere why) at reached i b below is = absurd reached

  cell_holds : (n : ℕ) (x : Where) (at : ℕ) → Reaches p l r n x at → (i : ℕ) → i < n → CellHoldsWord (cell_at s x i)
  cell_holds n (InFixed a) at reached i below = alike.fixed_words (a + i) (reached.1 i below)
  cell_holds n (InObject o d) at reached i below = let inside = reached.1 in alike.cell_words o (d + i) (omega arith)
  cell_holds n (Nowhere why) at reached i below = absurd reached

  byte_stands : (n : ℕ) (x : Where) (at : ℕ) → Reaches p l r n x at → 0 < n → CellStands (l.place r) (l.upper r) (origin_at m x 0) (cell_at s x 0) (t.hart.mem at)
  byte_stands n x at reached some = cell_stands n x at reached 0 at some (omega arith)

  later_stands : (n : ℕ) (x : Where) (at : ℕ) → Reaches p l r n x at → (i : ℕ) → i < n → CellStands (l.place r) (l.upper r) (origin_at m x i) (cell_at s x i) (t.hart.mem (plus at i))
  later_stands n x at reached i below =
      let end = reached_below p l r sound n x at (omega arith) reached in
      cell_stands n x at reached i (plus at i) below (omega arith)

  pub loaded_stands : (kind : LoadKind) (x : Where) (at : ℕ) → Reaches p l r (load_width kind) x at → Stands p.objects (l.place r) (l.upper r) (loaded_origin kind m x) (loaded_value kind s x) (loaded kind t.hart.mem at)
  loaded_stands Lb x at reached =
      (pieces_stand p.objects (l.place r) (l.upper r) (origin_at m x 0) (cell_at s x 0) (t.hart.mem at)
      (alike.words.hart.mem at) (byte_stands 1 x at reached (omega arith))).1
  loaded_stands Lbu x at reached =
      (pieces_stand p.objects (l.place r) (l.upper r) (origin_at m x 0) (cell_at s x 0) (t.hart.mem at)
      (alike.words.hart.mem at) (byte_stands 1 x at reached (omega arith))).0
  loaded_stands Lh x at reached =
      (halves_stand p.objects (l.place r) (l.upper r) (origin_at m x 0) (origin_at m x 1) (origin_at m x 0) (cell_at s x 0)
      (cell_at s x 1) (t.hart.mem at) (t.hart.mem (plus at 1)) (byte_stands 2 x at reached (omega arith))
      (later_stands 2 x at reached 1 (omega arith))).1
  loaded_stands Lhu x at reached =
      (halves_stand p.objects (l.place r) (l.upper r) (origin_at m x 0) (origin_at m x 1) (origin_at m x 0) (cell_at s x 0)
      (cell_at s x 1) (t.hart.mem at) (t.hart.mem (plus at 1)) (byte_stands 2 x at reached (omega arith))
      (later_stands 2 x at reached 1 (omega arith))).0
  loaded_stands Lw x at reached =
      join_stands p.objects (l.place r) (l.upper r) sound.upper_words sound.mixes (origin_at m x 0) (origin_at m x 1)
      (origin_at m x 2) (origin_at m x 3) (cell_at s x 0) (cell_at s x 1) (cell_at s x 2) (cell_at s x 3) (t.hart.mem at)
      (t.hart.mem (plus at 1)) (t.hart.mem (plus at 2)) (t.hart.mem (plus at 3)) (alike.words.hart.mem at)
      (alike.words.hart.mem (plus at 1)) (alike.words.hart.mem (plus at 2)) (alike.words.hart.mem (plus at 3))
      (byte_stands 4 x at reached (omega arith)) (later_stands 4 x at reached 1 (omega arith))
      (later_stands 4 x at reached 2 (omega arith)) (later_stands 4 x at reached 3 (omega arith))

  pub loaded_holds : (kind : LoadKind) (x : Where) (at : ℕ) → Reaches p l r (load_width kind) x at → HoldsWord (loaded_value kind s x)
  loaded_holds Lb x at reached = (cells_keep_words.2 (cell_at s x 0) (cell_holds 1 x at reached 0 (omega arith))).1
  loaded_holds Lbu x at reached = (cells_keep_words.2 (cell_at s x 0) (cell_holds 1 x at reached 0 (omega arith))).0
  loaded_holds Lh x at reached =
      (cells_keep_words.3 (cell_at s x 0) (cell_at s x 1) (cell_holds 2 x at reached 0 (omega arith))
      (cell_holds 2 x at reached 1 (omega arith))).1
  loaded_holds Lhu x at reached =
      (cells_keep_words.3 (cell_at s x 0) (cell_at s x 1) (cell_holds 2 x at reached 0 (omega arith))
      (cell_holds 2 x at reached 1 (omega arith))).0
  loaded_holds Lw x at reached =
      cells_keep_words.1 (cell_at s x 0) (cell_at s x 1) (cell_at s x 2) (cell_at s x 3)
      (cell_holds 4 x at reached 0 (omega arith)) (cell_holds 4 x at reached 1 (omega arith))
      (cell_holds 4 x at reached 2 (omega arith)) (cell_holds 4 x at reached 3 (omega arith))

-- ---- the unit

-- a step is paired where the base finds what the site names
pub named_base : (p : Program) (s : SourceState) (m : Origins) (rs1 : ℕ) (site : Option Target) → IsMade p (m.regs rs1) (value s.regs rs1) → is_paired_site p s m rs1 site ≡ true → IsNamed p s.pc site (m.regs rs1) (value s.regs rs1)
named_base p s m rs1 None made paired = tt
named_base p s m rs1 (Some t) made paired = (made, paired)

-- what stands for a load
stands_load : (p : Program) (l : Setup) (arrive : ℕ → ℕ → Type 0) (r u a : ℕ) (kind : LoadKind) (rd rs1 : ℕ) (imm : ℤ) (j : Instr) (site : Option Target) → ActsAs p l arrive r u a site (Load kind rd rs1 imm) j → (z : ℤ) × ((j ≡ Load kind rd rs1 z) × Offsets p l r u site imm z)
stands_load p l arrive r u a kind rd rs1 imm j None is = (imm, (is, refl))
stands_load p l arrive r u a kind rd rs1 imm j (Some t) is = is

module _ (p : Program) (l : Setup) (live arrive : ℕ → ℕ → Type 0) (tells : List FlatEvent → Type 0) (r : ℕ) (s : SourceState) (m : Origins) (t : State) (kind : LoadKind) (rd rs1 : ℕ) (imm : ℤ) (single : p.is_pair s.pc ≡ false) (premises : StepPremises p l live arrive tells r s m t) (reads : Reads (p.word s.pc) (Some (Load kind rd rs1 imm))) (w : ℕ) (z : ℤ) (stands : StandsAt l r t.hart.pc w) (means : Means w (Load kind rd rs1 z)) where
  performs_load : (at : ℕ) → at ≡ offset (register t.hart.regs rs1) z → can_access t.map at (load_width kind) ≡ true → performed t (Load kind rd rs1 z) ≡ record t { hart = after_write t.hart rd (loaded kind t.hart.mem at) }
  performs_load at is may = let access = rw is at may in rw (is, access) refl

  load_after : (x : Where) (at : ℕ) → at ≡ offset (register t.hart.regs rs1) z → at % load_width kind ≡ 0 → Reaches p l r (load_width kind) x at → p.falls s.pc ≡ true → acts p s (Load kind rd rs1 imm) (p.site s.pc) ≡ record (wrote s rd (loaded_value kind s x)) { pc = s.pc + 4 } → LeadsTold tells p l live arrive r (record (wrote s rd (loaded_value kind s x)) { pc = s.pc + 4 }) (made_in m rd (loaded_origin kind m x)) t
  load_after x at is aligned reached falls acted =
      let i : Instr = Load kind rd rs1 imm in
      let j : Instr = Load kind rd rs1 z in
      let n : SourceState = record (wrote s rd (loaded_value kind s x)) { pc = s.pc + 4 } in
      let origin : Origin = loaded_origin kind m x in
      let t' : State = record t { hart = after_write t.hart rd (loaded kind t.hart.mem at) } in
      let may : can_access t.map at (load_width kind) ≡ true =
      subst (λ q. can_access q at (load_width kind) ≡ true) (sym premises.before.alike.map)
      (reached_access p l r premises.before.sound (load_width kind) x at aligned reached) in
      let performs : performed t j ≡ t' = performs_load at is may in
      let words : HasWords t' =
      subst HasWords performs
      (fetched_words l r t.hart.pc w t (is_at p l live r s.pc s m t premises.before.alike) stands j means) in
      let put_stands =
      subst (λ k. Stands p.objects (l.place r) (l.upper r) k (loaded_value kind s x) (loaded kind t.hart.mem at))
      (sym (put_there m.regs rd origin))
      (loaded_stands p l live r s.pc s m t premises.before.sound premises.before.alike kind x at reached) in
      let keeps : (k : ℕ) → live (s.pc + 4) k → (k ≡ rd → ⊥) → live s.pc k =
      λ k lives other.
      keeps_on p l live r s m t i premises.before single reads n acted premises.before.alike.source_going k lives
      (λ has. other (one_written rd k has)) in
      let alike : Alike p l live r (s.pc + 4) n (made_in m rd origin) t' =
      wrote_on p l live r s.pc (s.pc + 4) s m t premises.before.alike rd (loaded kind t.hart.mem at) (loaded_value kind s x)
      (put_at m.regs rd origin) (with_register t.hart.regs rd (loaded kind t.hart.mem at)) keeps
      (put_other m.regs rd origin) (with_writes (live (s.pc + 4)) t.hart.regs rd (loaded kind t.hart.mem at)) put_stands
      (loaded_holds p l live r s.pc s m t premises.before.sound premises.before.alike kind x at reached) (plus t.hart.pc 4) words in
      performs_leads p l live arrive tells r s m t i premises single reads w j n (made_in m rd origin) stands means
      (subst (λ q. After n.outcome p l live arrive r n (made_in m rd origin) q) (sym performs)
      (after_going p l live arrive tells r t n (made_in m rd origin) t' premises.before.alike.source_going alike
      (falls_home p l live arrive tells r s m t i premises single reads tt falls)))

  load_on : (x : Where) (at : ℕ) → at ≡ offset (register t.hart.regs rs1) z → at % load_width kind ≡ 0 → Reaches p l r (load_width kind) x at → acts p s (Load kind rd rs1 imm) (p.site s.pc) ≡ falls_on p s (wrote s rd (loaded_value kind s x)) → LeadsTold tells p l live arrive r (falls_on p s (wrote s rd (loaded_value kind s x))) (made_in m rd (loaded_origin kind m x)) t
  load_on x at is aligned reached acted =
      falls_leads p l live arrive tells r t s (wrote s rd (loaded_value kind s x)) (made_in m rd (loaded_origin kind m x))
      (λ falls on. load_after x at is aligned reached falls (acted ∙ on))

  load_leads : (x : Where) → acts p s (Load kind rd rs1 imm) (p.site s.pc) ≡ loads_from p s kind rd x (read_fault x) → Goes p l r (load_width kind) x (offset (register t.hart.regs rs1) z) → LeadsTold tells p l live arrive r (loads_from p s kind rd x (read_fault x)) (made_in m rd (loaded_origin kind m x)) t
  load_leads (InFixed a) acted goes = load_on (InFixed a) (offset (register t.hart.regs rs1) z) refl goes.0 goes.1 acted
  load_leads (InObject o d) acted goes =
      load_on (InObject o d) (offset (register t.hart.regs rs1) z) refl goes.0 goes.1 acted
  load_leads (Nowhere why) acted goes =
      fault_leads p l live arrive tells r t (faulted s why) (made_in m rd (loaded_origin kind m (Nowhere why))) s.pc why refl

pub load_steps : (p : Program) (l : Setup) (live arrive : ℕ → ℕ → Type 0) (tells : List FlatEvent → Type 0) (r : ℕ) (s : SourceState) (m : Origins) (t : State) (kind : LoadKind) (rd rs1 : ℕ) (imm : ℤ) → StepsAs p l live arrive tells r s m t (Load kind rd rs1 imm)
load_steps p l live arrive tells r s m t kind rd rs1 imm single premises reads paired =
    let i : Instr = Load kind rd rs1 imm in
    let home : OneWordFor p l arrive r s.pc t.hart.pc (Some i) = premises.unit.one (Some i) single reads in
    let found = stands_load p l arrive r s.pc t.hart.pc kind rd rs1 imm home.1.0 (p.site s.pc) home.1.1.1.1.1 in
    let means = subst (λ q. Means home.0 q) found.1.0 home.1.1.1.0 in
    let base : Operand p l r rs1 s m t = reads_on p l live r s m t i premises.before single reads rs1 (one_read rs1) in
    let named = named_base p s m rs1 (p.site s.pc) (premises.before.made.regs rs1) (paired_by p s m i single paired) in
    let goes =
    goes_access p l r premises.before.sound (load_width kind) (load_is_width kind) s.pc (p.site s.pc) (m.regs rs1)
    (value s.regs rs1) (register t.hart.regs rs1) imm found.0 base.word found.1.1 named base.stands in
    acts_leads p l live arrive tells r s m t i premises.before single reads
    (load_leads p l live arrive tells r s m t kind rd rs1 imm single premises reads home.0 found.0 home.1.1.0 means
    (load_place p s kind rs1 imm (p.site s.pc)) refl goes)

-- Stores: the cells that are put stand for the bytes that the flat machine puts at the place's address.
use Rattle.std.proofs.Common.{◌≡◌, ℕ, ◌+◌, ◌<◌, slice_index_or, true, false, List, Option, Some, None, refl, sym, ◌∙◌, subst, arith}
use Rattle.std.specs.Prelude.{ℤ}
use Rattle.rv32im.specs.Words.{plus, offset, byte_of}
use Rattle.rv32im.specs.Memory.{Memory}
use Rattle.rv32im.specs.Table.{Means}
use Rattle.rv32im.specs.Acts.{register, stored, store_width}
use Rattle.rv32im.specs.declared.instructions.Instr.{Instr}
use Rattle.rv32im.specs.declared.instructions.Instr.TheVariants.{Store}
use Rattle.rv32im.specs.declared.instructions.StoreKind.{StoreKind}
use Rattle.flat_machine.specs.Mapping.{can_access}
use Rattle.flat_machine.specs.declared.events.FlatEvent.{FlatEvent}
use Rattle.flat_machine.specs.State.{State}
use Rattle.flat_machine.specs.Step.{performed}
use Rattle.flat_machine.specs.Sizes.{HasWords}
use Rattle.cell_values.specs.Cells.{split, put_at, put_cells}
use Rattle.cell_values.specs.declared.values.Cell.{Cell}
use Rattle.cell_values.specs.declared.values.Cell.TheVariants.{Mist}
use Rattle.cell_values.specs.Origins.{Origin}
use Rattle.cell_values.specs.Stands.{CellStands, CellHoldsWord}
use Rattle.cell_values.proofs.Stores.{split_stands}
use Rattle.cell_values.proofs.Keeps.{cells_keep_words}
use Rattle.object_machine.specs.Program.{Program, Target}
use Rattle.object_machine.specs.State.{Cells, SourceState, value, faulted}
use Rattle.object_machine.specs.Places.{Where, InFixed, InObject, Nowhere, write_fault}
use Rattle.object_machine.specs.Memory.{stored_at, stored_cells}
use Rattle.object_machine.specs.Step.{Reads, acts, store_place, stores_to}
use Rattle.object_machine.specs.Paired.{Origins, put_origins, stored_origin}
use Rattle.simulation.specs.Setups.{Setup}
use Rattle.simulation.specs.Units.{StandsAt}
use Rattle.simulation.specs.Relation.{Alike, After, LeadsTold}
use Rattle.simulation.specs.Forms.{ActsAs, OneWordFor}
use Rattle.simulation.proofs.OneUnit.{StepPremises, StepsAs}
use Rattle.simulation.proofs.Steps.{is_at, fetched_words, fault_leads, falls_leads, after_going, first_read, second_read, none_written, paired_by, Operand, reads_on, keeps_on, acts_leads, performs_leads, falls_home}
use Rattle.simulation.proofs.Places.{Reaches, Goes, Offsets, store_is_width, width_positive, goes_access, reached_below, reached_access}
use Rattle.simulation.proofs.Puts.{ChangedIn, put_here, put_elsewhere, origins_changed, split_changed, stored_changed, width_small}
use Rattle.simulation.proofs.Tables.{HoldsAlike, fixed_alike, object_alike}
use Rattle.simulation.proofs.Loads.{named_base}

-- what stands for a store
stands_store : (p : Program) (l : Setup) (arrive : ℕ → ℕ → Type 0) (r u a : ℕ) (kind : StoreKind) (rs1 rs2 : ℕ) (imm : ℤ) (j : Instr) (site : Option Target) → ActsAs p l arrive r u a site (Store kind rs1 rs2 imm) j → (z : ℤ) × ((j ≡ Store kind rs1 rs2 z) × Offsets p l r u site imm z)
stands_store p l arrive r u a kind rs1 rs2 imm j None is = (imm, (is, refl))
stands_store p l arrive r u a kind rs1 rs2 imm j (Some t) is = is

module _ (p : Program) (l : Setup) (live arrive : ℕ → ℕ → Type 0) (tells : List FlatEvent → Type 0) (r : ℕ) (s : SourceState) (m : Origins) (t : State) (kind : StoreKind) (rs1 rs2 : ℕ) (imm : ℤ) (single : p.is_pair s.pc ≡ false) (premises : StepPremises p l live arrive tells r s m t) (reads : Reads (p.word s.pc) (Some (Store kind rs1 rs2 imm))) (w : ℕ) (z : ℤ) (stands : StandsAt l r t.hart.pc w) (means : Means w (Store kind rs1 rs2 z)) where
  performs_store : (at : ℕ) → at ≡ offset (register t.hart.regs rs1) z → can_access t.map at (store_width kind) ≡ true → performed t (Store kind rs1 rs2 z) ≡ record t { hart = record { pc = plus t.hart.pc 4; regs = t.hart.regs; mem = stored kind t.hart.mem at (register t.hart.regs rs2) } }
  performs_store at is may = let access = rw is at may in rw (is, access) refl

  -- ---- where the tables are alike behind the store
  store_after : (at : ℕ) → at ≡ offset (register t.hart.regs rs1) z → can_access l.map at (store_width kind) ≡ true → (fixed_cells : Cells) (object_cells : ℕ → Cells) (fixed_origins : ℕ → Origin) (object_origins : ℕ → ℕ → Origin) → HoldsAlike p l r fixed_cells object_cells fixed_origins object_origins (stored kind t.hart.mem at (register t.hart.regs rs2)) → p.falls s.pc ≡ true → acts p s (Store kind rs1 rs2 imm) (p.site s.pc) ≡ record s { pc = s.pc + 4; fixed = fixed_cells; cells = object_cells } → LeadsTold tells p l live arrive r (record s { pc = s.pc + 4; fixed = fixed_cells; cells = object_cells }) (record m { fixed = fixed_origins; cells = object_origins }) t
  store_after at is may fixed_cells object_cells fixed_origins object_origins holds falls acted =
      let i : Instr = Store kind rs1 rs2 imm in
      let j : Instr = Store kind rs1 rs2 z in
      let n : SourceState = record s { pc = s.pc + 4; fixed = fixed_cells; cells = object_cells } in
      let m' : Origins = record m { fixed = fixed_origins; cells = object_origins } in
      let mem' : Memory = stored kind t.hart.mem at (register t.hart.regs rs2) in
      let t' : State = record t { hart = record { pc = plus t.hart.pc 4; regs = t.hart.regs; mem = mem' } } in
      let performs : performed t j ≡ t' =
      performs_store at is (subst (λ q. can_access q at (store_width kind) ≡ true) (sym premises.before.alike.map) may) in
      let words : HasWords t' =
      subst HasWords performs
      (fetched_words l r t.hart.pc w t (is_at p l live r s.pc s m t premises.before.alike) stands j means) in
      let keeps : (k : ℕ) → live (s.pc + 4) k → live s.pc k =
      λ k lives.
      keeps_on p l live r s m t i premises.before single reads n acted premises.before.alike.source_going k lives
      (none_written k) in
      let alike : Alike p l live r (s.pc + 4) n m' t' =
      record {
        regs = λ k lives. premises.before.alike.regs k (keeps k lives);
        values = λ k lives. premises.before.alike.values k (keeps k lives);
        fixed = holds.fixed;
        cells = holds.cells;
        fixed_words = holds.fixed_words;
        cell_words = holds.cell_words;
        still = holds.still;
        map = premises.before.alike.map;
        going = premises.before.alike.going;
        source_going = premises.before.alike.source_going;
        words = words;
        input = premises.before.alike.input;
        output = premises.before.alike.output;
      } in
      performs_leads p l live arrive tells r s m t i premises single reads w j n m' stands means
      (subst (λ q. After n.outcome p l live arrive r n m' q) (sym performs)
      (after_going p l live arrive tells r t n m' t' premises.before.alike.source_going alike
      (falls_home p l live arrive tells r s m t i premises single reads tt falls)))

  -- ---- the tables behind it
  tables_before : HoldsAlike p l r s.fixed s.cells m.fixed m.cells t.hart.mem
  tables_before =
      record {
        fixed = premises.before.alike.fixed;
        cells = premises.before.alike.cells;
        fixed_words = premises.before.alike.fixed_words;
        cell_words = premises.before.alike.cell_words;
        still = premises.before.alike.still;
      }

  module _ (operand : Operand p l r rs2 s m t) where
    put_stands : (i : ℕ) → i < store_width kind → CellStands (l.place r) (l.upper r) (m.regs rs2) (slice_index_or (split (value s.regs rs2)) i Mist) (byte_of (register t.hart.regs rs2) i)
    put_stands i below =
        let small = width_small kind in
        split_stands p.objects (l.place r) (l.upper r) (m.regs rs2) (value s.regs rs2) (register t.hart.regs rs2) i
        operand.word (omega arith) operand.stands

    put_holds : (i : ℕ) → i < store_width kind → CellHoldsWord (slice_index_or (split (value s.regs rs2)) i Mist)
    put_holds i below =
        let small = width_small kind in
        cells_keep_words.0 (value s.regs rs2) i (omega arith) operand.holds

    bytes_changed : (x : Where) (at : ℕ) → Reaches p l r (store_width kind) x at → ChangedIn t.hart.mem (stored kind t.hart.mem at (register t.hart.regs rs2)) at (store_width kind) (byte_of (register t.hart.regs rs2))
    bytes_changed x at reached =
        stored_changed kind t.hart.mem at (register t.hart.regs rs2)
        (reached_below p l r premises.before.sound (store_width kind) x at (width_positive (store_width kind) (store_is_width kind)) reached)

    fixed_stored : (a at : ℕ) → Reaches p l r (store_width kind) (InFixed a) at → HoldsAlike p l r (put_cells s.fixed a (stored_cells kind (value s.regs rs2))) s.cells (put_origins m.fixed a (m.regs rs2) (store_width kind)) m.cells (stored kind t.hart.mem at (register t.hart.regs rs2))
    fixed_stored a at reached =
        let n : ℕ = store_width kind in
        let x = value s.regs rs2 in
        let v : ℕ = register t.hart.regs rs2 in
        fixed_alike p l r premises.before.sound n (λ i. slice_index_or (split x) i Mist) (λ i. m.regs rs2) (byte_of v) put_stands
        put_holds s.fixed s.cells m.fixed m.cells t.hart.mem (stored kind t.hart.mem at v) tables_before a
        (put_cells s.fixed a (stored_cells kind x)) (put_origins m.fixed a (m.regs rs2) n) reached.1
        (split_changed kind x s.fixed a) (origins_changed n m.fixed a (m.regs rs2))
        (subst (λ b. ChangedIn t.hart.mem (stored kind t.hart.mem at v) b n (byte_of v)) reached.0
        (bytes_changed (InFixed a) at reached))

    object_stored : (o d at : ℕ) → Reaches p l r (store_width kind) (InObject o d) at → HoldsAlike p l r s.fixed (put_at s.cells o (put_cells (s.cells o) d (stored_cells kind (value s.regs rs2)))) m.fixed (put_at m.cells o (put_origins (m.cells o) d (m.regs rs2) (store_width kind))) (stored kind t.hart.mem at (register t.hart.regs rs2))
    object_stored o d at reached =
        let n : ℕ = store_width kind in
        let x = value s.regs rs2 in
        let v : ℕ = register t.hart.regs rs2 in
        let own_cells : Cells = put_cells (s.cells o) d (stored_cells kind x) in
        let own_origins : (ℕ → Origin) = put_origins (m.cells o) d (m.regs rs2) n in
        object_alike p l r premises.before.sound n (λ i. slice_index_or (split x) i Mist) (λ i. m.regs rs2) (byte_of v) put_stands
        put_holds s.fixed s.cells m.fixed m.cells t.hart.mem (stored kind t.hart.mem at v) tables_before o d at
        (put_at s.cells o own_cells) (put_at m.cells o own_origins) reached.0 reached.1
        (subst (λ c. ChangedIn (s.cells o) c d n (λ i. slice_index_or (split x) i Mist))
        (sym (put_here s.cells o o own_cells refl)) (split_changed kind x (s.cells o) d))
        (λ q other. put_elsewhere s.cells o q own_cells other)
        (subst (λ c. ChangedIn (m.cells o) c d n (λ i. m.regs rs2)) (sym (put_here m.cells o o own_origins refl))
        (origins_changed n (m.cells o) d (m.regs rs2)))
        (λ q other. put_elsewhere m.cells o q own_origins other) (bytes_changed (InObject o d) at reached)

    -- ---- the unit, by where the store goes and why it may not
    fixed_leads : (a : ℕ) → acts p s (Store kind rs1 rs2 imm) (p.site s.pc) ≡ stores_to p s kind (value s.regs rs2) (InFixed a) None → Goes p l r (store_width kind) (InFixed a) (offset (register t.hart.regs rs1) z) → LeadsTold tells p l live arrive r (stores_to p s kind (value s.regs rs2) (InFixed a) None) (stored_origin m (InFixed a) (m.regs rs2) (store_width kind)) t
    fixed_leads a acted goes =
        let at : ℕ = offset (register t.hart.regs rs1) z in
        let cs : List Cell = stored_cells kind (value s.regs rs2) in
        falls_leads p l live arrive tells r t s (stored_at s (InFixed a) cs)
        (stored_origin m (InFixed a) (m.regs rs2) (store_width kind))
        (λ falls on.
        store_after at refl (reached_access p l r premises.before.sound (store_width kind) (InFixed a) at goes.0 goes.1)
        (put_cells s.fixed a cs) s.cells (put_origins m.fixed a (m.regs rs2) (store_width kind)) m.cells
        (fixed_stored a at goes.1) falls (acted ∙ on))

    object_leads : (o d : ℕ) (fault : Option ℕ) → acts p s (Store kind rs1 rs2 imm) (p.site s.pc) ≡ stores_to p s kind (value s.regs rs2) (InObject o d) fault → Goes p l r (store_width kind) (InObject o d) (offset (register t.hart.regs rs1) z) → LeadsTold tells p l live arrive r (stores_to p s kind (value s.regs rs2) (InObject o d) fault) (stored_origin m (InObject o d) (m.regs rs2) (store_width kind)) t
    object_leads o d None acted goes =
        let at : ℕ = offset (register t.hart.regs rs1) z in
        let cs : List Cell = stored_cells kind (value s.regs rs2) in
        falls_leads p l live arrive tells r t s (stored_at s (InObject o d) cs)
        (stored_origin m (InObject o d) (m.regs rs2) (store_width kind))
        (λ falls on.
        store_after at refl (reached_access p l r premises.before.sound (store_width kind) (InObject o d) at goes.0 goes.1)
        s.fixed (put_at s.cells o (put_cells (s.cells o) d cs)) m.fixed
        (put_at m.cells o (put_origins (m.cells o) d (m.regs rs2) (store_width kind)))
        (object_stored o d at goes.1) falls (acted ∙ on))
    object_leads o d (Some why) acted goes =
        fault_leads p l live arrive tells r t (faulted s why) (stored_origin m (InObject o d) (m.regs rs2) (store_width kind))
        s.pc why refl

    store_leads : (x : Where) → acts p s (Store kind rs1 rs2 imm) (p.site s.pc) ≡ stores_to p s kind (value s.regs rs2) x (write_fault p x) → Goes p l r (store_width kind) x (offset (register t.hart.regs rs1) z) → LeadsTold tells p l live arrive r (stores_to p s kind (value s.regs rs2) x (write_fault p x)) (stored_origin m x (m.regs rs2) (store_width kind)) t
    store_leads (InFixed a) acted goes = fixed_leads a acted goes
    store_leads (InObject o d) acted goes = object_leads o d (write_fault p (InObject o d)) acted goes
    store_leads (Nowhere why) acted goes =
        fault_leads p l live arrive tells r t (faulted s why) (stored_origin m (Nowhere why) (m.regs rs2) (store_width kind)) s.pc
        why refl

pub store_steps : (p : Program) (l : Setup) (live arrive : ℕ → ℕ → Type 0) (tells : List FlatEvent → Type 0) (r : ℕ) (s : SourceState) (m : Origins) (t : State) (kind : StoreKind) (rs1 rs2 : ℕ) (imm : ℤ) → StepsAs p l live arrive tells r s m t (Store kind rs1 rs2 imm)
store_steps p l live arrive tells r s m t kind rs1 rs2 imm single premises reads paired =
    let i : Instr = Store kind rs1 rs2 imm in
    let home : OneWordFor p l arrive r s.pc t.hart.pc (Some i) = premises.unit.one (Some i) single reads in
    let found = stands_store p l arrive r s.pc t.hart.pc kind rs1 rs2 imm home.1.0 (p.site s.pc) home.1.1.1.1.1 in
    let means = subst (λ q. Means home.0 q) found.1.0 home.1.1.1.0 in
    let base : Operand p l r rs1 s m t = reads_on p l live r s m t i premises.before single reads rs1 (first_read rs1 rs2) in
    let operand : Operand p l r rs2 s m t = reads_on p l live r s m t i premises.before single reads rs2 (second_read rs1 rs2) in
    let named = named_base p s m rs1 (p.site s.pc) (premises.before.made.regs rs1) (paired_by p s m i single paired) in
    let goes =
    goes_access p l r premises.before.sound (store_width kind) (store_is_width kind) s.pc (p.site s.pc) (m.regs rs1)
    (value s.regs rs1) (register t.hart.regs rs1) imm found.0 base.word found.1.1 named base.stands in
    acts_leads p l live arrive tells r s m t i premises.before single reads
    (store_leads p l live arrive tells r s m t kind rs1 rs2 imm single premises reads home.0 found.0 home.1.1.0 means operand
    (store_place p s kind rs1 imm (p.site s.pc)) refl goes)

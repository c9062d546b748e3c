-- A step leaves objects that aren't writable as they were.
use Rattle.std.proofs.Common.{◌≡◌, ◌∙◌, ℕ, ◌+◌, ◌*◌, ◌/◌, ◌%◌, ◌<◌, ◌≤◌, ◌==◌, Bool, true, false, if◌then◌else◌, length, take, List, [], ◌∷◌, ◌++◌, Option, Some, None, ℤ, refl, subst, arith}
use Rattle.std.proofs.lemmas.Bool.{cond_both}
use Rattle.std.proofs.lemmas.List.{length-take}
use Rattle.list_checks.specs.First.{first_below}
use Rattle.list_checks.proofs.FirstLemmas.{none_at}
use Rattle.rv32im.specs.Words.{plus, offset}
use Rattle.rv32im.specs.Fields.{rd_of}
use Rattle.rv32im.specs.Acts.{store_width}
use Rattle.rv32im.specs.declared.instructions.Instr.{Instr}
use Rattle.rv32im.specs.declared.instructions.Instr.TheVariants.{Lui, Auipc, Jal, Jalr, Branch, Load, Store, OpImm, OpReg, Fence, FenceI, Ecall, Ebreak}
use Rattle.rv32im.specs.declared.instructions.ImmKind.TheVariants.{Addi}
use Rattle.rv32im.specs.declared.instructions.LoadKind.{LoadKind}
use Rattle.rv32im.specs.declared.instructions.StoreKind.{StoreKind}
use Rattle.cell_values.specs.Operations.{op_imm, op_reg}
use Rattle.cell_values.specs.Comparisons.{compare}
use Rattle.cell_values.specs.Cells.{put_cells}
use Rattle.cell_values.specs.Origins.{Origin}
use Rattle.cell_values.specs.declared.values.Val.{Val}
use Rattle.cell_values.specs.declared.values.Val.TheVariants.{Int}
use Rattle.cell_values.specs.declared.values.Cell.{Cell}
use Rattle.cell_values.specs.declared.values.Cell.TheVariants.{Byte}
use Rattle.object_machine.specs.declared.events.Outcome.TheVariants.{GoesOn}
use Rattle.object_machine.specs.Program.{Program, Target}
use Rattle.object_machine.specs.State.{SourceState, value, wrote, faulted}
use Rattle.object_machine.specs.Places.{Where, InFixed, InObject, Nowhere, byte_place, read_fault, write_fault}
use Rattle.object_machine.specs.Memory.{loaded_value, stored_at, stored_cells}
use Rattle.object_machine.specs.Flow.{falls_on, jumps, jumps_by, branches, pair_link, calls_pair}
use Rattle.object_machine.specs.Calls.{a0, a1, a2, a7, exits, plain_bytes, appends, unread, writes_from, writes, consumed_count, unwritten, put_input, with_input, reads_into, reads, answered, calls_number, calls_by}
use Rattle.object_machine.specs.Step.{upper_value, imm_result, loads_from, stores_to, load_place, store_place, acts, one_word, next_state}
use Rattle.object_machine.specs.Paired.{Origins, put_origins, stored_origin, origins_by, origins_after}
use Rattle.simulation.proofs.Puts.{put_elsewhere}
use Rattle.simulation.specs.RegionLaws.{UnwrittenStay}

module _ (p : Program) where
  -- ---- where something is put

  -- of another object
  other_object : (o d q : ℕ) → write_fault p (InObject o d) ≡ None → p.objects.writable q ≡ false → q ≡ o → ⊥
  other_object o d q none is same =
      let unwritable : p.objects.writable o ≡ false = subst (λ x. p.objects.writable x ≡ false) same is in
      let fault = rw unwritable at none in
      cc

  module _ (s : SourceState) where
    -- the cells of objects that aren't writable are those of `s`
    abbrev Keeps : SourceState → Type 0
    Keeps n = (o i : ℕ) → p.objects.writable o ≡ false → n.cells o i ≡ s.cells o i

    stored_keeps : (t : SourceState) (w : Where) (cs : List Cell) → write_fault p w ≡ None → Keeps t → Keeps (stored_at t w cs)
    stored_keeps t (InFixed a) cs none keeps = keeps
    stored_keeps t (InObject o d) cs none keeps =
        λ q i is.
        let cells = put_elsewhere t.cells o q (put_cells (t.cells o) d cs) (other_object o d q none is) in
        rw cells (keeps q i is)
    stored_keeps t (Nowhere why) cs none keeps = keeps

    input_keeps : (bytes : List ℕ) (t : SourceState) (x : Val) (i : ℕ) → ((j : ℕ) → i ≤ j → j < i + length bytes → write_fault p (byte_place p x j) ≡ None) → Keeps t → Keeps (put_input p t x i bytes)
    input_keeps [] t x i none keeps = keeps
    input_keeps (b ∷ bytes) t x i none keeps =
        input_keeps bytes (stored_at t (byte_place p x i) (Byte b ∷ [])) x (i + 1)
        (λ j from below. none j (omega (arith, from)) (omega (arith, below)))
        (stored_keeps t (byte_place p x i) (Byte b ∷ []) (none i (omega arith) (omega arith)) keeps)

    -- ---- where a unit leads

    same : Keeps s
    same o i is = refl

    falls_keep : (t : SourceState) → Keeps t → Keeps (falls_on p s t)
    falls_keep t keeps =
        cond_both (p.falls s.pc) (record t { pc = s.pc + 4 }) (faulted s 6)
        (λ (n : SourceState). (o i : ℕ) → p.objects.writable o ≡ false → n.cells o i ≡ s.cells o i) (λ falls. keeps) (λ other. same)

    jumps_keep : (a : ℕ) (t : SourceState) → Keeps t → Keeps (jumps p s a t)
    jumps_keep a t keeps =
        cond_both (p.is_block a) (record t { pc = a }) (faulted s 6)
        (λ (n : SourceState). (o i : ℕ) → p.objects.writable o ≡ false → n.cells o i ≡ s.cells o i) (λ block. keeps) (λ other. same)

    jumps_by_keep : (x : Val) (t : SourceState) → Keeps t → Keeps (jumps_by p s x t)
    jumps_by_keep (Int a) t keeps =
        cond_both (p.is_reached (a / 2 * 2)) (record t { pc = a / 2 * 2 }) (faulted s 6)
        (λ (n : SourceState). (o i : ℕ) → p.objects.writable o ≡ false → n.cells o i ≡ s.cells o i) (λ reached. keeps) (λ other. same)
    jumps_by_keep x t keeps = same

    branches_keep : (off : ℤ) (known : Option Bool) → Keeps (branches p s off known)
    branches_keep off (Some true) = jumps_keep (offset s.pc off) s same
    branches_keep off (Some false) = jumps_keep (s.pc + 4) s same
    branches_keep off None = same

    loads_keep : (kind : LoadKind) (rd : ℕ) (w : Where) (fault : Option ℕ) → Keeps (loads_from p s kind rd w fault)
    loads_keep kind rd w None = falls_keep (wrote s rd (loaded_value kind s w)) same
    loads_keep kind rd w (Some why) = same

    stores_keep : (kind : StoreKind) (x : Val) (w : Where) (fault : Option ℕ) → write_fault p w ≡ fault → Keeps (stores_to p s kind x w fault)
    stores_keep kind x w None none =
        falls_keep (stored_at s w (stored_cells kind x)) (stored_keeps s w (stored_cells kind x) none same)
    stores_keep kind x w (Some why) none = same

    -- ---- calls

    answers_keep : (t : SourceState) (n : ℕ) → Keeps t → Keeps (answered p s t n)
    answers_keep t n keeps = falls_keep (wrote t 10 (Int n)) keeps

    exits_keep : (x : Val) → Keeps (exits s x)
    exits_keep (Int n) = same
    exits_keep x = same

    appends_keep : (n : ℕ) (bytes : Option (List ℕ)) → Keeps (appends p s n bytes)
    appends_keep n (Some bytes) = answers_keep (record s { output = s.output ++ bytes }) n same
    appends_keep n None = same

    writes_from_keep : (n : ℕ) (fault : Option ℕ) → Keeps (writes_from p s n fault)
    writes_from_keep n None = appends_keep n (plain_bytes p s n)
    writes_from_keep n (Some why) = same

    writes_keep : (x : Val) → Keeps (writes p s x)
    writes_keep (Int n) = writes_from_keep n (first_below (unread p s) n)
    writes_keep x = same

    taken_keep : (k : ℕ) → first_below (unwritten p s) k ≡ None → Keeps (with_input p s k)
    taken_keep k none =
        let few = length-take k s.input in
        input_keeps (take k s.input) s (a1 s) 0
        (λ j from below. none_at (unwritten p s) k j (omega (arith, below, few)) none) same

    reads_into_keep : (k : ℕ) (fault : Option ℕ) → first_below (unwritten p s) k ≡ fault → Keeps (reads_into p s k fault)
    reads_into_keep k None none = answers_keep (with_input p s k) k (taken_keep k none)
    reads_into_keep k (Some why) none = same

    reads_keep : (x : Val) → Keeps (reads p s x)
    reads_keep (Int n) = reads_into_keep (consumed_count s n) (first_below (unwritten p s) (consumed_count s n)) refl
    reads_keep x = same

    number_keeps : (n : ℕ) → Keeps (calls_number p s n)
    number_keeps n =
        let P : SourceState → Type 0 = λ t. (o i : ℕ) → p.objects.writable o ≡ false → t.cells o i ≡ s.cells o i in
        cond_both (n == 93) (exits s (a0 s)) _ P (λ is. exits_keep (a0 s))
        (λ other. cond_both (n == 64) (writes p s (a2 s)) _ P (λ is. writes_keep (a2 s))
        (λ none. cond_both (n == 63) (reads p s (a2 s)) (answered p s s 4294967258) P (λ is. reads_keep (a2 s))
        (λ unknown. answers_keep s 4294967258 same)))

    calls_keep : (x : Val) → Keeps (calls_by p s x)
    calls_keep (Int n) = number_keeps n
    calls_keep x = same

    -- ---- all kinds

    acts_keep : (i : Instr) (site : Option Target) → Keeps (acts p s i site)
    acts_keep (Lui rd imm) site = falls_keep (wrote s rd (upper_value site (imm * 4096 % 4294967296))) same
    acts_keep (Auipc rd imm) site = falls_keep (wrote s rd (upper_value site (plus s.pc (imm * 4096)))) same
    acts_keep (Jal rd off) site = jumps_keep (offset s.pc off) (wrote s rd (Int (s.pc + 4))) same
    acts_keep (Jalr rd rs1 imm) site =
        jumps_by_keep (op_imm p.objects Addi (value s.regs rs1) imm) (wrote s rd (Int (s.pc + 4))) same
    acts_keep (Branch kind rs1 rs2 off) site =
        branches_keep off (compare p.objects kind (value s.regs rs1) (value s.regs rs2))
    acts_keep (Load kind rd rs1 imm) site =
        let w : Where = load_place p s kind rs1 imm site in loads_keep kind rd w (read_fault w)
    acts_keep (Store kind rs1 rs2 imm) site =
        let w : Where = store_place p s kind rs1 imm site in
        stores_keep kind (value s.regs rs2) w (write_fault p w) refl
    acts_keep (OpImm kind rd rs1 imm) site =
        falls_keep (wrote s rd (imm_result p kind (value s.regs rs1) imm site)) same
    acts_keep (OpReg kind rd rs1 rs2) site =
        falls_keep (wrote s rd (op_reg p.objects kind (value s.regs rs1) (value s.regs rs2))) same
    acts_keep (Fence bits) site = falls_keep s same
    acts_keep (FenceI bits) site = falls_keep s same
    acts_keep Ecall site = calls_keep (a7 s)
    acts_keep Ebreak site = same

    word_keeps : (read : Option Instr) → Keeps (one_word p s read)
    word_keeps None = same
    word_keeps (Some i) = acts_keep i (p.site s.pc)

    pub next_keeps : (read : Option Instr) → (o i : ℕ) → p.objects.writable o ≡ false → (next_state p s read).cells o i ≡ s.cells o i
    next_keeps read =
        cond_both (p.is_pair s.pc) (calls_pair p s) (one_word p s read)
        (λ (n : SourceState). (o i : ℕ) → p.objects.writable o ≡ false → n.cells o i ≡ s.cells o i)
        (λ is. jumps_keep (p.goes s.pc) (wrote s (rd_of (p.word s.pc)) (pair_link p s)) same) (λ is. word_keeps read)

    -- ---- origins

    stored_origins : (m : Origins) (w : Where) (origin : Origin) (n : ℕ) → write_fault p w ≡ None → (o i : ℕ) → p.objects.writable o ≡ false → (stored_origin m w origin n).cells o i ≡ m.cells o i
    stored_origins m (InFixed a) origin n none o i is = refl
    stored_origins m (InObject q d) origin n none o i is =
        let cells = put_elsewhere m.cells q o (put_origins (m.cells q) d origin n) (other_object q d o none is) in rw cells refl
    stored_origins m (Nowhere why) origin n none o i is = refl

    unfaulted : (kind : StoreKind) (x : Val) (w : Where) (fault : Option ℕ) → (stores_to p s kind x w fault).outcome ≡ GoesOn → fault ≡ None
    unfaulted kind x w None going = refl
    unfaulted kind x w (Some why) going = cc

    word_origins : (i : Instr) (m : Origins) → (acts p s i (p.site s.pc)).outcome ≡ GoesOn → (o j : ℕ) → p.objects.writable o ≡ false → (origins_by p s m i).cells o j ≡ m.cells o j
    word_origins (Store kind rs1 rs2 imm) m going o j is =
        let w : Where = store_place p s kind rs1 imm (p.site s.pc) in
        stored_origins m w (m.regs rs2) (store_width kind) (unfaulted kind (value s.regs rs2) w (write_fault p w) going) o j is
    word_origins i m going o j is = refl

    by_pair : (i : Instr) (m : Origins) (pair : Bool) → (if pair then calls_pair p s else one_word p s (Some i)).outcome ≡ GoesOn → (o j : ℕ) → p.objects.writable o ≡ false → (if pair then m else origins_by p s m i).cells o j ≡ m.cells o j
    by_pair i m true going o j is = refl
    by_pair i m false going o j is = word_origins i m going o j is

    pub next_origins : (m : Origins) (read : Option Instr) → (next_state p s read).outcome ≡ GoesOn → (o j : ℕ) → p.objects.writable o ≡ false → (origins_after p s m read).cells o j ≡ m.cells o j
    next_origins m None going o j is = refl
    next_origins m (Some i) going o j is = by_pair i m (p.is_pair s.pc) going o j is

pub unwritten_stay : UnwrittenStay
unwritten_stay p first s made m read before going =
    record {
      cells = λ o i is. next_keeps p s read o i is ∙ before.cells o i is;
      origins = λ o i is. next_origins p s m read going o i is ∙ before.origins o i is;
    }

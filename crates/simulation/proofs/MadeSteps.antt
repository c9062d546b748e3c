-- The AUIPC beside an upper part made it, also behind a step.
use Rattle.std.proofs.Common.{◌≡◌, inl, inr, ℕ, ◌+◌, ◌*◌, ◌/◌, ◌%◌, ◌==◌, nat_lt, Bool, true, false, if◌then◌else◌, slice_index_or, take, List, [], ◌∷◌, ◌++◌, Option, Some, None, ℤ, refl, sym, subst, arith}
use Rattle.std.proofs.lemmas.Bool.{cases_eq, cond_both}
use Rattle.list_checks.specs.First.{first_below}
use Rattle.rv32im.specs.Words.{plus, offset}
use Rattle.rv32im.specs.Fields.{rd_of}
use Rattle.rv32im.specs.Table.{Means}
use Rattle.rv32im.specs.Acts.{store_width}
use Rattle.rv32im.specs.declared.instructions.Instr.{Instr}
use Rattle.rv32im.specs.declared.instructions.Instr.TheVariants.{Lui, Auipc, Jal, Jalr, Branch, Load, Store, OpImm, OpReg, Fence, FenceI, Ecall, Ebreak}
use Rattle.rv32im.specs.declared.instructions.ImmKind.{ImmKind}
use Rattle.rv32im.specs.declared.instructions.ImmKind.TheVariants.{Addi}
use Rattle.rv32im.specs.declared.instructions.LoadKind.{LoadKind}
use Rattle.rv32im.specs.declared.instructions.LoadKind.TheVariants.{Lb, Lh, Lw, Lbu, Lhu}
use Rattle.rv32im.specs.declared.instructions.StoreKind.{StoreKind}
use Rattle.cell_values.specs.Operations.{op_imm, op_reg}
use Rattle.cell_values.specs.Comparisons.{compare}
use Rattle.cell_values.specs.Cells.{split, put_at, put_cells}
use Rattle.cell_values.specs.declared.values.Val.{Val}
use Rattle.cell_values.specs.declared.values.Val.TheVariants.{Int, Unknown}
use Rattle.cell_values.specs.declared.values.Cell.TheVariants.{Byte, Mist}
use Rattle.cell_values.specs.Origins.{Origin, ByLui, ByAuipc}
use Rattle.object_machine.specs.declared.events.Outcome.TheVariants.{GoesOn}
use Rattle.object_machine.specs.Program.{Program, Target}
use Rattle.object_machine.specs.State.{Cells, SourceState, value, with_value, wrote, faulted}
use Rattle.object_machine.specs.Places.{Where, InFixed, InObject, Nowhere, byte_place, read_fault, write_fault}
use Rattle.object_machine.specs.Memory.{cell_at, signed_byte, signed_half, same_number, loaded_value, stored_at, stored_cells}
use Rattle.object_machine.specs.Flow.{falls_on, jumps, jumps_by, branches, pair_link, calls_pair}
use Rattle.object_machine.specs.Calls.{a0, a1, a2, a7, exits, plain_bytes, appends, unread, writes_from, writes, consumed_count, unwritten, put_input, with_input, reads_into, reads, answered, calls_number, calls_by}
use Rattle.object_machine.specs.Step.{upper_value, imm_result, loads_from, stores_to, load_place, store_place, Reads, acts, one_word, next_state}
use Rattle.object_machine.specs.Paired.{Origins, origin_at, loaded_origin, put_origins, stored_origin, made_in, origins_by, origins_after}
use Rattle.simulation.specs.Made.{IsAuipcAt, IsMade, CellIsMade, AreMade}
use Rattle.simulation.proofs.Steps.{value_zero, value_wrote, value_other, put_there, put_other}
use Rattle.simulation.proofs.Puts.{put_here, put_elsewhere, split_changed, origins_changed, width_small}
use Rattle.simulation.proofs.MadeValues.{IsNoPart, no_part_made, chosen, reg_plain, imm_plain, site_plain, byte_made, half_made, join_made, split_made, changed_made}

-- where a machine goes on, it is so
abbrev pub StayMade : Program → SourceState → Origins → Type 0
StayMade p n m = n.outcome ≡ GoesOn → AreMade p n m

module _ (p : Program) where
  fault_made : (s : SourceState) (m : Origins) (why : ℕ) → StayMade p (faulted s why) m
  fault_made s m why going = cc

  -- ---- registers

  module _ (s : SourceState) (m : Origins) (made : AreMade p s m) (rd : ℕ) (x : Val) (origins : ℕ → Origin) (others : (k : ℕ) → (k ≡ rd → ⊥) → origins k ≡ m.regs k) (is : IsMade p (origins rd) x) where
    regs_made : (k : ℕ) → IsMade p (origins k) (value (with_value s.regs rd x) k)
    regs_made k =
        elim (cases_eq k 0) [
          | inl zero_register ↦ let first = value_zero (with_value s.regs rd x) k zero_register in rw first tt
          | inr nonzero ↦ elim (cases_eq k rd) [
            | inl same ↦
                let first = value_wrote s.regs rd k x same nonzero in
                let here : IsMade p (origins k) x = subst (λ j. IsMade p (origins j) x) (sym same) is in
                rw first here
            | inr other ↦
                let first = value_other s.regs rd k x other in
                let second = others k other in
                rw (first, second) (made.regs k)
          ]
        ]

    pub write_made : AreMade p (wrote s rd x) (record m { regs = origins })
    write_made = record { regs = regs_made; fixed = made.fixed; cells = made.cells }

  -- a value that is no part of an address
  plain_made : (s : SourceState) (m : Origins) (rd : ℕ) (x : Val) → AreMade p s m → IsNoPart x → AreMade p (wrote s rd x) m
  plain_made s m rd x made none =
      write_made s m made rd x m.regs (λ k other. refl) (no_part_made p (m.regs rd) x none)

  -- one with an origin of its own
  own_made : (s : SourceState) (m : Origins) (rd : ℕ) (x : Val) (origin : Origin) → AreMade p s m → IsMade p origin x → AreMade p (wrote s rd x) (made_in m rd origin)
  own_made s m rd x origin made is =
      write_made s m made rd x (put_at m.regs rd origin) (put_other m.regs rd origin)
      (rw (put_there m.regs rd origin) is)

  -- ---- memory

  cell_made : (s : SourceState) (m : Origins) (w : Where) (i : ℕ) → AreMade p s m → CellIsMade p (origin_at m w i) (cell_at s w i)
  cell_made s m (InFixed a) i made = made.fixed (a + i)
  cell_made s m (InObject o d) i made = made.cells o (d + i)
  cell_made s m (Nowhere why) i made = tt

  load_made : (kind : LoadKind) (s : SourceState) (m : Origins) (w : Where) → AreMade p s m → IsMade p (loaded_origin kind m w) (loaded_value kind s w)
  load_made Lb s m w made = byte_made p signed_byte (origin_at m w 0) (cell_at s w 0) (cell_made s m w 0 made)
  load_made Lbu s m w made = byte_made p same_number (origin_at m w 0) (cell_at s w 0) (cell_made s m w 0 made)
  load_made Lh s m w made = half_made p signed_half (origin_at m w 0) (cell_at s w 0) (cell_at s w 1)
  load_made Lhu s m w made = half_made p same_number (origin_at m w 0) (cell_at s w 0) (cell_at s w 1)
  load_made Lw s m w made =
      join_made p (origin_at m w 0) (origin_at m w 1) (origin_at m w 2) (origin_at m w 3) (cell_at s w 0) (cell_at s w 1)
      (cell_at s w 2) (cell_at s w 3) (cell_made s m w 0 made) (cell_made s m w 1 made) (cell_made s m w 2 made)
      (cell_made s m w 3 made)

  module _ (kind : StoreKind) (x : Val) (origin : Origin) (is : IsMade p origin x) where
    table_made : (table : Cells) (origins : ℕ → Origin) (k : ℕ) → ((a : ℕ) → CellIsMade p (origins a) (table a)) → (a : ℕ) → CellIsMade p (put_origins origins k origin (store_width kind) a) (put_cells table k (stored_cells kind x) a)
    table_made table origins k before =
        let small = width_small kind in
        changed_made p table (put_cells table k (stored_cells kind x)) origins (put_origins origins k origin (store_width kind)) k
        (store_width kind) (λ i. slice_index_or (split x) i Mist) origin (split_changed kind x table k)
        (origins_changed (store_width kind) origins k origin) before
        (λ i below. split_made p origin x is i (omega arith))

    object_made : (s : SourceState) (m : Origins) (o d : ℕ) → AreMade p s m → (q i : ℕ) → CellIsMade p (put_at m.cells o (put_origins (m.cells o) d origin (store_width kind)) q i) (put_at s.cells o (put_cells (s.cells o) d (stored_cells kind x)) q i)
    object_made s m o d made q i =
        elim (cases_eq q o) [
          | inl same ↦
              let origins = put_here m.cells o q (put_origins (m.cells o) d origin (store_width kind)) same in
              let cells = put_here s.cells o q (put_cells (s.cells o) d (stored_cells kind x)) same in
              rw (origins, cells) (table_made (s.cells o) (m.cells o) d (made.cells o) i)
          | inr other ↦
              let origins = put_elsewhere m.cells o q (put_origins (m.cells o) d origin (store_width kind)) other in
              let cells = put_elsewhere s.cells o q (put_cells (s.cells o) d (stored_cells kind x)) other in
              rw (origins, cells) (made.cells q i)
        ]

    store_made : (s : SourceState) (m : Origins) (w : Where) → AreMade p s m → AreMade p (stored_at s w (stored_cells kind x)) (stored_origin m w origin (store_width kind))
    store_made s m (InFixed a) made =
        record { regs = made.regs; fixed = table_made s.fixed m.fixed a made.fixed; cells = made.cells }
    store_made s m (InObject o d) made =
        record { regs = made.regs; fixed = made.fixed; cells = object_made s m o d made }
    store_made s m (Nowhere why) made = made

  -- a byte of the input is no part
  byte_put : (table : Cells) (origins : ℕ → Origin) (k b : ℕ) → ((a : ℕ) → CellIsMade p (origins a) (table a)) → (a : ℕ) → CellIsMade p (origins a) (put_at table k (Byte b) a)
  byte_put table origins k b before a =
      elim (cases_eq a k) [
        | inl same ↦ let cell = put_here table k a (Byte b) same in rw cell tt
        | inr other ↦ let cell = put_elsewhere table k a (Byte b) other in rw cell (before a)
      ]

  object_byte : (s : SourceState) (m : Origins) (o d b : ℕ) → AreMade p s m → (q i : ℕ) → CellIsMade p (m.cells q i) (put_at s.cells o (put_at (s.cells o) d (Byte b)) q i)
  object_byte s m o d b made q i =
      elim (cases_eq q o) [
        | inl same ↦
            let cells = put_here s.cells o q (put_at (s.cells o) d (Byte b)) same in
            let here : CellIsMade p (m.cells q i) (put_at (s.cells o) d (Byte b) i) =
            subst (λ y. CellIsMade p (m.cells y i) (put_at (s.cells o) d (Byte b) i)) (sym same)
            (byte_put (s.cells o) (m.cells o) d b (made.cells o) i) in
            rw cells here
        | inr other ↦
            let cells = put_elsewhere s.cells o q (put_at (s.cells o) d (Byte b)) other in rw cells (made.cells q i)
      ]

  byte_stored : (s : SourceState) (m : Origins) (w : Where) (b : ℕ) → AreMade p s m → AreMade p (stored_at s w (Byte b ∷ [])) m
  byte_stored s m (InFixed a) b made =
      record { regs = made.regs; fixed = byte_put s.fixed m.fixed a b made.fixed; cells = made.cells }
  byte_stored s m (InObject o d) b made =
      record { regs = made.regs; fixed = made.fixed; cells = object_byte s m o d b made }
  byte_stored s m (Nowhere why) b made = made

  input_made : (bytes : List ℕ) (s : SourceState) (m : Origins) (x : Val) (i : ℕ) → AreMade p s m → AreMade p (put_input p s x i bytes) m
  input_made [] s m x i made = made
  input_made (b ∷ bytes) s m x i made =
      input_made bytes (stored_at s (byte_place p x i) (Byte b ∷ [])) m x (i + 1) (byte_stored s m (byte_place p x i) b made)

  -- ---- the next pc

  moved : (s : SourceState) (m : Origins) (pc : ℕ) → AreMade p s m → AreMade p (record s { pc = pc }) m
  moved s m pc made = record { regs = made.regs; fixed = made.fixed; cells = made.cells }

  module _ (s : SourceState) where
    falls_made : (s' : SourceState) (m : Origins) → AreMade p s' m → StayMade p (falls_on p s s') m
    falls_made s' m made =
        cond_both (p.falls s.pc) (record s' { pc = s.pc + 4 }) (faulted s 6) (λ n. StayMade p n m)
        (λ falls going. moved s' m (s.pc + 4) made) (λ other. fault_made s m 6)

    jumps_made : (s' : SourceState) (m : Origins) (a : ℕ) → AreMade p s' m → StayMade p (jumps p s a s') m
    jumps_made s' m a made =
        cond_both (p.is_block a) (record s' { pc = a }) (faulted s 6) (λ n. StayMade p n m)
        (λ block going. moved s' m a made) (λ other. fault_made s m 6)

    jumps_by_made : (s' : SourceState) (m : Origins) (x : Val) → AreMade p s' m → StayMade p (jumps_by p s x s') m
    jumps_by_made s' m (Int a) made =
        cond_both (p.is_reached (a / 2 * 2)) (record s' { pc = a / 2 * 2 }) (faulted s 6) (λ n. StayMade p n m)
        (λ reached going. moved s' m (a / 2 * 2) made) (λ other. fault_made s m 6)
    jumps_by_made s' m x made = fault_made s m 6

    branches_made : (m : Origins) (off : ℤ) (known : Option Bool) → AreMade p s m → StayMade p (branches p s off known) m
    branches_made m off (Some true) made = jumps_made s m (offset s.pc off) made
    branches_made m off (Some false) made = jumps_made s m (s.pc + 4) made
    branches_made m off None made = fault_made s m 7

    loads_made : (kind : LoadKind) (rd : ℕ) (m : Origins) (w : Where) (fault : Option ℕ) → AreMade p s m → StayMade p (loads_from p s kind rd w fault) (made_in m rd (loaded_origin kind m w))
    loads_made kind rd m w None made =
        falls_made (wrote s rd (loaded_value kind s w)) (made_in m rd (loaded_origin kind m w))
        (own_made s m rd (loaded_value kind s w) (loaded_origin kind m w) made (load_made kind s m w made))
    loads_made kind rd m w (Some why) made = fault_made s (made_in m rd (loaded_origin kind m w)) why

    stores_made : (kind : StoreKind) (x : Val) (m : Origins) (origin : Origin) (w : Where) (fault : Option ℕ) → IsMade p origin x → AreMade p s m → StayMade p (stores_to p s kind x w fault) (stored_origin m w origin (store_width kind))
    stores_made kind x m origin w None is made =
        falls_made (stored_at s w (stored_cells kind x)) (stored_origin m w origin (store_width kind))
        (store_made kind x origin is s m w made)
    stores_made kind x m origin w (Some why) is made = fault_made s (stored_origin m w origin (store_width kind)) why

    -- ---- calls

    module _ (m : Origins) (made : AreMade p s m) where
      answers_made : (s' : SourceState) (n : ℕ) → AreMade p s' m → StayMade p (answered p s s' n) m
      answers_made s' n made = falls_made (wrote s' 10 (Int n)) m (plain_made s' m 10 (Int n) made tt)

      exits_made : (x : Val) → StayMade p (exits s x) m
      exits_made (Int n) = λ going. cc
      exits_made x = fault_made s m 8

      appends_made : (n : ℕ) (bytes : Option (List ℕ)) → StayMade p (appends p s n bytes) m
      appends_made n (Some bytes) =
          answers_made (record s { output = s.output ++ bytes }) n
          (record { regs = made.regs; fixed = made.fixed; cells = made.cells })
      appends_made n None = fault_made s m 8

      writes_from_made : (n : ℕ) (fault : Option ℕ) → StayMade p (writes_from p s n fault) m
      writes_from_made n None = appends_made n (plain_bytes p s n)
      writes_from_made n (Some why) = fault_made s m why

      writes_made : (x : Val) → StayMade p (writes p s x) m
      writes_made (Int n) = writes_from_made n (first_below (unread p s) n)
      writes_made x = fault_made s m 8

      taken_made : (k : ℕ) → AreMade p (with_input p s k) m
      taken_made k =
          let put = input_made (take k s.input) s m (a1 s) 0 made in
          record { regs = put.regs; fixed = put.fixed; cells = put.cells }

      reads_into_made : (k : ℕ) (fault : Option ℕ) → StayMade p (reads_into p s k fault) m
      reads_into_made k None = answers_made (with_input p s k) k (taken_made k)
      reads_into_made k (Some why) = fault_made s m why

      reads_made : (x : Val) → StayMade p (reads p s x) m
      reads_made (Int n) = reads_into_made (consumed_count s n) (first_below (unwritten p s) (consumed_count s n))
      reads_made x = fault_made s m 8

      number_made : (n : ℕ) → StayMade p (calls_number p s n) m
      number_made n =
          cond_both (n == 93) (exits s (a0 s)) _ (λ q. StayMade p q m) (λ is. exits_made (a0 s))
          (λ other. cond_both (n == 64) (writes p s (a2 s)) _ (λ q. StayMade p q m) (λ is. writes_made (a2 s))
          (λ none. cond_both (n == 63) (reads p s (a2 s)) (answered p s s 4294967258) (λ q. StayMade p q m)
          (λ is. reads_made (a2 s)) (λ unknown. answers_made s 4294967258 made)))

      calls_made : (x : Val) → StayMade p (calls_by p s x) m
      calls_made (Int n) = number_made n
      calls_made x = fault_made s m 8

    -- ---- all kinds

    lui_made : (site : Option Target) (n : ℕ) → IsMade p ByLui (upper_value site n)
    lui_made None n = tt
    lui_made (Some g) n = tt

    auipc_made : (site : Option Target) (n : ℕ) → p.site s.pc ≡ site → IsAuipcAt p s.pc → IsMade p (ByAuipc s.pc) (upper_value site n)
    auipc_made None n at is = tt
    auipc_made (Some g) n at is = (at, is)

    result_plain : (kind : ImmKind) (x : Val) (imm : ℤ) (site : Option Target) → IsNoPart (imm_result p kind x imm site)
    result_plain kind x imm None = imm_plain p.objects kind x imm
    result_plain kind x imm (Some g) = site_plain p.objects x g.object g.offset

    acts_made : (i : Instr) (m : Origins) → AreMade p s m → Means (p.word s.pc) i → StayMade p (acts p s i (p.site s.pc)) (origins_by p s m i)
    acts_made (Lui rd imm) m made means =
        let x : Val = upper_value (p.site s.pc) (imm * 4096 % 4294967296) in
        falls_made (wrote s rd x) (made_in m rd ByLui)
        (own_made s m rd x ByLui made (lui_made (p.site s.pc) (imm * 4096 % 4294967296)))
    acts_made (Auipc rd imm) m made means =
        let x : Val = upper_value (p.site s.pc) (plus s.pc (imm * 4096)) in
        falls_made (wrote s rd x) (made_in m rd (ByAuipc s.pc))
        (own_made s m rd x (ByAuipc s.pc) made (auipc_made (p.site s.pc) (plus s.pc (imm * 4096)) refl (rd, (imm, means))))
    acts_made (Jal rd off) m made means =
        jumps_made (wrote s rd (Int (s.pc + 4))) m (offset s.pc off) (plain_made s m rd (Int (s.pc + 4)) made tt)
    acts_made (Jalr rd rs1 imm) m made means =
        jumps_by_made (wrote s rd (Int (s.pc + 4))) m (op_imm p.objects Addi (value s.regs rs1) imm)
        (plain_made s m rd (Int (s.pc + 4)) made tt)
    acts_made (Branch kind rs1 rs2 off) m made means =
        branches_made m off (compare p.objects kind (value s.regs rs1) (value s.regs rs2)) made
    acts_made (Load kind rd rs1 imm) m made means =
        let w : Where = load_place p s kind rs1 imm (p.site s.pc) in loads_made kind rd m w (read_fault w) made
    acts_made (Store kind rs1 rs2 imm) m made means =
        let w : Where = store_place p s kind rs1 imm (p.site s.pc) in
        stores_made kind (value s.regs rs2) m (m.regs rs2) w (write_fault p w) (made.regs rs2) made
    acts_made (OpImm kind rd rs1 imm) m made means =
        let x : Val = imm_result p kind (value s.regs rs1) imm (p.site s.pc) in
        falls_made (wrote s rd x) m
        (plain_made s m rd x made (result_plain kind (value s.regs rs1) imm (p.site s.pc)))
    acts_made (OpReg kind rd rs1 rs2) m made means =
        let x : Val = op_reg p.objects kind (value s.regs rs1) (value s.regs rs2) in
        falls_made (wrote s rd x) m
        (plain_made s m rd x made (reg_plain p.objects kind (value s.regs rs1) (value s.regs rs2)))
    acts_made (Fence bits) m made means = falls_made s m made
    acts_made (FenceI bits) m made means = falls_made s m made
    acts_made Ecall m made means = calls_made m made (a7 s)
    acts_made Ebreak m made means = λ going. cc

    pair_made : (m : Origins) → AreMade p s m → StayMade p (calls_pair p s) m
    pair_made m made =
        jumps_made (wrote s (rd_of (p.word s.pc)) (pair_link p s)) m (p.goes s.pc)
        (plain_made s m (rd_of (p.word s.pc)) (pair_link p s) made
        (chosen (nat_lt 0 (rd_of (p.word (s.pc + 4)))) (Int (s.pc + 8)) Unknown tt tt))

    by_pair : (m : Origins) (read : Option Instr) (pair : Bool) → AreMade p s m → Reads (p.word s.pc) read → StayMade p (if pair then calls_pair p s else one_word p s read) (elim read as (λ _. Origins) [ None ↦ m | Some i ↦ if pair then m else origins_by p s m i ])
    by_pair m None true made reads = pair_made m made
    by_pair m (Some i) true made reads = pair_made m made
    by_pair m None false made reads = λ going. cc
    by_pair m (Some i) false made reads = acts_made i m made reads

pub next_made : (p : Program) (s : SourceState) (m : Origins) (read : Option Instr) → AreMade p s m → Reads (p.word s.pc) read → StayMade p (next_state p s read) (origins_after p s m read)
next_made p s m None made reads = by_pair p s m None (p.is_pair s.pc) made reads
next_made p s m (Some i) made reads = by_pair p s m (Some i) (p.is_pair s.pc) made reads

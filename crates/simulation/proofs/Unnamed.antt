-- A step doesn't look at the AUIPC that a low part names; and where none is named, and every origin is a LUI, each step
-- is paired.
use Rattle.std.proofs.Common.{◌≡◌, ◌∙◌, ℕ, zero, suc, ◌+◌, ◌==◌, Bool, true, false, not, ◌&&◌, ◌||◌, List, [], ◌∷◌, take, Option, Some, None, ℤ, refl, sym, ap, subst, if◌then◌else◌}
use Rattle.list_checks.specs.First.{first_below}
use Rattle.rv32im.specs.Acts.{load_width, store_width}
use Rattle.rv32im.specs.declared.instructions.Instr.{Instr}
use Rattle.rv32im.specs.declared.instructions.Instr.TheVariants.{Lui, Auipc, Jal, Jalr, Branch, Load, Store, OpImm, OpReg, Fence, FenceI, Ecall, Ebreak}
use Rattle.rv32im.specs.declared.instructions.ImmKind.TheVariants.{Addi}
use Rattle.rv32im.specs.declared.instructions.LoadKind.{LoadKind}
use Rattle.rv32im.specs.declared.instructions.RegKind.{RegKind}
use Rattle.rv32im.specs.declared.instructions.StoreKind.{StoreKind}
use Rattle.cell_values.specs.Objects.{Objects}
use Rattle.rv32im.specs.Operations.{operation_of}
use Rattle.cell_values.specs.Operations.{op_imm}
use Rattle.cell_values.specs.Comparisons.{compare}
use Rattle.cell_values.specs.declared.values.Val.{Val}
use Rattle.cell_values.specs.declared.values.Val.TheVariants.{Int, Addr, Hi}
use Rattle.cell_values.specs.declared.values.Cell.TheVariants.{Byte}
use Rattle.rv32im.specs.Operations.{takes_low_bits}
use Rattle.cell_values.specs.Origins.{ByLui, is_by_auipc, takes_low}
use Rattle.object_machine.specs.Program.{Program, Target}
use Rattle.object_machine.specs.State.{SourceState, value, wrote}
use Rattle.object_machine.specs.Places.{Where, InFixed, InObject, Nowhere, located, byte_place, read_fault, write_fault, address_of}
use Rattle.object_machine.specs.Memory.{cell_at, stored_at}
use Rattle.object_machine.specs.Flow.{jumps_by, branches, calls_pair}
use Rattle.object_machine.specs.Calls.{a0, a1, a2, a7, answered, exits, and_byte, plain_bytes, appends, unread, writes_from, writes, consumed_count, unwritten, put_input, with_input, reads_into, reads, calls_by}
use Rattle.object_machine.specs.declared.events.Event.{Event}
use Rattle.object_machine.specs.declared.events.Outcome.{Outcome}
use Rattle.object_machine.specs.declared.events.Outcome.TheVariants.{GoesOn, Exited, Trapped, AddressFault}
use Rattle.object_machine.specs.Step.{loads_from, stores_to, load_place, store_place, acts, one_word, next_state, StepFrom}
use Rattle.object_machine.specs.Runs.{Steps, HasEnded}
use Rattle.object_machine.specs.Paired.{at_start, is_paired_site, uses_base, is_paired_by, is_paired_step, PairedFrom}
use Rattle.object_machine.proofs.RunLemmas.{ended_steps}
use Rattle.simulation.specs.Unnamed.{unnamed}
use Rattle.simulation.specs.Folds.{PairedBy}
use Rattle.std.proofs.Math.Bool.{and-false, or-true}

module _ (p : Program) where
  abbrev q : Program
  q = unnamed p

  -- ---- where accesses go

  pub located_same : (width : ℕ) (x : Val) → located p width x ≡ located q width x
  located_same width (Int a) = refl
  located_same width (Addr o d) = refl
  located_same width x = refl

  pub address_same : (site : Option Target) (x : Val) (imm : ℤ) → address_of p site x imm ≡ address_of q site x imm
  address_same None x imm = refl
  address_same (Some t) x imm = refl

  write_same : (w : Where) → write_fault p w ≡ write_fault q w
  write_same (InFixed a) = refl
  write_same (InObject o d) = refl
  write_same (Nowhere why) = refl

  byte_same : (x : Val) → byte_place p x ≡ byte_place q x
  byte_same (Int a) = refl
  byte_same (Addr o d) = refl
  byte_same x = refl

  place_same : (width : ℕ) (site : Option Target) (x : Val) (imm : ℤ) → located p width (address_of p site x imm) ≡ located q width (address_of q site x imm)
  place_same width site x imm =
      located_same width (address_of p site x imm) ∙ ap (located q width) (address_same site x imm)

  -- ---- calls

  put_same : (s : SourceState) (x : Val) (i : ℕ) (bytes : List ℕ) → put_input p s x i bytes ≡ put_input q s x i bytes
  put_same s x i [] = refl
  put_same s x i (b ∷ bytes) =
      put_same (stored_at s (byte_place p x i) (Byte b ∷ [])) x (i + 1) bytes
      ∙ ap (λ (f : ℕ → Where). put_input q (stored_at s (f i) (Byte b ∷ [])) x (i + 1) bytes) (byte_same x)

  module _ (s : SourceState) where
    loads_same : (kind : LoadKind) (rd : ℕ) (w : Where) (fault : Option ℕ) → loads_from p s kind rd w fault ≡ loads_from q s kind rd w fault
    loads_same kind rd w None = refl
    loads_same kind rd w (Some why) = refl

    stores_same : (kind : StoreKind) (x : Val) (w : Where) (fault : Option ℕ) → stores_to p s kind x w fault ≡ stores_to q s kind x w fault
    stores_same kind x w None = refl
    stores_same kind x w (Some why) = refl

    plain_same : (n : ℕ) → plain_bytes p s n ≡ plain_bytes q s n
    plain_same zero = refl
    plain_same (suc n) =
        λ t. and_byte (plain_same n t) (cell_at s (byte_same (a1 s) t n) 0)

    appends_same : (n : ℕ) (o : Option (List ℕ)) → appends p s n o ≡ appends q s n o
    appends_same n (Some bytes) = refl
    appends_same n None = refl

    writes_from_same : (n : ℕ) (fault : Option ℕ) → writes_from p s n fault ≡ writes_from q s n fault
    writes_from_same n None = appends_same n (plain_bytes p s n) ∙ ap (appends q s n) (plain_same n)
    writes_from_same n (Some why) = refl

    writes_same : (x : Val) → writes p s x ≡ writes q s x
    writes_same (Int n) =
        writes_from_same n (first_below (unread p s) n)
        ∙ ap (λ (f : ℕ → Where). writes_from q s n (first_below (λ i. read_fault (f i)) n)) (byte_same (a1 s))
    writes_same x = refl

    unwritten_same : (i : ℕ) → unwritten p s i ≡ unwritten q s i
    unwritten_same i =
        write_same (byte_place p (a1 s) i) ∙ ap (λ (f : ℕ → Where). write_fault q (f i)) (byte_same (a1 s))

    reads_into_same : (k : ℕ) (fault : Option ℕ) → reads_into p s k fault ≡ reads_into q s k fault
    reads_into_same k None =
        ap (λ (m : SourceState). answered q s (record m { input = (with_input p s k).input }) k)
        (put_same s (a1 s) 0 (take k s.input))
    reads_into_same k (Some why) = refl

    reads_same : (x : Val) → reads p s x ≡ reads q s x
    reads_same (Int n) =
        reads_into_same (consumed_count s n) (first_below (unwritten p s) (consumed_count s n))
        ∙ ap (λ (f : ℕ → Option ℕ). reads_into q s (consumed_count s n) (first_below f (consumed_count s n)))
        (λ t i. unwritten_same i t)
    reads_same x = refl

    calls_same : (x : Val) → calls_by p s x ≡ calls_by q s x
    calls_same (Int n) =
        λ t. if n == 93 then exits s (a0 s)
        else (if n == 64 then writes_same (a2 s) t else (if n == 63 then reads_same (a2 s) t else answered p s s 4294967258))
    calls_same x = refl

    -- ---- instructions

    jumps_by_same : (s' : SourceState) (x : Val) → jumps_by p s x s' ≡ jumps_by q s x s'
    jumps_by_same s' (Int a) = refl
    jumps_by_same s' x = refl

    branches_same : (off : ℤ) (o : Option Bool) → branches p s off o ≡ branches q s off o
    branches_same off (Some true) = refl
    branches_same off (Some false) = refl
    branches_same off None = refl

    acts_same : (i : Instr) (site : Option Target) → acts p s i site ≡ acts q s i site
    acts_same (Lui rd imm) site = refl
    acts_same (Auipc rd imm) site = refl
    acts_same (Jal rd off) site = refl
    acts_same (Jalr rd rs1 imm) site =
        jumps_by_same (wrote s rd (Int (s.pc + 4))) (op_imm p.objects Addi (value s.regs rs1) imm)
    acts_same (Branch kind rs1 rs2 off) site =
        branches_same off (compare p.objects kind (value s.regs rs1) (value s.regs rs2))
    acts_same (Load kind rd rs1 imm) site =
        loads_same kind rd (load_place p s kind rs1 imm site) (read_fault (load_place p s kind rs1 imm site))
        ∙ ap (λ w. loads_from q s kind rd w (read_fault w)) (place_same (load_width kind) site (value s.regs rs1) imm)
    acts_same (Store kind rs1 rs2 imm) site =
        stores_same kind (value s.regs rs2) (store_place p s kind rs1 imm site) (write_fault p (store_place p s kind rs1 imm site))
        ∙ ap (stores_to q s kind (value s.regs rs2) (store_place p s kind rs1 imm site)) (write_same (store_place p s kind rs1 imm site))
        ∙ ap (λ w. stores_to q s kind (value s.regs rs2) w (write_fault q w)) (place_same (store_width kind) site (value s.regs rs1) imm)
    acts_same (OpImm kind rd rs1 imm) None = refl
    acts_same (OpImm kind rd rs1 imm) (Some t) = refl
    acts_same (OpReg kind rd rs1 rs2) site = refl
    acts_same (Fence bits) site = refl
    acts_same (FenceI bits) site = refl
    acts_same Ecall site = calls_same (a7 s)
    acts_same Ebreak site = refl

    one_same : (read : Option Instr) → one_word p s read ≡ one_word q s read
    one_same None = refl
    one_same (Some i) = acts_same i (p.site s.pc)

    pub next_same : (read : Option Instr) → next_state p s read ≡ next_state q s read
    next_same read = λ t. if p.is_pair s.pc then calls_pair p s else one_same read t

    -- ---- all steps are paired

    plain : (x : Val) → is_by_auipc ByLui x ≡ false
    plain (Hi o d) = refl
    plain x = refl

    takes_none : (os : Objects) (kind : RegKind) (x y : Val) → takes_low os kind ByLui x ByLui y ≡ false
    takes_none os kind x y = rw (plain x, plain y) (and-false (takes_low_bits kind))

    site_paired : (rs1 : ℕ) (site : Option Target) → is_paired_site q s at_start rs1 site ≡ true
    site_paired rs1 None = refl
    site_paired rs1 (Some t) = ap not (plain (value s.regs rs1))

    imm_paired : (kind : RegKind) (rs1 : ℕ) (site : Option Target) → is_paired_site q s at_start rs1 site && not (uses_base q s at_start kind rs1 site) ≡ true
    imm_paired kind rs1 None = ap not (takes_none p.objects kind (value s.regs rs1) (Int 0))
    imm_paired kind rs1 (Some t) = rw (plain (value s.regs rs1)) refl

    by_paired : (i : Instr) → is_paired_by q s at_start i ≡ true
    by_paired (OpImm kind rd rs1 imm) = imm_paired (operation_of kind) rs1 (p.site s.pc)
    by_paired (OpReg kind rd rs1 rs2) =
        ap not (takes_none p.objects kind (value s.regs rs1) (value s.regs rs2))
    by_paired (Load kind rd rs1 imm) = site_paired rs1 (p.site s.pc)
    by_paired (Store kind rs1 rs2 imm) = site_paired rs1 (p.site s.pc)
    by_paired i = refl

    pub paired : (read : Option Instr) → is_paired_step q s at_start read ≡ true
    paired (Some i) = ap (λ b. p.is_pair s.pc || b) (by_paired i) ∙ or-true (p.is_pair s.pc)
    paired None = refl

  -- ---- so all runs are runs of paired steps, where the origins are set to LUI before each

  unnamed_from : (o : Outcome) (n : ℕ) (s x s' : SourceState) (e : Event) → s.outcome ≡ o → StepFrom o p s e x → Steps p n x s' → Steps p (suc n) s s' → ((y : SourceState) → Steps p n y s' → PairedBy (λ k. at_start) q n y at_start s') → PairedFrom o (λ y k u. PairedBy (λ k. at_start) q n y at_start u) q s at_start s'
  unnamed_from GoesOn n s x s' e is step rest whole more =
      let read : Option Instr = step.0 in
      let same : x ≡ next_state q s read = step.1.state ∙ next_same s read in
      (read, (step.1.meant, (paired s read, more (next_state q s read) (subst (λ (y : SourceState). Steps p n y s') same rest))))
  unnamed_from (Exited code) n s x s' e is step rest whole more = ended_steps p (suc n) s s' (subst HasEnded (sym is) tt) whole
  unnamed_from (Trapped pc) n s x s' e is step rest whole more = ended_steps p (suc n) s s' (subst HasEnded (sym is) tt) whole
  unnamed_from (AddressFault pc why) n s x s' e is step rest whole more =
      ended_steps p (suc n) s s' (subst HasEnded (sym is) tt) whole

  pub unnamed_paired : (n : ℕ) (s s' : SourceState) → Steps p n s s' → PairedBy (λ k. at_start) q n s at_start s'
  unnamed_paired zero s s' steps = steps
  unnamed_paired (suc n) s s' steps =
      unnamed_from s.outcome n s steps.0 s' steps.1.0.0 refl steps.1.0.1 steps.1.1 steps (λ y rest. unnamed_paired n y s' rest)

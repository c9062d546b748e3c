-- A step leaves addresses where they may be behind its unit, or ends the machine and leaves all as it was.
use Rattle.std.proofs.Common.{◌≡◌, ◌∙◌, ◌⊎◌, inl, inr, ℕ, zero, suc, ◌+◌, ◌*◌, ◌/◌, ◌%◌, ◌<◌, ◌==◌, nat_lt, Bool, true, false, take, List, ◌++◌, Option, Some, None, ℤ, refl, sym, subst, arith}
use Rattle.std.proofs.lemmas.Bool.{cond_both}
use Rattle.list_checks.specs.First.{first_below}
use Rattle.rv32im.specs.Words.{plus, offset}
use Rattle.rv32im.specs.Fields.{rd_of}
use Rattle.rv32im.specs.Table.{Means}
use Rattle.rv32im.specs.declared.instructions.Instr.{Instr}
use Rattle.rv32im.specs.declared.instructions.Instr.TheVariants.{Lui, Auipc, Jal, Jalr, Branch, Load, Store, OpImm, OpReg, Fence, FenceI, Ecall, Ebreak}
use Rattle.rv32im.specs.declared.instructions.ImmKind.{ImmKind}
use Rattle.rv32im.specs.declared.instructions.ImmKind.TheVariants.{Addi}
use Rattle.rv32im.specs.declared.instructions.LoadKind.{LoadKind}
use Rattle.rv32im.specs.declared.instructions.LoadKind.TheVariants.{Lb, Lh, Lw, Lbu, Lhu}
use Rattle.rv32im.specs.declared.instructions.RegKind.{RegKind}
use Rattle.rv32im.specs.declared.instructions.StoreKind.{StoreKind}
use Rattle.object_graph.specs.declared.parts.SiteKind.{SiteKind}
use Rattle.object_graph.specs.declared.parts.SiteKind.TheVariants.{Hi, LowI, LowS}
use Rattle.object_graph.specs.declared.parts.Site.{Site}
use Rattle.cell_values.specs.Operations.{op_imm, op_reg}
use Rattle.cell_values.specs.Comparisons.{compare}
use Rattle.cell_values.specs.declared.values.Val.{Val}
use Rattle.cell_values.specs.declared.values.Val.TheVariants.{Int, Unknown}
use Rattle.dataflow.specs.Points.{IsHolder, MakesIn, Makes, Moves, Sums, Stores, Loads, Defines}
use Rattle.dataflow.specs.Flows.{written}
use Rattle.dataflow.proofs.RuleLemmas.{defined_written}
use Rattle.relocator.specs.Gathering.{CanMake}
use Rattle.object_machine.specs.declared.events.Outcome.{Outcome}
use Rattle.object_machine.specs.declared.events.Outcome.TheVariants.{GoesOn, Exited, Trapped, AddressFault}
use Rattle.object_machine.specs.Program.{Program, Target}
use Rattle.object_machine.specs.State.{SourceState, value, wrote, faulted}
use Rattle.object_machine.specs.Places.{Where, read_fault, write_fault}
use Rattle.object_machine.specs.Memory.{loaded_value, stored_at, stored_cells}
use Rattle.object_machine.specs.Flow.{falls_on, jumps, jumps_by, branches, pair_link, calls_pair}
use Rattle.object_machine.specs.Calls.{a0, a1, a2, a7, exits, plain_bytes, appends, unread, writes_from, writes, consumed_count, unwritten, with_input, reads_into, reads, answered, calls_number, calls_by}
use Rattle.object_machine.specs.Step.{upper_value, imm_result, loads_from, stores_to, load_place, store_place, acts, one_word, next_state}
use Rattle.object_machine.specs.Units.{target_of}
use Rattle.result_laws.specs.Holds.{ValueIsHeld, AreHeld}
use Rattle.result_laws.proofs.Values.{value_more, reg_in, imm_in, low_in, split_in}
use Rattle.result_laws.proofs.HeldMemory.{store_held, input_held, load_held, stored_goes, input_goes}
use Rattle.result_laws.proofs.Registers.{write_held, kept_held}

-- ---- what a unit does with addresses

-- what may be held behind it, by what may be held before it
pub record UnitRules (site : Option Site) (i : Instr) (before after : ℕ → ℕ → Type 0) (escapes : ℕ → Type 0) : Type 0 where
  pub makes : (x o : ℕ) → IsHolder x → Makes site (Some i) o x → after x o
  pub moves : (x z o : ℕ) → IsHolder z → Moves site (Some i) x z → before x o → after z o
  pub sums : (x z o : ℕ) → IsHolder z → Sums (Some i) x z → before x o → after z o
  pub stores : (x o : ℕ) → Stores (Some i) x → before x o → escapes o
  pub loads : (z o : ℕ) → IsHolder z → Loads (Some i) z → escapes o → after z o
  pub keeps : (x o : ℕ) → (Defines (Some i) x → ⊥) → before x o → after x o

-- its instruction makes the part that its site says
abbrev pub FitsPart : Option Site → Instr → Type 0
FitsPart None i = Unit {0}
FitsPart (Some s) i = CanMake s.kind i

lui_makes : (part : SiteKind) (rd imm : ℕ) → CanMake part (Lui rd imm) → MakesIn part (Some (Lui rd imm)) rd
lui_makes Hi rd imm can = refl
lui_makes LowI rd imm can = absurd can
lui_makes LowS rd imm can = absurd can

auipc_makes : (part : SiteKind) (rd imm : ℕ) → CanMake part (Auipc rd imm) → MakesIn part (Some (Auipc rd imm)) rd
auipc_makes Hi rd imm can = refl
auipc_makes LowI rd imm can = absurd can
auipc_makes LowS rd imm can = absurd can

low_makes : (part : SiteKind) (kind : ImmKind) (rd rs1 : ℕ) (imm : ℤ) → CanMake part (OpImm kind rd rs1 imm) → MakesIn part (Some (OpImm kind rd rs1 imm)) rd
low_makes LowI Addi rd rs1 imm can = refl
low_makes part kind rd rs1 imm can = absurd can

word_loads : (kind : LoadKind) (rd rs1 : ℕ) (imm : ℤ) → kind ≡ Lw → Loads (Some (Load kind rd rs1 imm)) rd
word_loads Lw rd rs1 imm is = refl
word_loads Lb rd rs1 imm is = cc
word_loads Lh rd rs1 imm is = cc
word_loads Lbu rd rs1 imm is = cc
word_loads Lhu rd rs1 imm is = cc

positive : (x : ℕ) → (x ≡ 0 → ⊥) → 0 < x
positive zero some = absurd (some refl)
positive (suc x) some = omega arith

holder : (w x : ℕ) → x ≡ rd_of w → (x ≡ 0 → ⊥) → IsHolder x
holder w x is some = (positive x some, omega (arith, is))

-- ---- behind a step

-- a step that leads from `s` to `n` leaves all where it was, or goes on with addresses where they may be behind the unit
abbrev pub Onward : (ℕ → ℕ → Type 0) → (ℕ → ℕ → Type 0) → (ℕ → Type 0) → SourceState → SourceState → Type 0
Onward before after escapes s n =
    (AreHeld before escapes n × (n.pc ≡ s.pc)) ⊎ (AreHeld after escapes n × (n.outcome ≡ GoesOn))

module _ (p : Program) (before after : ℕ → ℕ → Type 0) (escapes : ℕ → Type 0) (s : SourceState) (held : AreHeld before escapes s) (going : s.outcome ≡ GoesOn) where
  abbrev Leads : SourceState → Type 0
  Leads n = Onward before after escapes s n

  abbrev Rules : Option Site → Instr → Type 0
  Rules site i = UnitRules site i before after escapes

  stopped : (o : Outcome) → Leads (record s { outcome = o })
  stopped o = inl (record { regs = held.regs; fixed = held.fixed; cells = held.cells }, refl)

  faults : (why : ℕ) → Leads (faulted s why)
  faults why = stopped (AddressFault s.pc why)

  -- so is the state that a unit leaves, but for the pc
  record Went (t : SourceState) : Type 0 where
    held_there : AreHeld after escapes t
    goes : t.outcome ≡ s.outcome

  moved : (t : SourceState) (pc : ℕ) → Went t → Leads (record t { pc = pc })
  moved t pc went =
      inr
      (record { regs = went.held_there.regs; fixed = went.held_there.fixed; cells = went.held_there.cells }, went.goes ∙ going)

  falls_lead : (t : SourceState) → Went t → Leads (falls_on p s t)
  falls_lead t went =
      cond_both (p.falls s.pc) (record t { pc = s.pc + 4 }) (faulted s 6) (λ (n : SourceState). Onward before after escapes s n)
      (λ falls. moved t (s.pc + 4) went) (λ other. faults 6)

  jumps_lead : (t : SourceState) (a : ℕ) → Went t → Leads (jumps p s a t)
  jumps_lead t a went =
      cond_both (p.is_block a) (record t { pc = a }) (faulted s 6) (λ (n : SourceState). Onward before after escapes s n)
      (λ block. moved t a went) (λ other. faults 6)

  jumps_by_lead : (t : SourceState) (x : Val) → Went t → Leads (jumps_by p s x t)
  jumps_by_lead t (Int a) went =
      cond_both (p.is_reached (a / 2 * 2)) (record t { pc = a / 2 * 2 }) (faulted s 6) (λ (n : SourceState). Onward before after escapes s n)
      (λ reached. moved t (a / 2 * 2) went) (λ other. faults 6)
  jumps_by_lead t x went = faults 6

  branches_lead : (off : ℤ) (known : Option Bool) → Went s → Leads (branches p s off known)
  branches_lead off (Some true) went = jumps_lead s (offset s.pc off) went
  branches_lead off (Some false) went = jumps_lead s (s.pc + 4) went
  branches_lead off None went = faults 7

  -- ---- registers

  -- a register that an instruction writes, in a state in which no other was
  written_in : (site : Option Site) (i : Instr) (rd : ℕ) (x : Val) (t : SourceState) → Rules site i → written (Some i) ≡ rd → ((rd ≡ 0 → ⊥) → ValueIsHeld (after rd) escapes x) → AreHeld before escapes t → t.outcome ≡ s.outcome → Went (wrote t rd x)
  written_in site i rd x t rules is new there same =
      record {
        held_there =
            write_held before after escapes rd x t
            (λ k o some other. rules.keeps k o (λ defines. other (defined_written (Some i) k defines ∙ is))) new there;
        goes = same;
      }

  unwritten_in : (site : Option Site) (i : Instr) (t : SourceState) → Rules site i → written (Some i) ≡ 0 → AreHeld before escapes t → t.outcome ≡ s.outcome → Went t
  unwritten_in site i t rules is there same =
      record {
        held_there =
            kept_held before after escapes t
            (λ k o some. rules.keeps k o (λ defines. some (defined_written (Some i) k defines ∙ is))) there;
        goes = same;
      }

  upper_held : (site : Option Site) (rd imm n : ℕ) → Rules site (Lui rd imm) → FitsPart site (Lui rd imm) → IsHolder rd → ValueIsHeld (after rd) escapes (upper_value (target_of site) n)
  upper_held None rd imm n rules fits is = tt
  upper_held (Some t) rd imm n rules fits is = rules.makes rd t.object is (refl, lui_makes t.kind rd imm fits)

  distance_held : (site : Option Site) (rd imm n : ℕ) → Rules site (Auipc rd imm) → FitsPart site (Auipc rd imm) → IsHolder rd → ValueIsHeld (after rd) escapes (upper_value (target_of site) n)
  distance_held None rd imm n rules fits is = tt
  distance_held (Some t) rd imm n rules fits is = rules.makes rd t.object is (refl, auipc_makes t.kind rd imm fits)

  imm_held : (site : Option Site) (kind : ImmKind) (rd rs1 : ℕ) (imm : ℤ) → Rules site (OpImm kind rd rs1 imm) → FitsPart site (OpImm kind rd rs1 imm) → IsHolder rd → ValueIsHeld (after rd) escapes (imm_result p kind (value s.regs rs1) imm (target_of site))
  imm_held None kind rd rs1 imm rules fits is =
      imm_in p.objects (after rd) escapes kind (value s.regs rs1) imm
      (λ on. value_more (before rs1) (after rd) escapes (λ o. rules.moves rs1 rd o is (on, refl, refl)) (value s.regs rs1) (held.regs rs1))
  imm_held (Some t) kind rd rs1 imm rules fits is =
      low_in p.objects (after rd) escapes (value s.regs rs1) t.object t.offset
      (rules.makes rd t.object is (refl, low_makes t.kind kind rd rs1 imm fits))

  reg_held : (site : Option Site) (kind : RegKind) (rd rs1 rs2 : ℕ) → Rules site (OpReg kind rd rs1 rs2) → IsHolder rd → ValueIsHeld (after rd) escapes (op_reg p.objects kind (value s.regs rs1) (value s.regs rs2))
  reg_held site kind rd rs1 rs2 rules is =
      reg_in p.objects (after rd) escapes kind (value s.regs rs1) (value s.regs rs2)
      (λ on. value_more (before rs1) (after rd) escapes (λ o. rules.sums rs1 rd o is (on, inl refl, refl)) (value s.regs rs1) (held.regs rs1))
      (λ on. value_more (before rs2) (after rd) escapes (λ o. rules.sums rs2 rd o is (on, inr refl, refl)) (value s.regs rs2) (held.regs rs2))

  -- ---- memory

  loads_lead : (site : Option Site) (kind : LoadKind) (rd rs1 : ℕ) (imm : ℤ) (m : ℕ) (w : Where) (fault : Option ℕ) → Rules site (Load kind rd rs1 imm) → rd ≡ rd_of m → Leads (loads_from p s kind rd w fault)
  loads_lead site kind rd rs1 imm m w None rules is =
      let x : Val = loaded_value kind s w in
      falls_lead (wrote s rd x)
      (written_in site (Load kind rd rs1 imm) rd x s rules refl
      (λ some. load_held before escapes kind (after rd) s w (λ word o. rules.loads rd o (holder m rd is some) (word_loads kind rd rs1 imm word)) held)
      held refl)
  loads_lead site kind rd rs1 imm m w (Some why) rules is = faults why

  stores_lead : (site : Option Site) (kind : StoreKind) (rs1 rs2 : ℕ) (imm : ℤ) (w : Where) (fault : Option ℕ) → Rules site (Store kind rs1 rs2 imm) → Leads (stores_to p s kind (value s.regs rs2) w fault)
  stores_lead site kind rs1 rs2 imm w None rules =
      let x : Val = value s.regs rs2 in
      let there = store_held before escapes kind x (split_in (before rs2) escapes x (λ o. rules.stores rs2 o refl) (held.regs rs2)) s w held in
      falls_lead (stored_at s w (stored_cells kind x))
      (unwritten_in site (Store kind rs1 rs2 imm) (stored_at s w (stored_cells kind x)) rules refl there (stored_goes s w (stored_cells kind x)))
  stores_lead site kind rs1 rs2 imm w (Some why) rules = faults why

  -- ---- calls

  module _ (site : Option Site) (rules : Rules site Ecall) where
    answers_lead : (t : SourceState) (n : ℕ) → AreHeld before escapes t → t.outcome ≡ s.outcome → Leads (answered p s t n)
    answers_lead t n there same =
        falls_lead (wrote t 10 (Int n)) (written_in site Ecall 10 (Int n) t rules refl (λ some. tt) there same)

    exits_lead : (x : Val) → Leads (exits s x)
    exits_lead (Int n) = stopped (Exited (n % 256))
    exits_lead x = faults 8

    appends_lead : (n : ℕ) (bytes : Option (List ℕ)) → Leads (appends p s n bytes)
    appends_lead n (Some bytes) =
        answers_lead (record s { output = s.output ++ bytes }) n
        (record { regs = held.regs; fixed = held.fixed; cells = held.cells }) refl
    appends_lead n None = faults 8

    writes_from_lead : (n : ℕ) (fault : Option ℕ) → Leads (writes_from p s n fault)
    writes_from_lead n None = appends_lead n (plain_bytes p s n)
    writes_from_lead n (Some why) = faults why

    writes_lead : (x : Val) → Leads (writes p s x)
    writes_lead (Int n) = writes_from_lead n (first_below (unread p s) n)
    writes_lead x = faults 8

    taken_held : (k : ℕ) → AreHeld before escapes (with_input p s k)
    taken_held k =
        let put = input_held before escapes p (take k s.input) s (a1 s) 0 held in
        record { regs = put.regs; fixed = put.fixed; cells = put.cells }

    reads_into_lead : (k : ℕ) (fault : Option ℕ) → Leads (reads_into p s k fault)
    reads_into_lead k None =
        answers_lead (with_input p s k) k (taken_held k) (input_goes p (take k s.input) s (a1 s) 0)
    reads_into_lead k (Some why) = faults why

    reads_lead : (x : Val) → Leads (reads p s x)
    reads_lead (Int n) = reads_into_lead (consumed_count s n) (first_below (unwritten p s) (consumed_count s n))
    reads_lead x = faults 8

    number_leads : (n : ℕ) → Leads (calls_number p s n)
    number_leads n =
        cond_both (n == 93) (exits s (a0 s)) _ (λ (q : SourceState). Onward before after escapes s q) (λ is. exits_lead (a0 s))
        (λ other. cond_both (n == 64) (writes p s (a2 s)) _ (λ (q : SourceState). Onward before after escapes s q)
        (λ is. writes_lead (a2 s))
        (λ none. cond_both (n == 63) (reads p s (a2 s)) (answered p s s 4294967258) (λ (q : SourceState). Onward before after escapes s q)
        (λ is. reads_lead (a2 s)) (λ unknown. answers_lead s 4294967258 held refl)))

    calls_lead : (x : Val) → Leads (calls_by p s x)
    calls_lead (Int n) = number_leads n
    calls_lead x = faults 8

  -- ---- all kinds

  acts_lead : (site : Option Site) (i : Instr) (m : ℕ) → Rules site i → FitsPart site i → Means m i → Leads (acts p s i (target_of site))
  acts_lead site (Lui rd imm) m rules fits means =
      let x : Val = upper_value (target_of site) (imm * 4096 % 4294967296) in
      falls_lead (wrote s rd x)
      (written_in site (Lui rd imm) rd x s rules refl
      (λ some. upper_held site rd imm (imm * 4096 % 4294967296) rules fits (holder m rd means.1 some)) held refl)
  acts_lead site (Auipc rd imm) m rules fits means =
      let x : Val = upper_value (target_of site) (plus s.pc (imm * 4096)) in
      falls_lead (wrote s rd x)
      (written_in site (Auipc rd imm) rd x s rules refl
      (λ some. distance_held site rd imm (plus s.pc (imm * 4096)) rules fits (holder m rd means.1 some)) held refl)
  acts_lead site (Jal rd off) m rules fits means =
      jumps_lead (wrote s rd (Int (s.pc + 4))) (offset s.pc off)
      (written_in site (Jal rd off) rd (Int (s.pc + 4)) s rules refl (λ some. tt) held refl)
  acts_lead site (Jalr rd rs1 imm) m rules fits means =
      jumps_by_lead (wrote s rd (Int (s.pc + 4))) (op_imm p.objects Addi (value s.regs rs1) imm)
      (written_in site (Jalr rd rs1 imm) rd (Int (s.pc + 4)) s rules refl (λ some. tt) held refl)
  acts_lead site (Branch kind rs1 rs2 off) m rules fits means =
      branches_lead off (compare p.objects kind (value s.regs rs1) (value s.regs rs2))
      (unwritten_in site (Branch kind rs1 rs2 off) s rules refl held refl)
  acts_lead site (Load kind rd rs1 imm) m rules fits means =
      let w : Where = load_place p s kind rs1 imm (target_of site) in
      loads_lead site kind rd rs1 imm m w (read_fault w) rules means.2
  acts_lead site (Store kind rs1 rs2 imm) m rules fits means =
      let w : Where = store_place p s kind rs1 imm (target_of site) in
      stores_lead site kind rs1 rs2 imm w (write_fault p w) rules
  acts_lead site (OpImm kind rd rs1 imm) m rules fits means =
      let x : Val = imm_result p kind (value s.regs rs1) imm (target_of site) in
      falls_lead (wrote s rd x)
      (written_in site (OpImm kind rd rs1 imm) rd x s rules refl
      (λ some. imm_held site kind rd rs1 imm rules fits (holder m rd means.2 some)) held refl)
  acts_lead site (OpReg kind rd rs1 rs2) m rules fits means =
      let x : Val = op_reg p.objects kind (value s.regs rs1) (value s.regs rs2) in
      falls_lead (wrote s rd x)
      (written_in site (OpReg kind rd rs1 rs2) rd x s rules refl
      (λ some. reg_held site kind rd rs1 rs2 rules (holder m rd means.3 some)) held refl)
  acts_lead site (Fence bits) m rules fits means =
      falls_lead s (unwritten_in site (Fence bits) s rules refl held refl)
  acts_lead site (FenceI bits) m rules fits means =
      falls_lead s (unwritten_in site (FenceI bits) s rules refl held refl)
  acts_lead site Ecall m rules fits means = calls_lead site rules (a7 s)
  acts_lead site Ebreak m rules fits means = stopped (Trapped s.pc)

  link_held : (may : ℕ → Type 0) → ValueIsHeld may escapes (pair_link p s)
  link_held may =
      cond_both (nat_lt 0 (rd_of (p.word (s.pc + 4)))) (Int (s.pc + 8)) Unknown (ValueIsHeld may escapes) (λ links. tt) (λ other. tt)

  pair_leads : (site : Option Site) (imm : ℕ) → Rules site (Auipc (rd_of (p.word s.pc)) imm) → Leads (calls_pair p s)
  pair_leads site imm rules =
      let rd : ℕ = rd_of (p.word s.pc) in
      jumps_lead (wrote s rd (pair_link p s)) (p.goes s.pc)
      (written_in site (Auipc rd imm) rd (pair_link p s) s rules refl (λ some. link_held (after rd)) held refl)

  -- what is known of the unit at the pc, where it is one word with a meaning
  pub record IsRuled (i : Instr) : Type 0 where
    pub site : Option Site
    pub target : p.site s.pc ≡ target_of site
    pub rules : UnitRules site i before after escapes
    pub fits : FitsPart site i
    pub means : Means (p.word s.pc) i

  -- and where it is a call of two words
  pub record IsPairRuled : Type 0 where
    pub site : Option Site
    pub upper : ℕ
    pub rules : UnitRules site (Auipc (rd_of (p.word s.pc)) upper) before after escapes

  word_leads : (read : Option Instr) → ((i : Instr) → read ≡ Some i → IsRuled i) → Leads (one_word p s read)
  word_leads None ruled = stopped (Trapped s.pc)
  word_leads (Some i) ruled =
      let is = ruled i refl in
      subst (λ (t : Option Target). Onward before after escapes s (acts p s i t)) (sym is.target)
      (acts_lead is.site i (p.word s.pc) is.rules is.fits is.means)

  pub next_leads : (read : Option Instr) → (p.is_pair s.pc ≡ true → IsPairRuled) → (p.is_pair s.pc ≡ false → (i : Instr) → read ≡ Some i → IsRuled i) → Onward before after escapes s (next_state p s read)
  next_leads read pair single =
      cond_both (p.is_pair s.pc) (calls_pair p s) (one_word p s read) (λ (n : SourceState). Onward before after escapes s n)
      (λ is. let ruled = pair is in pair_leads ruled.site ruled.upper ruled.rules)
      (λ is. word_leads read (single is))

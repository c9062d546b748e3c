-- Where a unit leads: the machine ends, or goes on with the next word, or with a block.
use Rattle.std.proofs.Common.{◌≡◌, ◌⊎◌, inl, inr, ℕ, ◌+◌, ◌*◌, ◌/◌, ◌%◌, ◌==◌, Bool, true, false, if◌then◌else◌, List, ◌++◌, Option, Some, None, ℤ, refl, sym, subst}
use Rattle.list_checks.specs.First.{first_below}
use Rattle.rv32im.specs.Words.{plus, offset}
use Rattle.rv32im.specs.declared.instructions.Instr.{Instr}
use Rattle.rv32im.specs.declared.instructions.Instr.TheVariants.{Lui, Auipc, Jal, Jalr, Branch, Load, Store, OpImm, OpReg, Fence, FenceI, Ecall, Ebreak}
use Rattle.rv32im.specs.declared.instructions.ImmKind.TheVariants.{Addi}
use Rattle.rv32im.specs.declared.instructions.LoadKind.{LoadKind}
use Rattle.rv32im.specs.declared.instructions.StoreKind.{StoreKind}
use Rattle.cell_values.specs.Operations.{op_imm, op_reg}
use Rattle.cell_values.specs.Comparisons.{compare}
use Rattle.cell_values.specs.declared.values.Val.{Val}
use Rattle.cell_values.specs.declared.values.Val.TheVariants.{Int, Addr, Hi, Low, Piece, Unknown}
use Rattle.object_machine.specs.declared.events.Event.{Event}
use Rattle.object_machine.specs.declared.events.Outcome.{Outcome}
use Rattle.object_machine.specs.declared.events.Outcome.TheVariants.{GoesOn, Exited, Trapped, AddressFault}
use Rattle.object_machine.specs.Program.{Program, Target}
use Rattle.object_machine.specs.State.{SourceState, value, wrote, faulted}
use Rattle.object_machine.specs.Places.{Where, read_fault, write_fault}
use Rattle.object_machine.specs.Memory.{loaded_value, stored_at, stored_cells}
use Rattle.object_machine.specs.Flow.{falls_on, jumps, jumps_by, branches, pair_link, calls_pair}
use Rattle.object_machine.specs.Calls.{a0, a2, a7, answered, exits, plain_bytes, appends, unread, writes_from, writes, consumed_count, unwritten, with_input, reads_into, reads, calls_number, calls_by}
use Rattle.object_machine.specs.Step.{upper_value, imm_result, loads_from, stores_to, load_place, store_place, acts, one_word, next_state, Performs}
use Rattle.object_machine.specs.Runs.{HasEnded}
use Rattle.object_machine.specs.Units.{leads_on}

-- ---- a state behind `s`: of a unit that leads to the next word, or of one that leads to a block

abbrev pub Leads : Bool → Program → SourceState → SourceState → Type 0
Leads true p s t = HasEnded t.outcome ⊎ ((t.pc ≡ s.pc + 4) × (p.falls s.pc ≡ true))
Leads false p s t = HasEnded t.outcome ⊎ (p.is_block t.pc ≡ true)

abbrev pub leads_read : Option Instr → Bool
leads_read None = false
leads_read (Some i) = leads_on i

abbrev pub straight : Program → ℕ → Option Instr → Bool
straight p a read = if p.is_pair a then false else leads_read read

abbrev BlocksReached : Program → Type 0
BlocksReached p = (a : ℕ) → p.is_reached a ≡ true → p.is_block a ≡ true

lead_if : (l : Bool) (p : Program) (s x y : SourceState) (b : Bool) → (b ≡ true → Leads l p s x) → Leads l p s y → Leads l p s (if b then x else y)
lead_if l p s x y true first other = first refl
lead_if l p s x y false first other = other

ends : (l : Bool) (p : Program) (s : SourceState) (why : ℕ) → Leads l p s (faulted s why)
ends true p s why = inl tt
ends false p s why = inl tt

falls_lead : (p : Program) (s t : SourceState) → Leads true p s (falls_on p s t)
falls_lead p s t = lead_if true p s (record t { pc = s.pc + 4 }) (faulted s 6) (p.falls s.pc) (λ on. inr (refl, on)) (ends true p s 6)

jumps_lead : (p : Program) (s : SourceState) (a : ℕ) (t : SourceState) → Leads false p s (jumps p s a t)
jumps_lead p s a t = lead_if false p s (record t { pc = a }) (faulted s 6) (p.is_block a) (λ on. inr on) (ends false p s 6)

jumps_by_lead : (p : Program) (s : SourceState) (x : Val) (t : SourceState) → BlocksReached p → Leads false p s (jumps_by p s x t)
jumps_by_lead p s (Int a) t reached =
    lead_if false p s (record t { pc = a / 2 * 2 }) (faulted s 6) (p.is_reached (a / 2 * 2)) (λ on. inr (reached (a / 2 * 2) on)) (ends false p s 6)
jumps_by_lead p s (Addr o d) t reached = ends false p s 6
jumps_by_lead p s (Hi o d) t reached = ends false p s 6
jumps_by_lead p s (Low n) t reached = ends false p s 6
jumps_by_lead p s (Piece hi o d k) t reached = ends false p s 6
jumps_by_lead p s Unknown t reached = ends false p s 6

branches_lead : (p : Program) (s : SourceState) (off : ℤ) (consumed : Option Bool) → Leads false p s (branches p s off consumed)
branches_lead p s off (Some true) = jumps_lead p s (offset s.pc off) s
branches_lead p s off (Some false) = jumps_lead p s (s.pc + 4) s
branches_lead p s off None = ends false p s 7

loads_lead : (p : Program) (s : SourceState) (kind : LoadKind) (rd : ℕ) (w : Where) (fault : Option ℕ) → Leads true p s (loads_from p s kind rd w fault)
loads_lead p s kind rd w None = falls_lead p s (wrote s rd (loaded_value kind s w))
loads_lead p s kind rd w (Some why) = ends true p s why

stores_lead : (p : Program) (s : SourceState) (kind : StoreKind) (x : Val) (w : Where) (fault : Option ℕ) → Leads true p s (stores_to p s kind x w fault)
stores_lead p s kind x w None = falls_lead p s (stored_at s w (stored_cells kind x))
stores_lead p s kind x w (Some why) = ends true p s why

-- ---- calls of the environment

exits_lead : (p : Program) (s : SourceState) (x : Val) → Leads true p s (exits s x)
exits_lead p s (Int n) = inl tt
exits_lead p s (Addr o d) = ends true p s 8
exits_lead p s (Hi o d) = ends true p s 8
exits_lead p s (Low n) = ends true p s 8
exits_lead p s (Piece hi o d k) = ends true p s 8
exits_lead p s Unknown = ends true p s 8

answered_lead : (p : Program) (s t : SourceState) (n : ℕ) → Leads true p s (answered p s t n)
answered_lead p s t n = falls_lead p s (wrote t 10 (Int n))

appends_lead : (p : Program) (s : SourceState) (n : ℕ) (bytes : Option (List ℕ)) → Leads true p s (appends p s n bytes)
appends_lead p s n (Some bytes) = answered_lead p s (record s { output = s.output ++ bytes }) n
appends_lead p s n None = ends true p s 8

writes_from_lead : (p : Program) (s : SourceState) (n : ℕ) (fault : Option ℕ) → Leads true p s (writes_from p s n fault)
writes_from_lead p s n None = appends_lead p s n (plain_bytes p s n)
writes_from_lead p s n (Some why) = ends true p s why

writes_lead : (p : Program) (s : SourceState) (x : Val) → Leads true p s (writes p s x)
writes_lead p s (Int n) = writes_from_lead p s n (first_below (unread p s) n)
writes_lead p s (Addr o d) = ends true p s 8
writes_lead p s (Hi o d) = ends true p s 8
writes_lead p s (Low n) = ends true p s 8
writes_lead p s (Piece hi o d k) = ends true p s 8
writes_lead p s Unknown = ends true p s 8

reads_into_lead : (p : Program) (s : SourceState) (k : ℕ) (fault : Option ℕ) → Leads true p s (reads_into p s k fault)
reads_into_lead p s k None = answered_lead p s (with_input p s k) k
reads_into_lead p s k (Some why) = ends true p s why

reads_lead : (p : Program) (s : SourceState) (x : Val) → Leads true p s (reads p s x)
reads_lead p s (Int n) = reads_into_lead p s (consumed_count s n) (first_below (unwritten p s) (consumed_count s n))
reads_lead p s (Addr o d) = ends true p s 8
reads_lead p s (Hi o d) = ends true p s 8
reads_lead p s (Low n) = ends true p s 8
reads_lead p s (Piece hi o d k) = ends true p s 8
reads_lead p s Unknown = ends true p s 8

number_lead : (p : Program) (s : SourceState) (n : ℕ) → Leads true p s (calls_number p s n)
number_lead p s n =
    lead_if true p s (exits s (a0 s)) (if n == 64 then writes p s (a2 s) else (if n == 63 then reads p s (a2 s) else answered p s s 4294967258)) (n == 93) (λ on. exits_lead p s (a0 s))
    (lead_if true p s (writes p s (a2 s)) (if n == 63 then reads p s (a2 s) else answered p s s 4294967258) (n == 64) (λ on. writes_lead p s (a2 s))
    (lead_if true p s (reads p s (a2 s)) (answered p s s 4294967258) (n == 63) (λ on. reads_lead p s (a2 s)) (answered_lead p s s 4294967258)))

calls_lead : (p : Program) (s : SourceState) (x : Val) → Leads true p s (calls_by p s x)
calls_lead p s (Int n) = number_lead p s n
calls_lead p s (Addr o d) = ends true p s 8
calls_lead p s (Hi o d) = ends true p s 8
calls_lead p s (Low n) = ends true p s 8
calls_lead p s (Piece hi o d k) = ends true p s 8
calls_lead p s Unknown = ends true p s 8

-- ---- all units

acts_lead : (p : Program) (s : SourceState) (i : Instr) (site : Option Target) → BlocksReached p → Leads (leads_on i) p s (acts p s i site)
acts_lead p s (Lui rd imm) site reached = falls_lead p s (wrote s rd (upper_value site (imm * 4096 % 4294967296)))
acts_lead p s (Auipc rd imm) site reached = falls_lead p s (wrote s rd (upper_value site (plus s.pc (imm * 4096))))
acts_lead p s (Jal rd off) site reached = jumps_lead p s (offset s.pc off) (wrote s rd (Int (s.pc + 4)))
acts_lead p s (Jalr rd rs1 imm) site reached =
    jumps_by_lead p s (op_imm p.objects Addi (value s.regs rs1) imm) (wrote s rd (Int (s.pc + 4))) reached
acts_lead p s (Branch kind rs1 rs2 off) site reached =
    branches_lead p s off (compare p.objects kind (value s.regs rs1) (value s.regs rs2))
acts_lead p s (Load kind rd rs1 imm) site reached =
    loads_lead p s kind rd (load_place p s kind rs1 imm site) (read_fault (load_place p s kind rs1 imm site))
acts_lead p s (Store kind rs1 rs2 imm) site reached =
    stores_lead p s kind (value s.regs rs2) (store_place p s kind rs1 imm site) (write_fault p (store_place p s kind rs1 imm site))
acts_lead p s (OpImm kind rd rs1 imm) site reached =
    falls_lead p s (wrote s rd (imm_result p kind (value s.regs rs1) imm site))
acts_lead p s (OpReg kind rd rs1 rs2) site reached =
    falls_lead p s (wrote s rd (op_reg p.objects kind (value s.regs rs1) (value s.regs rs2)))
acts_lead p s (Fence bits) site reached = falls_lead p s s
acts_lead p s (FenceI bits) site reached = falls_lead p s s
acts_lead p s Ecall site reached = calls_lead p s (a7 s)
acts_lead p s Ebreak site reached = inl tt

word_leads : (p : Program) (s : SourceState) (read : Option Instr) → BlocksReached p → Leads (leads_read read) p s (one_word p s read)
word_leads p s None reached = inl tt
word_leads p s (Some i) reached = acts_lead p s i (p.site s.pc) reached

either_leads : (p : Program) (s x y : SourceState) (l b : Bool) → Leads false p s x → Leads l p s y → Leads (if b then false else l) p s (if b then x else y)
either_leads p s x y l true pair word = pair
either_leads p s x y l false pair word = word

pub next_leads : (p : Program) (s : SourceState) (read : Option Instr) → ((a : ℕ) → p.is_reached a ≡ true → p.is_block a ≡ true) → Leads (straight p s.pc read) p s (next_state p s read)
next_leads p s read reached =
    either_leads p s (calls_pair p s) (one_word p s read) (leads_read read) (p.is_pair s.pc)
    (jumps_lead p s (p.goes s.pc) (wrote s _ (pair_link p s)))
    (word_leads p s read reached)

-- ---- where a step leads that goes on

pub not_ended : (o : Outcome) → o ≡ GoesOn → HasEnded o → ⊥
not_ended GoesOn is ended = ended
not_ended (Exited code) is ended = cc
not_ended (Trapped pc) is ended = cc
not_ended (AddressFault pc why) is ended = cc

goes_either : (l : Bool) (p : Program) (s t : SourceState) → t.outcome ≡ GoesOn → Leads l p s t → (t.pc ≡ s.pc + 4) ⊎ (p.is_block t.pc ≡ true)
goes_either true p s t going (inl ended) = absurd (not_ended t.outcome going ended)
goes_either true p s t going (inr way) = inl way.0
goes_either false p s t going (inl ended) = absurd (not_ended t.outcome going ended)
goes_either false p s t going (inr block) = inr block

pub performs_lead : (p : Program) (s t : SourceState) (e : Event) (read : Option Instr) → ((a : ℕ) → p.is_reached a ≡ true → p.is_block a ≡ true) → Performs p s e t read → t.outcome ≡ GoesOn → (t.pc ≡ s.pc + 4) ⊎ (p.is_block t.pc ≡ true)
performs_lead p s t e read reached performs going =
    let l = straight p s.pc read in
    goes_either l p s t going (subst (Leads l p s) (sym performs.state) (next_leads p s read reached))

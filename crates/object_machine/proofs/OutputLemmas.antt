-- Runs write at the end of the output, and take nothing back.
use Rattle.std.proofs.Common.{◌≡◌, ℕ, zero, suc, ◌+◌, ◌==◌, Bool, true, false, if◌then◌else◌, List, [], ◌∷◌, ◌++◌, take, append_assoc, Option, Some, None, ℤ, refl, sym, ◌∙◌, ap}
use Rattle.std.proofs.lemmas.List.{append-nil}
use Rattle.list_checks.specs.First.{first_below}
use Rattle.rv32im.specs.Fields.{rd_of}
use Rattle.rv32im.specs.declared.instructions.Instr.{Instr}
use Rattle.rv32im.specs.declared.instructions.Instr.TheVariants.{Lui, Auipc, Jal, Jalr, Branch, Load, Store, OpImm, OpReg, Fence, FenceI, Ecall, Ebreak}
use Rattle.rv32im.specs.declared.instructions.LoadKind.{LoadKind}
use Rattle.rv32im.specs.declared.instructions.StoreKind.{StoreKind}
use Rattle.cell_values.specs.declared.values.Val.{Val}
use Rattle.cell_values.specs.declared.values.Val.TheVariants.{Int, Addr, Hi, Low, Piece, Unknown}
use Rattle.cell_values.specs.declared.values.Cell.{Cell}
use Rattle.cell_values.specs.declared.values.Cell.TheVariants.{Byte}
use Rattle.object_machine.specs.declared.events.Event.{Event}
use Rattle.object_machine.specs.declared.events.Outcome.{Outcome}
use Rattle.object_machine.specs.declared.events.Outcome.TheVariants.{GoesOn, Exited, Trapped, AddressFault}
use Rattle.object_machine.specs.Program.{Program, Target}
use Rattle.object_machine.specs.State.{SourceState, wrote, faulted, trapped}
use Rattle.object_machine.specs.Memory.{loaded_value, stored_at, stored_cells}
use Rattle.object_machine.specs.Places.{Where, InFixed, InObject, Nowhere, byte_place, read_fault, write_fault}
use Rattle.object_machine.specs.Flow.{falls_on, jumps, jumps_by, branches, pair_link, calls_pair}
use Rattle.object_machine.specs.Calls.{a0, a1, a2, a7, answered, exits, plain_bytes, unread, appends, writes_from, writes, consumed_count, unwritten, put_input, with_input, reads_into, reads, calls_number, calls_by}
use Rattle.object_machine.specs.Step.{loads_from, stores_to, load_place, store_place, acts, one_word, next_state, Performs, StepFrom, Step}
use Rattle.object_machine.specs.Runs.{Steps}

-- what a state has written begins with what another has
abbrev Extends : SourceState → SourceState → Type 0
Extends s t = (more : List ℕ) × (t.output ≡ s.output ++ more)

stays : (s t : SourceState) → t.output ≡ s.output → Extends s t
stays s t e = ([], e ∙ sym (append-nil s.output))

either : (test : Bool) (s t u : SourceState) → Extends s t → Extends s u → Extends s (if test then t else u)
either true s t u a b = a
either false s t u a b = b

-- ---- ways

falls : (p : Program) (s t : SourceState) → Extends s t → Extends s (falls_on p s t)
falls p s t e = either (p.falls s.pc) s (record t { pc = s.pc + 4 }) (faulted s 6) e (stays s (faulted s 6) refl)

to_block : (p : Program) (s : SourceState) (a : ℕ) (t : SourceState) → Extends s t → Extends s (jumps p s a t)
to_block p s a t e = either (p.is_block a) s (record t { pc = a }) (faulted s 6) e (stays s (faulted s 6) refl)

by_value : (p : Program) (s : SourceState) (x : Val) (t : SourceState) → Extends s t → Extends s (jumps_by p s x t)
by_value p s (Int a) t e = either (p.is_reached _) s _ (faulted s 6) e (stays s (faulted s 6) refl)
by_value p s (Addr o d) t e = stays s (faulted s 6) refl
by_value p s (Hi o d) t e = stays s (faulted s 6) refl
by_value p s (Low k) t e = stays s (faulted s 6) refl
by_value p s (Piece hi o d k) t e = stays s (faulted s 6) refl
by_value p s Unknown t e = stays s (faulted s 6) refl

by_branch : (p : Program) (s : SourceState) (off : ℤ) (consumed : Option Bool) → Extends s (branches p s off consumed)
by_branch p s off None = stays s (faulted s 7) refl
by_branch p s off (Some true) = to_block p s _ s (stays s s refl)
by_branch p s off (Some false) = to_block p s _ s (stays s s refl)

-- ---- loads and stores

by_load : (p : Program) (s : SourceState) (kind : LoadKind) (rd : ℕ) (w : Where) (why : Option ℕ) → Extends s (loads_from p s kind rd w why)
by_load p s kind rd w None = falls p s (wrote s rd (loaded_value kind s w)) (stays s (wrote s rd (loaded_value kind s w)) refl)
by_load p s kind rd w (Some why) = stays s (faulted s why) refl

same_output : (s : SourceState) (w : Where) (cs : List Cell) → (stored_at s w cs).output ≡ s.output
same_output s (InFixed a) cs = refl
same_output s (InObject o d) cs = refl
same_output s (Nowhere why) cs = refl

by_store : (p : Program) (s : SourceState) (kind : StoreKind) (x : Val) (w : Where) (why : Option ℕ) → Extends s (stores_to p s kind x w why)
by_store p s kind x w None =
    falls p s (stored_at s w (stored_cells kind x)) (stays s (stored_at s w (stored_cells kind x)) (same_output s w (stored_cells kind x)))
by_store p s kind x w (Some why) = stays s (faulted s why) refl

-- ---- calls

by_append : (p : Program) (s : SourceState) (n : ℕ) (bytes : Option (List ℕ)) → Extends s (appends p s n bytes)
by_append p s n None = stays s (faulted s 8) refl
by_append p s n (Some bytes) = falls p s (wrote (record s { output = s.output ++ bytes }) 10 (Int n)) (bytes, refl)

by_write_from : (p : Program) (s : SourceState) (n : ℕ) (why : Option ℕ) → Extends s (writes_from p s n why)
by_write_from p s n None = by_append p s n (plain_bytes p s n)
by_write_from p s n (Some why) = stays s (faulted s why) refl

by_write : (p : Program) (s : SourceState) (x : Val) → Extends s (writes p s x)
by_write p s (Int n) = by_write_from p s n (first_below (unread p s) n)
by_write p s (Addr o d) = stays s (faulted s 8) refl
by_write p s (Hi o d) = stays s (faulted s 8) refl
by_write p s (Low k) = stays s (faulted s 8) refl
by_write p s (Piece hi o d k) = stays s (faulted s 8) refl
by_write p s Unknown = stays s (faulted s 8) refl

input_output : (p : Program) (s : SourceState) (x : Val) (i : ℕ) (bytes : List ℕ) → (put_input p s x i bytes).output ≡ s.output
input_output p s x i [] = refl
input_output p s x i (b ∷ bytes) =
    input_output p (stored_at s (byte_place p x i) (Byte b ∷ [])) x (i + 1) bytes ∙ same_output s (byte_place p x i) (Byte b ∷ [])

by_read_into : (p : Program) (s : SourceState) (k : ℕ) (why : Option ℕ) → Extends s (reads_into p s k why)
by_read_into p s k None =
    falls p s (wrote (with_input p s k) 10 (Int k)) (stays s (wrote (with_input p s k) 10 (Int k)) (input_output p s (a1 s) 0 (take k s.input)))
by_read_into p s k (Some why) = stays s (faulted s why) refl

by_read : (p : Program) (s : SourceState) (x : Val) → Extends s (reads p s x)
by_read p s (Int n) = by_read_into p s (consumed_count s n) (first_below (unwritten p s) (consumed_count s n))
by_read p s (Addr o d) = stays s (faulted s 8) refl
by_read p s (Hi o d) = stays s (faulted s 8) refl
by_read p s (Low k) = stays s (faulted s 8) refl
by_read p s (Piece hi o d k) = stays s (faulted s 8) refl
by_read p s Unknown = stays s (faulted s 8) refl

by_exit : (s : SourceState) (x : Val) → Extends s (exits s x)
by_exit s (Int n) = stays s (exits s (Int n)) refl
by_exit s (Addr o d) = stays s (faulted s 8) refl
by_exit s (Hi o d) = stays s (faulted s 8) refl
by_exit s (Low k) = stays s (faulted s 8) refl
by_exit s (Piece hi o d k) = stays s (faulted s 8) refl
by_exit s Unknown = stays s (faulted s 8) refl

by_number : (p : Program) (s : SourceState) (n : ℕ) → Extends s (calls_number p s n)
by_number p s n =
    either (n == 93) s (exits s (a0 s)) _ (by_exit s (a0 s))
    (either (n == 64) s (writes p s (a2 s)) _ (by_write p s (a2 s))
    (either (n == 63) s (reads p s (a2 s)) (answered p s s 4294967258) (by_read p s (a2 s))
    (falls p s (wrote s 10 (Int 4294967258)) (stays s (wrote s 10 (Int 4294967258)) refl))))

by_call : (p : Program) (s : SourceState) (x : Val) → Extends s (calls_by p s x)
by_call p s (Int n) = by_number p s n
by_call p s (Addr o d) = stays s (faulted s 8) refl
by_call p s (Hi o d) = stays s (faulted s 8) refl
by_call p s (Low k) = stays s (faulted s 8) refl
by_call p s (Piece hi o d k) = stays s (faulted s 8) refl
by_call p s Unknown = stays s (faulted s 8) refl

-- ---- steps

writes_one : (p : Program) (s : SourceState) (rd : ℕ) (x : Val) → Extends s (falls_on p s (wrote s rd x))
writes_one p s rd x = falls p s (wrote s rd x) (stays s (wrote s rd x) refl)

acts_extend : (p : Program) (s : SourceState) (i : Instr) (site : Option Target) → Extends s (acts p s i site)
acts_extend p s (Lui rd imm) site = writes_one p s rd _
acts_extend p s (Auipc rd imm) site = writes_one p s rd _
acts_extend p s (Jal rd off) site = to_block p s _ (wrote s rd (Int (s.pc + 4))) (stays s (wrote s rd (Int (s.pc + 4))) refl)
acts_extend p s (Jalr rd rs1 imm) site = by_value p s _ (wrote s rd (Int (s.pc + 4))) (stays s (wrote s rd (Int (s.pc + 4))) refl)
acts_extend p s (Branch kind rs1 rs2 off) site = by_branch p s off _
acts_extend p s (Load kind rd rs1 imm) site = by_load p s kind rd (load_place p s kind rs1 imm site) (read_fault (load_place p s kind rs1 imm site))
acts_extend p s (Store kind rs1 rs2 imm) site = by_store p s kind _ (store_place p s kind rs1 imm site) (write_fault p (store_place p s kind rs1 imm site))
acts_extend p s (OpImm kind rd rs1 imm) site = writes_one p s rd _
acts_extend p s (OpReg kind rd rs1 rs2) site = writes_one p s rd _
acts_extend p s (Fence bits) site = falls p s s (stays s s refl)
acts_extend p s (FenceI bits) site = falls p s s (stays s s refl)
acts_extend p s Ecall site = by_call p s (a7 s)
acts_extend p s Ebreak site = stays s (trapped s) refl

one_extends : (p : Program) (s : SourceState) (read : Option Instr) → Extends s (one_word p s read)
one_extends p s None = stays s (trapped s) refl
one_extends p s (Some i) = acts_extend p s i (p.site s.pc)

next_extends : (p : Program) (s : SourceState) (read : Option Instr) → Extends s (next_state p s read)
next_extends p s read =
    either (p.is_pair s.pc) s (calls_pair p s) (one_word p s read) (to_block p s (p.goes s.pc) (wrote s (rd_of (p.word s.pc)) (pair_link p s)) (stays s (wrote s (rd_of (p.word s.pc)) (pair_link p s)) refl)) (one_extends p s read)

-- along an equation
to : (s t u : SourceState) → t ≡ u → Extends s u → Extends s t
to s t u e x = (x.0, ap (λ (w : SourceState). w.output) e ∙ x.1)

step_extends : (o : Outcome) (p : Program) (s t : SourceState) (e : Event) → StepFrom o p s e t → Extends s t
step_extends GoesOn p s t e q = to s t (next_state p s q.0) q.1.state (next_extends p s q.0)
step_extends (Exited code) p s t e q = to s t s q.0 (stays s s refl)
step_extends (Trapped pc) p s t e q = to s t s q.0 (stays s s refl)
step_extends (AddressFault pc why) p s t e q = to s t s q.0 (stays s s refl)

pub steps_extend : (p : Program) (n : ℕ) (s t : SourceState) → Steps p n s t → (more : List ℕ) × (t.output ≡ s.output ++ more)
steps_extend p zero s t r = to s t s r (stays s s refl)
steps_extend p (suc n) s t r =
    let first = step_extends s.outcome p s r.0 r.1.0.0 r.1.0.1 in
    let rest = steps_extend p n r.0 t r.1.1 in
    (first.0 ++ rest.0, rest.1 ∙ (ap (λ (out : List ℕ). out ++ rest.0) first.1 ∙ append_assoc s.output first.0 rest.0))

-- A step asks of a program its objects, its memory and its blocks, and besides only what is at the pc.
use Rattle.std.proofs.Common.{◌≡◌, ℕ, zero, suc, ◌+◌, Bool, true, false, List, [], ◌∷◌, take, drop, Option, Some, None, ℤ, refl, ◌∙◌, ap}
use Rattle.list_checks.specs.First.{first_below}
use Rattle.rv32im.specs.Acts.{load_width, store_width}
use Rattle.rv32im.specs.declared.instructions.Instr.{Instr}
use Rattle.rv32im.specs.declared.instructions.Instr.TheVariants.{Lui, Auipc, Jal, Jalr, Branch, Load, Store, OpImm, OpReg, Fence, FenceI, Ecall, Ebreak}
use Rattle.rv32im.specs.declared.instructions.ImmKind.{ImmKind}
use Rattle.rv32im.specs.declared.instructions.ImmKind.TheVariants.{Addi}
use Rattle.cell_values.specs.Operations.{op_imm}
use Rattle.cell_values.specs.Comparisons.{compare}
use Rattle.rv32im.specs.declared.instructions.LoadKind.{LoadKind}
use Rattle.rv32im.specs.declared.instructions.StoreKind.{StoreKind}
use Rattle.cell_values.specs.declared.values.Val.{Val}
use Rattle.cell_values.specs.declared.values.Val.TheVariants.{Int, Addr, Hi, Low, Piece, Unknown}
use Rattle.cell_values.specs.declared.values.Cell.TheVariants.{Byte}
use Rattle.object_machine.specs.Program.{Program, Target}
use Rattle.object_machine.specs.State.{SourceState, value, wrote}
use Rattle.object_machine.specs.Memory.{cell_at, stored_at}
use Rattle.object_machine.specs.Places.{Where, InFixed, InObject, Nowhere, located, byte_place, read_fault, write_fault, address_of}
use Rattle.object_machine.specs.Flow.{falls_on, jumps_by, branches}
use Rattle.object_machine.specs.Calls.{answered, a1, a2, a7, and_byte, plain_bytes, unread, appends, writes_from, writes, unwritten, put_input, with_input, reads_into, reads, consumed_count, calls_number, calls_by}
use Rattle.object_machine.specs.Step.{acts, access_by, load_place, store_place, loads_from, stores_to, imm_result, access_in}
use Rattle.object_machine.specs.Units.{leads_on}

-- a program with the objects, the memory and the blocks of another
abbrev pub joined : Program → Program → Program
joined q p =
    record p {
      objects = q.objects;
      is_block = q.is_block;
      is_reached = q.is_reached;
      is_fixed = q.is_fixed;
      is_held = q.is_held;
    }

-- ---- places

located_alike : (q p : Program) (n : ℕ) (x : Val) → located (joined q p) n x ≡ located q n x
located_alike q p n (Int a) = refl
located_alike q p n (Addr o d) = refl
located_alike q p n (Hi o d) = refl
located_alike q p n (Low k) = refl
located_alike q p n (Piece hi o d k) = refl
located_alike q p n Unknown = refl

byte_alike : (q p : Program) (x : Val) (i : ℕ) → byte_place (joined q p) x i ≡ byte_place q x i
byte_alike q p (Int a) i = refl
byte_alike q p (Addr o d) i = refl
byte_alike q p (Hi o d) i = refl
byte_alike q p (Low k) i = refl
byte_alike q p (Piece hi o d k) i = refl
byte_alike q p Unknown i = refl

write_alike : (q p : Program) (w : Where) → write_fault (joined q p) w ≡ write_fault q w
write_alike q p (InFixed a) = refl
write_alike q p (InObject o d) = refl
write_alike q p (Nowhere why) = refl

load_alike : (q p : Program) (s : SourceState) (kind : LoadKind) (rs1 : ℕ) (imm : ℤ) (site : Option Target) → load_place (joined q p) s kind rs1 imm site ≡ load_place q s kind rs1 imm site
load_alike q p s kind rs1 imm None = located_alike q p (load_width kind) (address_of q None (value s.regs rs1) imm)
load_alike q p s kind rs1 imm (Some t) = located_alike q p (load_width kind) (address_of q (Some t) (value s.regs rs1) imm)

store_alike : (q p : Program) (s : SourceState) (kind : StoreKind) (rs1 : ℕ) (imm : ℤ) (site : Option Target) → store_place (joined q p) s kind rs1 imm site ≡ store_place q s kind rs1 imm site
store_alike q p s kind rs1 imm None = located_alike q p (store_width kind) (address_of q None (value s.regs rs1) imm)
store_alike q p s kind rs1 imm (Some t) = located_alike q p (store_width kind) (address_of q (Some t) (value s.regs rs1) imm)

-- ---- ways

falls_alike : (q p : Program) (s t : SourceState) → p.falls s.pc ≡ q.falls s.pc → falls_on (joined q p) s t ≡ falls_on q s t
falls_alike q p s t same = rw same

jumps_by_alike : (q p : Program) (s t : SourceState) (x : Val) → jumps_by (joined q p) s x t ≡ jumps_by q s x t
jumps_by_alike q p s t (Int a) = refl
jumps_by_alike q p s t (Addr o d) = refl
jumps_by_alike q p s t (Hi o d) = refl
jumps_by_alike q p s t (Low k) = refl
jumps_by_alike q p s t (Piece hi o d k) = refl
jumps_by_alike q p s t Unknown = refl

branches_alike : (q p : Program) (s : SourceState) (off : ℤ) (consumed : Option Bool) → branches (joined q p) s off consumed ≡ branches q s off consumed
branches_alike q p s off None = refl
branches_alike q p s off (Some true) = refl
branches_alike q p s off (Some false) = refl

-- ---- calls

plain_alike : (q p : Program) (s : SourceState) (n : ℕ) → plain_bytes (joined q p) s n ≡ plain_bytes q s n
plain_alike q p s zero = refl
plain_alike q p s (suc n) =
    λ z. and_byte (plain_alike q p s n z) (cell_at s (byte_alike q p (a1 s) n z) 0)

unread_alike : (q p : Program) (s : SourceState) → unread (joined q p) s ≡ unread q s
unread_alike q p s = λ z i. read_fault (byte_alike q p (a1 s) i z)

unwritten_at : (q p : Program) (w v : Where) → w ≡ v → write_fault (joined q p) w ≡ write_fault q v
unwritten_at q p w v same = write_alike q p w ∙ ap (write_fault q) same

unwritten_alike : (q p : Program) (s : SourceState) → unwritten (joined q p) s ≡ unwritten q s
unwritten_alike q p s = λ z i. unwritten_at q p (byte_place (joined q p) (a1 s) i) (byte_place q (a1 s) i) (byte_alike q p (a1 s) i) z

appends_alike : (q p : Program) (s : SourceState) (n : ℕ) (bytes : Option (List ℕ)) → p.falls s.pc ≡ q.falls s.pc → appends (joined q p) s n bytes ≡ appends q s n bytes
appends_alike q p s n None same = refl
appends_alike q p s n (Some bytes) same = rw same

writes_from_alike : (q p : Program) (s : SourceState) (n : ℕ) (why : Option ℕ) → p.falls s.pc ≡ q.falls s.pc → writes_from (joined q p) s n why ≡ writes_from q s n why
writes_from_alike q p s n (Some why) same = refl
writes_from_alike q p s n None same = ap (appends (joined q p) s n) (plain_alike q p s n) ∙ appends_alike q p s n (plain_bytes q s n) same

writes_alike : (q p : Program) (s : SourceState) (x : Val) → p.falls s.pc ≡ q.falls s.pc → writes (joined q p) s x ≡ writes q s x
writes_alike q p s (Int n) same =
    ap (λ (check : ℕ → Option ℕ). writes_from (joined q p) s n (first_below check n)) (unread_alike q p s)
    ∙ writes_from_alike q p s n (first_below (unread q s) n) same
writes_alike q p s (Addr o d) same = refl
writes_alike q p s (Hi o d) same = refl
writes_alike q p s (Low k) same = refl
writes_alike q p s (Piece hi o d k) same = refl
writes_alike q p s Unknown same = refl

input_alike : (q p : Program) (s : SourceState) (x : Val) (i : ℕ) (bytes : List ℕ) → put_input (joined q p) s x i bytes ≡ put_input q s x i bytes
input_alike q p s x i [] = refl
input_alike q p s x i (b ∷ bytes) =
    input_alike q p (stored_at s (byte_place (joined q p) x i) (Byte b ∷ [])) x (i + 1) bytes
    ∙ ap (λ (w : Where). put_input q (stored_at s w (Byte b ∷ [])) x (i + 1) bytes) (byte_alike q p x i)

reads_into_alike : (q p : Program) (s : SourceState) (k : ℕ) (why : Option ℕ) → p.falls s.pc ≡ q.falls s.pc → reads_into (joined q p) s k why ≡ reads_into q s k why
reads_into_alike q p s k (Some why) same = refl
reads_into_alike q p s k None same =
    ap (λ (t : SourceState). answered (joined q p) s (record t { input = drop k s.input }) k) (input_alike q p s (a1 s) 0 (take k s.input))
    ∙ falls_alike q p s (wrote (with_input q s k) 10 (Int k)) same

reads_alike : (q p : Program) (s : SourceState) (x : Val) → p.falls s.pc ≡ q.falls s.pc → reads (joined q p) s x ≡ reads q s x
reads_alike q p s (Int n) same =
    ap (λ (check : ℕ → Option ℕ). reads_into (joined q p) s (consumed_count s n) (first_below check (consumed_count s n))) (unwritten_alike q p s)
    ∙ reads_into_alike q p s (consumed_count s n) (first_below (unwritten q s) (consumed_count s n)) same
reads_alike q p s (Addr o d) same = refl
reads_alike q p s (Hi o d) same = refl
reads_alike q p s (Low k) same = refl
reads_alike q p s (Piece hi o d k) same = refl
reads_alike q p s Unknown same = refl

number_alike : (q p : Program) (s : SourceState) (n : ℕ) → p.falls s.pc ≡ q.falls s.pc → calls_number (joined q p) s n ≡ calls_number q s n
number_alike q p s n same = rw (writes_alike q p s (a2 s) same, reads_alike q p s (a2 s) same, same)

calls_alike : (q p : Program) (s : SourceState) (x : Val) → p.falls s.pc ≡ q.falls s.pc → calls_by (joined q p) s x ≡ calls_by q s x
calls_alike q p s (Int n) same = number_alike q p s n same
calls_alike q p s (Addr o d) same = refl
calls_alike q p s (Hi o d) same = refl
calls_alike q p s (Low k) same = refl
calls_alike q p s (Piece hi o d k) same = refl
calls_alike q p s Unknown same = refl

-- ---- loads and stores

imm_alike : (q p : Program) (kind : ImmKind) (x : Val) (imm : ℤ) (site : Option Target) → imm_result (joined q p) kind x imm site ≡ imm_result q kind x imm site
imm_alike q p kind x imm None = refl
imm_alike q p kind x imm (Some t) = refl

loads_alike : (q p : Program) (s : SourceState) (kind : LoadKind) (rd : ℕ) (w : Where) (why : Option ℕ) → p.falls s.pc ≡ q.falls s.pc → loads_from (joined q p) s kind rd w why ≡ loads_from q s kind rd w why
loads_alike q p s kind rd w None same = rw same
loads_alike q p s kind rd w (Some why) same = refl

stores_alike : (q p : Program) (s : SourceState) (kind : StoreKind) (x : Val) (w : Where) (why : Option ℕ) → p.falls s.pc ≡ q.falls s.pc → stores_to (joined q p) s kind x w why ≡ stores_to q s kind x w why
stores_alike q p s kind x w None same = rw same
stores_alike q p s kind x w (Some why) same = refl

-- ---- instructions

pub acts_alike : (q p : Program) (s : SourceState) (i : Instr) (site : Option Target) → (leads_on i ≡ true → p.falls s.pc ≡ q.falls s.pc) → acts (joined q p) s i site ≡ acts q s i site
acts_alike q p s (Lui rd imm) site same = rw (same refl)
acts_alike q p s (Auipc rd imm) site same = rw (same refl)
acts_alike q p s (Jal rd off) site same = refl
acts_alike q p s (Jalr rd rs1 imm) site same = jumps_by_alike q p s (wrote s rd (Int (s.pc + 4))) (op_imm q.objects Addi (value s.regs rs1) imm)
acts_alike q p s (Branch kind rs1 rs2 off) site same =
    branches_alike q p s off (compare q.objects kind (value s.regs rs1) (value s.regs rs2))
acts_alike q p s (Load kind rd rs1 imm) site same =
    ap (λ (w : Where). loads_from (joined q p) s kind rd w (read_fault w)) (load_alike q p s kind rs1 imm site)
    ∙ loads_alike q p s kind rd (load_place q s kind rs1 imm site) (read_fault (load_place q s kind rs1 imm site)) (same refl)
acts_alike q p s (Store kind rs1 rs2 imm) site same =
    let x = value s.regs rs2 in
    let w = store_place q s kind rs1 imm site in
    ap (λ (v : Where). stores_to (joined q p) s kind x v (write_fault (joined q p) v)) (store_alike q p s kind rs1 imm site)
    ∙ (ap (stores_to (joined q p) s kind x w) (write_alike q p w) ∙ stores_alike q p s kind x w (write_fault q w) (same refl))
acts_alike q p s (OpImm kind rd rs1 imm) site same =
    rw (imm_alike q p kind (value s.regs rs1) imm site) (rw (same refl))
acts_alike q p s (OpReg kind rd rs1 rs2) site same = rw (same refl)
acts_alike q p s (Fence bits) site same = rw (same refl)
acts_alike q p s (FenceI bits) site same = rw (same refl)
acts_alike q p s Ecall site same = calls_alike q p s (a7 s) (same refl)
acts_alike q p s Ebreak site same = refl

-- ---- accesses

load_access : (q p : Program) (s : SourceState) (kind : LoadKind) (rs1 : ℕ) (imm : ℤ) (site here : Option Target) → site ≡ here → access_in (load_place (joined q p) s kind rs1 imm site) false ≡ access_in (load_place q s kind rs1 imm here) false
load_access q p s kind rs1 imm site here same =
    ap (λ (w : Where). access_in w false) (load_alike q p s kind rs1 imm site ∙ ap (load_place q s kind rs1 imm) same)

store_access : (q p : Program) (s : SourceState) (kind : StoreKind) (rs1 : ℕ) (imm : ℤ) (site here : Option Target) → site ≡ here → access_in (store_place (joined q p) s kind rs1 imm site) true ≡ access_in (store_place q s kind rs1 imm here) true
store_access q p s kind rs1 imm site here same =
    ap (λ (w : Where). access_in w true) (store_alike q p s kind rs1 imm site ∙ ap (store_place q s kind rs1 imm) same)

pub access_alike : (q p : Program) (s : SourceState) (read : Option Instr) → p.site s.pc ≡ q.site s.pc → access_by (joined q p) s read ≡ access_by q s read
access_alike q p s None same = refl
access_alike q p s (Some (Load kind rd rs1 imm)) same = load_access q p s kind rs1 imm (p.site s.pc) (q.site s.pc) same
access_alike q p s (Some (Store kind rs1 rs2 imm)) same = store_access q p s kind rs1 imm (p.site s.pc) (q.site s.pc) same
access_alike q p s (Some (Lui rd imm)) same = refl
access_alike q p s (Some (Auipc rd imm)) same = refl
access_alike q p s (Some (Jal rd off)) same = refl
access_alike q p s (Some (Jalr rd rs1 imm)) same = refl
access_alike q p s (Some (Branch kind rs1 rs2 off)) same = refl
access_alike q p s (Some (OpImm kind rd rs1 imm)) same = refl
access_alike q p s (Some (OpReg kind rd rs1 rs2)) same = refl
access_alike q p s (Some (Fence bits)) same = refl
access_alike q p s (Some (FenceI bits)) same = refl
access_alike q p s (Some Ecall) same = refl
access_alike q p s (Some Ebreak) same = refl

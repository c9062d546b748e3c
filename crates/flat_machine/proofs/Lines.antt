-- Straight lines of instructions on the flat machine.
use Rattle.std.proofs.Common.{◌≡◌, ℕ, suc, ◌+◌, ◌*◌, ◌<◌, Bool, true, List, [], ◌∷◌, ◌++◌, length, refl, sym, ◌∙◌, ap, subst, arith, if◌then◌else◌}
use Rattle.rv32im.specs.Words.{plus}
use Rattle.rv32im.specs.declared.instructions.Instr.{Instr}
use Rattle.rv32im.specs.declared.instructions.Instr.TheVariants.{Lui, Auipc, Jal, Jalr, Branch, Load, Store, OpImm, OpReg, Fence, FenceI, Ecall, Ebreak}
use Rattle.rv32im.specs.Acts.{Hart, acts, access_of}
use Rattle.flat_machine.specs.State.{State, trap}
use Rattle.flat_machine.specs.Step.{may_access, performed, event_of, Step}
use Rattle.flat_machine.specs.Lines.{with_hart, IsOrdinary, Fetches, CodeAt, acted, line_events, Line, LinesRun}
use Rattle.flat_machine.proofs.Runs.{performs_meaning}

-- it makes its access and acts on the hart
does : (s : State) (h : Hart) (i : Instr) → IsOrdinary i → may_access (with_hart s h) (access_of i h.regs) ≡ true → performed (with_hart s h) i ≡ with_hart s (acts i h)
does s h (Lui rd imm) plain may = refl
does s h (Auipc rd imm) plain may = refl
does s h (Jal rd off) plain may = refl
does s h (Jalr rd rs1 imm) plain may = refl
does s h (Branch kind rs1 rs2 off) plain may = refl
does s h (Load kind rd rs1 imm) plain may =
    ap (λ (b : Bool). if b then with_hart s (acts (Load kind rd rs1 imm) h) else trap (with_hart s h)) may
does s h (Store kind rs1 rs2 imm) plain may =
    ap (λ (b : Bool). if b then with_hart s (acts (Store kind rs1 rs2 imm) h) else trap (with_hart s h)) may
does s h (OpImm kind rd rs1 imm) plain may = refl
does s h (OpReg kind rd rs1 rs2) plain may = refl
does s h (Fence bits) plain may = refl
does s h (FenceI bits) plain may = refl
does s h Ecall plain may = absurd plain
does s h Ebreak plain may = absurd plain

pub line_does : LinesRun
line_does [] s h going line = refl
line_does (i ∷ is) s h going line =
    let step = performs_meaning (with_hart s h) i going line.0.0 line.0.1 in
    let acts_so = does s h i line.1.0 line.1.1.0 in
    let taken : Step (with_hart s h) (event_of (with_hart s h) i) (with_hart s (acts i h)) =
    subst (λ t. Step (with_hart s h) (event_of (with_hart s h) i) t) acts_so step in
    (with_hart s (acts i h), (taken, line_does is s (acts i h) going line.1.1.1))

line_count : (is : List Instr) (s : State) (h : Hart) → length (line_events s is h) ≡ length is
line_count [] s h = refl
line_count (i ∷ is) s h = ap suc (line_count is s (acts i h))

-- ---- instructions that write a register and go to the next word

abbrev pub IsPlain : Instr → Type 0
IsPlain (Lui rd imm) = Unit {0}
IsPlain (Auipc rd imm) = ⊥
IsPlain (Jal rd off) = ⊥
IsPlain (Jalr rd rs1 imm) = ⊥
IsPlain (Branch kind rs1 rs2 off) = ⊥
IsPlain (Load kind rd rs1 imm) = ⊥
IsPlain (Store kind rs1 rs2 imm) = ⊥
IsPlain (OpImm kind rd rs1 imm) = Unit {0}
IsPlain (OpReg kind rd rs1 rs2) = ⊥
IsPlain (Fence bits) = ⊥
IsPlain (FenceI bits) = Unit {0}
IsPlain Ecall = ⊥
IsPlain Ebreak = ⊥

abbrev pub ArePlain : List Instr → Type 0
ArePlain [] = Unit {0}
ArePlain (i ∷ is) = IsPlain i × ArePlain is

record GoesNext (s : State) (i : Instr) (h : Hart) : Type 0 where
  ordinary : IsOrdinary i
  may : may_access (with_hart s h) (access_of i h.regs) ≡ true
  pc : (acts i h).pc ≡ plus h.pc 4
  mem : (acts i h).mem ≡ h.mem

goes_next : (s : State) (i : Instr) (h : Hart) → IsPlain i → GoesNext s i h
goes_next s (Lui rd imm) h plain = record { ordinary = tt; may = refl; pc = refl; mem = refl }
goes_next s (OpImm kind rd rs1 imm) h plain = record { ordinary = tt; may = refl; pc = refl; mem = refl }
goes_next s (FenceI bits) h plain = record { ordinary = tt; may = refl; pc = refl; mem = refl }
goes_next s (Auipc rd imm) h plain = absurd plain
goes_next s (Jal rd off) h plain = absurd plain
goes_next s (Jalr rd rs1 imm) h plain = absurd plain
goes_next s (Branch kind rs1 rs2 off) h plain = absurd plain
goes_next s (Load kind rd rs1 imm) h plain = absurd plain
goes_next s (Store kind rs1 rs2 imm) h plain = absurd plain
goes_next s (OpReg kind rd rs1 rs2) h plain = absurd plain
goes_next s (Fence bits) h plain = absurd plain
goes_next s Ecall h plain = absurd plain
goes_next s Ebreak h plain = absurd plain

pub plain_line : (is : List Instr) (s : State) (h : Hart) (a : ℕ) → ArePlain is → h.pc ≡ a → a + 4 * length is < 4294967296 → CodeAt s.map h.mem a is → Line s is h
plain_line [] s h a plain at below code = tt
plain_line (i ∷ is) s h a plain at below code =
    let next = goes_next s i h plain.0 in
    let on : plus h.pc 4 ≡ a + 4 = rw at (omega arith) in
    let there : (acts i h).pc ≡ a + 4 = next.pc ∙ on in
    let kept : CodeAt s.map (acts i h).mem (a + 4) is = subst (λ m. CodeAt s.map m (a + 4) is) (sym next.mem) code.1 in
    let fetch : Fetches s.map h.mem h.pc i = subst (λ x. Fetches s.map h.mem x i) (sym at) code.0 in
    (fetch, (next.ordinary, (next.may, plain_line is s (acts i h) (a + 4) plain.1 there (omega arith) kept)))

pub plain_pc : (is : List Instr) (s : State) (h : Hart) (a : ℕ) → ArePlain is → h.pc ≡ a → a + 4 * length is < 4294967296 → (acted is h).pc ≡ a + 4 * length is
plain_pc [] s h a plain at below = at ∙ omega arith
plain_pc (i ∷ is) s h a plain at below =
    let next = goes_next s i h plain.0 in
    let on : plus h.pc 4 ≡ a + 4 = rw at (omega arith) in
    let rest = plain_pc is s (acts i h) (a + 4) plain.1 (next.pc ∙ on) (omega arith) in
    rest ∙ omega arith

pub plain_mem : (is : List Instr) (s : State) (h : Hart) → ArePlain is → (acted is h).mem ≡ h.mem
plain_mem [] s h plain = refl
plain_mem (i ∷ is) s h plain = plain_mem is s (acts i h) plain.1 ∙ (goes_next s i h plain.0).mem

pub plain_append : (is js : List Instr) → ArePlain is → ArePlain js → ArePlain (is ++ js)
plain_append [] js first second = second
plain_append (i ∷ is) js first second = (first.0, plain_append is js first.1 second)

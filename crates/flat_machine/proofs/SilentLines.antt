-- Instructions that run one behind the other and make no access.
use Rattle.std.proofs.Common.{◌≡◌, ℕ, zero, suc, ◌+◌, ◌*◌, ◌/◌, ◌%◌, ◌<◌, List, [], ◌∷◌, map, refl, sym, ◌∙◌, ap, subst, arith}
use Rattle.std.specs.Prelude.{None}
use Rattle.std.proofs.lemmas.Bool.Decides.{nat_tests}
use Rattle.rv32im.specs.Words.{plus, offset, upper_half, lower_half}
use Rattle.rv32im.specs.Memory.{put, word_at}
use Rattle.rv32im.specs.declared.instructions.Instr.{Instr}
use Rattle.rv32im.specs.declared.instructions.Instr.TheVariants.{Lui, Auipc, Jal, Jalr, Branch, Load, Store, OpImm, OpReg, Fence, FenceI, Ecall, Ebreak}
use Rattle.rv32im.specs.declared.instructions.ImmKind.TheVariants.{Addi}
use Rattle.rv32im.specs.Acts.{Hart, Registers, acts, register, with_register}
use Rattle.rv32im.specs.Sequences.{load_immediate, jump_absolute}
use Rattle.rv32im.proofs.SequenceLemmas.{halves}
use Rattle.flat_machine.specs.declared.events.FlatOutcome.TheVariants.{GoesOn}
use Rattle.flat_machine.specs.State.{State}
use Rattle.flat_machine.specs.Step.{performed, event_of, Step}
use Rattle.flat_machine.specs.Lines.{Fetches, CodeAt, acted, fetch_of, went, Ran}
use Rattle.flat_machine.proofs.Runs.{performs_meaning, does_joined}

-- ---- one instruction

-- it makes no access, and asks nothing of the environment
abbrev pub IsSilent : Instr → Type 0
IsSilent (Lui rd imm) = Unit {0}
IsSilent (Auipc rd imm) = Unit {0}
IsSilent (Jal rd off) = Unit {0}
IsSilent (Jalr rd rs1 imm) = Unit {0}
IsSilent (Branch kind rs1 rs2 off) = Unit {0}
IsSilent (OpImm kind rd rs1 imm) = Unit {0}
IsSilent (OpReg kind rd rs1 rs2) = Unit {0}
IsSilent (Fence bits) = Unit {0}
IsSilent (FenceI bits) = Unit {0}
IsSilent other = ⊥

-- so it acts on the hart alone, but for its memory
record ActsAlone (s : State) (i : Instr) : Type 0 where
  does : performed s i ≡ went s (acts i s.hart).regs (acts i s.hart).pc
  event : event_of s i ≡ record { at = s.hart.pc; outcome = s.outcome; word = word_at s.hart.mem s.hart.pc; access = None }

acts_alone : (s : State) (i : Instr) → IsSilent i → ActsAlone s i
acts_alone s (Lui rd imm) silent = record { does = refl; event = refl }
acts_alone s (Auipc rd imm) silent = record { does = refl; event = refl }
acts_alone s (Jal rd off) silent = record { does = refl; event = refl }
acts_alone s (Jalr rd rs1 imm) silent = record { does = refl; event = refl }
acts_alone s (Branch kind rs1 rs2 off) silent = record { does = refl; event = refl }
acts_alone s (Load kind rd rs1 imm) silent = absurd silent
acts_alone s (Store kind rs1 rs2 imm) silent = absurd silent
acts_alone s (OpImm kind rd rs1 imm) silent = record { does = refl; event = refl }
acts_alone s (OpReg kind rd rs1 rs2) silent = record { does = refl; event = refl }
acts_alone s (Fence bits) silent = record { does = refl; event = refl }
acts_alone s (FenceI bits) silent = record { does = refl; event = refl }
acts_alone s Ecall silent = absurd silent
acts_alone s Ebreak silent = absurd silent

pub one_ran : (s : State) (i : Instr) (a to : ℕ) → s.outcome ≡ GoesOn → s.hart.pc ≡ a → Fetches s.map s.hart.mem a i → IsSilent i → (acts i s.hart).pc ≡ to → Ran s (a ∷ []) (acts i s.hart).regs to
one_ran s i a to going at fetch silent there =
    let alone = acts_alone s i silent in
    let here : Fetches s.map s.hart.mem s.hart.pc i = subst (λ x. Fetches s.map s.hart.mem x i) (sym at) fetch in
    let step = performs_meaning s i going here.0 here.1 in
    let event : event_of s i ≡ fetch_of s.hart.mem a =
    alone.event ∙ λ t. record { at = at t; outcome = going t; word = word_at s.hart.mem (at t); access = None } in
    let state : performed s i ≡ went s (acts i s.hart).regs to = alone.does ∙ ap (λ x. went s (acts i s.hart).regs x) there in (
      went s (acts i s.hart).regs to,
      (
        subst (λ t. Step s (fetch_of s.hart.mem a) t) state (subst (λ e. Step s e (performed s i)) event step),
        refl,
      ),
    )

pub more_ran : (s : State) (a : ℕ) (later : List ℕ) (regs last : Registers) (m to : ℕ) → Ran s (a ∷ []) regs m → Ran (went s regs m) later last to → Ran s (a ∷ later) last to
more_ran s a later regs last m to first rest =
    does_joined (fetch_of s.hart.mem a ∷ []) (map (fetch_of s.hart.mem) later) s (went s regs m) (went s last to) first rest

pub two_ran : (s : State) (a b : ℕ) (later : List ℕ) (regs last : Registers) (m to : ℕ) → Ran s (a ∷ b ∷ []) regs m → Ran (went s regs m) later last to → Ran s (a ∷ b ∷ later) last to
two_ran s a b later regs last m to first rest =
    does_joined (fetch_of s.hart.mem a ∷ fetch_of s.hart.mem b ∷ []) (map (fetch_of s.hart.mem) later) s (went s regs m) (went s last to) first rest

-- ---- registers

pub set_there : (regs : Registers) (rd a : ℕ) → (rd ≡ 0 → ⊥) → with_register regs rd a rd ≡ a
unfolding put
set_there regs rd a some = grind (arith, nat_tests)

pub set_other : (regs : Registers) (rd a k : ℕ) → (k ≡ rd → ⊥) → with_register regs rd a k ≡ regs k
unfolding put
set_other regs rd a k other = grind (arith, nat_tests)

pub read_there : (regs : Registers) (rd a : ℕ) → (rd ≡ 0 → ⊥) → register (with_register regs rd a) rd ≡ a
unfolding put
read_there regs rd a some = grind (arith, nat_tests)

pub read_other : (regs : Registers) (rd a k : ℕ) → (k ≡ rd → ⊥) → register (with_register regs rd a) k ≡ register regs k
unfolding put
read_other regs rd a k other = grind (arith, nat_tests)

set_again : (regs : Registers) (rd a b c k : ℕ) → b ≡ c → with_register (with_register regs rd a) rd b k ≡ with_register regs rd c k
unfolding put
set_again regs rd a b c k same = grind (arith, nat_tests)

-- the registers that LUI and ADDI leave
abbrev pub upper_set : Registers → ℕ → ℕ → Registers
upper_set regs rd word = with_register regs rd (upper_half word * 4096 % 4294967296)

abbrev immediate_set : Registers → ℕ → ℕ → Registers
immediate_set regs rd word = with_register (upper_set regs rd word) rd (offset (register (upper_set regs rd word) rd) (lower_half word))

immediate_at : (regs : Registers) (rd word k : ℕ) → word < 4294967296 → immediate_set regs rd word k ≡ with_register regs rd word k
immediate_at regs zero word k below = refl
immediate_at regs (suc rd) word k below =
    let read = read_there regs (suc rd) (upper_half word * 4096 % 4294967296) (omega arith) in
    let made : offset (register (upper_set regs (suc rd) word) (suc rd)) (lower_half word) ≡ word =
    ap (λ w. offset w (lower_half word)) read ∙ halves word below in
    set_again regs (suc rd) (upper_half word * 4096 % 4294967296) (offset (register (upper_set regs (suc rd) word) (suc rd)) (lower_half word)) word k made

immediate_is : (regs : Registers) (rd word : ℕ) → word < 4294967296 → immediate_set regs rd word ≡ with_register regs rd word
immediate_is regs rd word below = λ t k. immediate_at regs rd word k below t

-- ---- sequences

-- a word is left in a register
pub immediate_ran : (s : State) (rd word a : ℕ) → s.outcome ≡ GoesOn → s.hart.pc ≡ a → a + 8 < 4294967296 → word < 4294967296 → CodeAt s.map s.hart.mem a (load_immediate rd word) → Ran s (a ∷ (a + 4) ∷ []) (with_register s.hart.regs rd word) (a + 4 + 4)
immediate_ran s rd word a going at fits below code =
    let behind : plus s.hart.pc 4 ≡ a + 4 = rw at (omega arith) in
    let first = one_ran s (Lui rd (upper_half word)) a (a + 4) going at code.0 tt behind in
    let second =
    one_ran (went s (upper_set s.hart.regs rd word) (a + 4)) (OpImm Addi rd rd (lower_half word)) (a + 4) (a + 4 + 4) going refl
    code.1.0 tt (omega arith) in
    let both =
    more_ran s a ((a + 4) ∷ []) (upper_set s.hart.regs rd word) (immediate_set s.hart.regs rd word) (a + 4) (a + 4 + 4) first second in
    subst (λ regs. Ran s (a ∷ (a + 4) ∷ []) regs (a + 4 + 4)) (immediate_is s.hart.regs rd word below) both

pub even_again : (target : ℕ) → target % 2 ≡ 0 → target / 2 * 2 ≡ target
even_again target even = omega (arith, even)

-- control goes to an even address, by a register
pub absolute_ran : (s : State) (temporary target a : ℕ) → s.outcome ≡ GoesOn → s.hart.pc ≡ a → a + 4 < 4294967296 → target < 4294967296 → target % 2 ≡ 0 → (temporary ≡ 0 → ⊥) → CodeAt s.map s.hart.mem a (jump_absolute temporary target) → Ran s (a ∷ (a + 4) ∷ []) (upper_set s.hart.regs temporary target) target
absolute_ran s temporary target a going at fits below even some code =
    let behind : plus s.hart.pc 4 ≡ a + 4 = rw at (omega arith) in
    let first = one_ran s (Lui temporary (upper_half target)) a (a + 4) going at code.0 tt behind in
    let read = read_there s.hart.regs temporary (upper_half target * 4096 % 4294967296) some in
    let made : offset (register (upper_set s.hart.regs temporary target) temporary) (lower_half target) ≡ target =
    ap (λ w. offset w (lower_half target)) read ∙ halves target below in
    let there : offset (register (upper_set s.hart.regs temporary target) temporary) (lower_half target) / 2 * 2 ≡ target =
    ap (λ w. w / 2 * 2) made ∙ even_again target even in
    let second =
    one_ran (went s (upper_set s.hart.regs temporary target) (a + 4)) (Jalr 0 temporary (lower_half target)) (a + 4) target going refl
    code.1.0 tt there in
    more_ran s a ((a + 4) ∷ []) (upper_set s.hart.regs temporary target) (upper_set s.hart.regs temporary target) (a + 4) target first second

-- ---- a word in a register, by the hart

pub immediate_here : (rd a : ℕ) (h : Hart) → (rd ≡ 0 → ⊥) → a < 4294967296 → (acted (load_immediate rd a) h).regs rd ≡ a
immediate_here rd a h some below =
    let upper : ℕ = upper_half a * 4096 % 4294967296 in
    let read = read_there h.regs rd upper some in
    let made : offset (register (with_register h.regs rd upper) rd) (lower_half a) ≡ a =
    ap (λ w. offset w (lower_half a)) read ∙ halves a below in
    set_there (with_register h.regs rd upper) rd (offset (register (with_register h.regs rd upper) rd) (lower_half a)) some ∙ made

pub immediate_others : (rd a : ℕ) (h : Hart) (k : ℕ) → (k ≡ rd → ⊥) → (acted (load_immediate rd a) h).regs k ≡ h.regs k
immediate_others rd a h k other =
    let upper : ℕ = upper_half a * 4096 % 4294967296 in
    set_other (with_register h.regs rd upper) rd (offset (register (with_register h.regs rd upper) rd) (lower_half a)) k other
    ∙ set_other h.regs rd upper k other

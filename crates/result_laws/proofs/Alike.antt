-- Instructions that do the same wherever they stand.
use Rattle.std.proofs.Common.{◌≡◌, ℕ, Bool, true, false, if◌then◌else◌, refl, sym, subst}
use Rattle.std.specs.Prelude.{◌==◌}
use Rattle.rv32im.specs.Words.{plus}
use Rattle.rv32im.specs.declared.instructions.Instr.{Instr}
use Rattle.rv32im.specs.declared.instructions.Instr.TheVariants.{Lui, Load, Store, OpImm, OpReg, Fence, FenceI, Ecall}
use Rattle.rv32im.specs.Acts.{access_of}
use Rattle.flat_machine.specs.declared.events.FlatOutcome.TheVariants.{GoesOn}
use Rattle.flat_machine.specs.Mapping.{can_move}
use Rattle.flat_machine.specs.State.{State, trap}
use Rattle.flat_machine.specs.Step.{may_access}
use Rattle.flat_machine.specs.Calls.{a1, a2, a7, answered, exited, written, read, read_count, call}
use Rattle.result_laws.specs.HomeUnits.{standing, AreAlike, ActsAnywhere}

abbrev Alike : State → State → State → ℕ → Type 0
Alike first second s a = AreAlike first.outcome first second s a

alike_if : (test : Bool) (first other second another s : State) (a : ℕ) → Alike first second s a → Alike other another s a → Alike (if test then first else other) (if test then second else another) s a
alike_if true first other second another s a one_so other_so = one_so
alike_if false first other second another s a one_so other_so = other_so

-- both go on
alike_on : (first second s : State) (a : ℕ) → first.outcome ≡ GoesOn → first.hart.pc ≡ plus s.hart.pc 4 → second ≡ standing first (plus a 4) → Alike first second s a
alike_on first second s a going pc same = subst (λ o. AreAlike o first second s a) (sym going) (pc, same)

alike_trap : (s : State) (a : ℕ) → Alike (trap s) (trap (standing s a)) s a
alike_trap s a = (refl, refl)

alike_written : (s : State) (a : ℕ) → s.outcome ≡ GoesOn → Alike (written s) (written (standing s a)) s a
alike_written s a going = alike_if (can_move s.map (a1 s) (a2 s)) _ (trap s) _ (trap (standing s a)) s a (alike_on _ _ s a going refl refl) (alike_trap s a)

alike_read : (s : State) (a : ℕ) → s.outcome ≡ GoesOn → Alike (read s) (read (standing s a)) s a
alike_read s a going = alike_if (can_move s.map (a1 s) (read_count s)) _ (trap s) _ (trap (standing s a)) s a (alike_on _ _ s a going refl refl) (alike_trap s a)

pub alike_call : (s : State) (a : ℕ) → s.outcome ≡ GoesOn → Alike (call s) (call (standing s a)) s a
alike_call s a going =
    alike_if (a7 s == 93) (exited s) _ (exited (standing s a)) _ s a refl
    (alike_if (a7 s == 64) (written s) _ (written (standing s a)) _ s a (alike_written s a going)
    (alike_if (a7 s == 63) (read s) (answered s 4294967258) (read (standing s a)) (answered (standing s a) 4294967258) s a (alike_read s a going)
    (alike_on (answered s 4294967258) (answered (standing s a) 4294967258) s a going refl refl)))

-- no jump, and nothing relative to the pc
abbrev pub IsStraight : Instr → Type 0
IsStraight (Lui rd imm) = Unit {0}
IsStraight (Load kind rd rs1 imm) = Unit {0}
IsStraight (Store kind rs1 rs2 imm) = Unit {0}
IsStraight (OpImm kind rd rs1 imm) = Unit {0}
IsStraight (OpReg kind rd rs1 rs2) = Unit {0}
IsStraight (Fence bits) = Unit {0}
IsStraight (FenceI bits) = Unit {0}
IsStraight Ecall = Unit {0}
IsStraight other = ⊥

pub acts_anywhere : (i : Instr) → IsStraight i → ActsAnywhere i
acts_anywhere (Lui rd imm) straight s a going = alike_on _ _ s a going refl refl
acts_anywhere (Load kind rd rs1 imm) straight s a going =
    alike_if (may_access s (access_of (Load kind rd rs1 imm) s.hart.regs)) _ (trap s) _ (trap (standing s a)) s a (alike_on _ _ s a going refl refl) (alike_trap s a)
acts_anywhere (Store kind rs1 rs2 imm) straight s a going =
    alike_if (may_access s (access_of (Store kind rs1 rs2 imm) s.hart.regs)) _ (trap s) _ (trap (standing s a)) s a (alike_on _ _ s a going refl refl) (alike_trap s a)
acts_anywhere (OpImm kind rd rs1 imm) straight s a going = alike_on _ _ s a going refl refl
acts_anywhere (OpReg kind rd rs1 rs2) straight s a going = alike_on _ _ s a going refl refl
acts_anywhere (Fence bits) straight s a going = alike_on _ _ s a going refl refl
acts_anywhere (FenceI bits) straight s a going = alike_on _ _ s a going refl refl
acts_anywhere Ecall straight s a going = alike_call s a going
acts_anywhere other straight s a going = absurd straight

-- What units do with addresses, as the register that they write and those of which they make it.
use Rattle.std.proofs.Common.{◌≡◌, ◌⊎◌, inl, inr, ℕ, ◌<◌, ◌==◌, Bool, true, false, not, [], ◌∷◌, Option, Some, None, refl, sym, subst, arith, if◌then◌else◌}
use Rattle.std.specs.List.{Contains}
use Rattle.std.proofs.lemmas.Bool.Decides.{nat_tests}
use Rattle.rv32im.specs.Acts.{without_zero}
use Rattle.rv32im.specs.declared.instructions.Instr.{Instr}
use Rattle.rv32im.specs.declared.instructions.Instr.TheVariants.{Lui, Auipc, Jal, Jalr, Branch, Load, Store, OpImm, OpReg, Fence, FenceI, Ecall, Ebreak}
use Rattle.object_graph.specs.declared.parts.Site.{Site}
use Rattle.rv32im.specs.Operations.{takes_low_bits}
use Rattle.dataflow.specs.Points.{is_move, Moves, Sums, Stores, Defines}
use Rattle.dataflow.specs.Flows.{written, first_source, second_source, stored, Passes}
use Rattle.dataflow.proofs.ListLemmas.{kept, from_kept, in_first, in_cons}

-- ---- what is defined

alone : (r x : ℕ) → Contains (without_zero (r ∷ [])) x → x ≡ r
alone r x found =
    elim (in_cons r [] x (from_kept (λ k. not (k == 0)) (r ∷ []) x found)) [
      | inl same ↦ sym same
      | inr (k, below, is) ↦ absurd (omega (arith, below))
    ]

only : (r x : ℕ) → Contains (r ∷ []) x → x ≡ r
only r x found = elim (in_cons r [] x found) [ inl same ↦ sym same | inr (k, below, is) ↦ absurd (omega (arith, below)) ]

nowhere : (x y : ℕ) → Contains [] x → x ≡ y
nowhere x y (k, below, is) = absurd (omega (arith, below))

pub defined_written : (i : Option Instr) (x : ℕ) → Defines i x → x ≡ written i
defined_written None x is = absurd is
defined_written (Some (Lui rd imm)) x is = alone rd x is
defined_written (Some (Auipc rd imm)) x is = alone rd x is
defined_written (Some (Jal rd off)) x is = alone rd x is
defined_written (Some (Jalr rd rs1 imm)) x is = alone rd x is
defined_written (Some (Branch kind rs1 rs2 off)) x is = nowhere x 0 is
defined_written (Some (Load kind rd rs1 imm)) x is = alone rd x is
defined_written (Some (Store kind rs1 rs2 imm)) x is = nowhere x 0 is
defined_written (Some (OpImm kind rd rs1 imm)) x is = alone rd x is
defined_written (Some (OpReg kind rd rs1 rs2)) x is = alone rd x is
defined_written (Some (Fence bits)) x is = nowhere x 0 is
defined_written (Some (FenceI bits)) x is = nowhere x 0 is
defined_written (Some Ecall) x is = only 10 x is
defined_written (Some Ebreak) x is = nowhere x 0 is

listed : (r x : ℕ) → 0 < x → x ≡ r → Contains (without_zero (r ∷ [])) x
listed r x register same =
    let passes : not (x == 0) ≡ true = grind (arith, nat_tests, register) in
    kept (λ k. not (k == 0)) (r ∷ []) x (subst (λ (z : ℕ). Contains (r ∷ []) z) (sym same) (in_first r [])) passes

pub written_defined : (i : Option Instr) (x : ℕ) → 0 < x → x ≡ written i → Defines i x
written_defined None x register is = absurd (omega (arith, register, is))
written_defined (Some (Lui rd imm)) x register is = listed rd x register is
written_defined (Some (Auipc rd imm)) x register is = listed rd x register is
written_defined (Some (Jal rd off)) x register is = listed rd x register is
written_defined (Some (Jalr rd rs1 imm)) x register is = listed rd x register is
written_defined (Some (Branch kind rs1 rs2 off)) x register is = absurd (omega (arith, register, is))
written_defined (Some (Load kind rd rs1 imm)) x register is = listed rd x register is
written_defined (Some (Store kind rs1 rs2 imm)) x register is = absurd (omega (arith, register, is))
written_defined (Some (OpImm kind rd rs1 imm)) x register is = listed rd x register is
written_defined (Some (OpReg kind rd rs1 rs2)) x register is = listed rd x register is
written_defined (Some (Fence bits)) x register is = absurd (omega (arith, register, is))
written_defined (Some (FenceI bits)) x register is = absurd (omega (arith, register, is))
written_defined (Some Ecall) x register is = subst (λ (z : ℕ). Contains (10 ∷ []) z) (sym is) (in_first 10 [])
written_defined (Some Ebreak) x register is = absurd (omega (arith, register, is))

-- ---- what is moved and summed

chosen : (b : Bool) (r x : ℕ) → 0 < x → x ≡ (if b then r else 0) → (b ≡ true) × (x ≡ r)
chosen true r x register is = (refl, is)
chosen false r x register is = absurd (omega (arith, register, is))

choose : (b : Bool) (r x : ℕ) → b ≡ true → x ≡ r → x ≡ (if b then r else 0)
choose true r x on is = is
choose false r x on is = cc

pub first_rule : (s : Option Site) (i : Option Instr) (x : ℕ) → 0 < x → x ≡ first_source s i → Moves s i x (written i) ⊎ Sums i x (written i)
first_rule None (Some (OpImm kind rd rs1 imm)) x register is =
    let (on, same) = chosen (is_move kind) rs1 x register is in inl (on, same, refl)
first_rule s (Some (OpReg kind rd rs1 rs2)) x register is =
    let (on, same) = chosen (takes_low_bits kind) rs1 x register is in inr (on, inl same, refl)
first_rule s i x register is = absurd (omega (arith, register, is))

pub second_rule : (i : Option Instr) (x : ℕ) → 0 < x → x ≡ second_source i → Sums i x (written i)
second_rule (Some (OpReg kind rd rs1 rs2)) x register is =
    let (on, same) = chosen (takes_low_bits kind) rs2 x register is in (on, inr same, refl)
second_rule i x register is = absurd (omega (arith, register, is))

pub moves_pass : (s : Option Site) (i : Option Instr) (x z : ℕ) → Moves s i x z → Passes (written i) (first_source s i) (second_source i) x z
moves_pass None (Some (OpImm kind rd rs1 imm)) x z (on, same, to) = inr (to, inl (choose (is_move kind) rs1 x on same))
moves_pass s i x z moves = absurd moves

pub sums_pass : (s : Option Site) (i : Option Instr) (x z : ℕ) → Sums i x z → Passes (written i) (first_source s i) (second_source i) x z
sums_pass None (Some (OpReg kind rd rs1 rs2)) x z (on, from, to) =
    elim from [
      | inl same ↦ inr (to, inl (choose (takes_low_bits kind) rs1 x on same))
      | inr same ↦ inr (to, inr (choose (takes_low_bits kind) rs2 x on same))
    ]
sums_pass (Some t) (Some (OpReg kind rd rs1 rs2)) x z (on, from, to) =
    elim from [
      | inl same ↦ inr (to, inl (choose (takes_low_bits kind) rs1 x on same))
      | inr same ↦ inr (to, inr (choose (takes_low_bits kind) rs2 x on same))
    ]
sums_pass s i x z sums = absurd sums

-- ---- what is stored

pub stores_stored : (i : Option Instr) (x : ℕ) → Stores i x → x ≡ stored i
stores_stored (Some (Store kind rs1 rs2 imm)) x is = is
stores_stored i x is = absurd is

pub stored_stores : (i : Option Instr) (x : ℕ) → 0 < x → x ≡ stored i → Stores i x
stored_stores (Some (Store kind rs1 rs2 imm)) x register is = is
stored_stores i x register is = absurd (omega (arith, register, is))

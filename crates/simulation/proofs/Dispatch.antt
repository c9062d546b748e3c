-- A step of any kind.
use Rattle.std.proofs.Common.{◌≡◌, ℕ, Bool, true, false, List, Option, Some, None, refl}
use Rattle.rv32im.specs.declared.instructions.Instr.{Instr}
use Rattle.rv32im.specs.declared.instructions.Instr.TheVariants.{Lui, Auipc, Jal, Jalr, Branch, Load, Store, OpImm, OpReg, Fence, FenceI, Ecall, Ebreak}
use Rattle.flat_machine.specs.declared.events.FlatEvent.{FlatEvent}
use Rattle.flat_machine.specs.State.{State}
use Rattle.object_machine.specs.Program.{Program}
use Rattle.object_machine.specs.State.{SourceState}
use Rattle.object_machine.specs.Paired.{Origins}
use Rattle.simulation.specs.Setups.{Setup}
use Rattle.simulation.proofs.OneUnit.{StepsOn, StepsAs}
use Rattle.simulation.proofs.Uppers.{lui_steps, auipc_steps}
use Rattle.simulation.proofs.Numbers.{imm_steps, reg_steps, fence_steps, fence_i_steps}
use Rattle.simulation.proofs.Controls.{branch_steps, jal_steps, jalr_steps, ebreak_steps, nothing_steps}
use Rattle.simulation.proofs.Pairs.{pair_steps}
use Rattle.simulation.proofs.Loads.{load_steps}
use Rattle.simulation.proofs.Stores.{store_steps}
use Rattle.simulation.proofs.Calls.{call_steps}

module _ (p : Program) (l : Setup) (live arrive : ℕ → ℕ → Type 0) (tells : List FlatEvent → Type 0) (r : ℕ) (s : SourceState) (m : Origins) (t : State) where
  steps_as : (i : Instr) → StepsAs p l live arrive tells r s m t i
  steps_as (Lui rd n) = lui_steps p l live arrive tells r s m t rd n
  steps_as (Auipc rd n) = auipc_steps p l live arrive tells r s m t rd n
  steps_as (Jal rd off) = jal_steps p l live arrive tells r s m t rd off
  steps_as (Jalr rd rs1 imm) = jalr_steps p l live arrive tells r s m t rd rs1 imm
  steps_as (Branch kind rs1 rs2 off) = branch_steps p l live arrive tells r s m t kind rs1 rs2 off
  steps_as (Load kind rd rs1 imm) = load_steps p l live arrive tells r s m t kind rd rs1 imm
  steps_as (Store kind rs1 rs2 imm) = store_steps p l live arrive tells r s m t kind rs1 rs2 imm
  steps_as (OpImm kind rd rs1 imm) = imm_steps p l live arrive tells r s m t kind rd rs1 imm
  steps_as (OpReg kind rd rs1 rs2) = reg_steps p l live arrive tells r s m t kind rd rs1 rs2
  steps_as (Fence bits) = fence_steps p l live arrive tells r s m t bits
  steps_as (FenceI bits) = fence_i_steps p l live arrive tells r s m t bits
  steps_as Ecall = call_steps p l live arrive tells r s m t
  steps_as Ebreak = ebreak_steps p l live arrive tells r s m t

  steps_by : (read : Option Instr) (pair : Bool) → p.is_pair s.pc ≡ pair → StepsOn p l live arrive tells r s m t read
  steps_by read true pair = pair_steps p l live arrive tells r s m t read pair
  steps_by None false single = nothing_steps p l live arrive tells r s m t single
  steps_by (Some i) false single = steps_as i single

  -- a paired step leads on, whatever is read
  pub unit_steps : (read : Option Instr) → StepsOn p l live arrive tells r s m t read
  unit_steps read = steps_by read (p.is_pair s.pc) refl

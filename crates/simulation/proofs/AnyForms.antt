-- A unit at any form leads on.
use Rattle.std.proofs.Common.{◌≡◌, inr, ℕ, ◌+◌, ◌<◌, Bool, true, false, List, Option, Some, None, refl, subst, arith}
use Rattle.rv32im.specs.Words.{plus, offset}
use Rattle.rv32im.specs.declared.instructions.Instr.{Instr}
use Rattle.rv32im.specs.declared.instructions.Instr.TheVariants.{Lui, Auipc, Jal, Jalr, Branch, Load, Store, OpImm, OpReg, Fence, FenceI, Ecall, Ebreak}
use Rattle.flat_machine.specs.declared.events.FlatEvent.{FlatEvent}
use Rattle.flat_machine.specs.State.{State}
use Rattle.object_machine.specs.Program.{Program, Target}
use Rattle.object_machine.specs.State.{SourceState}
use Rattle.object_machine.specs.Step.{Reads, next_state}
use Rattle.object_machine.specs.Paired.{Origins, origins_after, is_paired_step}
use Rattle.simulation.specs.Setups.{Setup}
use Rattle.simulation.specs.Units.{StandsFor, OneWordAt}
use Rattle.simulation.specs.Relation.{LeadsTold}
use Rattle.simulation.specs.Rules.{UnitAt}
use Rattle.simulation.specs.Forms.{BlockAt, ReachedAt, ActsFor, ActsAs, OneWordFor, IsFollowed, WordsAt, RowAt, RowTells, FormAt, InWords, InRow, FormTells}
use Rattle.simulation.proofs.OneUnit.{Before}
use Rattle.simulation.proofs.Steps.{is_at}
use Rattle.simulation.proofs.Jumps.{run_leads}
use Rattle.simulation.proofs.Pairs.{pair_run_leads}
use Rattle.simulation.proofs.Dispatch.{unit_steps}

module _ (p : Program) (l : Setup) (live arrive : ℕ → ℕ → Type 0) (tells : List FlatEvent → Type 0) (r : ℕ) (s : SourceState) (m : Origins) (t : State) (before : Before p l live r s m t) where
  abbrev Leads : Option Instr → Type 0
  Leads read = LeadsTold tells p l live arrive r (next_state p s read) (origins_after p s m read) t

  -- a row of words
  row_leads : (row : RowAt p l live arrive r s.pc t.hart.pc) → RowTells p l live arrive tells r s.pc t.hart.pc t row → (read : Option Instr) → Reads (p.word s.pc) read → (pair : Bool) → p.is_pair s.pc ≡ pair → Leads read
  row_leads row told read reads true pair =
      let here = is_at p l live r s.pc s m t before.alike in
      pair_run_leads p l live arrive tells r s m t read before pair (row.pair pair t here) (told.pair pair here)
  row_leads row told None reads false single = absurd (row.meant single reads)
  row_leads row told (Some i) reads false single =
      let here = is_at p l live r s.pc s m t before.alike in
      let there = row.one i single reads in
      run_leads p l live arrive tells r s m t before single row.below i there.0 reads (there.1 t here)
      (told.one i single reads here)

  pub form_leads : (form : FormAt p l live arrive r s.pc t.hart.pc) → FormTells p l live arrive tells r s.pc t.hart.pc t form → (read : Option Instr) → Reads (p.word s.pc) read → is_paired_step p s m read ≡ true → Leads read
  form_leads (InWords words) told read reads paired =
      unit_steps p l live arrive tells r s m t read (record { before = before; unit = words; told = told }) reads paired
  form_leads (InRow row) told read reads paired = row_leads row told read reads (p.is_pair s.pc) refl

-- ---- at home

-- what stands at the home of a unit stands for it there, where the flat machine may arrive at least at the homes of
-- blocks, of addresses that a jump by a register may reach, and of what follows the unit
module _ (p : Program) (l : Setup) (arrive : ℕ → ℕ → Type 0) (r u : ℕ) (blocks : (v : ℕ) → p.is_block v ≡ true → arrive v v) (reached : ReachedAt p arrive) (below : u + 4 < 4294967296) where
  acts_home : (i j : Instr) → j ≡ i → ActsFor p arrive u u i j
  acts_home (Auipc rd n) j is = (is, refl)
  acts_home (Jal rd off) j is = (off, (is, (inr refl, blocks (offset u off))))
  acts_home (Jalr rd rs1 imm) j is = (is, (inr refl, reached))
  acts_home (Branch kind rs1 rs2 off) j is =
      let next : u + 4 ≡ plus u 4 = omega arith in
      (off, (is, (blocks (offset u off), subst (λ c. BlockAt p arrive (u + 4) c) next (blocks (u + 4)))))
  acts_home (Lui rd n) j is = is
  acts_home (Load kind rd rs1 imm) j is = is
  acts_home (Store kind rs1 rs2 imm) j is = is
  acts_home (OpImm kind rd rs1 imm) j is = is
  acts_home (OpReg kind rd rs1 rs2) j is = is
  acts_home (Fence bits) j is = is
  acts_home (FenceI bits) j is = is
  acts_home Ecall j is = is
  acts_home Ebreak j is = is

  stands_home : (site : Option Target) (i j : Instr) → StandsFor p l r u site i j → ActsAs p l arrive r u u site i j
  stands_home None i j is = acts_home i j is
  stands_home (Some t) (Auipc rd n) j is = is
  stands_home (Some t) (Lui rd n) j is = is
  stands_home (Some t) (OpImm kind rd rs1 imm) j is = is
  stands_home (Some t) (Load kind rd rs1 imm) j is = is
  stands_home (Some t) (Store kind rs1 rs2 imm) j is = is
  stands_home (Some t) (Jal rd off) j is = acts_home (Jal rd off) j is
  stands_home (Some t) (Jalr rd rs1 imm) j is = acts_home (Jalr rd rs1 imm) j is
  stands_home (Some t) (Branch kind rs1 rs2 off) j is = acts_home (Branch kind rs1 rs2 off) j is
  stands_home (Some t) (OpReg kind rd rs1 rs2) j is = is
  stands_home (Some t) (Fence bits) j is = is
  stands_home (Some t) (FenceI bits) j is = is
  stands_home (Some t) Ecall j is = is
  stands_home (Some t) Ebreak j is = is

  one_home : (read : Option Instr) → OneWordAt p l r u read → OneWordFor p l arrive r u u read
  one_home None is = is
  one_home (Some i) is = (is.0, (is.1.0, (is.1.1.0, (is.1.1.1.0, (is.1.1.1.1.0, stands_home (p.site u) i is.1.0 is.1.1.1.1.1)))))

pub home_words : (p : Program) (l : Setup) (arrive : ℕ → ℕ → Type 0) (r u : ℕ) → ((v : ℕ) → p.is_block v ≡ true → arrive v v) → ReachedAt p arrive → ((i : Instr) → p.is_pair u ≡ false → Reads (p.word u) (Some i) → IsFollowed i → p.falls u ≡ true → arrive (u + 4) (u + 4)) → UnitAt p l r u → WordsAt p l arrive r u u
home_words p l arrive r u blocks reached falls unit =
    let below = unit.below in
    let next : u + 4 ≡ plus u 4 = omega arith in
    record {
      one = λ read single reads. one_home p l arrive r u blocks reached below read (unit.one read single reads);
      pair = λ pair. (unit.pair pair, (refl, blocks (p.goes u)));
      falls = λ i single reads follows on. subst (λ c. arrive (u + 4) c) next (falls i single reads follows on);
      below = below;
    }

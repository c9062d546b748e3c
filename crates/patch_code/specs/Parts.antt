-- Parts of the switch routine: each tests which region a register holds, and does what is to be done for that region.
-- What is to be done is of any type: jobs, or their instructions.
use Rattle.std.specs.Prelude.{ℕ, zero, suc, ◌+◌, ◌-◌, ◌*◌, ◌%◌, ◌==◌, nat_lt, Bool, if◌then◌else◌, List, [], ◌∷◌, ◌++◌, length, Option, Some, None, option_map, ℤ, pos, negsuc}
use Rattle.rv32im.specs.declared.instructions.Instr.{Instr}
use Rattle.rv32im.specs.declared.instructions.Instr.TheVariants.{Branch, Jal, OpImm}
use Rattle.rv32im.specs.declared.instructions.BranchKind.{BranchKind}
use Rattle.rv32im.specs.declared.instructions.BranchKind.TheVariants.{Beq, Bne}
use Rattle.rv32im.specs.declared.instructions.ImmKind.TheVariants.{Addi}

-- what is done unless the register `tested` holds the region `twin`
pub record Kept (J : Type 0) : Type 0 where
  pub tested : ℕ
  pub twin : ℕ
  pub jobs : J

-- what is done where the register `tested` holds `region`
pub record Part (J : Type 0) : Type 0 where
  pub tested : ℕ
  pub region : ℕ
  pub jobs : J
  pub kept : Option (Kept J)

-- what the routine does for each region, of which region i + 1 has number i here: jobs that leave it and that enter it;
-- and the same for what its twin keeps, which a switch between the two leaves out
pub record SwitchPlan (J : Type 0) : Type 0 where
  -- where the control words stand
  pub base : ℕ
  pub fence_i : Bool
  -- whether regions have twins
  pub twins : Bool
  -- how many regions there are
  pub regions : ℕ
  pub leave : ℕ → J
  pub enter : ℕ → J
  pub kept_leave : ℕ → J
  pub kept_enter : ℕ → J

-- ---- the parts of a plan

-- regions 1 and 2, 3 and 4, and so on are twins; a last one without a partner has none
abbrev pub twin_of : ℕ → ℕ → Option ℕ
twin_of regions r = if r % 2 == 0 then Some (r - 1) else (if nat_lt r regions then Some (r + 1) else None)

abbrev pub twin_in : {J : Type 0} → SwitchPlan J → ℕ → Option ℕ
twin_in w r = if w.twins then twin_of w.regions r else None

abbrev pub kept_of : {J : Type 0} → SwitchPlan J → ℕ → ℕ → J → Option (Kept J)
kept_of w other r jobs = option_map (λ twin. record { tested = other; twin = twin; jobs = jobs }) (twin_in w r)

-- x6 holds the region that is left, and x30 the one that is entered
abbrev pub leave_part : {J : Type 0} → SwitchPlan J → ℕ → Part J
leave_part w i =
    record { tested = 6; region = i + 1; jobs = w.leave i; kept = kept_of w 30 (i + 1) (w.kept_leave i) }

abbrev pub enter_part : {J : Type 0} → SwitchPlan J → ℕ → Part J
enter_part w i =
    record { tested = 30; region = i + 1; jobs = w.enter i; kept = kept_of w 6 (i + 1) (w.kept_enter i) }

-- those of the first `n` regions
abbrev pub first_parts : {J : Type 0} → (ℕ → Part J) → ℕ → List (Part J)
first_parts part zero = []
first_parts part (suc n) = first_parts part n ++ part n ∷ []

-- a region is left before one is entered
abbrev pub all_parts : {J : Type 0} → SwitchPlan J → List (Part J)
all_parts w = first_parts (leave_part w) w.regions ++ first_parts (enter_part w) w.regions

-- ---- their instructions

-- the number that ADDI adds to take `n` away
abbrev pub minus_imm : ℕ → ℤ
minus_imm zero = pos 0
minus_imm (suc n) = negsuc n

-- instructions that run where a register holds `n` (BEQ), or where it doesn't (BNE); else control goes behind them
abbrev pub guarded : BranchKind → ℕ → ℕ → List Instr → List Instr
guarded kind tested n body =
    OpImm Addi 7 tested (minus_imm n) ∷ Branch kind 7 0 (pos 8) ∷ Jal 0 (pos (4 + 4 * length body)) ∷ body

-- `code` makes instructions of what is to be done
abbrev pub kept_code : {J : Type 0} → (J → List Instr) → Option (Kept J) → List Instr
kept_code code None = []
kept_code code (Some k) = guarded Bne k.tested k.twin (code k.jobs)

abbrev pub part_code : {J : Type 0} → (J → List Instr) → Part J → List Instr
part_code code p = guarded Beq p.tested p.region (code p.jobs ++ kept_code code p.kept)

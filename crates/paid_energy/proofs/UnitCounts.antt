-- How many words of a unit run in a copy, with those behind the last unit of a block: as many as are counted by where control goes.
use Rattle.std.proofs.Common.{◌≡◌, ◌∙◌, ℕ, ◌+◌, Bool, true, false, not, ◌&&◌, if◌then◌else◌, length, Option, Some, None, refl, sym, ap, arith}
use Rattle.rv32im.specs.Acts.{Registers}
use Rattle.rv32im.specs.declared.instructions.BranchKind.{BranchKind}
use Rattle.rv32im.specs.declared.instructions.Instr.{Instr}
use Rattle.rv32im.specs.declared.instructions.Instr.TheVariants as instr
use Rattle.code_blocks.specs.declared.parts.Unit.{Unit}
use Rattle.code_blocks.specs.declared.ends.End.{End}
use Rattle.code_blocks.specs.declared.ends.End.TheVariants as end
use Rattle.block_splitter.specs.declared.unit_kind.UnitKind.{UnitKind}
use Rattle.block_splitter.specs.declared.unit_kind.UnitKind.TheVariants.{Plain, Upper, Branch, Jump, Call, Halt}
use Rattle.block_splitter.specs.Forms.{straight_kind, branch_kind, tail_kind, indirect_kind, last_kind, copied_words, fall_out_words, fall_out_size, displaced_words}
use Rattle.result_laws.specs.Kinds.{takes}
use Rattle.result_laws.specs.Copied.{unit_words}
use Rattle.result_laws.specs.CopyLaws.{falls_to, is_branch_kind}
use Rattle.result_laws.proofs.Counts.{runs_count}
use Rattle.result_laws.specs.Walks.{own_fetched}
use Rattle.paid_energy.specs.Leading.{BranchGoes, GoesAs, falls_behind}
use Rattle.paid_energy.specs.CountedWalks.{leaving_stub}
use Rattle.paid_energy.proofs.Tests.{same_some}

-- ---- in a copy

upper_other : (site : Bool) (rd value : ℕ) → is_branch_kind (if site then Plain else Upper rd value) ≡ false
upper_other true rd value = refl
upper_other false rd value = refl

straight_other : (site : ℕ → Bool) (at : ℕ) (o : Option Instr) → is_branch_kind (straight_kind site at o) ≡ false
straight_other site at None = refl
straight_other site at (Some (instr.Auipc rd imm)) = upper_other (site at) rd _
straight_other site at (Some instr.Ebreak) = refl
straight_other site at (Some other) = refl

tail_other : (target : ℕ) (o : Option Instr) → is_branch_kind (tail_kind target o) ≡ false
tail_other target (Some (instr.Auipc rd imm)) = refl
tail_other target None = refl
tail_other target (Some other) = refl

indirect_other : (back : Option ℕ) (o : Option Instr) → is_branch_kind (indirect_kind back o) ≡ false
indirect_other None o = refl
indirect_other (Some back) (Some (instr.Jalr rd rs1 imm)) = refl
indirect_other (Some back) None = refl
indirect_other (Some back) (Some other) = refl

-- the kind isn't one at which a run halts
abbrev pub IsNoHalt : UnitKind → Type 0
IsNoHalt Halt = ⊥
IsNoHalt other = Prim.Unit {0}

module _ (inside : ℕ → Bool) (regs : Registers) (next behind : ℕ) where
  abbrev pub runs : UnitKind → ℕ
  runs kind = unit_words inside (takes kind regs) kind

  -- behind the last unit of a block
  abbrev pub falls : UnitKind → End → ℕ
  falls kind e = if falls_behind (takes kind regs) e then fall_out_size inside e else 0

  -- of a unit that is no branch, with nothing behind it
  alone : (kind : UnitKind) → is_branch_kind kind ≡ false → runs kind + 0 ≡ copied_words inside next kind + 0
  alone kind other = ap (λ (n : ℕ). n + 0) (runs_count.copied inside (takes kind regs) next kind other)

  branch_last : (kind : BranchKind) (rs1 rs2 target n : ℕ) (taken : Bool) → takes (Branch kind rs1 rs2 target) regs ≡ taken → BranchGoes taken target behind next → n ≡ behind → unit_words inside taken (Branch kind rs1 rs2 target) + (if not taken then fall_out_size inside (end.Branch target n) else 0) ≡ copied_words inside next (Branch kind rs1 rs2 target) + fall_out_words inside next (end.Branch target n)
  branch_last kind rs1 rs2 target n true is goes there =
      let count = runs_count.taken inside kind rs1 rs2 target n in
      let same : copied_words inside target (Branch kind rs1 rs2 target) + fall_out_words inside target (end.Branch target n) ≡ copied_words inside next (Branch kind rs1 rs2 target) + fall_out_words inside next (end.Branch target n) =
      ap (λ (v : ℕ). copied_words inside v (Branch kind rs1 rs2 target) + fall_out_words inside v (end.Branch target n)) (sym goes) in
      omega (arith, count, same)
  branch_last kind rs1 rs2 target n false is goes there =
      let to : n ≡ next = there ∙ sym goes in
      let count = runs_count.passed inside kind rs1 rs2 target n in
      let same : copied_words inside n (Branch kind rs1 rs2 target) + fall_out_words inside n (end.Branch target n) ≡ copied_words inside next (Branch kind rs1 rs2 target) + fall_out_words inside next (end.Branch target n) =
      ap (λ (v : ℕ). copied_words inside v (Branch kind rs1 rs2 target) + fall_out_words inside v (end.Branch target n)) to in
      count ∙ same

  branch_count : (target n : ℕ) (o : Option Instr) → IsNoHalt (branch_kind target o) → GoesAs (branch_kind target o) regs behind next → n ≡ behind → runs (branch_kind target o) + falls (branch_kind target o) (end.Branch target n) ≡ copied_words inside next (branch_kind target o) + fall_out_words inside next (end.Branch target n)
  branch_count target n (Some (instr.Branch kind rs1 rs2 off)) on goes there =
      branch_last kind rs1 rs2 target n (takes (Branch kind rs1 rs2 target) regs) refl goes there
  branch_count target n None on goes there = absurd on
  branch_count target n (Some other) on goes there = absurd on

  -- the last unit of a block
  last_count : (site : ℕ → Bool) (u : Unit) (e : End) → IsNoHalt (last_kind site e u) → GoesAs (last_kind site e u) regs behind next → (is_branch_kind (last_kind site e u) ≡ true → falls_to e ≡ Some behind) → runs (last_kind site e u) + falls (last_kind site e u) e ≡ copied_words inside next (last_kind site e u) + fall_out_words inside next e
  last_count site u (end.Fall n) on goes there =
      ap (λ (k : ℕ). k + fall_out_size inside (end.Fall n))
      (runs_count.copied inside (takes (straight_kind site u.at u.instr) regs) next (straight_kind site u.at u.instr) (straight_other site u.at u.instr))
  last_count site u (end.Branch target n) on goes there = branch_count target n u.instr on goes (branch_to u.instr on there)
    where
      branch_to : (o : Option Instr) → IsNoHalt (branch_kind target o) → (is_branch_kind (branch_kind target o) ≡ true → Some n ≡ Some behind) → n ≡ behind
      branch_to (Some (instr.Branch kind rs1 rs2 off)) on there = same_some n behind (there refl)
      branch_to None on there = absurd on
      branch_to (Some other) on there = absurd on
  last_count site u (end.Jump target) on goes there = alone (Jump target) refl
  last_count site u (end.Call target back link) on goes there = alone (Call target back link) refl
  last_count site u (end.Tail target) on goes there = alone (tail_kind target u.instr) (tail_other target u.instr)
  last_count site u (end.Indirect back) on goes there = alone (indirect_kind back u.instr) (indirect_other back u.instr)
  last_count site u end.Stop on goes there = alone (straight_kind site u.at u.instr) (straight_other site u.at u.instr)

  -- any unit
  abbrev pub kind_by : (ℕ → Bool) → Bool → End → Unit → UnitKind
  kind_by site last e u = if last then last_kind site e u else straight_kind site u.at u.instr

  pub copied_count : (site : ℕ → Bool) (u : Unit) (last : Bool) (e : End) → IsNoHalt (kind_by site last e u) → GoesAs (kind_by site last e u) regs behind next → (last ≡ true → is_branch_kind (kind_by site last e u) ≡ true → falls_to e ≡ Some behind) → runs (kind_by site last e u) + (if last && falls_behind (takes (kind_by site last e u) regs) e then fall_out_size inside e else 0) ≡ copied_words inside next (kind_by site last e u) + (if last then fall_out_words inside next e else 0)
  copied_count site u true e on goes there = last_count site u e on goes (there refl)
  copied_count site u false e on goes there = alone (straight_kind site u.at u.instr) (straight_other site u.at u.instr)

-- ---- displaced

-- with the jump home behind a unit that doesn't jump
pub displaced_count : (at : ℕ) (taken : Bool) (kind : UnitKind) → length (own_fetched at taken kind) + length (leaving_stub at kind) ≡ displaced_words kind
displaced_count at taken Plain = refl
displaced_count at taken kind =
    let count = runs_count.displaced at taken kind in omega (arith, count)

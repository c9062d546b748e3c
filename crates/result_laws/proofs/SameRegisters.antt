-- A unit's copy leaves the registers that the unit leaves at home.
use Rattle.std.proofs.Common.{◌≡◌, ◌⊎◌, inl, inr, ◌∙◌, ℕ, Bool, sym, ap}
use Rattle.rv32im.specs.Acts.{Registers}
use Rattle.flat_machine.specs.Lines.{acted}
use Rattle.code_blocks.specs.declared.parts.Code.{Code}
use Rattle.block_splitter.specs.declared.unit_kind.UnitKind.{UnitKind}
use Rattle.block_splitter.specs.declared.unit_kind.UnitKind.TheVariants.{Tail}
use Rattle.result_laws.specs.Kinds.{regs_after}
use Rattle.result_laws.specs.Copied.{MayDiffer}
use Rattle.result_laws.specs.HomeUnits.{IsTailRegister}
use Rattle.result_laws.specs.CopyLaws.{CopiesLeaveRegisters}

tail_differs : (c : Code) (taken : Bool) (kind : UnitKind) (k : ℕ) → IsTailRegister kind k → MayDiffer c taken kind k
tail_differs c taken (Tail target register) k is = is
tail_differs c taken other k is = absurd is

same_or : (c : Code) (taken : Bool) (kind : UnitKind) (k copied told home : ℕ) → (copied ≡ told) ⊎ MayDiffer c taken kind k → (home ≡ told) ⊎ IsTailRegister kind k → (copied ≡ home) ⊎ MayDiffer c taken kind k
same_or c taken kind k copied told home (inl first) (inl second) = inl (first ∙ sym second)
same_or c taken kind k copied told home (inl first) (inr tail) = inr (tail_differs c taken kind k tail)
same_or c taken kind k copied told home (inr differs) second = inr differs

home_told : (kind : UnitKind) (regs other : Registers) (k home : ℕ) → regs ≡ other → (home ≡ regs_after kind regs k) ⊎ IsTailRegister kind k → (home ≡ regs_after kind other k) ⊎ IsTailRegister kind k
home_told kind regs other k home same (inl is) = inl (is ∙ ap (λ (r : Registers). regs_after kind r k) same)
home_told kind regs other k home same (inr tail) = inr tail

pub copies_leave_registers : CopiesLeaveRegisters
copies_leave_registers x s at a taken kind is h leads home same k =
    same_or x.code taken kind k (leads.1.1.regs k) (regs_after kind s.hart.regs k) ((acted is h).regs k) (leads.1.1.alike k)
    (home_told kind h.regs s.hart.regs k ((acted is h).regs k) same (home.regs k))

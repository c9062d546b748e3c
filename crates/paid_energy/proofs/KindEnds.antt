-- How a block ends, by the kind of its last unit; and where units of some kinds lead from a copy.
use Rattle.std.proofs.Common.{◌≡◌, ℕ, zero, suc, Bool, true, false, if◌then◌else◌, List, [], ◌∷◌, map, Option, Some, None, refl, arith}
use Rattle.std.specs.Prelude.{slice_index_or, ◌==◌}
use Rattle.std.proofs.lemmas.Bool.{cond_both}
use Rattle.std.proofs.lemmas.Bool.Decides.{nat_tests}
use Rattle.rv32im.specs.declared.instructions.Instr.{Instr}
use Rattle.rv32im.specs.declared.instructions.Instr.TheVariants as instr
use Rattle.code_blocks.specs.Numbers.{ending_of}
use Rattle.code_blocks.specs.declared.parts.Unit.{Unit}
use Rattle.code_blocks.specs.declared.parts.Block.{Block}
use Rattle.code_blocks.specs.declared.ends.End.{End}
use Rattle.code_blocks.specs.declared.ends.End.TheVariants as ends
use Rattle.block_splitter.specs.declared.unit_kind.UnitKind.{UnitKind}
use Rattle.block_splitter.specs.declared.unit_kind.UnitKind.TheVariants.{Plain, Upper, Branch, Jump, Call, Tail, Indirect, Linking}
use Rattle.block_splitter.specs.Forms.{Body, body_at, unit_in, is_last, straight_kind, branch_kind, tail_kind, indirect_kind, last_kind, kind_of}
use Rattle.result_laws.specs.CopyLaws.{falls_to}
use Rattle.energy_model.specs.Energy.{may_stay}
use Rattle.paid_energy.specs.Leading.{falls_behind}

-- a unit of some kinds is the last of its block, which ends so
abbrev pub EndsAs : UnitKind → Bool → End → Type 0
EndsAs (Branch kind rs1 rs2 target) last e = (last ≡ true) × ((next : ℕ) × (e ≡ ends.Branch target next))
EndsAs (Jump target) last e = (last ≡ true) × (e ≡ ends.Jump target)
EndsAs (Call target back link) last e = (last ≡ true) × (e ≡ ends.Call target back link)
EndsAs (Tail target register) last e = (last ≡ true) × (e ≡ ends.Tail target)
EndsAs Indirect last e = (last ≡ true) × (e ≡ ends.Indirect None)
EndsAs (Linking back link base imm) last e = (last ≡ true) × (e ≡ ends.Indirect (Some back))
EndsAs kind last e = Prim.Unit {0}

straight_ends : (site : ℕ → Bool) (at : ℕ) (o : Option Instr) (last : Bool) (e : End) → EndsAs (straight_kind site at o) last e
straight_ends site at None last e = tt
straight_ends site at (Some (instr.Auipc rd imm)) last e =
    cond_both (site at) Plain (Upper rd _) (λ (kind : UnitKind). EndsAs kind last e) (λ is. tt) (λ is. tt)
straight_ends site at (Some instr.Ebreak) last e = tt
straight_ends site at (Some i) last e = tt

branch_ends : (target next : ℕ) (o : Option Instr) → EndsAs (branch_kind target o) true (ends.Branch target next)
branch_ends target next (Some (instr.Branch kind rs1 rs2 off)) = (refl, (next, refl))
branch_ends target next None = tt
branch_ends target next (Some i) = tt

tail_ends : (target : ℕ) (o : Option Instr) → EndsAs (tail_kind target o) true (ends.Tail target)
tail_ends target (Some (instr.Auipc rd imm)) = (refl, refl)
tail_ends target None = tt
tail_ends target (Some i) = tt

indirect_ends : (back : Option ℕ) (o : Option Instr) → EndsAs (indirect_kind back o) true (ends.Indirect back)
indirect_ends None o = (refl, refl)
indirect_ends (Some back) (Some (instr.Jalr rd rs1 imm)) = (refl, refl)
indirect_ends (Some back) None = tt
indirect_ends (Some back) (Some i) = tt

last_ends : (site : ℕ → Bool) (e : End) (u : Unit) → EndsAs (last_kind site e u) true e
last_ends site (ends.Fall next) u = straight_ends site u.at u.instr true (ends.Fall next)
last_ends site (ends.Branch target next) u = branch_ends target next u.instr
last_ends site (ends.Jump target) u = (refl, refl)
last_ends site (ends.Call target back link) u = (refl, refl)
last_ends site (ends.Tail target) u = tail_ends target u.instr
last_ends site (ends.Indirect back) u = indirect_ends back u.instr
last_ends site ends.Stop u = straight_ends site u.at u.instr true ends.Stop

by_place : (site : ℕ → Bool) (u : Unit) (e : End) (last : Bool) → EndsAs (if last then last_kind site e u else straight_kind site u.at u.instr) last e
by_place site u e true = last_ends site e u
by_place site u e false = straight_ends site u.at u.instr false e

pub ends_as : (site : ℕ → Bool) (body : Body) (k : ℕ) → EndsAs (kind_of site body k) (is_last body k) body.end
ends_as site body k = by_place site (unit_in body k) body.end (is_last body k)

-- the last place
pub is_last_place : (k n : ℕ) → (suc k == n) ≡ true → suc k ≡ n
is_last_place k n is = grind (arith, nat_tests, is)

pub last_passes : (k n : ℕ) → suc k ≡ n → (suc k == n) ≡ true
last_passes k n is = grind (arith, nat_tests, is)

pub earlier_passes : (k n : ℕ) → (suc k ≡ n → ⊥) → (suc k == n) ≡ false
earlier_passes k n other = grind (arith, nat_tests, other)

-- the end of a block, told with its units
pub body_ends : (blocks : List Block) (b : ℕ) → (body_at blocks b).end ≡ slice_index_or (map ending_of blocks) b ends.Stop
body_ends [] b = refl
body_ends (x ∷ xs) zero = refl
body_ends (x ∷ xs) (suc b) = body_ends xs b

-- ---- where control falls

falls_on : (e : End) (next : ℕ) → falls_to e ≡ Some next → (may_stay e ≡ true) × (falls_behind false e ≡ true)
falls_on (ends.Fall behind) next is = (refl, refl)
falls_on (ends.Branch target behind) next is = (refl, refl)
falls_on (ends.Jump target) next is = absurd (cc)
falls_on (ends.Call target back link) next is = absurd (cc)
falls_on (ends.Tail target) next is = absurd (cc)
falls_on (ends.Indirect back) next is = absurd (cc)
falls_on ends.Stop next is = absurd (cc)

pub falls_stays : (e : End) (next : ℕ) → falls_to e ≡ Some next → may_stay e ≡ true
falls_stays e next is = (falls_on e next is).0

pub falls_untaken : (e : End) (next : ℕ) → falls_to e ≡ Some next → falls_behind false e ≡ true
falls_untaken e next is = (falls_on e next is).1

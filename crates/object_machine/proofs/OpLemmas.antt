-- Tables of names.
use Rattle.std.proofs.Common.{◌≡◌, inl, inr, ℕ, ◌+◌, ◌<◌, nat_lt, ◌&&◌, true, List, [], ◌∷◌, ◌++◌, length, slice_index_or, Option, Some, None, sym, ◌∙◌, ap, subst, arith}
use Rattle.std.proofs.lemmas.Bool.{cases_lt}
use Rattle.std.proofs.lemmas.Bool.Decides.{nat_tests}
use Rattle.std.proofs.lemmas.List.{length-append, get_or-append-add, get_or_default}
use Rattle.std.proofs.Math.ListN.{get_or-append}
use Rattle.list_checks.proofs.TestLemmas.{both}
use Rattle.rv32im.specs.declared.instructions.Instr.{Instr}
use Rattle.rv32im.specs.declared.instructions.Instr.TheVariants.{Lui, Auipc, Jal, Jalr, Branch, Load, Store, OpImm, OpReg, Fence, FenceI, Ecall, Ebreak}
use Rattle.object_machine.specs.declared.op.Op.{Op}
use Rattle.object_machine.specs.declared.op.Op.TheVariants.{Other}
use Rattle.object_machine.specs.declared.units.Prepared.{Prepared}
use Rattle.object_machine.specs.Units.{unit_in, fits, fits_read, fits_pair, fits_site, is_fit, Fits, FitsRead}
use Rattle.object_machine.specs.Ops.{instr_of, NamedBy, op_in, AreNamed, AreOps}

-- ---- a table of all units

pub op_below : (units : List Prepared) (starts : List ℕ) (ops : List Op) (k : ℕ) → AreOps units starts ops → k < length units → k < length ops
unfolding AreOps
op_below units starts ops k are below = (are k below).0

pub name_there : (units : List Prepared) (starts : List ℕ) (ops : List Op) (k : ℕ) (op : Op) → AreOps units starts ops → k < length units → op ≡ slice_index_or ops k op → NamedBy units starts k (instr_of op)
unfolding AreOps
name_there units starts ops k op are below is =
    let here : op ≡ op_in ops k = is ∙ get_or_default ops k op Other (are k below).0 in
    subst (λ (o : Op). NamedBy units starts k (instr_of o)) (sym here) (are k below).1

pub all_named : (units : List Prepared) (starts : List ℕ) (ops : List Op) → AreNamed units starts (length units) ops → AreOps units starts ops
unfolding AreOps
all_named units starts ops are k below = let count = are.count in (omega (arith, count, below), are.each k below)

-- ---- one unit more

pub named_more : (units : List Prepared) (starts : List ℕ) (k : ℕ) (old new : List Op) (op : Op) → AreNamed units starts k old → NamedBy units starts k (instr_of op) → new ≡ old ++ op ∷ [] → AreNamed units starts (k + 1) new
named_more units starts k old new op so_far one is =
    let all = length-append old (op ∷ []) in
    let n = so_far.count in
    record {
      count = ap length is ∙ omega (arith, all, n);
      each = λ j less.
          subst (λ (xs : List Op). NamedBy units starts j (instr_of (op_in xs j))) (sym is)
          (elim (cases_lt j k) [
            | inl earlier ↦ subst (λ (o : Op). NamedBy units starts j (instr_of o)) (sym (get_or-append old (op ∷ []) Other j (omega (arith, earlier, n)))) (so_far.each j earlier)
            | inr last ↦
                let same : j ≡ k = omega (arith, last, less) in
                let at : j ≡ length old + 0 = omega (arith, same, n) in
                let there : op_in (old ++ op ∷ []) j ≡ op = ap (op_in (old ++ op ∷ [])) at ∙ get_or-append-add old (op ∷ []) 0 Other in
                subst (λ (i : ℕ). NamedBy units starts i (instr_of (op_in (old ++ op ∷ []) j))) (sym same)
                (subst (λ (o : Op). NamedBy units starts k (instr_of o)) (sym there) one)
          ]);
    }

-- ---- fields

less_than : (a b : ℕ) → nat_lt a b ≡ true → a < b
less_than a b is = grind (arith, nat_tests, is)

two_below : (a b m n : ℕ) → nat_lt a m && nat_lt b n ≡ true → (a < m) × (b < n)
two_below a b m n is = let parts = both (nat_lt a m) (nat_lt b n) is in (less_than a m parts.0, less_than b n parts.1)

fits_one : (i : Instr) → fits i ≡ true → Fits i
fits_one (Lui rd imm) is = two_below rd imm 32 1048576 is
fits_one (Auipc rd imm) is = two_below rd imm 32 1048576 is
fits_one (Jal rd off) is = less_than rd 32 is
fits_one (Jalr rd rs1 imm) is = two_below rd rs1 32 32 is
fits_one (Branch kind rs1 rs2 off) is = two_below rs1 rs2 32 32 is
fits_one (Load kind rd rs1 imm) is = two_below rd rs1 32 32 is
fits_one (Store kind rs1 rs2 imm) is = two_below rs1 rs2 32 32 is
fits_one (OpImm kind rd rs1 imm) is = two_below rd rs1 32 32 is
fits_one (OpReg kind rd rs1 rs2) is =
    let parts = both (nat_lt rd 32 && nat_lt rs1 32) (nat_lt rs2 32) is in
    let front = two_below rd rs1 32 32 parts.0 in
    (front.0, front.1, less_than rs2 32 parts.1)
fits_one (Fence bits) is = tt
fits_one (FenceI bits) is = tt
fits_one Ecall is = tt
fits_one Ebreak is = tt

pub named_fits : (count : ℕ) (units : List Prepared) (starts : List ℕ) (k : ℕ) (o : Option Instr) → is_fit count (unit_in units k) ≡ true → NamedBy units starts k o → FitsRead o
named_fits count units starts k None fit named = tt
named_fits count units starts k (Some i) fit named =
    let u = unit_in units k in
    let most = (both (fits_read u.instr && fits_pair u.at u.pair && fits_site count u.site) (nat_lt (u.at + 4) 4294967296) fit).0 in
    let more = (both (fits_read u.instr && fits_pair u.at u.pair) (fits_site count u.site) most).0 in
    let read = (both (fits_read u.instr) (fits_pair u.at u.pair) more).0 in
    fits_one i (ap fits_read (sym named.instr) ∙ read)

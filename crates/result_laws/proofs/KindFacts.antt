-- What the word of a unit means, by the unit's kind, and where the unit may lead.
use Rattle.std.proofs.Common.{◌≡◌, ◌⊎◌, inl, inr, ℕ, suc, ◌+◌, ◌*◌, ◌<◌, ◌==◌, Bool, true, false, if◌then◌else◌, List, [], ◌∷◌, length, refl, sym, ap, subst, arith, ℤ}
use Rattle.std.specs.Prelude.{Option, Some, None, MatchOption, is_some}
use Rattle.std.specs.List.{All}
use Rattle.std.proofs.lemmas.Bool.{cond_both}
use Rattle.std.proofs.lemmas.Bool.Decides.{nat_tests}
use Rattle.std.proofs.lemmas.List.Elements.{All-head}
use Rattle.rv32im.specs.declared.instructions.Instr.{Instr}
use Rattle.rv32im.specs.declared.instructions.Instr.TheVariants as instr
use Rattle.rv32im.specs.Fields.{rd_of, rs1_of, i_immediate, j_immediate}
use Rattle.rv32im.specs.Table.{Means, MeansNothing}
use Rattle.elf_reader.specs.File.{PlainView}
use Rattle.loaded_file.specs.Code.{image_word}
use Rattle.code_blocks.specs.Words.{is_branch, is_jalr, links, pair_target}
use Rattle.code_blocks.specs.Leaders.{is_call_pair}
use Rattle.code_blocks.specs.Early.{has}
use Rattle.code_blocks.specs.Blocks.{IsUnit, IsCode}
use Rattle.code_blocks.specs.Edges.{successors}
use Rattle.code_blocks.specs.Numbers.{starts_of, end_at}
use Rattle.code_blocks.specs.declared.parts.Unit.{Unit}
use Rattle.code_blocks.specs.declared.parts.Block.{Block}
use Rattle.code_blocks.specs.declared.parts.Code.{Code}
use Rattle.code_blocks.specs.declared.ends.End.{End}
use Rattle.code_blocks.specs.declared.ends.End.TheVariants as end
use Rattle.block_splitter.specs.declared.unit_kind.UnitKind.{UnitKind}
use Rattle.block_splitter.specs.declared.unit_kind.UnitKind.TheVariants.{Plain, Upper, Branch, Jump, Call, Tail, Indirect, Linking, Halt}
use Rattle.block_splitter.specs.Forms.{Body, body_of, body_at, unit_in, straight_kind, branch_kind, tail_kind, indirect_kind, last_kind, kind_of}
use Rattle.block_splitter.specs.Pieces.{is_stop, IsCopyable}
use Rattle.result_laws.specs.Displacing.{known_targets}
use Rattle.result_laws.specs.CopyLaws.{unit_at, falls_to}
use Rattle.result_laws.proofs.Alike.{IsStraight}
use Rattle.result_laws.proofs.Ends.{NoJump, goes_no_jump, EndsSo}
use Rattle.result_laws.proofs.CopyHomes.{jumps_not, unlinked, jal_is, jalr_is, auipc_is, pair_words, branch_opcode}
use Rattle.result_laws.proofs.CopyUnits.{block_at, unit_of_block, targets_begin, some_at, last_test, other_test}

-- a block begins there
abbrev pub Begins : Code → ℕ → Type 0
Begins c a = has (starts_of c) a ≡ true

-- a call of two words that comes back
pub record CallsBack (v : PlainView) (a target back link : ℕ) : Type 0 where
  pub pair : is_call_pair v a ≡ true
  pub links_so : links (image_word v (a + 4)) ≡ true
  pub goes : target ≡ pair_target v a
  pub behind : back ≡ a + 8
  pub register_is : link ≡ rd_of (image_word v (a + 4))

-- what the unit at an address is. `F` says where control falls behind it, and `H` why a run ends there
abbrev pub IsKindBy : PlainView → Code → (ℕ → Bool) → ℕ → Type 0 → Type 0 → UnitKind → Type 0
IsKindBy v c site a F H Plain =
    (i : Instr) × ((is_call_pair v a ≡ false) × (Means (image_word v a) i × (((site a ≡ true) ⊎ IsStraight i) × F)))
IsKindBy v c site a F H (Upper rd value) =
    (n : ℕ) × ((is_call_pair v a ≡ false) × (Means (image_word v a) (instr.Auipc rd n) × ((site a ≡ false) × F)))
IsKindBy v c site a F H (Branch kind rs1 rs2 target) =
    (off : ℤ) × ((is_call_pair v a ≡ false) × (Means (image_word v a) (instr.Branch kind rs1 rs2 off) × (Begins c target × F)))
IsKindBy v c site a F H (Jump target) =
    (off : ℤ) × ((is_call_pair v a ≡ false) × (Means (image_word v a) (instr.Jal 0 off) × Begins c target))
IsKindBy v c site a F H (Call target back link) =
    Begins c target
    × (CallsBack v a target back link ⊎ ((off : ℤ) × ((is_call_pair v a ≡ false) × Means (image_word v a) (instr.Jal link off))))
IsKindBy v c site a F H (Tail target register) =
    (is_call_pair v a ≡ true)
    × ((links (image_word v (a + 4)) ≡ false) × ((target ≡ pair_target v a) × ((register ≡ rd_of (image_word v a)) × Begins c target)))
IsKindBy v c site a F H Indirect =
    (base : ℕ) × ((imm : ℤ) × ((is_call_pair v a ≡ false) × Means (image_word v a) (instr.Jalr 0 base imm)))
IsKindBy v c site a F H (Linking back link base imm) = (is_call_pair v a ≡ false) × Means (image_word v a) (instr.Jalr link base imm)
IsKindBy v c site a F H Halt = H

-- no run ends there
abbrev pub IsKindOf : PlainView → Code → (ℕ → Bool) → ℕ → Type 0 → UnitKind → Type 0
IsKindOf v c site a F kind = IsKindBy v c site a F ⊥ kind

module _ (v : PlainView) (c : Code) (site : ℕ → Bool) (a : ℕ) (F H : Type 0) where
  abbrev w : ℕ
  w = image_word v a

  abbrev Is : UnitKind → Type 0
  Is kind = IsKindBy v c site a F H kind

  plain_so : (i : Instr) → NoJump v a → F → Means w i → (site a ≡ true) ⊎ IsStraight i → Is Plain
  plain_so i none falls means straight = (i, (none.pair, (means, (straight, falls))))

  straight_so : (o : Option Instr) → is_some o ≡ true → MatchOption o (MeansNothing w) (Means w) → NoJump v a → F → Is (straight_kind site a o)
  straight_so None some means none falls = absurd (cc (some))
  straight_so (Some (instr.Auipc rd imm)) some means none falls =
      cond_both (site a) Plain (Upper rd _) Is
      (λ there. plain_so (instr.Auipc rd imm) none falls means (inl there))
      (λ elsewhere. (imm, (none.pair, (means, (elsewhere, falls)))))
  straight_so (Some instr.Ebreak) some means none falls = absurd (jumps_not v a instr.Ebreak none means tt)
  straight_so (Some (instr.Jal rd off)) some means none falls = absurd (jumps_not v a (instr.Jal rd off) none means tt)
  straight_so (Some (instr.Jalr rd rs1 imm)) some means none falls = absurd (jumps_not v a (instr.Jalr rd rs1 imm) none means tt)
  straight_so (Some (instr.Branch kind rs1 rs2 off)) some means none falls = absurd (jumps_not v a (instr.Branch kind rs1 rs2 off) none means tt)
  straight_so (Some (instr.Lui rd imm)) some means none falls = plain_so (instr.Lui rd imm) none falls means (inr tt)
  straight_so (Some (instr.Load kind rd rs1 imm)) some means none falls = plain_so (instr.Load kind rd rs1 imm) none falls means (inr tt)
  straight_so (Some (instr.Store kind rs1 rs2 imm)) some means none falls = plain_so (instr.Store kind rs1 rs2 imm) none falls means (inr tt)
  straight_so (Some (instr.OpImm kind rd rs1 imm)) some means none falls = plain_so (instr.OpImm kind rd rs1 imm) none falls means (inr tt)
  straight_so (Some (instr.OpReg kind rd rs1 rs2)) some means none falls = plain_so (instr.OpReg kind rd rs1 rs2) none falls means (inr tt)
  straight_so (Some (instr.Fence bits)) some means none falls = plain_so (instr.Fence bits) none falls means (inr tt)
  straight_so (Some (instr.FenceI bits)) some means none falls = plain_so (instr.FenceI bits) none falls means (inr tt)
  straight_so (Some instr.Ecall) some means none falls = plain_so instr.Ecall none falls means (inr tt)

  branch_so : (o : Option Instr) (target : ℕ) → is_some o ≡ true → is_branch w ≡ true → MatchOption o (MeansNothing w) (Means w) → is_call_pair v a ≡ false → Begins c target → F → Is (branch_kind target o)
  branch_so (Some (instr.Branch kind rs1 rs2 off)) target some test means single begins falls = (off, (single, (means, (begins, falls))))
  branch_so None target some test means single begins falls = absurd (cc (some))
  branch_so (Some instr.Ecall) target some test means single begins falls = let o = branch_opcode w test in absurd (omega (arith, means, o))
  branch_so (Some instr.Ebreak) target some test means single begins falls = let o = branch_opcode w test in absurd (omega (arith, means, o))
  branch_so (Some other) target some test means single begins falls =
      let o = branch_opcode w test in let m = means.0 in absurd (omega (arith, m, o))

  tail_so : (o : Option Instr) (target : ℕ) → is_some o ≡ true → MatchOption o (MeansNothing w) (Means w) → is_call_pair v a ≡ true → links (image_word v (a + 4)) ≡ false → target ≡ pair_target v a → Begins c target → Is (tail_kind target o)
  tail_so (Some (instr.Auipc rd n)) target some means pair none there begins = (pair, (none, (there, (means.1, begins))))
  tail_so None target some means pair none there begins = absurd (cc (some))
  tail_so (Some instr.Ecall) target some means pair none there begins = let o = (auipc_is w (pair_words v a pair).auipc).0 in absurd (omega (arith, means, o))
  tail_so (Some instr.Ebreak) target some means pair none there begins = let o = (auipc_is w (pair_words v a pair).auipc).0 in absurd (omega (arith, means, o))
  tail_so (Some other) target some means pair none there begins =
      let o = (auipc_is w (pair_words v a pair).auipc).0 in let m = means.0 in absurd (omega (arith, m, o))

  linking_so : (o : Option Instr) (back : ℕ) → is_some o ≡ true → is_jalr w ≡ true → MatchOption o (MeansNothing w) (Means w) → is_call_pair v a ≡ false → Is (indirect_kind (Some back) o)
  linking_so (Some (instr.Jalr link base imm)) back some jalr means single = (single, means)
  linking_so None back some jalr means single = absurd (cc (some))
  linking_so (Some instr.Ecall) back some jalr means single = let o = (jalr_is w jalr).0 in absurd (omega (arith, means, o))
  linking_so (Some instr.Ebreak) back some jalr means single = let o = (jalr_is w jalr).0 in absurd (omega (arith, means, o))
  linking_so (Some other) back some jalr means single = let o = (jalr_is w jalr).0 in let m = means.0 in absurd (omega (arith, m, o))

module _ (v : PlainView) (c : Code) (site : ℕ → Bool) (u : Unit) (F H : Type 0) (is : IsUnit v u) (some : is_some u.instr ≡ true) where
  means : MatchOption u.instr (MeansNothing (image_word v u.at)) (Means (image_word v u.at))
  means = subst (λ (w : ℕ). MatchOption u.instr (MeansNothing w) (Means w)) is.raw is.instr

  abbrev At : UnitKind → Type 0
  At kind = IsKindBy v c site u.at F H kind

  first_begins : (target : ℕ) (rest : List ℕ) → All (λ x. has (starts_of c) x ≡ true) (target ∷ rest) → Begins c target
  first_begins target rest all = All-head (λ x. has (starts_of c) x ≡ true) target rest all

  call_so : (target back link : ℕ) → Begins c target → EndsSo v u.at (end.Call target back link) → At (last_kind site (end.Call target back link) u)
  call_so target back link begins (inl pair) =
      (begins, inl (record { pair = pair.0; links_so = pair.1.0; goes = pair.1.1.0; behind = pair.1.1.1.0; register_is = pair.1.1.1.1 }))
  call_so target back link begins (inr single) =
      let told = jal_is (image_word v u.at) single.1.0 in
      (begins, inr (j_immediate (image_word v u.at), (single.0, (told.0, single.1.1.1.1, refl))))

  pub straight_unit : NoJump v u.at → F → At (straight_kind site u.at u.instr)
  straight_unit none falls = straight_so v c site u.at F H u.instr some means none falls

  pub last_so : (e : End) → is_stop e ≡ false → All (λ x. has (starts_of c) x ≡ true) (known_targets e) → EndsSo v u.at e → (falls_to e ≡ Some (u.at + 4) → F) → At (last_kind site e u)
  last_so (end.Fall next) goes leads so give = straight_unit so.0 (give (ap Some so.1))
  last_so (end.Branch target next) goes leads so give =
      branch_so v c site u.at F H u.instr target some so.1.1.1 means so.0 (first_begins target (next ∷ []) leads) (give (ap Some so.1.1.0))
  last_so (end.Jump target) goes leads so give =
      let told = jal_is (image_word v u.at) so.1.0 in
      (j_immediate (image_word v u.at), (so.0, ((told.0, sym (unlinked (image_word v u.at) so.1.1.0), refl), first_begins target [] leads)))
  last_so (end.Call target back link) goes leads so give = call_so target back link (first_begins target [] leads) so
  last_so (end.Tail target) goes leads so give =
      tail_so v c site u.at F H u.instr target some means so.0 so.1.0 so.1.1 (first_begins target [] leads)
  last_so (end.Indirect None) goes leads so give =
      let w : ℕ = image_word v u.at in
      let told = jalr_is w so.1.0 in
      (rs1_of w, (i_immediate w, (so.0, (told.0, told.1, sym (unlinked w so.1.1), refl, refl))))
  last_so (end.Indirect (Some back)) goes leads so give = linking_so v c site u.at F H u.instr back some so.1.1 means so.0
  last_so end.Stop goes leads so give = absurd (cc (goes))

  kind_by : (is_last_unit : Bool) (e : End) → is_stop e ≡ false → All (λ x. has (starts_of c) x ≡ true) (known_targets e) → (is_last_unit ≡ true → EndsSo v u.at e) → (is_last_unit ≡ false → NoJump v u.at) → ((is_last_unit ≡ true → falls_to e ≡ Some (u.at + 4)) → F) → At (if is_last_unit then last_kind site e u else straight_kind site u.at u.instr)
  kind_by true e goes leads so none give = last_so e goes leads (so refl) (λ falls. give (λ last. falls))
  kind_by false e goes leads so none give = straight_unit (none refl) (give (λ last. absurd (cc (last))))

-- behind the last unit of a block control falls to the next word
abbrev pub FallsLast : Code → ℕ → ℕ → Type 0
FallsLast c b k =
    suc k ≡ length (body_at c.blocks.items b).units → falls_to (end_at c b) ≡ Some ((unit_at c b k).at + 4)

passes : (k n : ℕ) → suc k ≡ n → (suc k == n) ≡ true
passes k n is = grind (arith, nat_tests, is)

-- each unit of a block that may be copied is of its kind
pub kinds_so : (v : PlainView) (c : Code) (site : ℕ → Bool) (b k : ℕ) → IsCode v c → b < length c.blocks.items → IsCopyable c b → k < length (body_at c.blocks.items b).units → IsKindOf v c site (unit_at c b k).at (FallsLast c b k) (kind_of site (body_at c.blocks.items b) k)
kinds_so v c site b k code below copyable inside =
    let has_block = block_at v c b code below in
    let block : Block = has_block.block in
    let same = has_block.body in
    let count : k < length (body_of block).units = subst (λ (x : Body). k < length x.units) same inside in
    let has_unit = unit_of_block v c.functions.items block k has_block.is count in
    let u : Unit = unit_in (body_of block) k in
    let test : Bool = suc k == length block.units.items in
    subst (λ (x : Body). IsKindOf v c site (unit_in x k).at (suc k ≡ length x.units → falls_to (end_at c b) ≡ Some ((unit_in x k).at + 4)) (kind_of site x k)) (sym same)
    (kind_by v c site u (suc k ≡ length block.units.items → falls_to (end_at c b) ≡ Some (u.at + 4)) ⊥ has_unit.is
    (some_at c b k block.units.items has_block.units count copyable) test block.end
    (subst (λ e. is_stop e ≡ false) has_block.ends copyable.goes_on)
    (targets_begin (λ x. has (starts_of c) x ≡ true) block.end
    (subst (λ e. All (λ x. has (starts_of c) x ≡ true) (successors e)) has_block.ends copyable.leads))
    (λ last. subst (λ a. EndsSo v a block.end) (sym has_unit.at) (has_unit.ends (last_test k (length block.units.items) test refl last)))
    (λ more. subst (NoJump v) (sym has_unit.at) (goes_no_jump v (block.start + 4 * k) (has_unit.goes (other_test k (length block.units.items) test refl more count))))
    (λ falls last. subst (λ e. falls_to e ≡ Some (u.at + 4)) (sym has_block.ends) (falls (passes k (length block.units.items) last))))

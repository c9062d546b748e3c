-- A block that isn't barred can be displaced.
use Rattle.std.proofs.Common.{◌≡◌, ◌∙◌, inl, inr, ℕ, ◌+◌, ◌*◌, ◌<◌, ◌==◌, Bool, true, false, not, ◌&&◌, ◌||◌, if◌then◌else◌, List, [], ◌∷◌, length, refl, sym, ap, subst, arith}
use Rattle.std.specs.Prelude.{Option, Some, None, MatchOption, is_some, slice_index_or}
use Rattle.std.specs.List.{All}
use Rattle.std.proofs.lemmas.Bool.Decides.{nat_tests}
use Rattle.std.proofs.lemmas.List.Elements.{All-nil, All-cons}
use Rattle.list_checks.proofs.TestLemmas.{neither}
use Rattle.rv32im.specs.declared.instructions.Instr.{Instr}
use Rattle.rv32im.specs.declared.instructions.Instr.TheVariants as instr
use Rattle.rv32im.specs.Table.{Means, MeansNothing}
use Rattle.elf_reader.specs.File.{PlainView}
use Rattle.loaded_file.specs.Code.{image_word}
use Rattle.code_blocks.specs.Words.{is_branch, is_jal}
use Rattle.code_blocks.specs.Meanings.{has_meaning}
use Rattle.code_blocks.specs.Leaders.{is_call_pair}
use Rattle.code_blocks.specs.Early.{has}
use Rattle.code_blocks.proofs.LeaderLemmas.{left_passes, right_passes}
use Rattle.code_blocks.proofs.MeaningLemmas.{decoded}
use Rattle.code_blocks.specs.Blocks.{IsUnit, IsCode}
use Rattle.code_blocks.specs.Leads.{units_at, no_unit, links_base}
use Rattle.code_blocks.specs.Numbers.{starts_of, end_at}
use Rattle.code_blocks.specs.declared.parts.Unit.{Unit}
use Rattle.code_blocks.specs.declared.parts.Code.{Code}
use Rattle.code_blocks.specs.declared.ends.End.{End}
use Rattle.code_blocks.specs.declared.ends.End.TheVariants as end
use Rattle.region_former.specs.Borders.{first_unit, is_branch_unit, is_jal_unit, is_direct_unit, target_of, behind_branch, misses, misses_target, misses_next, is_barred}
use Rattle.block_splitter.specs.Forms.{body_of, unit_in}
use Rattle.block_splitter.specs.Pieces.{is_stop}
use Rattle.result_laws.specs.Displacing.{known_targets, CanDisplace}
use Rattle.result_laws.proofs.Ends.{EndsSo}
use Rattle.result_laws.proofs.CopyHomes.{jal_is, branch_opcode}
use Rattle.result_laws.proofs.CopyUnits.{block_at, unit_of_block}

-- a target that isn't missed begins a block
begins : (c : Code) (a : ℕ) (direct : Bool) → direct ≡ true → direct && not (has (starts_of c) a) ≡ false → has (starts_of c) a ≡ true
begins c a true is found = grind (arith, found)
begins c a false is found = cc

module _ (v : PlainView) (c : Code) (u : Unit) (is : IsUnit v u) where
  abbrev w : ℕ
  w = image_word v u.at

  abbrev Meant : Option Instr → Type 0
  Meant o = MatchOption o (MeansNothing w) (Means w)

  branch_unit : (o : Option Instr) → is_some o ≡ true → Meant o → is_branch w ≡ true → is_branch_unit o ≡ true
  branch_unit (Some (instr.Branch kind rs1 rs2 off)) some means test = refl
  branch_unit None some means test = absurd (cc (some))
  branch_unit (Some instr.Ecall) some means test = let o = branch_opcode w test in absurd (omega (arith, means, o))
  branch_unit (Some instr.Ebreak) some means test = let o = branch_opcode w test in absurd (omega (arith, means, o))
  branch_unit (Some other) some means test = let o = branch_opcode w test in let m = means.0 in absurd (omega (arith, m, o))

  jal_unit : (o : Option Instr) → is_some o ≡ true → Meant o → is_jal w ≡ true → is_jal_unit o ≡ true
  jal_unit (Some (instr.Jal rd off)) some means test = refl
  jal_unit None some means test = absurd (cc (some))
  jal_unit (Some instr.Ecall) some means test = let o = (jal_is w test).0 in absurd (omega (arith, means, o))
  jal_unit (Some instr.Ebreak) some means test = let o = (jal_is w test).0 in absurd (omega (arith, means, o))
  jal_unit (Some other) some means test = let o = (jal_is w test).0 in let m = means.0 in absurd (omega (arith, m, o))

  means : Meant u.instr
  means = subst (λ (x : ℕ). MatchOption u.instr (MeansNothing x) (Means x)) is.raw is.instr

  direct_branch : is_branch_unit u.instr ≡ true → is_direct_unit u ≡ true
  direct_branch branch = left_passes (is_branch_unit u.instr || is_jal_unit u.instr) (u.words == 2) (left_passes (is_branch_unit u.instr) (is_jal_unit u.instr) branch)

  direct_jal : is_jal_unit u.instr ≡ true → is_direct_unit u ≡ true
  direct_jal jal = left_passes (is_branch_unit u.instr || is_jal_unit u.instr) (u.words == 2) (right_passes (is_branch_unit u.instr) (is_jal_unit u.instr) jal)

  direct_pair : is_call_pair v u.at ≡ true → is_direct_unit u ≡ true
  direct_pair pair =
      let two : u.words ≡ 2 = is.words ∙ ap (λ (t : Bool). if t then 2 else 1) pair in
      right_passes (is_branch_unit u.instr || is_jal_unit u.instr) (u.words == 2) (grind (arith, nat_tests, two))

  abbrev Begins : ℕ → Type 0
  Begins a = has (starts_of c) a ≡ true

  one : (target : ℕ) → is_direct_unit u ≡ true → is_direct_unit u && not (has (starts_of c) target) ≡ false → All Begins (target ∷ [])
  one target direct hits = All-cons Begins target [] (begins c target (is_direct_unit u) direct hits) (All-nil Begins)

  -- the targets of the last unit of a block, of which none is missed
  leads_so : (e : End) → (is_stop e ≡ false → is_some u.instr ≡ true) → EndsSo v u.at e → is_direct_unit u && misses c (target_of e) ≡ false → is_branch_unit u.instr && misses c (behind_branch e) ≡ false → All Begins (known_targets e)
  leads_so (end.Branch target next) some so hits hits_next =
      let branch = branch_unit u.instr (some refl) means so.1.1.1 in
      All-cons Begins target (next ∷ []) (begins c target (is_direct_unit u) (direct_branch branch) hits)
      (All-cons Begins next [] (begins c next (is_branch_unit u.instr) branch hits_next) (All-nil Begins))
  leads_so (end.Jump target) some so hits hits_next = one target (direct_jal (jal_unit u.instr (some refl) means so.1.0)) hits
  leads_so (end.Call target back link) some (inl pair) hits hits_next = one target (direct_pair pair.0) hits
  leads_so (end.Call target back link) some (inr single) hits hits_next = one target (direct_jal (jal_unit u.instr (some refl) means single.1.0)) hits
  leads_so (end.Tail target) some so hits hits_next = one target (direct_pair so.0) hits
  leads_so other some so hits hits_next = All-nil Begins

pub can_displace : (v : PlainView) (c : Code) (has_dead : List Bool) (b : ℕ) → IsCode v c → b < length c.blocks.items → is_barred c has_dead b ≡ false → CanDisplace c b
can_displace v c has_dead b code below free =
    let u : Unit = first_unit c b in
    let dead : Bool = not (slice_index_or has_dead b false) in
    let last = neither (dead || links_base u.instr || misses_target c b) (misses_next c b) free in
    let more = neither (dead || links_base u.instr) (misses_target c b) last.0 in
    record {
      links = (neither dead (links_base u.instr) more.0).1;
      leads = λ one. leads_there one more.1 last.1;
    }
  where
    leads_there : length (units_at c b) ≡ 1 → misses_target c b ≡ false → misses_next c b ≡ false → All (λ a. has (starts_of c) a ≡ true) (known_targets (end_at c b))
    leads_there one hits hits_next =
        let has_block = block_at v c b code below in
        let same : units_at c b ≡ has_block.block.units.items = has_block.units in
        let count : length has_block.block.units.items ≡ 1 = ap length (sym same) ∙ one in
        let has_unit = unit_of_block v c.functions.items has_block.block 0 has_block.is (omega (arith, count)) in
        let own : unit_in (body_of has_block.block) 0 ≡ first_unit c b = ap (λ (us : List Unit). slice_index_or us 0 no_unit) (sym same) in
        let is : IsUnit v (first_unit c b) = subst (IsUnit v) own has_unit.is in
        let at : (first_unit c b).at ≡ has_block.block.start + 4 * 0 = ap (λ (x : Unit). x.at) (sym own) ∙ has_unit.at in
        let e : End = end_at c b in
        let ends : e ≡ has_block.block.end = has_block.ends in
        let so : EndsSo v (first_unit c b).at e =
        subst (λ (a : ℕ). EndsSo v a e) (sym at) (subst (λ (x : End). EndsSo v (has_block.block.start + 4 * 0) x) (sym ends) (has_unit.ends (sym count))) in
        leads_so v c (first_unit c b) is e
        (λ goes.
        let means = has_unit.means (sym count) (subst (λ (x : End). is_stop x ≡ false) ends goes) in
        decoded (image_word v (first_unit c b).at) (first_unit c b).instr
        (subst (λ (x : ℕ). MatchOption (first_unit c b).instr (MeansNothing x) (Means x)) is.raw is.instr)
        ∙ subst (λ (a : ℕ). has_meaning (image_word v a) ≡ true) (sym at) means) so hits hits_next

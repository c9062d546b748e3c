-- A step of a unit leads to the one that runs next. So what is live at units are the registers that matter there.
use Rattle.std.proofs.Common.{◌≡◌, ◌∙◌, ◌⊎◌, inl, inr, ℕ, zero, suc, ◌+◌, ◌/◌, ◌*◌, ◌==◌, Bool, true, false, not, List, [], ◌∷◌, cond, length, Option, Some, None, ℤ, refl, sym, ap, subst, arith}
use Rattle.std.specs.List.{Contains}
use Rattle.std.proofs.lemmas.Bool.{cond_both, cases_lt}
use Rattle.rv32im.specs.Words.{offset}
use Rattle.rv32im.specs.Fields.{rd_of, u_immediate}
use Rattle.rv32im.specs.Table.{Means}
use Rattle.rv32im.specs.declared.instructions.Instr.{Instr}
use Rattle.rv32im.specs.declared.instructions.Instr.TheVariants.{Lui, Auipc, Jal, Jalr, Branch, Load, Store, OpImm, OpReg, Fence, FenceI, Ecall, Ebreak}
use Rattle.rv32im.specs.declared.instructions.ImmKind.TheVariants.{Addi}
use Rattle.rv32im.specs.declared.instructions.BranchKind.{BranchKind}
use Rattle.rv32im.specs.declared.instructions.BranchKind.TheVariants.{Beq, Bne, Blt, Bge, Bltu, Bgeu}
use Rattle.rv32im.proofs.Meaning.{same_instruction}
use Rattle.elf_reader.specs.File.{PlainView, view_in}
use Rattle.board_config.specs.declared.board.Board.{Board}
use Rattle.loaded_file.specs.Code.{image_word}
use Rattle.object_graph.specs.declared.parts.Graph.{Graph}
use Rattle.code_blocks.specs.Words.{is_branch, is_jal, is_jalr, links, branch_target, jal_target, pair_target}
use Rattle.code_blocks.specs.Meanings.{has_meaning}
use Rattle.code_blocks.specs.Leaders.{is_call_pair, is_leader}
use Rattle.code_blocks.proofs.LeaderLemmas.{indirect_is_leader}
use Rattle.code_blocks.proofs.MeaningLemmas.{passes_test}
use Rattle.code_blocks.proofs.PairLemmas.{pair_parts}
use Rattle.code_blocks.specs.Blocks.{goes_on, IsCode}
use Rattle.code_blocks.specs.Edges.{successors, is_indirect_end}
use Rattle.code_blocks.specs.Ends.{pair_end, jal_end, jalr_end, end_from}
use Rattle.code_blocks.specs.Leads.{units_at}
use Rattle.code_blocks.specs.declared.ends.End.{End}
use Rattle.code_blocks.specs.declared.ends.End.TheVariants as end
use Rattle.code_blocks.specs.declared.parts.Code.{Code}
use Rattle.dataflow.specs.Live.{IsLastOf, uses_of, defs_of, used_there, used_later}
use Rattle.cell_values.specs.Operations.{op_imm}
use Rattle.cell_values.specs.Comparisons.{compare}
use Rattle.cell_values.specs.declared.values.Val.{Val}
use Rattle.cell_values.specs.declared.values.Val.TheVariants.{Int}
use Rattle.object_machine.specs.declared.events.Outcome.TheVariants.{GoesOn}
use Rattle.object_machine.specs.Program.{Program, Target}
use Rattle.object_machine.specs.State.{SourceState, value, wrote, trapped, faulted}
use Rattle.object_machine.specs.Flow.{jumps, jumps_by, branches, pair_link, calls_pair}
use Rattle.object_machine.specs.Step.{Reads, acts, one_word, next_state}
use Rattle.object_machine.specs.Units.{leads_on}
use Rattle.object_machine.proofs.MeaningLemmas.{LeadsOn}
use Rattle.object_machine.proofs.LeadLemmas.{leads_read, straight, next_leads}
use Rattle.object_machine.proofs.FollowLemmas.{goes_further, straight_parts, read_leads, falls_behind, leads_next, unit_reads, is_true_false, cases_bool}
use Rattle.simulation.specs.Rules.{LiveRules}
use Rattle.result_laws.specs.HomeLaws.{IsAccepted, unnamed_in}
use Rattle.result_laws.specs.LiveUnits.{code_unit, StandsThere, ComesNext, StepsLeadOn, live_at, LivenessKeeps}
use Rattle.result_laws.proofs.HomeUnits.{call_words}
use Rattle.result_laws.proofs.CodeUnits.{IsPlaced, placed, next_within, next_block, next_reached}

-- ---- jumps that go on

not_fault : (s : SourceState) (why : ℕ) → (faulted s why).outcome ≡ GoesOn → ⊥
not_fault s why going = cc

not_trap : (s : SourceState) → (trapped s).outcome ≡ GoesOn → ⊥
not_trap s going = cc

abbrev JumpsTo : Program → ℕ → SourceState → Type 0
JumpsTo p a n = (n.pc ≡ a) × (p.is_block a ≡ true)

jumped : (p : Program) (s t : SourceState) (a : ℕ) → (jumps p s a t).outcome ≡ GoesOn → JumpsTo p a (jumps p s a t)
jumped p s t a =
    cond_both (p.is_block a) (record t { pc = a }) (faulted s 6) (λ (n : SourceState). n.outcome ≡ GoesOn → JumpsTo p a n)
    (λ block going. (refl, block)) (λ other going. absurd (not_fault s 6 going))

jumped_by : (p : Program) (s t : SourceState) (x : Val) → (jumps_by p s x t).outcome ≡ GoesOn → p.is_reached (jumps_by p s x t).pc ≡ true
jumped_by p s t (Int a) =
    cond_both (p.is_reached (a / 2 * 2)) (record t { pc = a / 2 * 2 }) (faulted s 6) (λ (n : SourceState). n.outcome ≡ GoesOn → p.is_reached n.pc ≡ true)
    (λ reached going. reached) (λ other going. absurd (not_fault s 6 going))
jumped_by p s t x = λ going. absurd (not_fault s 6 going)

branched : (p : Program) (s : SourceState) (off : ℤ) (o : Option Bool) → (branches p s off o).outcome ≡ GoesOn
    → JumpsTo p (offset s.pc off) (branches p s off o) ⊎ JumpsTo p (s.pc + 4) (branches p s off o)
branched p s off (Some true) going = inl (jumped p s s (offset s.pc off) going)
branched p s off (Some false) going = inr (jumped p s s (s.pc + 4) going)
branched p s off None going = absurd (not_fault s 7 going)

-- ---- how a block ends, by its last word

branch_word : (w : ℕ) (kind : BranchKind) (rs1 rs2 : ℕ) (off : ℤ) → Means w (Branch kind rs1 rs2 off) → is_branch w ≡ true
branch_word w Beq rs1 rs2 off m = rw (m.0, m.1) refl
branch_word w Bne rs1 rs2 off m = rw (m.0, m.1) refl
branch_word w Blt rs1 rs2 off m = rw (m.0, m.1) refl
branch_word w Bge rs1 rs2 off m = rw (m.0, m.1) refl
branch_word w Bltu rs1 rs2 off m = rw (m.0, m.1) refl
branch_word w Bgeu rs1 rs2 off m = rw (m.0, m.1) refl

ends_in_pair : (v : PlainView) (a m : ℕ) → has_meaning (image_word v a) ≡ true → is_call_pair v a ≡ true → end_from v a (suc m) ≡ pair_end v a
ends_in_pair v a m means pair = rw (means, pair) refl

ends_in_branch : (v : PlainView) (a m : ℕ) → has_meaning (image_word v a) ≡ true → is_call_pair v a ≡ false → is_branch (image_word v a) ≡ true → end_from v a (suc m) ≡ end.Branch (branch_target v a) (a + 4)
ends_in_branch v a m means pair branch = rw (means, pair, branch) refl

ends_in_jal : (v : PlainView) (a m : ℕ) → has_meaning (image_word v a) ≡ true → is_call_pair v a ≡ false → is_branch (image_word v a) ≡ false → is_jal (image_word v a) ≡ true → end_from v a (suc m) ≡ jal_end v a
ends_in_jal v a m means pair branch jal = rw (means, pair, branch, jal) refl

ends_in_jalr : (v : PlainView) (a m : ℕ) → has_meaning (image_word v a) ≡ true → is_call_pair v a ≡ false → is_branch (image_word v a) ≡ false → is_jal (image_word v a) ≡ false → is_jalr (image_word v a) ≡ true → end_from v a (suc m) ≡ jalr_end v a
ends_in_jalr v a m means pair branch jal jalr = rw (means, pair, branch, jal, jalr) refl

ends_in_fall : (v : PlainView) (a m : ℕ) → has_meaning (image_word v a) ≡ true → is_call_pair v a ≡ false → LeadsOn (image_word v a) → is_leader v (a + 4) ≡ true → end_from v a (suc m) ≡ end.Fall (a + 4)
ends_in_fall v a m means pair none leads = rw (means, pair, none.branch, none.jal, none.jalr, none.ebreak, leads) refl

first_of : (a : ℕ) (xs : List ℕ) → Contains (a ∷ xs) a
first_of a xs = (0, omega arith, refl)

second_of : (a b : ℕ) (xs : List ℕ) → Contains (a ∷ b ∷ xs) b
second_of a b xs = (1, omega arith, refl)

pair_leads : (v : PlainView) (a : ℕ) → Contains (successors (pair_end v a)) (pair_target v a)
pair_leads v a =
    cond_both (links (image_word v (a + 4))) (end.Call (pair_target v a) (a + 8) (rd_of (image_word v (a + 4)))) (end.Tail (pair_target v a)) (λ (e : End). Contains (successors e) (pair_target v a))
    (λ links_there. first_of (pair_target v a) []) (λ other. first_of (pair_target v a) [])

jal_leads : (v : PlainView) (a : ℕ) → Contains (successors (jal_end v a)) (jal_target v a)
jal_leads v a =
    cond_both (links (image_word v a)) (end.Call (jal_target v a) (a + 4) (rd_of (image_word v a))) (end.Jump (jal_target v a)) (λ (e : End). Contains (successors e) (jal_target v a))
    (λ links_there. first_of (jal_target v a) []) (λ other. first_of (jal_target v a) [])

jalr_leads : (v : PlainView) (a : ℕ) → is_indirect_end (jalr_end v a) ≡ true
jalr_leads v a =
    cond_both (links (image_word v a)) (end.Indirect (Some (a + 4))) (end.Indirect None) (λ (e : End). is_indirect_end e ≡ true)
    (λ links_there. refl) (λ other. refl)

-- the one register that an instruction writes
one_kept : (kept : Bool) (rd x : ℕ) → Contains (cond kept (rd ∷ []) []) x → x ≡ rd
one_kept true rd x (zero, below, here) = sym here
one_kept true rd x (suc k, below, here) = absurd (omega (arith, below))
one_kept false rd x (k, below, here) = absurd (omega (arith, below))

module _ (file : List ℕ) (board : Board) (g : Graph) (c : Code) (accepted : IsAccepted file board g) (code : IsCode (view_in file) c) where
  abbrev v : PlainView
  v = view_in file

  abbrev p : Program
  p = unnamed_in file board g

  call_first : (a : ℕ) → is_call_pair v a ≡ true → Means (image_word v a) (Auipc (rd_of (image_word v a)) (u_immediate (image_word v a)))
  call_first a pair = (call_words (image_word v a) (image_word v (a + 4)) (pair_parts v a pair).words).auipc

  -- ---- the unit that runs next

  module _ (s : SourceState) (b k : ℕ) (stands : StandsThere c s.pc b k) where
    abbrev w : ℕ
    w = image_word v s.pc

    here : IsPlaced v c s.pc b k
    here = placed file board g c accepted code s.pc b k stands

    last_by : (goes_on v s.pc ≡ true → ⊥) → IsLastOf c b k
    last_by never =
        elim (cases_lt (suc k) (length (units_at c b))) [
          | inl more ↦ absurd (never (here.goes more))
          | inr all ↦ let is = stands.is in omega (arith, all, is)
        ]

    to_block : (e : End) (a : ℕ) → IsLastOf c b k → ((m : ℕ) → end_from v s.pc (suc m) ≡ e) → Contains (successors e) a → is_leader v a ≡ true → ComesNext c b k a
    to_block e a last ends leads block =
        let found = here.ends last in
        next_block file board g c accepted code a b k stands.is last (subst (λ (x : End). Contains (successors x) a) (sym (found.1 ∙ ends found.0)) leads) block

    pair_next : is_call_pair v s.pc ≡ true → (calls_pair p s).outcome ≡ GoesOn → ComesNext c b k (calls_pair p s).pc
    pair_next pair going =
        let (same, block) = jumped p s (wrote s (rd_of (p.word s.pc)) (pair_link p s)) (p.goes s.pc) going in
        let means = passes_test w (Auipc (rd_of w) (u_immediate w)) (call_first s.pc pair) in
        let last = last_by (λ on. is_true_false (is_call_pair v s.pc) pair (goes_further v s.pc on).pair) in
        subst (ComesNext c b k) (sym same)
        (to_block (pair_end v s.pc) (pair_target v s.pc) last (λ m. ends_in_pair v s.pc m means pair) (pair_leads v s.pc) block)

    jump_next : (i : Instr) (site : Option Target) → is_call_pair v s.pc ≡ false → Means w i → leads_on i ≡ false → (acts p s i site).outcome ≡ GoesOn → ComesNext c b k (acts p s i site).pc
    jump_next (Jal rd off) site single m off_line going =
        let (same, block) = jumped p s (wrote s rd (Int (s.pc + 4))) (offset s.pc off) going in
        let target : offset s.pc off ≡ jal_target v s.pc = ap (offset s.pc) m.2 in
        let means = passes_test w (Jal rd off) m in
        let branch : is_branch w ≡ false = rw (m.0) refl in
        let jal : is_jal w ≡ true = rw (m.0) refl in
        let last = last_by (λ on. is_true_false (is_jal w) jal (goes_further v s.pc on).jal) in
        subst (ComesNext c b k) (sym (same ∙ target))
        (to_block (jal_end v s.pc) (jal_target v s.pc) last (λ n. ends_in_jal v s.pc n means single branch jal) (jal_leads v s.pc) (subst (λ (x : ℕ). is_leader v x ≡ true) target block))
    jump_next (Jalr rd rs1 imm) site single m off_line going =
        let reached = jumped_by p s (wrote s rd (Int (s.pc + 4))) (op_imm p.objects Addi (value s.regs rs1) imm) going in
        let means = passes_test w (Jalr rd rs1 imm) m in
        let branch : is_branch w ≡ false = rw (m.0) refl in
        let jal : is_jal w ≡ false = rw (m.0) refl in
        let jalr : is_jalr w ≡ true = rw (m.0, m.1) refl in
        let last = last_by (λ on. is_true_false (is_jalr w) jalr (goes_further v s.pc on).jalr) in
        let found = here.ends last in
        let ends = found.1 ∙ ends_in_jalr v s.pc found.0 means single branch jal jalr in
        next_reached file board g c accepted code (acts p s (Jalr rd rs1 imm) site).pc b k stands.is last
        (subst (λ (e : End). is_indirect_end e ≡ true) (sym ends) (jalr_leads v s.pc)) reached
    jump_next (Branch kind rs1 rs2 off) site single m off_line going =
        let o : Option Bool = compare p.objects kind (value s.regs rs1) (value s.regs rs2) in
        let target : offset s.pc off ≡ branch_target v s.pc = ap (offset s.pc) m.4 in
        let means = passes_test w (Branch kind rs1 rs2 off) m in
        let branch = branch_word w kind rs1 rs2 off m in
        let last = last_by (λ on. is_true_false (is_branch w) branch (goes_further v s.pc on).branch) in
        let e : End = end.Branch (branch_target v s.pc) (s.pc + 4) in
        elim (branched p s off o going) [
          | inl taken ↦
              subst (ComesNext c b k) (sym (taken.0 ∙ target))
              (to_block e (branch_target v s.pc) last (λ n. ends_in_branch v s.pc n means single branch) (first_of (branch_target v s.pc) ((s.pc + 4) ∷ [])) (subst (λ (x : ℕ). is_leader v x ≡ true) target taken.1))
          | inr passed ↦
              subst (ComesNext c b k) (sym passed.0)
              (to_block e (s.pc + 4) last (λ n. ends_in_branch v s.pc n means single branch) (second_of (branch_target v s.pc) (s.pc + 4) []) passed.1)
        ]
    jump_next Ebreak site single m off_line going = absurd (not_trap s going)
    jump_next (Lui rd imm) site single m off_line going = cc
    jump_next (Auipc rd imm) site single m off_line going = cc
    jump_next (Load kind rd rs1 imm) site single m off_line going = cc
    jump_next (Store kind rs1 rs2 imm) site single m off_line going = cc
    jump_next (OpImm kind rd rs1 imm) site single m off_line going = cc
    jump_next (OpReg kind rd rs1 rs2) site single m off_line going = cc
    jump_next (Fence bits) site single m off_line going = cc
    jump_next (FenceI bits) site single m off_line going = cc
    jump_next Ecall site single m off_line going = cc

    word_next : (read : Option Instr) → is_call_pair v s.pc ≡ false → Reads w read → leads_read read ≡ false → (one_word p s read).outcome ≡ GoesOn → ComesNext c b k (one_word p s read).pc
    word_next None single reads off going = absurd (not_trap s going)
    word_next (Some i) single reads off going = jump_next i (p.site s.pc) single reads off going

    straight_next : (read : Option Instr) → Reads w read → straight p s.pc read ≡ true → (next_state p s read).outcome ≡ GoesOn → ComesNext c b k (next_state p s read).pc
    straight_next read reads on going =
        let t : SourceState = next_state p s read in
        let (same, falls) = leads_next p s t (straight p s.pc read) on going (next_leads p s read (indirect_is_leader v)) in
        let (single, leads) = straight_parts (is_call_pair v s.pc) (leads_read read) on in
        let (none, means) = read_leads w read reads leads in
        subst (ComesNext c b k) (sym same)
        (elim (cases_lt (suc k) (length (units_at c b))) [
          | inl more ↦ next_within file board g c accepted code s.pc b k stands more
          | inr all ↦
              let is = stands.is in
              let last : IsLastOf c b k = omega (arith, all, is) in
              let block = falls_behind v board g s.pc k (length (units_at c b)) read here.nth last reads on falls in
              to_block (end.Fall (s.pc + 4)) (s.pc + 4) last (λ m. ends_in_fall v s.pc m means single none block) (first_of (s.pc + 4) []) block
        ])

    off_line_word : (read : Option Instr) → straight p s.pc read ≡ false → is_call_pair v s.pc ≡ false → leads_read read ≡ false
    off_line_word read off single = rw single at off

    pub step_next : (read : Option Instr) → (is_call_pair v s.pc ≡ false → Reads w read) → (next_state p s read).outcome ≡ GoesOn → ComesNext c b k (next_state p s read).pc
    step_next read reads going =
        elim (cases_bool (straight p s.pc read)) [
          | inl on ↦ straight_next read (reads (straight_parts (is_call_pair v s.pc) (leads_read read) on).0) on going
          | inr off ↦
              cond_both (is_call_pair v s.pc) (calls_pair p s) (one_word p s read) (λ (n : SourceState). n.outcome ≡ GoesOn → ComesNext c b k n.pc)
              (λ pair goes. pair_next pair goes)
              (λ single goes. word_next read single (reads single) (off_line_word read off single) goes) going
        ]

  -- ---- what is live

  instr_is : (a b k : ℕ) (read : Option Instr) → StandsThere c a b k → Reads (image_word v a) read → (code_unit c b k).instr ≡ read
  instr_is a b k read stands reads =
      unit_reads same_instruction v (code_unit c b k) a read (placed file board g c accepted code a b k stands).tells stands.at reads

  pub live_rules : LiveRules p (live_at c)
  live_rules =
      record {
        uses = λ a x i single reads uses b k stands.
            used_there b k stands.is (subst (λ (o : Option Instr). Contains (uses_of o) x) (sym (instr_is a b k (Some i) stands reads)) uses);
        keeps = λ s i x going single reads goes live spared b k stands.
            let next = step_next s b k stands (Some i) (λ one. reads) goes in
            let instr = instr_is s.pc b k (Some i) stands reads in
            used_later b k next.block next.unit stands.is
            (λ defines. spared (subst (λ (o : Option Instr). Contains (defs_of o) x) instr defines))
            next.next (live next.block next.unit next.there);
        passes = λ s read x going pair goes live spared b k stands.
            let next = step_next s b k stands read (λ single. absurd (is_true_false (is_call_pair v s.pc) pair single)) goes in
            let rd : ℕ = rd_of (image_word v s.pc) in
            let instr = instr_is s.pc b k (Some (Auipc rd (u_immediate (image_word v s.pc)))) stands (call_first s.pc pair) in
            used_later b k next.block next.unit stands.is
            (λ defines. spared (one_kept (not (rd == 0)) rd x (subst (λ (o : Option Instr). Contains (defs_of o) x) instr defines)))
            next.next (live next.block next.unit next.there);
      }

pub steps_lead_on : StepsLeadOn
steps_lead_on file board g c s read b k accepted code stands reads going =
    step_next file board g c accepted code s b k stands read (λ single. reads) going

pub liveness_keeps : LivenessKeeps
liveness_keeps file board g c accepted code = live_rules file board g c accepted code

-- A branch goes where the registers of the flat machine say.
use Rattle.std.proofs.Common.{◌≡◌, ◌∙◌, ℕ, suc, ◌+◌, Bool, true, false, if◌then◌else◌, List, length, Option, Some, None, refl, sym, ap, subst, arith, ℤ}
use Rattle.std.specs.Prelude.{MatchOption, slice_index_or, ◌==◌}
use Rattle.std.proofs.lemmas.Bool.{cond_both}
use Rattle.rv32im.specs.Words.{offset}
use Rattle.rv32im.specs.Acts.{Registers, register, is_taken}
use Rattle.rv32im.specs.Table.{Means, MeansNothing}
use Rattle.rv32im.specs.declared.instructions.BranchKind.{BranchKind}
use Rattle.rv32im.specs.declared.instructions.Instr.{Instr}
use Rattle.rv32im.specs.declared.instructions.Instr.TheVariants as instr
use Rattle.board_config.specs.declared.board.Board.{Board}
use Rattle.flat_machine.specs.State.{State}
use Rattle.loaded_file.specs.Code.{image_word}
use Rattle.object_graph.specs.declared.parts.Graph.{Graph}
use Rattle.code_blocks.specs.Leaders.{is_call_pair}
use Rattle.code_blocks.specs.Words.{branch_target}
use Rattle.code_blocks.specs.Leads.{units_at, no_unit}
use Rattle.code_blocks.specs.declared.parts.Block.{Block}
use Rattle.code_blocks.specs.declared.parts.Unit.{Unit}
use Rattle.code_blocks.specs.declared.parts.Code.{Code}
use Rattle.code_blocks.specs.declared.ends.End.{End}
use Rattle.code_blocks.specs.declared.ends.End.TheVariants as ends
use Rattle.block_splitter.specs.declared.unit_kind.UnitKind.{UnitKind}
use Rattle.block_splitter.specs.declared.unit_kind.UnitKind.TheVariants.{Plain, Upper}
use Rattle.block_splitter.specs.Forms.{Body, body_of, body_at, unit_in, is_site, straight_kind, branch_kind, tail_kind, indirect_kind, last_kind, kind_of}
use Rattle.result_laws.proofs.Setting.{setting}
use Rattle.result_laws.proofs.Ends.{EndsSo}
use Rattle.result_laws.proofs.CopyUnits.{block_at, unit_of_block, last_test}
use Rattle.cell_values.specs.Comparisons.{compare}
use Rattle.cell_values.proofs.Branches.{comparisons_stand}
use Rattle.object_machine.specs.declared.events.Outcome.TheVariants.{GoesOn}
use Rattle.object_machine.specs.Flow.{branches}
use Rattle.object_machine.specs.State.{SourceState, value, faulted}
use Rattle.object_machine.specs.Step.{Reads, next_state}
use Rattle.object_machine.specs.Paired.{at_start}
use Rattle.simulation.proofs.OneUnit.{Before}
use Rattle.simulation.proofs.Resets.{all_made}
use Rattle.simulation.proofs.Steps.{Operand, reads_on, first_read, second_read, next_acts}
use Rattle.result_laws.specs.LiveUnits.{code_unit, StandsThere}
use Rattle.result_laws.proofs.CodeUnits.{inside}
use Rattle.result_laws.proofs.LiveUnits.{liveness_keeps}
use Rattle.result_laws.specs.ChosenPlacement.{ChosenPlacement}
use Rattle.result_laws.specs.PlacedLaws.{IsPlacedResult}
use Rattle.result_laws.specs.Matching.{Match}
use Rattle.result_laws.proofs.PlacedChosen.{sound}
use Rattle.result_laws.proofs.UnitEvents.{one_reading}
use Rattle.paid_energy.specs.Leading.{BranchGoes, GoesAs, BranchesGo}

-- ---- other kinds

module _ (regs : Registers) (behind v : ℕ) where
  goes_straight : (site : ℕ → Bool) (at : ℕ) (o : Option Instr) → GoesAs (straight_kind site at o) regs behind v
  goes_straight site at None = tt
  goes_straight site at (Some (instr.Auipc rd imm)) =
      cond_both (site at) Plain (Upper rd _) (λ (kind : UnitKind). GoesAs kind regs behind v) (λ is. tt) (λ is. tt)
  goes_straight site at (Some instr.Ebreak) = tt
  goes_straight site at (Some i) = tt

  goes_tail : (target : ℕ) (o : Option Instr) → GoesAs (tail_kind target o) regs behind v
  goes_tail target (Some (instr.Auipc rd imm)) = tt
  goes_tail target None = tt
  goes_tail target (Some i) = tt

  goes_indirect : (back : Option ℕ) (o : Option Instr) → GoesAs (indirect_kind back o) regs behind v
  goes_indirect None o = tt
  goes_indirect (Some back) (Some (instr.Jalr rd rs1 imm)) = tt
  goes_indirect (Some back) None = tt
  goes_indirect (Some back) (Some i) = tt

-- ---- a jump of the machine without addresses

jumped : (s n : SourceState) (there : Bool) (a : ℕ) → n ≡ (if there then record s { pc = a } else faulted s 6) → n.outcome ≡ GoesOn → n.pc ≡ a
jumped s n true a is going = ap (λ (x : SourceState). x.pc) is
jumped s n false a is going = absurd (cc (sym (ap (λ (x : SourceState). x.outcome) is) ∙ going))

module _ (file out : List ℕ) (board : Board) (g : Graph) (c : Code) (pl : ChosenPlacement) (result : IsPlacedResult file out board g c pl) (s : SourceState) (t : State) (match : Match file out board g c pl result.view.plan s t) where
  open (setting file out board g c pl result) use {v, p, l, live}

  -- both machines are before the unit
  pub before : Before p l live match.region s at_start t
  before =
      record {
        sound = sound file out board g c pl result match.region;
        rules = liveness_keeps file board g c result.accepted result.code;
        alike = match.alike;
        made = all_made p s;
      }

  module _ (kind : BranchKind) (rs1 rs2 : ℕ) (off : ℤ) (single : is_call_pair v s.pc ≡ false) (means : Means (image_word v s.pc) (instr.Branch kind rs1 rs2 off)) (on : (next_state p s (Some (instr.Branch kind rs1 rs2 off))).outcome ≡ GoesOn) where
    abbrev i : Instr
    i = instr.Branch kind rs1 rs2 off

    abbrev next : SourceState
    next = next_state p s (Some i)

    abbrev test : Bool
    test = is_taken kind (register t.hart.regs rs1) (register t.hart.regs rs2)

    goes : (known : Option Bool) → compare p.objects kind (value s.regs rs1) (value s.regs rs2) ≡ known → next ≡ branches p s off known
    goes known is =
        next_acts p l live match.region s at_start t i before single means ∙ ap (branches p s off) is

    tests : (taken : Bool) → compare p.objects kind (value s.regs rs1) (value s.regs rs2) ≡ Some taken → test ≡ taken
    tests taken known =
        let first : Operand p l match.region rs1 s at_start t =
        reads_on p l live match.region s at_start t i before single means rs1 (first_read rs1 rs2) in
        let second : Operand p l match.region rs2 s at_start t =
        reads_on p l live match.region s at_start t i before single means rs2 (second_read rs1 rs2) in
        comparisons_stand p.objects (l.place match.region) (l.upper match.region) before.sound.fit kind (at_start.regs rs1)
        (at_start.regs rs2) (value s.regs rs1) (value s.regs rs2) (register t.hart.regs rs1) (register t.hart.regs rs2) taken
        first.holds second.holds known first.stands second.stands

    by_known : (known : Option Bool) → compare p.objects kind (value s.regs rs1) (value s.regs rs2) ≡ known → BranchGoes test (offset s.pc off) (s.pc + 4) next.pc
    by_known None is = absurd (cc (sym (ap (λ (x : SourceState). x.outcome) (goes None is)) ∙ on))
    by_known (Some true) is =
        subst (λ (b : Bool). BranchGoes b (offset s.pc off) (s.pc + 4) next.pc) (sym (tests true is))
        (jumped s next (p.is_block (offset s.pc off)) (offset s.pc off) (goes (Some true) is) on)
    by_known (Some false) is =
        subst (λ (b : Bool). BranchGoes b (offset s.pc off) (s.pc + 4) next.pc) (sym (tests false is))
        (jumped s next (p.is_block (s.pc + 4)) (s.pc + 4) (goes (Some false) is) on)

    branch_goes : BranchGoes test (offset s.pc off) (s.pc + 4) next.pc
    branch_goes = by_known (compare p.objects kind (value s.regs rs1) (value s.regs rs2)) refl

  module _ (read : Option Instr) (reads : Reads (p.word s.pc) read) (on : (next_state p s read).outcome ≡ GoesOn) where
    abbrev Goes : UnitKind → Type 0
    Goes kind = GoesAs kind t.hart.regs (s.pc + 4) (next_state p s read).pc

    abbrev w : ℕ
    w = image_word v s.pc

    last_branch : (o : Option Instr) (target : ℕ) → MatchOption o (MeansNothing w) (Means w) → is_call_pair v s.pc ≡ false → target ≡ branch_target v s.pc → Goes (branch_kind target o)
    last_branch (Some (instr.Branch kind rs1 rs2 off)) target means single there =
        let i : Instr = instr.Branch kind rs1 rs2 off in
        let same : read ≡ Some i = one_reading (p.word s.pc) i read means reads in
        let going : (next_state p s (Some i)).outcome ≡ GoesOn =
        subst (λ (x : Option Instr). (next_state p s x).outcome ≡ GoesOn) same on in
        let goes : BranchGoes (is_taken kind (register t.hart.regs rs1) (register t.hart.regs rs2)) (offset s.pc off) (s.pc + 4) (next_state p s (Some i)).pc =
        branch_goes kind rs1 rs2 off single means going in
        let target_is : offset s.pc off ≡ target = ap (offset s.pc) means.4 ∙ sym there in
        subst (λ (x : Option Instr). BranchGoes (is_taken kind (register t.hart.regs rs1) (register t.hart.regs rs2)) target (s.pc + 4) (next_state p s x).pc) (sym same)
        (subst (λ (x : ℕ). BranchGoes (is_taken kind (register t.hart.regs rs1) (register t.hart.regs rs2)) x (s.pc + 4) (next_state p s (Some i)).pc) target_is goes)
    last_branch None target means single there = tt
    last_branch (Some i) target means single there = tt

    by_end : (site : ℕ → Bool) (e : End) (u : Unit) → MatchOption u.instr (MeansNothing w) (Means w) → EndsSo v s.pc e → Goes (last_kind site e u)
    by_end site (ends.Branch target behind) u means so = last_branch u.instr target means so.0 so.1.0
    by_end site (ends.Fall behind) u means so = goes_straight t.hart.regs (s.pc + 4) (next_state p s read).pc site u.at u.instr
    by_end site (ends.Jump target) u means so = tt
    by_end site (ends.Call target back link) u means so = tt
    by_end site (ends.Tail target) u means so = goes_tail t.hart.regs (s.pc + 4) (next_state p s read).pc target u.instr
    by_end site (ends.Indirect back) u means so = goes_indirect t.hart.regs (s.pc + 4) (next_state p s read).pc back u.instr
    by_end site ends.Stop u means so = goes_straight t.hart.regs (s.pc + 4) (next_state p s read).pc site u.at u.instr

    by_place : (site : ℕ → Bool) (last : Bool) (e : End) (u : Unit) → MatchOption u.instr (MeansNothing w) (Means w) → (last ≡ true → EndsSo v s.pc e) → Goes (if last then last_kind site e u else straight_kind site u.at u.instr)
    by_place site true e u means so = by_end site e u means (so refl)
    by_place site false e u means so = goes_straight t.hart.regs (s.pc + 4) (next_state p s read).pc site u.at u.instr

    pub goes_there : (b k : ℕ) → StandsThere c s.pc b k → Goes (kind_of (is_site g) (body_at c.blocks.items b) k)
    goes_there b k stands =
        let below = inside c b k stands.is in
        let has = block_at v c b result.code below in
        let block : Block = has.block in
        let count : length (units_at c b) ≡ length block.units.items = ap (λ (us : List Unit). length us) has.units in
        let is = stands.is in
        let unit = unit_of_block v c.functions.items block k has.is (omega (arith, is, count)) in
        let u : Unit = unit_in (body_of block) k in
        let same : code_unit c b k ≡ u = ap (λ (us : List Unit). slice_index_or us k no_unit) has.units in
        let at : u.at ≡ s.pc = ap (λ (x : Unit). x.at) (sym same) ∙ stands.at in
        let raw : u.raw ≡ w = unit.is.raw ∙ ap (image_word v) at in
        subst (λ (x : Body). Goes (kind_of (is_site g) x k)) (sym has.body)
        (by_place (is_site g) (suc k == length block.units.items) block.end u
        (subst (λ (x : ℕ). MatchOption u.instr (MeansNothing x) (Means x)) raw unit.is.instr)
        (λ last.
        subst (λ (x : ℕ). EndsSo v x block.end) (sym unit.at ∙ at)
        (unit.ends (last_test k (length block.units.items) (suc k == length block.units.items) refl last))))

pub branches_go : BranchesGo
branches_go file out board g c pl result s read t es b k unit reads on stands =
    goes_there file out board g c pl result s t unit.match read reads on b k stands

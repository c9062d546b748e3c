-- The forms of units in copies that are present: as many words as at home, or a row.
use Rattle.std.proofs.Common.{◌≡◌, ◌∙◌, inl, inr, ℕ, suc, ◌+◌, ◌*◌, ◌<◌, ◌≤◌, Bool, true, false, if◌then◌else◌, List, [], ◌∷◌, length, slice_index, Option, Some, None, refl, sym, ap, subst, arith, ℤ}
use Rattle.std.specs.Bool.{MatchBool}
use Rattle.rv32im.specs.Words.{plus}
use Rattle.rv32im.specs.Acts.{Hart, register, with_register, is_taken}
use Rattle.rv32im.specs.Fields.{rd_of}
use Rattle.rv32im.specs.Table.{Means}
use Rattle.rv32im.specs.Sequences.{MeanAll}
use Rattle.rv32im.specs.declared.instructions.BranchKind.{BranchKind}
use Rattle.rv32im.specs.declared.instructions.Instr.{Instr}
use Rattle.rv32im.specs.declared.instructions.Instr.TheVariants as instr
use Rattle.rv32im.proofs.Meaning.{in_range}
use Rattle.board_config.specs.declared.board.Board.{Board}
use Rattle.board_config.specs.declared.board.Range.{Range}
use Rattle.flat_machine.specs.Mapping as mapping
use Rattle.flat_machine.specs.State.{State}
use Rattle.flat_machine.specs.Lines.{words_from}
use Rattle.flat_machine.proofs.SilentLines.{set_other, set_there}
use Rattle.loaded_file.specs.Code.{image_word}
use Rattle.object_graph.specs.declared.parts.Graph.{Graph}
use Rattle.code_blocks.specs.Leaders.{is_call_pair, is_leader}
use Rattle.code_blocks.specs.Numbers.{end_at}
use Rattle.code_blocks.specs.declared.parts.Unit.{Unit}
use Rattle.code_blocks.specs.declared.parts.Code.{Code}
use Rattle.block_splitter.specs.declared.unit_kind.UnitKind.{UnitKind}
use Rattle.block_splitter.specs.declared.unit_kind.UnitKind.TheVariants.{Plain, Upper, Branch, Jump, Call, Tail, Indirect, Linking, Halt}
use Rattle.block_splitter.specs.Forms.{is_site, body_at, holds_block, copy_size}
use Rattle.block_splitter.specs.Pieces.{IsTemporary, IsCopyable}
use Rattle.block_splitter.specs.Copies.{Copy, word_of_unit, is_inside, unit_of, kind_in, place_of, address_of, words_at, IsUnitCopy}
use Rattle.result_laws.specs.Kinds.{takes}
use Rattle.result_laws.specs.Copied.{Lands, unit_words, MayDiffer, CopyLeads, CopyRuns}
use Rattle.result_laws.specs.HomeUnits.{home_words, LeadsAtHome, IsHomeOf}
use Rattle.result_laws.specs.CopyLaws.{IsInCopy, falls_to}
use Rattle.result_laws.proofs.Setting.{setting}
use Rattle.result_laws.proofs.CopiedUnits.{copied_units_run}
use Rattle.result_laws.proofs.Counts.{runs_count}
use Rattle.result_laws.proofs.CopyHomes.{unlinked}
use Rattle.result_laws.proofs.KindFacts.{IsKindOf, CallsBack, kinds_so}
use Rattle.result_laws.proofs.Places.{unit_fits}
use Rattle.result_laws.proofs.SameRegisters.{copies_leave_registers}
use Rattle.result_laws.proofs.CopyUnits.{units_are_kinds}
use Rattle.object_machine.specs.Program.{Target}
use Rattle.simulation.specs.Units.{StandsAt}
use Rattle.simulation.specs.Forms.{IsAt, ActsFor, ActsAs, OneWordFor, IsFollowed, home_of, CanCome, IsRowKind}
use Rattle.result_laws.specs.LiveUnits.{code_unit, StandsThere}
use Rattle.result_laws.specs.PlacedPieces.{PlacedPiece}
use Rattle.result_laws.proofs.CodeUnits.{units_stand}
use Rattle.result_laws.proofs.Words.{same_word}
use Rattle.result_laws.proofs.PlacedUnits.{call_register, no_target, same_register, AreFew, words_few, copy_some, read_register}
use Rattle.result_laws.specs.Entries.{RunsIn}
use Rattle.result_laws.specs.ChosenPlacement.{ChosenPlacement, piece_of, copy_in}
use Rattle.result_laws.specs.PlacedLaws.{IsPlacedResult}
use Rattle.result_laws.proofs.Fetches.{RunsOver, PairOver, FormOver}
use Rattle.result_laws.proofs.Blocks.{begin_leads, temporary_dead, unit_low}
use Rattle.result_laws.proofs.Standing.{IsHere, piece_here, copy_holds, copy_still, copy_mapped}
use Rattle.result_laws.proofs.CopyWays.{unit_same, unit_count, is_copy, in_order}
use Rattle.result_laws.proofs.CopyWays as ways
use Rattle.result_laws.proofs.UnitForms as parts

-- `arrive` says at which addresses the flat machine may come to a unit
module _ (file out : List ℕ) (board : Board) (g : Graph) (c : Code) (pl : ChosenPlacement) (result : IsPlacedResult file out board g c pl) (r u n b k : ℕ) (inside : n < length pl.pieces) (held : holds_block b (piece_of pl n).range ≡ true) (stands : StandsThere c u b k) (may : RunsIn pl.regions b r) (arrive : ℕ → ℕ → Type 0) where
  open (setting file out board g c pl result) use {v, p, l, live}

  abbrev y : PlacedPiece
  y = piece_of pl n

  abbrev cp : Copy
  cp = copy_in c g pl n

  abbrev place : ℕ
  place = place_of cp b k

  abbrev a : ℕ
  a = address_of cp place

  abbrev unit : Unit
  unit = unit_of cp b k

  abbrev copy_inside : ℕ → Bool
  copy_inside = is_inside cp

  -- behind the last unit control falls to the next word
  abbrev pub Falls : Type 0
  Falls = suc k ≡ length (body_at c.blocks.items b).units → falls_to (end_at c b) ≡ Some (u + 4)

  -- the words of it that run
  abbrev pub copy_fetched : UnitKind → State → List ℕ
  copy_fetched kind t = words_from a (unit_words copy_inside (takes kind t.hart.regs) kind)

  abbrev Form : UnitKind → Type 0
  Form kind = FormOver p l live arrive r u a (copy_fetched kind)

  unit_there : unit.at ≡ u
  unit_there = ap (λ (x : Unit). x.at) (unit_same file out board g c pl result n inside b k) ∙ stands.at

  in_body : k < length (body_at c.blocks.items b).units
  in_body = let count = unit_count file out board g c pl result n inside b in let is = stands.is in omega (arith, count, is)

  copyable : IsCopyable c b
  copyable = (is_copy file out board g c pl result n inside).piece.blocks b held

  block_below : b < length c.blocks.items
  block_below = in_order file out board g c pl result n inside r b held may

  low : u + 4 < 4294967296
  low = unit_low file out board g c pl result u b k stands

  kind_is : IsKindOf v c (is_site g) u Falls (kind_in cp b k)
  kind_is =
      subst (λ (x : ℕ). IsKindOf v c (is_site g) x (suc k ≡ length (body_at c.blocks.items b).units → falls_to (end_at c b) ≡ Some (x + 4)) (kind_in cp b k)) unit_there
      (kinds_so v c (is_site g) b k result.code block_below copyable in_body)

  home : IsHomeOf v (is_site g) u (kind_in cp b k)
  home =
      subst (λ (x : ℕ). IsHomeOf v (is_site g) x (kind_in cp b k)) unit_there
      (units_are_kinds v c (is_site g) b k result.code block_below copyable in_body ((is_copy file out board g c pl result n inside).low b k held in_body))

  unit_raw : unit.raw ≡ image_word v u
  unit_raw =
      let tells = (units_stand file board g c result.accepted result.code).tells b k stands.is in
      let own : unit.raw ≡ (code_unit c b k).raw = ap (λ (x : Unit). x.raw) (unit_same file out board g c pl result n inside b k) in
      own ∙ (tells.raw ∙ ap (image_word v) stands.at)

  -- ---- the copy runs

  here : IsHere file out board g c pl result n inside r
  here = piece_here file out board g c pl result n inside r b held may

  -- a byte of it is the one that stands still
  byte_there : (t : State) → IsAt l r a t → (i : ℕ) → i < 4 * length y.words → t.hart.mem (y.at + i) ≡ l.still r (y.at + i)
  byte_there t at i below = at.still (y.at + i) (copy_still file out board g c pl result n inside r here i below)

  at_words : (t : State) → IsAt l r a t → IsInCopy cp y.words place t
  at_words t at =
      record {
        going = at.going;
        pc = at.at;
        stand = λ i below.
            let whole = (is_copy file out board g c pl result n inside).below in
            same_word t.hart.mem (l.still r) (y.at + 4 * i) (y.at + 4 * i) (omega (arith, below, whole)) (omega (arith, below, whole))
            (λ j small.
            let same : y.at + (4 * i + j) ≡ y.at + 4 * i + j = omega arith in
            subst (λ (q : ℕ). t.hart.mem q ≡ l.still r q) same (byte_there t at (4 * i + j) (omega (arith, below, small))))
            ∙ copy_holds file out board g c pl result n inside r here i below;
        fetched = λ i below.
            subst (λ (map : List Range). mapping.is_mapped map (y.at + i) ≡ true) (sym at.map)
            (copy_mapped file out board g c pl result n inside r here i below);
      }

  copy_runs : (t : State) → IsAt l r a t → CopyRuns cp t a unit (kind_in cp b k)
  copy_runs t here =
      copied_units_run v cp y.words y.starts t b k (is_copy file out board g c pl result n inside) held in_body (at_words t here)

  fits : place + copy_size copy_inside (kind_in cp b k) ≤ length y.words
  fits =
      let unit_in_copy = unit_fits cp b k held block_below in_body in
      let count = (is_copy file out board g c pl result n inside).copy.count in
      omega (arith, unit_in_copy, count)

  copy_words : IsUnitCopy cp a unit (kind_in cp b k) (words_at y.words place (copy_size copy_inside (kind_in cp b k)))
  copy_words = ((is_copy file out board g c pl result n inside).copy.blocks b held).units k in_body

  arrive_at : (x z d e : ℕ) → x ≡ z → d ≡ e → arrive z e → arrive x d
  arrive_at x z d e same there comes = subst (λ (q : ℕ). arrive q d) (sym same) (subst (λ (q : ℕ). arrive z q) (sym there) comes)

  -- ---- rows

  abbrev hart_at : State → Hart
  hart_at t = record { pc = u; regs = t.hart.regs; mem = t.hart.mem }

  fetched_count : (taken : Bool) (kind : UnitKind) → AreFew (length (words_from a (unit_words copy_inside taken kind)))
  fetched_count taken kind =
      let count = runs_count.fetched a (unit_words copy_inside taken kind) in
      let are = words_few copy_inside taken kind in
      let some = are.some in
      let few = are.few in
      record { some = omega (arith, count, some); few = omega (arith, count, few) }

  runs_for : (kind : UnitKind) (taken : Bool) (i : Instr) (t : State) (leads : CopyLeads cp t a taken kind) → LeadsAtHome u kind (i ∷ []) (hart_at t) → ((j : ℕ) → live (home_of u t i).pc j → MayDiffer c taken kind j → ⊥) → (CanCome p u i (home_of u t i).pc → arrive (home_of u t i).pc leads.0) → RunsOver p live arrive u (words_from a (unit_words copy_inside taken kind)) t i
  runs_for kind taken i t leads at_home dead arrives =
      let count = fetched_count taken kind in (
        record {
          fetched = words_from a (unit_words copy_inside taken kind);
          regs = leads.1.1.regs;
          to = leads.0;
          some = count.some;
          few = count.few;
          ran = leads.1.1.ran;
          alike = λ j lives.
              elim (copies_leave_registers cp t a u taken kind (i ∷ []) (hart_at t) leads at_home refl j) [
                | inl same ↦ same_register leads.1.1.regs (home_of u t i).regs j same
                | inr differs ↦ absurd (dead j lives differs)
              ];
          arrives = arrives;
        },
        refl,
      )

  mean_one : (i : Instr) → is_call_pair v u ≡ false → Means (image_word v u) i → MeanAll (home_words v u) (i ∷ [])
  mean_one i single means = parts.mean_one file board g result.accepted l live arrive r u a low (λ t. []) i single means

  row_single : (of : UnitKind) (i : Instr) → is_call_pair v u ≡ false → Means (image_word v u) i → IsRowKind i (p.site u) → ((t : State) → IsAt l r a t → RunsOver p live arrive u (copy_fetched of t) t i) → Form of
  row_single of i single means kind runs =
      parts.row_single file board g result.accepted l live arrive r u a low (copy_fetched of) i single means kind runs

  row_pair : (of : UnitKind) → is_call_pair v u ≡ true → ((t : State) → IsAt l r a t → PairOver p live arrive u (copy_fetched of t) t) → Form of
  row_pair of pair runs = parts.row_pair file board g result.accepted l live arrive r u a low (copy_fetched of) pair runs

  -- ---- where it leads

  -- to a block: at home, or where control lands that goes there; to what follows; and where a jump by a register may go
  abbrev pub Home : ℕ → Type 0
  Home target = is_leader v target ≡ true → arrive target target

  abbrev pub Landing : ℕ → Type 0
  Landing target = (to : ℕ) → is_leader v target ≡ true → Lands cp target to → arrive target to

  abbrev pub Onward : UnitKind → Type 0
  Onward kind = Falls → arrive (u + 4) (a + 4 * copy_size copy_inside kind)

  abbrev pub Reached : Type 0
  Reached = (x : ℕ) → p.is_reached x ≡ true → arrive x x

  -- the flat machine may come wherever a unit of a kind leads
  abbrev pub MayArrive : UnitKind → Type 0
  MayArrive (Branch kind rs1 rs2 target) = Landing target × Onward (Branch kind rs1 rs2 target)
  MayArrive (Jump target) = Landing target
  MayArrive (Call target back link) = Home target
  MayArrive (Tail target link) = Home target
  MayArrive Indirect = Reached
  MayArrive (Linking back link base imm) = Reached
  MayArrive kind = Onward kind

  -- ---- by kind

  abbrev FormBy : UnitKind → Type 0
  FormBy kind =
      IsKindOf v c (is_site g) u Falls kind → IsHomeOf v (is_site g) u kind → ((t : State) → IsAt l r a t → CopyRuns cp t a unit kind)
      → place + copy_size copy_inside kind ≤ length y.words
      → IsUnitCopy cp a unit kind (words_at y.words place (copy_size copy_inside kind)) → MayArrive kind → Form kind

  upper_form : (rd value : ℕ) → FormBy (Upper rd value)
  upper_form rd value (m, (single, (means, (no_site, falls)))) is runs room words next =
      let i : Instr = instr.Auipc rd m in
      let none : p.site u ≡ None = no_target g.sites.items u no_site in
      row_single (Upper rd value) i single means (subst (IsRowKind i) (sym none) tt)
      (λ t here.
      let leads = runs t here in
      let at_home = is.runs (i ∷ []) (mean_one i single means) (hart_at t) refl in
      runs_for (Upper rd value) false i t leads at_home (λ j lives differs. differs)
      (λ comes. arrive_at (home_of u t i).pc (u + 4) leads.0 (a + 8) at_home.pc leads.1.0 (next falls)))

  -- where a branch goes that is taken or isn't
  abbrev pub Either : Bool → UnitKind → ℕ → Type 0
  Either test kind target = MatchBool test (Landing target) (Onward kind)

  both_ways : (test : Bool) (kind : UnitKind) (target : ℕ) → Landing target → Onward kind → Either test kind target
  both_ways true kind target lands next = lands
  both_ways false kind target lands next = next

  branch_arrives : (test : Bool) (kind : UnitKind) (target pc to : ℕ) → is_leader v target ≡ true → Falls → pc ≡ (if test then target else u + 4) → MatchBool test (Lands cp target to) (to ≡ a + 4 * copy_size copy_inside kind) → Either test kind target → arrive pc to
  branch_arrives true kind target pc to leads falls same lands ways = arrive_at pc target to to same refl (ways to leads lands)
  branch_arrives false kind target pc to leads falls same there ways =
      arrive_at pc (u + 4) to (a + 4 * copy_size copy_inside kind) same there (ways falls)

  branch_dead : (test : Bool) (target pc j : ℕ) → is_leader v target ≡ true → pc ≡ (if test then target else u + 4) → test ≡ true → IsTemporary c target 0 j → live pc j → ⊥
  branch_dead true target pc j leads same taken is lives =
      temporary_dead file out board g c pl result target 0 j leads is (subst (λ (x : ℕ). live x j) same lives)
  branch_dead false target pc j leads same taken is lives = cc

  branch_run : (kind : BranchKind) (rs1 rs2 target : ℕ) (off : ℤ) (t : State) → is_leader v target ≡ true → Falls → LeadsAtHome u (Branch kind rs1 rs2 target) (instr.Branch kind rs1 rs2 off ∷ []) (hart_at t) → CopyRuns cp t a unit (Branch kind rs1 rs2 target) → Either (takes (Branch kind rs1 rs2 target) t.hart.regs) (Branch kind rs1 rs2 target) target → RunsOver p live arrive u (copy_fetched (Branch kind rs1 rs2 target) t) t (instr.Branch kind rs1 rs2 off)
  branch_run kind rs1 rs2 target off t leader falls at_home leads ways =
      let i : Instr = instr.Branch kind rs1 rs2 off in
      let test : Bool = is_taken kind (register t.hart.regs rs1) (register t.hart.regs rs2) in
      runs_for (Branch kind rs1 rs2 target) test i t leads at_home
      (λ j lives differs. branch_dead test target (home_of u t i).pc j leader at_home.pc differs.0 differs.1 lives)
      (λ comes. branch_arrives test (Branch kind rs1 rs2 target) target (home_of u t i).pc leads.0 leader falls at_home.pc leads.1.0 ways)

  branch_form : (kind : BranchKind) (rs1 rs2 target : ℕ) → FormBy (Branch kind rs1 rs2 target)
  branch_form kind rs1 rs2 target (off, (single, (means, (begins_there, falls)))) is runs room words (lands, next) =
      let i : Instr = instr.Branch kind rs1 rs2 off in
      row_single (Branch kind rs1 rs2 target) i single means tt
      (λ t here.
      branch_run kind rs1 rs2 target off t (begin_leads file out board g c pl result target begins_there) falls
      (is.runs (i ∷ []) (mean_one i single means) (hart_at t) refl) (runs t here)
      (both_ways (takes (Branch kind rs1 rs2 target) t.hart.regs) (Branch kind rs1 rs2 target) target lands next))

  jump_form : (target : ℕ) → FormBy (Jump target)
  jump_form target (off, (single, (means, begins_there))) is runs room words lands =
      let i : Instr = instr.Jal 0 off in
      let leader = begin_leads file out board g c pl result target begins_there in
      row_single (Jump target) i single means tt
      (λ t here.
      let leads = runs t here in
      let at_home = is.runs (i ∷ []) (mean_one i single means) (hart_at t) refl in
      runs_for (Jump target) false i t leads at_home
      (λ j lives differs. temporary_dead file out board g c pl result target 0 j leader differs (subst (λ (x : ℕ). live x j) at_home.pc lives))
      (λ comes.
      arrive_at (home_of u t i).pc target leads.0 leads.0 at_home.pc refl (lands leads.0 leader leads.1.0)))

  -- a call of one word
  jal_form : (target back link : ℕ) (off : ℤ) → is_leader v target ≡ true → is_call_pair v u ≡ false → Means (image_word v u) (instr.Jal link off) → IsHomeOf v (is_site g) u (Call target back link) → ((t : State) → IsAt l r a t → CopyRuns cp t a unit (Call target back link)) → Home target → Form (Call target back link)
  jal_form target back link off leader single means is runs comes_home =
      let i : Instr = instr.Jal link off in
      row_single (Call target back link) i single means tt
      (λ t here.
      let leads = runs t here in
      let at_home = is.runs (i ∷ []) (mean_one i single means) (hart_at t) refl in
      runs_for (Call target back link) false i t leads at_home
      (λ j lives differs. temporary_dead file out board g c pl result target link j leader differs (subst (λ (x : ℕ). live x j) at_home.pc lives))
      (λ comes. arrive_at (home_of u t i).pc target leads.0 target at_home.pc leads.1.0 (comes_home leader)))

  -- one of two
  call_form : (target back link : ℕ) → is_leader v target ≡ true → CallsBack v u target back link → ((t : State) → IsAt l r a t → CopyRuns cp t a unit (Call target back link)) → Home target → Form (Call target back link)
  call_form target back link leader calls runs comes_home =
      let writes : link ≡ rd_of (image_word v u) = call_register v u link calls.pair calls.links_so calls.register_is in
      row_pair (Call target back link) calls.pair
      (λ t here.
      let leads = runs t here in
      let run = leads.1.1 in
      let count = fetched_count false (Call target back link) in
      let dead : (j : ℕ) → live (p.goes u) j → IsTemporary c target link j → ⊥ =
      λ j lives is. temporary_dead file out board g c pl result target link j leader is (subst (λ (x : ℕ). live x j) (sym calls.goes) lives) in (
        record {
          fetched = words_from a (unit_words copy_inside false (Call target back link));
          regs = run.regs;
          to = leads.0;
          some = count.some;
          few = count.few;
          ran = run.ran;
          others = λ j lives other.
              elim (run.alike j) [
                | inl same ↦
                    same_register run.regs t.hart.regs j (same ∙ set_other t.hart.regs link back j (λ is. other (is ∙ writes)))
                | inr differs ↦ absurd (dead j lives differs)
              ];
          links = λ some lives not_zero.
              let q : ℕ = rd_of (image_word v u) in
              elim (run.alike q) [
                | inl same ↦
                    let kept : with_register t.hart.regs link back q ≡ back =
                    subst (λ (x : ℕ). with_register t.hart.regs link back x ≡ back) writes (set_there t.hart.regs link back (λ none. not_zero (sym writes ∙ none))) in
                    read_register run.regs q not_zero ∙ (same ∙ (kept ∙ calls.behind))
                | inr differs ↦ absurd (dead q lives differs)
              ];
          below = parts.pair_low file board g result.accepted l live arrive r u a low (λ t. []) calls.pair;
          arrives = λ block. arrive_at (p.goes u) target leads.0 target (sym calls.goes) leads.1.0 (comes_home leader);
        },
        refl,
      ))

  tail_form : (target link : ℕ) → FormBy (Tail target link)
  tail_form target link (pair, (none, (goes, (register_is, begins_there)))) is runs room words comes_home =
      let leader = begin_leads file out board g c pl result target begins_there in
      row_pair (Tail target link) pair
      (λ t here.
      let leads = runs t here in
      let run = leads.1.1 in
      let count = fetched_count false (Tail target link) in (
        record {
          fetched = words_from a (unit_words copy_inside false (Tail target link));
          regs = run.regs;
          to = leads.0;
          some = count.some;
          few = count.few;
          ran = run.ran;
          others = λ j lives other.
              elim (run.alike j) [
                | inl same ↦ same_register run.regs t.hart.regs j same
                | inr differs ↦ absurd (other (differs ∙ register_is))
              ];
          links = λ some lives not_zero.
              let zero_there = unlinked (image_word v (u + 4)) none in
              absurd (omega (arith, some, zero_there));
          below = parts.pair_low file board g result.accepted l live arrive r u a low (λ t. []) pair;
          arrives = λ block. arrive_at (p.goes u) target leads.0 target (sym goes) leads.1.0 (comes_home leader);
        },
        refl,
      ))

  linking_form : (back link base : ℕ) (imm : ℤ) → FormBy (Linking back link base imm)
  linking_form back link base imm (single, means) is runs room words reached =
      let i : Instr = instr.Jalr link base imm in
      row_single (Linking back link base imm) i single means tt
      (λ t here.
      let leads = runs t here in
      let at_home = is.runs (i ∷ []) (mean_one i single means) (hart_at t) refl in
      runs_for (Linking back link base imm) false i t leads at_home (λ j lives differs. differs)
      (λ comes. arrive_at (home_of u t i).pc (home_of u t i).pc leads.0 (home_of u t i).pc refl (leads.1.0 ∙ sym at_home.pc) (reached (home_of u t i).pc comes)))

  -- ---- in words

  one_stands : (x : ℕ) → place + 1 ≤ length y.words → words_at y.words place 1 ≡ x ∷ [] → StandsAt l r a x
  one_stands x room words =
      let there : address_of cp place + 4 * 0 ≡ a = omega arith in
      let count : length (words_at y.words place 1) ≡ 1 = ap (λ (xs : List ℕ). length xs) words in
      subst (λ (q : ℕ). StandsAt l r q x) there
      (subst (λ (q : ℕ). StandsAt l r (address_of cp place + 4 * 0) q) (ap (λ (xs : List ℕ). slice_index xs 0) words)
      (ways.words_stand file out board g c pl result n inside r b place 1 0 held may room (omega (arith, count))))

  -- of a unit of one word
  one_word : (of : UnitKind) → ((t : State) → copy_fetched of t ≡ a ∷ []) → (i : Instr) → is_call_pair v u ≡ false → Means (image_word v u) i → OneWordFor p l arrive r u a (Some i) → (IsFollowed i → arrive (u + 4) (a + 4)) → Form of
  one_word of alone i single means for next =
      parts.one_word file board g result.accepted l live arrive r u a low (copy_fetched of) i single alone means for
      (λ follows on. subst (λ (q : ℕ). arrive (u + 4) q) (sym copy_behind) (next follows))
    where
      copy_behind : plus a 4 ≡ a + 4
      copy_behind =
          let whole = (is_copy file out board g c pl result n inside).below in
          let room = unit_fits cp b k held block_below in_body in
          let count = (is_copy file out board g c pl result n inside).copy.count in
          let size = copy_some copy_inside (kind_in cp b k) in
          omega (arith, whole, room, count, size)

  indirect_form : FormBy Indirect
  indirect_form (base, (imm, (single, means))) is runs room words reached =
      let i : Instr = instr.Jalr 0 base imm in
      let x : ℕ = image_word v u in
      let raw : unit.raw ≡ x = unit_raw in
      let acts : ActsFor p arrive u a i i = (refl, (inl refl, reached)) in
      one_word Indirect (λ t. refl) i single means
      (x, (i, (one_stands x room (words ∙ ap (λ (q : ℕ). q ∷ []) raw), (means, (in_range x i means, by_site (p.site u) i acts)))))
      (λ follows. absurd follows)
    where
      by_site : (o : Option Target) (i : Instr) → ActsFor p arrive u a (instr.Jalr 0 base imm) i → ActsAs p l arrive r u a o (instr.Jalr 0 base imm) i
      by_site None i acts = acts
      by_site (Some t) i acts = acts

  plain_form : FormBy Plain
  plain_form (i, (single, (means, (straight, falls)))) is runs room words next =
      let x : ℕ = word_of_unit pl.sites unit in
      let same : word_of_unit pl.sites (code_unit c b k) ≡ x =
      ap (λ (q : Unit). word_of_unit pl.sites q) (sym (unit_same file out board g c pl result n inside b k)) in
      one_word Plain (λ t. refl) i single means
      (parts.plain_word file out board g c pl result arrive r u a b k stands may i means straight x same (one_stands x room words))
      (λ follows. next falls)

  form_by : (kind : UnitKind) → FormBy kind
  form_by Plain is at_home runs room words comes = plain_form is at_home runs room words comes
  form_by (Upper rd value) is at_home runs room words comes = upper_form rd value is at_home runs room words comes
  form_by (Branch kind rs1 rs2 target) is at_home runs room words comes = branch_form kind rs1 rs2 target is at_home runs room words comes
  form_by (Jump target) is at_home runs room words comes = jump_form target is at_home runs room words comes
  form_by (Call target back link) (begins_there, inl calls) at_home runs room words comes =
      call_form target back link (begin_leads file out board g c pl result target begins_there) calls runs comes
  form_by (Call target back link) (begins_there, inr (off, (single, means))) at_home runs room words comes =
      jal_form target back link off (begin_leads file out board g c pl result target begins_there) single means at_home runs comes
  form_by (Tail target link) is at_home runs room words comes = tail_form target link is at_home runs room words comes
  form_by Indirect is at_home runs room words comes = indirect_form is at_home runs room words comes
  form_by (Linking back link base imm) is at_home runs room words comes = linking_form back link base imm is at_home runs room words comes
  form_by Halt is at_home runs room words comes = absurd is

  pub copy_form : MayArrive (kind_in cp b k) → FormOver p l live arrive r u a (copy_fetched (kind_in cp b k))
  copy_form comes = form_by (kind_in cp b k) kind_is home copy_runs fits copy_words comes

  -- ---- a branch, from one state

  pub record BranchRuns (kind : UnitKind) (t : State) : Type 0 where
    pub instr : Instr
    pub single : is_call_pair v u ≡ false
    pub means : Means (image_word v u) instr
    pub row : IsRowKind instr (p.site u)
    pub run : RunsOver p live arrive u (copy_fetched kind t) t instr

  from_state : (kind : BranchKind) (rs1 rs2 target : ℕ) (t : State) → IsKindOf v c (is_site g) u Falls (Branch kind rs1 rs2 target) → IsHomeOf v (is_site g) u (Branch kind rs1 rs2 target) → CopyRuns cp t a unit (Branch kind rs1 rs2 target) → Either (takes (Branch kind rs1 rs2 target) t.hart.regs) (Branch kind rs1 rs2 target) target → BranchRuns (Branch kind rs1 rs2 target) t
  from_state kind rs1 rs2 target t (off, (single, (means, (begins_there, falls)))) is runs ways =
      let i : Instr = instr.Branch kind rs1 rs2 off in
      record {
        instr = i;
        single = single;
        means = means;
        row = tt;
        run =
            branch_run kind rs1 rs2 target off t (begin_leads file out board g c pl result target begins_there) falls
            (is.runs (i ∷ []) (mean_one i single means) (hart_at t) refl) runs ways;
      }

  -- it goes one way, which is all that is asked
  pub branch_from : (kind : BranchKind) (rs1 rs2 target : ℕ) → kind_in cp b k ≡ Branch kind rs1 rs2 target → (t : State) → IsAt l r a t → Either (takes (Branch kind rs1 rs2 target) t.hart.regs) (Branch kind rs1 rs2 target) target → BranchRuns (Branch kind rs1 rs2 target) t
  branch_from kind rs1 rs2 target same t here ways =
      from_state kind rs1 rs2 target t (subst (λ (x : UnitKind). IsKindOf v c (is_site g) u Falls x) same kind_is)
      (subst (λ (x : UnitKind). IsHomeOf v (is_site g) u x) same home)
      (subst (λ (x : UnitKind). CopyRuns cp t a unit x) same (copy_runs t here)) ways

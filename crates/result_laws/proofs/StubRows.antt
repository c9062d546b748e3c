-- A first unit that is displaced runs as a row of words, unless its own word stands there.
use Rattle.std.proofs.Common.{◌≡◌, ◌∙◌, inl, inr, ℕ, ◌+◌, ◌<◌, Bool, true, false, List, [], ◌∷◌, length, None, refl, sym, subst, arith, ℤ}
use Rattle.rv32im.specs.Acts.{Hart, with_register}
use Rattle.rv32im.specs.Fields.{rd_of}
use Rattle.rv32im.specs.Table.{Means}
use Rattle.rv32im.specs.Sequences.{MeanAll}
use Rattle.rv32im.specs.declared.instructions.BranchKind.{BranchKind}
use Rattle.rv32im.specs.declared.instructions.Instr.{Instr}
use Rattle.rv32im.specs.declared.instructions.Instr.TheVariants as instr
use Rattle.elf_reader.specs.File.{PlainView, view_in}
use Rattle.board_config.specs.declared.board.Board.{Board}
use Rattle.flat_machine.specs.State.{State}
use Rattle.flat_machine.proofs.SilentLines.{set_other, set_there}
use Rattle.loaded_file.specs.Code.{image_word}
use Rattle.object_graph.specs.declared.parts.Graph.{Graph}
use Rattle.code_blocks.specs.Leaders.{is_call_pair, is_leader}
use Rattle.code_blocks.proofs.LeaderLemmas.{indirect_is_leader}
use Rattle.code_blocks.specs.declared.parts.Code.{Code}
use Rattle.block_splitter.specs.declared.unit_kind.UnitKind.{UnitKind}
use Rattle.block_splitter.specs.declared.unit_kind.UnitKind.TheVariants.{Plain, Upper, Branch, Jump, Call, Tail, Indirect, Linking, Halt}
use Rattle.block_splitter.specs.Forms.{is_site, displaced_words}
use Rattle.result_laws.specs.Kinds.{next_after, takes, RowRuns}
use Rattle.result_laws.specs.Displaced.{displaced_fetched}
use Rattle.result_laws.specs.HomeUnits.{home_words, LeadsAtHome, IsTailRegister, IsHomeOf, IsHomeUnlessHalt}
use Rattle.result_laws.proofs.Counts.{runs_count}
use Rattle.result_laws.proofs.FirstUnits.{Halts}
use Rattle.result_laws.proofs.CopyHomes.{unlinked}
use Rattle.result_laws.proofs.KindFacts.{IsKindBy, CallsBack}
use Rattle.object_machine.specs.Program.{Program, falls_from}
use Rattle.simulation.specs.Setups.{Setup}
use Rattle.simulation.specs.Forms.{IsAt, IsFollowed, home_of, CanCome, IsRowKind}
use Rattle.result_laws.proofs.PlacedUnits.{call_register, no_target, same_register, AreFew, read_register}
use Rattle.result_laws.specs.HomeLaws.{IsAccepted, unnamed_in}
use Rattle.result_laws.proofs.Fetches.{RunsOver, PairOver, FormOver}
use Rattle.result_laws.proofs.UnitForms as parts

-- between one and four words of a displaced unit run
displaced_few : (kind : UnitKind) → AreFew (displaced_words kind)
displaced_few Plain = record { some = omega arith; few = omega arith }
displaced_few (Upper rd value) = record { some = omega arith; few = omega arith }
displaced_few (Branch kind rs1 rs2 target) = record { some = omega arith; few = omega arith }
displaced_few (Jump target) = record { some = omega arith; few = omega arith }
displaced_few (Call target back link) = record { some = omega arith; few = omega arith }
displaced_few (Tail target link) = record { some = omega arith; few = omega arith }
displaced_few Indirect = record { some = omega arith; few = omega arith }
displaced_few (Linking back link base imm) = record { some = omega arith; few = omega arith }
displaced_few Halt = record { some = omega arith; few = omega arith }

-- `block_comes` and `next_comes` say that the flat machine may come to the homes of blocks, and to the home of what follows
module _ (file : List ℕ) (board : Board) (g : Graph) (c : Code) (accepted : IsAccepted file board g) (l : Setup) (live arrive : ℕ → ℕ → Type 0) (r u a : ℕ) (low : u + 4 < 4294967296) (block_comes : (x : ℕ) → is_leader (view_in file) x ≡ true → arrive x x) (next_comes : (i : Instr) → is_call_pair (view_in file) u ≡ false → Means (image_word (view_in file) u) i → IsFollowed i → falls_from (view_in file) u ≡ true → arrive (u + 4) (u + 4)) where
  abbrev v : PlainView
  v = view_in file

  abbrev p : Program
  p = unnamed_in file board g

  -- the words of it that run
  abbrev pub stub_fetched : UnitKind → State → List ℕ
  stub_fetched kind t = displaced_fetched a (takes kind t.hart.regs) kind

  abbrev pub Form : UnitKind → Type 0
  Form kind = FormOver p l live arrive r u a (stub_fetched kind)

  arrive_at : (x z d e : ℕ) → x ≡ z → d ≡ e → arrive z e → arrive x d
  arrive_at x z d e same there way = subst (λ (q : ℕ). arrive q d) (sym same) (subst (λ (q : ℕ). arrive z q) (sym there) way)

  -- where a jump by a register may go
  pub reached_comes : (x : ℕ) → p.is_reached x ≡ true → arrive x x
  reached_comes x reached = block_comes x (indirect_is_leader v x reached)

  abbrev hart_at : State → Hart
  hart_at t = record { pc = u; regs = t.hart.regs; mem = t.hart.mem }

  -- words run there without an access, and lead where the unit leads at home
  abbrev pub Leads : State → UnitKind → Type 0
  Leads t kind = RowRuns t kind (λ k. ⊥) (displaced_fetched a (takes kind t.hart.regs) kind) (next_after (u + 4) kind t.hart.regs)

  abbrev pub RowBy : UnitKind → Type 0
  RowBy kind =
      IsKindBy v c (is_site g) u (Prim.Unit {0}) (Halts v u) kind → IsHomeUnlessHalt v (is_site g) u kind
      → ((t : State) → IsAt l r a t → Leads t kind) → Form kind

  fetched_few : (taken : Bool) (kind : UnitKind) → AreFew (length (displaced_fetched a taken kind))
  fetched_few taken kind =
      let count = runs_count.displaced a taken kind in
      let are = displaced_few kind in
      let some = are.some in
      let few = are.few in
      record { some = omega (arith, count, some); few = omega (arith, count, few) }

  runs_for : (kind : UnitKind) (i : Instr) (t : State) → Leads t kind → LeadsAtHome u kind (i ∷ []) (hart_at t) → ((j : ℕ) → IsTailRegister kind j → ⊥) → (CanCome p u i (home_of u t i).pc → arrive (home_of u t i).pc (home_of u t i).pc) → RunsOver p live arrive u (stub_fetched kind t) t i
  runs_for kind i t row at_home no_tail way =
      let count = fetched_few (takes kind t.hart.regs) kind in (
        record {
          fetched = displaced_fetched a (takes kind t.hart.regs) kind;
          regs = row.regs;
          to = next_after (u + 4) kind t.hart.regs;
          some = count.some;
          few = count.few;
          ran = row.ran;
          alike = λ j lives.
              elim (row.alike j) [
                | inr none ↦ absurd none
                | inl same ↦ elim (at_home.regs j) [
                  | inl home ↦ same_register row.regs (home_of u t i).regs j (same ∙ sym home)
                  | inr tail ↦ absurd (no_tail j tail)
                ]
              ];
          arrives = λ can. subst (λ (q : ℕ). arrive (home_of u t i).pc q) at_home.pc (way can);
        },
        refl,
      )

  mean_one : (i : Instr) → is_call_pair v u ≡ false → Means (image_word v u) i → MeanAll (home_words v u) (i ∷ [])
  mean_one i single means = parts.mean_one file board g accepted l live arrive r u a low (λ t. []) i single means

  row_single : (of : UnitKind) (i : Instr) → is_call_pair v u ≡ false → Means (image_word v u) i → IsRowKind i (p.site u) → ((t : State) → IsAt l r a t → RunsOver p live arrive u (stub_fetched of t) t i) → Form of
  row_single of i single means kind row =
      parts.row_single file board g accepted l live arrive r u a low (stub_fetched of) i single means kind row

  row_pair : (of : UnitKind) → is_call_pair v u ≡ true → ((t : State) → IsAt l r a t → PairOver p live arrive u (stub_fetched of t) t) → Form of
  row_pair of pair row = parts.row_pair file board g accepted l live arrive r u a low (stub_fetched of) pair row

  pub upper_form : (rd value : ℕ) → RowBy (Upper rd value)
  upper_form rd value (m, (single, (means, (no_site, falls)))) is runs_there =
      let i : Instr = instr.Auipc rd m in
      let none : p.site u ≡ None = no_target g.sites.items u no_site in
      row_single (Upper rd value) i single means (subst (IsRowKind i) (sym none) tt)
      (λ t here.
      runs_for (Upper rd value) i t (runs_there t here) (is.runs (i ∷ []) (mean_one i single means) (hart_at t) refl) (λ j tail. tail)
      (λ can. arrive_at (home_of u t i).pc (u + 4) (home_of u t i).pc (u + 4) can.0 can.0 (next_comes i single means tt can.1)))

  pub branch_form : (kind : BranchKind) (rs1 rs2 target : ℕ) → RowBy (Branch kind rs1 rs2 target)
  branch_form kind rs1 rs2 target (off, (single, (means, (begins_there, falls)))) is runs_there =
      let i : Instr = instr.Branch kind rs1 rs2 off in
      row_single (Branch kind rs1 rs2 target) i single means tt
      (λ t here.
      runs_for (Branch kind rs1 rs2 target) i t (runs_there t here) (is.runs (i ∷ []) (mean_one i single means) (hart_at t) refl) (λ j tail. tail)
      (λ can. block_comes (home_of u t i).pc can))

  pub jump_form : (target : ℕ) → RowBy (Jump target)
  jump_form target (off, (single, (means, begins_there))) is runs_there =
      let i : Instr = instr.Jal 0 off in
      row_single (Jump target) i single means tt
      (λ t here.
      runs_for (Jump target) i t (runs_there t here) (is.runs (i ∷ []) (mean_one i single means) (hart_at t) refl) (λ j tail. tail)
      (λ can. block_comes (home_of u t i).pc can))

  pub linking_form : (back link base : ℕ) (imm : ℤ) → RowBy (Linking back link base imm)
  linking_form back link base imm (single, means) is runs_there =
      let i : Instr = instr.Jalr link base imm in
      row_single (Linking back link base imm) i single means tt
      (λ t here.
      runs_for (Linking back link base imm) i t (runs_there t here) (is.runs (i ∷ []) (mean_one i single means) (hart_at t) refl) (λ j tail. tail)
      (λ can. reached_comes (home_of u t i).pc can))

  -- a call of one word
  pub jal_form : (target back link : ℕ) (off : ℤ) → is_call_pair v u ≡ false → Means (image_word v u) (instr.Jal link off) → IsHomeOf v (is_site g) u (Call target back link) → ((t : State) → IsAt l r a t → Leads t (Call target back link)) → Form (Call target back link)
  jal_form target back link off single means is runs_there =
      let i : Instr = instr.Jal link off in
      row_single (Call target back link) i single means tt
      (λ t here.
      runs_for (Call target back link) i t (runs_there t here) (is.runs (i ∷ []) (mean_one i single means) (hart_at t) refl) (λ j tail. tail)
      (λ can. block_comes (home_of u t i).pc can))

  -- one of two
  pub call_form : (target back link : ℕ) → CallsBack v u target back link → ((t : State) → IsAt l r a t → Leads t (Call target back link)) → Form (Call target back link)
  call_form target back link calls runs_there =
      let writes : link ≡ rd_of (image_word v u) = call_register v u link calls.pair calls.links_so calls.register_is in
      row_pair (Call target back link) calls.pair
      (λ t here.
      let run = runs_there t here in
      let count = fetched_few false (Call target back link) in (
        record {
          fetched = displaced_fetched a false (Call target back link);
          regs = run.regs;
          to = target;
          some = count.some;
          few = count.few;
          ran = run.ran;
          others = λ j lives other.
              elim (run.alike j) [
                | inl same ↦
                    same_register run.regs t.hart.regs j (same ∙ set_other t.hart.regs link back j (λ is. other (is ∙ writes)))
                | inr none ↦ absurd none
              ];
          links = λ some lives not_zero.
              let q : ℕ = rd_of (image_word v u) in
              elim (run.alike q) [
                | inl same ↦
                    let kept : with_register t.hart.regs link back q ≡ back =
                    subst (λ (x : ℕ). with_register t.hart.regs link back x ≡ back) writes (set_there t.hart.regs link back (λ none. not_zero (sym writes ∙ none))) in
                    read_register run.regs q not_zero ∙ (same ∙ (kept ∙ calls.behind))
                | inr none ↦ absurd none
              ];
          below = parts.pair_low file board g accepted l live arrive r u a low (λ t. []) calls.pair;
          arrives = λ block. arrive_at (p.goes u) (p.goes u) target (p.goes u) refl calls.goes (block_comes (p.goes u) block);
        },
        refl,
      ))

  pub tail_form : (target link : ℕ) → RowBy (Tail target link)
  tail_form target link (pair, (none, (goes, (register_is, begins_there)))) is runs_there =
      row_pair (Tail target link) pair
      (λ t here.
      let run = runs_there t here in
      let count = fetched_few false (Tail target link) in (
        record {
          fetched = displaced_fetched a false (Tail target link);
          regs = run.regs;
          to = target;
          some = count.some;
          few = count.few;
          ran = run.ran;
          others = λ j lives other.
              elim (run.alike j) [ inl same ↦ same_register run.regs t.hart.regs j same | inr differs ↦ absurd differs ];
          links = λ some lives not_zero.
              let zero_there = unlinked (image_word v (u + 4)) none in
              absurd (omega (arith, some, zero_there));
          below = parts.pair_low file board g accepted l live arrive r u a low (λ t. []) pair;
          arrives = λ block. arrive_at (p.goes u) (p.goes u) target (p.goes u) refl goes (block_comes (p.goes u) block);
        },
        refl,
      ))

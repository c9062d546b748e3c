-- The forms of first units in stubs: as many words as at home, or a row.
use Rattle.std.proofs.Common.{◌≡◌, ◌∙◌, ◌⊎◌, inl, inr, ℕ, ◌+◌, ◌*◌, ◌<◌, true, false, List, [], ◌∷◌, length, slice_index, Option, Some, None, refl, ap, subst, arith}
use Rattle.std.specs.Prelude.{Contains}
use Rattle.rv32im.specs.Words.{plus}
use Rattle.rv32im.specs.Table.{Means, MeansNothing}
use Rattle.rv32im.specs.declared.instructions.Instr.{Instr}
use Rattle.rv32im.specs.declared.instructions.Instr.TheVariants as instr
use Rattle.rv32im.proofs.Meaning.{same_instruction, in_range}
use Rattle.board_config.specs.declared.board.Board.{Board}
use Rattle.flat_machine.specs.State.{State}
use Rattle.loaded_file.specs.Code.{image_word}
use Rattle.object_graph.specs.declared.parts.Graph.{Graph}
use Rattle.code_blocks.specs.Leaders.{is_call_pair, is_leader}
use Rattle.code_blocks.proofs.LeaderLemmas.{indirect_is_leader}
use Rattle.code_blocks.specs.declared.parts.Unit.{Unit}
use Rattle.code_blocks.specs.declared.parts.Code.{Code}
use Rattle.block_splitter.specs.declared.unit_kind.UnitKind.{UnitKind}
use Rattle.block_splitter.specs.declared.unit_kind.UnitKind.TheVariants.{Plain, Upper, Branch, Jump, Call, Tail, Indirect, Linking, Halt}
use Rattle.block_splitter.specs.Forms.{is_site}
use Rattle.block_splitter.specs.Copies.{word_of_unit, IsDisplaced}
use Rattle.result_laws.specs.Kinds.{next_after, takes, RowRuns}
use Rattle.result_laws.specs.Displaced.{displaced_fetched, DisplacedRuns}
use Rattle.result_laws.specs.HomeUnits.{IsHomeUnlessHalt}
use Rattle.result_laws.specs.CopyLaws.{unit_at}
use Rattle.result_laws.proofs.Setting.{setting}
use Rattle.result_laws.proofs.FirstUnits.{Halts}
use Rattle.result_laws.proofs.KindFacts.{IsKindBy}
use Rattle.object_machine.specs.Program.{Target, falls_from}
use Rattle.object_machine.specs.Step.{Reads}
use Rattle.patch_code.specs.Serving.{ServingStub}
use Rattle.patch_code.specs.Served as served
use Rattle.simulation.specs.Units.{StandsAt}
use Rattle.simulation.specs.Forms.{IsAt, ActsFor, ActsAs, OneWordFor, IsFollowed}
use Rattle.result_laws.specs.LiveUnits.{code_unit, StandsThere}
use Rattle.result_laws.specs.Entries.{RunsIn}
use Rattle.result_laws.specs.ChosenPlacement.{ChosenPlacement}
use Rattle.result_laws.specs.PlacedView.{IsUncopied, Serves}
use Rattle.result_laws.specs.PlacedLaws.{IsPlacedResult}
use Rattle.result_laws.proofs.Blocks.{unit_low}
use Rattle.result_laws.specs.Walks as walks
use Rattle.result_laws.proofs.Fetches.{FormOver}
use Rattle.result_laws.proofs.StubRows as rows
use Rattle.result_laws.proofs.StubWords as stubs
use Rattle.result_laws.proofs.UnitForms as parts

module _ (file out : List ℕ) (board : Board) (g : Graph) (c : Code) (pl : ChosenPlacement) (result : IsPlacedResult file out board g c pl) where
  open (setting file out board g c pl result) use {v, p, l, live, plan}

  module _ (r u b : ℕ) (stub : ServingStub) (stands : StandsThere c u b 0) (listed : Contains plan.stubs stub) (serves : Serves c g pl (served.body_at plan stub) b stub) (uncopied : IsUncopied pl b) (runs : RunsIn pl.regions b r) (arrive : ℕ → ℕ → Type 0) where
    abbrev a : ℕ
    a = served.body_at plan stub

    abbrev unit : Unit
    unit = unit_at c b 0

    abbrev words : List ℕ
    words = stubs.words file out board g c pl result u b stub stands listed serves uncopied

    -- the words of it that run: a jump home stands behind one that doesn't jump
    abbrev pub own_fetched : UnitKind → State → List ℕ
    own_fetched kind t = walks.own_fetched a (takes kind t.hart.regs) kind

    abbrev pub Form : UnitKind → Type 0
    Form kind = FormOver p l live arrive r u a (own_fetched kind)

    low : u + 4 < 4294967296
    low = unit_low file out board g c pl result u b 0 stands

    -- ---- where it leads

    -- to the homes of blocks; and to what follows, at an address
    abbrev pub Blocks : Type 0
    Blocks = (x : ℕ) → is_leader v x ≡ true → arrive x x

    abbrev pub Follows : ℕ → Type 0
    Follows to =
        (i : Instr) → is_call_pair v u ≡ false → Means (image_word v u) i → IsFollowed i → falls_from v u ≡ true → arrive (u + 4) to

    -- the flat machine may come wherever a unit of a kind leads: behind one that doesn't jump to its second word
    abbrev pub MayArrive : UnitKind → Type 0
    MayArrive Plain = Follows (a + 4)
    MayArrive kind = Blocks × Follows (u + 4)

    -- ---- in words

    first_stands : (x : ℕ) (more : List ℕ) → words ≡ x ∷ more → StandsAt l r a x
    first_stands x more first =
        let count = ap (λ (xs : List ℕ). length xs) first in
        let here : a + 4 * 0 ≡ a = omega arith in
        subst (λ (q : ℕ). StandsAt l r q x) here
        (subst (λ (q : ℕ). StandsAt l r (a + 4 * 0) q) (ap (λ (xs : List ℕ). slice_index xs 0) first)
        (stubs.stub_word file out board g c pl result u b stub stands listed serves uncopied r 0 (omega (arith, count))))

    -- ---- in words, by kind

    abbrev FormBy : UnitKind → Type 0
    FormBy kind =
        IsKindBy v c (is_site g) u (Prim.Unit {0}) (Halts v u) kind → IsHomeUnlessHalt v (is_site g) u kind
        → ((t : State) → IsAt l r a t → DisplacedRuns pl.sites t a unit kind words) → IsDisplaced pl.sites a unit kind words → MayArrive kind → Form kind

    at_unit : unit.at ≡ u
    at_unit = stubs.at_unit file out board g c pl result u b stub stands listed serves uncopied

    raw_unit : unit.raw ≡ image_word v u
    raw_unit = stubs.raw_unit file out board g c pl result u b stub stands listed serves uncopied

    -- an instruction that is no site's
    by_site : (i j : Instr) → ((o : Option Target) → ActsAs p l arrive r u a o i j) → Means (image_word v u) i → (x : ℕ) → StandsAt l r a x → Means x j → OneWordFor p l arrive r u a (Some i)
    by_site i j acts means x there means_j = (x, (j, (there, (means_j, (in_range (image_word v u) i means, acts (p.site u))))))

    indirect_form : FormBy Indirect
    indirect_form (base, (imm, (single, means))) is runs_there displaced comes =
        let i : Instr = instr.Jalr 0 base imm in
        let x : ℕ = image_word v u in
        let one : words ≡ x ∷ [] = displaced ∙ ap (λ (q : ℕ). q ∷ []) raw_unit in
        let acts : ActsFor p arrive u a i i = (refl, (inl refl, λ x reached. comes.0 x (indirect_is_leader v x reached))) in
        parts.one_word file board g result.accepted l live arrive r u a low (own_fetched Indirect) i single (λ t. refl) means
        (by_site i i (jumps i acts) means x (first_stands x [] one) means) (λ follows. absurd follows)
      where
        jumps : (i : Instr) → ActsFor p arrive u a (instr.Jalr 0 base imm) i → (o : Option Target) → ActsAs p l arrive r u a o (instr.Jalr 0 base imm) i
        jumps i acts None = acts
        jumps i acts (Some t) = acts

    halt_form : FormBy Halt
    halt_form (single, halts) is runs_there displaced comes =
        let x : ℕ = image_word v u in
        let there : StandsAt l r a x = first_stands x [] (displaced ∙ ap (λ (q : ℕ). q ∷ []) raw_unit) in
        parts.by_words file board g result.accepted l live arrive r u a low (own_fetched Halt) single (λ t. refl) (by_read there halts)
        (λ i reads follows on.
        elim halts [
          | inl nothing ↦ absurd (nothing i reads)
          | inr ebreak ↦ absurd (subst IsFollowed (same_instruction x i instr.Ebreak reads ebreak) follows)
        ])
      where
        ends : (o : Option Target) → ActsAs p l arrive r u a o instr.Ebreak instr.Ebreak
        ends None = refl
        ends (Some t) = refl

        by_read : StandsAt l r a (image_word v u) → MeansNothing (image_word v u) ⊎ Means (image_word v u) instr.Ebreak → (read : Option Instr) → Reads (image_word v u) read → OneWordFor p l arrive r u a read
        by_read there halts None none = (image_word v u, (there, none))
        by_read there (inl nothing) (Some i) reads = absurd (nothing i reads)
        by_read there (inr ebreak) (Some i) reads =
            subst (λ (q : Instr). OneWordFor p l arrive r u a (Some q)) (same_instruction (image_word v u) instr.Ebreak i ebreak reads)
            (by_site instr.Ebreak instr.Ebreak ends ebreak (image_word v u) there ebreak)

    plain_form : FormBy Plain
    plain_form (i, (single, (means, (straight, falls)))) is runs_there displaced comes =
        let x : ℕ = word_of_unit pl.sites unit in
        let same : word_of_unit pl.sites (code_unit c b 0) ≡ x =
        ap (λ (q : Unit). word_of_unit pl.sites q) (stubs.same_unit file out board g c pl result u b stub stands listed serves uncopied) in
        let count = ap (λ (xs : List ℕ). length xs) displaced.words in
        let whole = stubs.low file out board g c pl result u b stub stands listed serves uncopied in
        let behind : a + 4 ≡ plus a 4 = omega (arith, whole, count) in
        parts.one_word file board g result.accepted l live arrive r u a low (own_fetched Plain) i single (λ t. refl) means
        (parts.plain_word file out board g c pl result arrive r u a b 0 stands runs i means straight x same (first_stands x (displaced.jump ∷ []) displaced.words))
        (λ follows on. subst (λ (q : ℕ). arrive (u + 4) q) behind (comes i single means follows on))

    -- ---- in a row

    -- the words lead where the unit leads at home
    abbrev Leads : State → UnitKind → Type 0
    Leads t kind =
        RowRuns t kind (λ k. ⊥) (displaced_fetched a (takes kind t.hart.regs) kind) (next_after (u + 4) kind t.hart.regs)

    told_at : (kind : UnitKind) → ((t : State) → IsAt l r a t → RowRuns t kind (λ k. ⊥) (displaced_fetched a (takes kind t.hart.regs) kind) (next_after (unit.at + 4) kind t.hart.regs)) → (t : State) → IsAt l r a t → Leads t kind
    told_at kind there t here =
        subst (λ (q : ℕ). RowRuns t kind (λ k. ⊥) (displaced_fetched a (takes kind t.hart.regs) kind) (next_after (q + 4) kind t.hart.regs)) at_unit (there t here)

    form_by : (kind : UnitKind) → FormBy kind
    form_by Plain is home there displaced comes = plain_form is home there displaced comes
    form_by (Upper rd value) is home there displaced comes =
        rows.upper_form file board g c result.accepted l live arrive r u a low comes.0 comes.1 rd value is home (told_at (Upper rd value) there)
    form_by (Branch kind rs1 rs2 target) is home there displaced comes =
        rows.branch_form file board g c result.accepted l live arrive r u a low comes.0 comes.1 kind rs1 rs2 target is home (told_at (Branch kind rs1 rs2 target) there)
    form_by (Jump target) is home there displaced comes =
        rows.jump_form file board g c result.accepted l live arrive r u a low comes.0 comes.1 target is home (told_at (Jump target) there)
    form_by (Call target back link) (begins_there, inl calls) home there displaced comes =
        rows.call_form file board g c result.accepted l live arrive r u a low comes.0 comes.1 target back link calls (told_at (Call target back link) there)
    form_by (Call target back link) (begins_there, inr (off, (single, means))) home there displaced comes =
        rows.jal_form file board g c result.accepted l live arrive r u a low comes.0 comes.1 target back link off single means home (told_at (Call target back link) there)
    form_by (Tail target link) is home there displaced comes =
        rows.tail_form file board g c result.accepted l live arrive r u a low comes.0 comes.1 target link is home (told_at (Tail target link) there)
    form_by Indirect is home there displaced comes = indirect_form is home there displaced comes
    form_by (Linking back link base imm) is home there displaced comes =
        rows.linking_form file board g c result.accepted l live arrive r u a low comes.0 comes.1 back link base imm is home (told_at (Linking back link base imm) there)
    form_by Halt is home there displaced comes = halt_form is home there displaced comes

    abbrev pub own_kind : UnitKind
    own_kind = stubs.kind file out board g c pl result u b stub stands listed serves uncopied

    pub stub_form : MayArrive own_kind → Form own_kind
    stub_form comes =
        form_by own_kind (stubs.kind_is file out board g c pl result u b stub stands listed serves uncopied)
        (stubs.home_is file out board g c pl result u b stub stands listed serves uncopied)
        (λ t here. stubs.stub_runs file out board g c pl result u b stub stands listed serves uncopied r t here)
        (stubs.has_words file out board g c pl result u b stub stands listed serves uncopied).form comes

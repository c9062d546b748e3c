-- How many words of a unit run at its form: at most four, and one where it may access an object or end a run.
use Rattle.std.proofs.Common.{◌≡◌, ◌∙◌, ◌⊎◌, inl, inr, ℕ, ◌+◌, ◌≤◌, Bool, true, false, not, ◌&&◌, if◌then◌else◌, List, [], ◌∷◌, length, Option, Some, refl, sym, ap, subst, arith, ℤ}
use Rattle.std.proofs.lemmas.Bool.{both_ways}
use Rattle.std.proofs.lemmas.List.{length-map}
use Rattle.rv32im.specs.Acts.{Registers}
use Rattle.rv32im.specs.Table.{Means}
use Rattle.rv32im.specs.declared.instructions.Instr.{Instr}
use Rattle.rv32im.specs.declared.instructions.Instr.TheVariants as instr
use Rattle.elf_reader.specs.File.{PlainView}
use Rattle.board_config.specs.declared.board.Board.{Board}
use Rattle.loaded_file.specs.Code.{image_word}
use Rattle.flat_machine.specs.State.{State}
use Rattle.flat_machine.specs.declared.events.FlatEvent.{FlatEvent}
use Rattle.object_graph.specs.declared.parts.Graph.{Graph}
use Rattle.object_machine.specs.State.{SourceState}
use Rattle.object_machine.specs.Step.{Reads}
use Rattle.code_blocks.specs.Leaders.{is_call_pair}
use Rattle.code_blocks.specs.declared.parts.Unit.{Unit}
use Rattle.code_blocks.specs.declared.parts.Code.{Code}
use Rattle.block_splitter.specs.declared.unit_kind.UnitKind.{UnitKind}
use Rattle.block_splitter.specs.declared.unit_kind.UnitKind.TheVariants.{Plain, Upper, Branch, Jump, Call, Tail, Indirect, Linking, Halt}
use Rattle.block_splitter.specs.Forms.{body_at, is_site, kind_of}
use Rattle.block_splitter.specs.Copies.{is_inside, kind_in, place_of, address_of}
use Rattle.result_laws.specs.Copied.{unit_words}
use Rattle.result_laws.specs.Kinds.{takes}
use Rattle.result_laws.specs.CopyLaws.{unit_at}
use Rattle.result_laws.proofs.Setting.{setting}
use Rattle.result_laws.proofs.CopiedUnits.{held_below}
use Rattle.result_laws.proofs.Counts.{runs_count}
use Rattle.result_laws.proofs.FirstUnits.{Halts}
use Rattle.result_laws.proofs.KindFacts.{CallsBack, IsKindBy, FallsLast, kinds_so}
use Rattle.patch_code.specs.Served.{body_at as stub_body}
use Rattle.result_laws.specs.ChosenPlacement.{ChosenPlacement, piece_of, copy_in}
use Rattle.result_laws.specs.PlacedLaws.{IsPlacedResult}
use Rattle.result_laws.specs.PlacedForms.{StandsAs, AtHome, InCopy, InStub}
use Rattle.result_laws.specs.Walks.{address_in, own_fetched, unit_fetched, UnitRuns}
use Rattle.result_laws.proofs.CopyWays as ways
use Rattle.result_laws.proofs.StubWords as stubs
use Rattle.result_laws.proofs.UnitEvents.{one_reading}
use Rattle.compare_runner.proofs.EndingSteps.{IsAlone}

-- ---- few words

-- at least one, and at most four
abbrev AreFew : ℕ → Type 0
AreFew n = (1 ≤ n) × (n ≤ 4)

either_few : (t : Bool) (m n : ℕ) → AreFew m → AreFew n → AreFew (if t then m else n)
either_few true m n first last = first
either_few false m n first last = last

copied_few : (inside : ℕ → Bool) (taken : Bool) (kind : UnitKind) → AreFew (unit_words inside taken kind)
copied_few inside taken Plain = (omega arith, omega arith)
copied_few inside taken (Upper rd value) = (omega arith, omega arith)
copied_few inside taken (Branch kind rs1 rs2 target) = either_few (taken && not (inside target)) 3 1 (omega arith, omega arith) (omega arith, omega arith)
copied_few inside taken (Jump target) = either_few (inside target) 1 2 (omega arith, omega arith) (omega arith, omega arith)
copied_few inside taken (Call target back link) = (omega arith, omega arith)
copied_few inside taken (Tail target register) = (omega arith, omega arith)
copied_few inside taken Indirect = (omega arith, omega arith)
copied_few inside taken (Linking back link base imm) = (omega arith, omega arith)
copied_few inside taken Halt = (omega arith, omega arith)

displaced_few : (at : ℕ) (taken : Bool) (kind : UnitKind) → AreFew (length (own_fetched at taken kind))
displaced_few at taken Plain = (omega arith, omega arith)
displaced_few at taken (Upper rd value) = (omega arith, omega arith)
displaced_few at taken (Branch kind rs1 rs2 target) = (omega arith, omega arith)
displaced_few at taken (Jump target) = (omega arith, omega arith)
displaced_few at taken (Call target back link) = (omega arith, omega arith)
displaced_few at taken (Tail target register) = (omega arith, omega arith)
displaced_few at taken Indirect = (omega arith, omega arith)
displaced_few at taken (Linking back link base imm) = (omega arith, omega arith)
displaced_few at taken Halt = (omega arith, omega arith)

-- ---- one word

abbrev IsOne : UnitKind → Type 0
IsOne Plain = Prim.Unit {0}
IsOne Halt = Prim.Unit {0}
IsOne other = ⊥

module _ (v : PlainView) (c : Code) (site : ℕ → Bool) (a : ℕ) (F H : Type 0) (read : Option Instr) (single : is_call_pair v a ≡ false) (reads : Reads (image_word v a) read) (alone : IsAlone read) where
  -- the word means no instruction that isn't one word elsewhere
  alone_not : (i : Instr) → Means (image_word v a) i → IsAlone (Some i)
  alone_not i means = subst IsAlone (one_reading (image_word v a) i read means reads) alone

  calls_not : (target back link : ℕ) → CallsBack v a target back link ⊎ ((off : ℤ) × ((is_call_pair v a ≡ false) × Means (image_word v a) (instr.Jal link off))) → ⊥
  calls_not target back link (inl pair) = both_ways (is_call_pair v a) single pair.pair
  calls_not target back link (inr jump) = alone_not (instr.Jal link jump.0) jump.1.1

  alone_one : (kind : UnitKind) → IsKindBy v c site a F H kind → IsOne kind
  alone_one Plain is = tt
  alone_one Halt is = tt
  alone_one (Upper rd value) is = alone_not (instr.Auipc rd is.0) is.1.1.0
  alone_one (Branch kind rs1 rs2 target) is = alone_not (instr.Branch kind rs1 rs2 is.0) is.1.1.0
  alone_one (Jump target) is = alone_not (instr.Jal 0 is.0) is.1.1.0
  alone_one (Call target back link) is = calls_not target back link is.1
  alone_one (Tail target register) is = absurd (both_ways (is_call_pair v a) single is.0)
  alone_one Indirect is = alone_not (instr.Jalr 0 is.0 is.1.0) is.1.1.1
  alone_one (Linking back link base imm) is = alone_not (instr.Jalr link base imm) is.1

copied_one : (inside : ℕ → Bool) (taken : Bool) (kind : UnitKind) → IsOne kind → unit_words inside taken kind ≡ 1
copied_one inside taken Plain is = refl
copied_one inside taken Halt is = refl
copied_one inside taken other is = absurd is

displaced_one : (at : ℕ) (taken : Bool) (kind : UnitKind) → IsOne kind → length (own_fetched at taken kind) ≡ 1
displaced_one at taken Plain is = refl
displaced_one at taken Halt is = refl
displaced_one at taken other is = absurd is

-- ---- at each form

home_few : (pair : Bool) (u : ℕ) → AreFew (length (if pair then u ∷ (u + 4) ∷ [] else u ∷ []))
home_few true u = (omega arith, omega arith)
home_few false u = (omega arith, omega arith)

module _ (file out : List ℕ) (board : Board) (g : Graph) (c : Code) (pl : ChosenPlacement) (result : IsPlacedResult file out board g c pl) where
  open (setting file out board g c pl result) use {v, p as q, plan}

  fetched_few : (regs : Registers) (u a : ℕ) (stands : StandsAs c g pl plan u a) → AreFew (length (unit_fetched q c g pl plan regs u a stands))
  fetched_few regs _ _ (AtHome u b k there bare) = home_few (is_call_pair v u) u
  fetched_few regs _ _ (InCopy u n b k inside held there) =
      let kind : UnitKind = kind_in (copy_in c g pl n) b k in
      let few = copied_few (is_inside (copy_in c g pl n)) (takes kind regs) kind in
      let least = few.0 in
      let most = few.1 in
      let count = runs_count.fetched (address_of (copy_in c g pl n) (place_of (copy_in c g pl n) b k)) (unit_words (is_inside (copy_in c g pl n)) (takes kind regs) kind) in
      (omega (arith, least, count), omega (arith, most, count))
  fetched_few regs _ _ (InStub u b stub there listed serves uncopied) =
      let kind : UnitKind = kind_of (is_site g) (body_at c.blocks.items b) 0 in
      displaced_few (stub_body plan stub) (takes kind regs) kind

  fetched_one : (regs : Registers) (u a : ℕ) (read : Option Instr) (stands : StandsAs c g pl plan u a) → is_call_pair v u ≡ false → Reads (image_word v u) read → IsAlone read → length (unit_fetched q c g pl plan regs u a stands) ≡ 1
  fetched_one regs _ _ read (AtHome u b k there bare) single reads alone = ap (λ (t : Bool). length (if t then u ∷ (u + 4) ∷ [] else u ∷ [])) single
  fetched_one regs _ _ read (InCopy u n b k inside held there) single reads alone =
      let copied = ways.is_copy file out board g c pl result n inside in
      let below = held_below v (copy_in c g pl n) (piece_of pl n).words (piece_of pl n).starts b copied held in
      let counts = ways.unit_count file out board g c pl result n inside b in
      let is = there.is in
      let kind : UnitKind = kind_in (copy_in c g pl n) b k in
      let at : (unit_at c b k).at ≡ u = ap (λ (x : Unit). x.at) (ways.unit_same file out board g c pl result n inside b k) ∙ there.at in
      let one =
      copied_one (is_inside (copy_in c g pl n)) (takes kind regs) kind
      (alone_one v c (is_site g) (unit_at c b k).at (FallsLast c b k) ⊥ read (subst (λ (x : ℕ). is_call_pair v x ≡ false) (sym at) single)
      (subst (λ (x : ℕ). Reads (image_word v x) read) (sym at) reads) alone kind
      (kinds_so v c (is_site g) b k result.code below (copied.piece.blocks b held) (omega (arith, counts, is)))) in
      runs_count.fetched (address_of (copy_in c g pl n) (place_of (copy_in c g pl n) b k)) (unit_words (is_inside (copy_in c g pl n)) (takes kind regs) kind) ∙ one
  fetched_one regs _ _ read (InStub u b stub there listed serves uncopied) single reads alone =
      let kind : UnitKind = kind_of (is_site g) (body_at c.blocks.items b) 0 in
      displaced_one (stub_body plan stub) (takes kind regs) kind
      (alone_one v c (is_site g) u (Prim.Unit {0}) (Halts v u) read single reads alone kind
      (stubs.kind_is file out board g c pl result u b stub there listed serves uncopied))

  module _ (s : SourceState) (read : Option Instr) (t : State) (es : List FlatEvent) (unit : UnitRuns file out board g c pl plan s read t es) where
    count_same : length es ≡ length (unit_fetched q c g pl plan t.hart.regs s.pc t.hart.pc unit.match.at.stands)
    count_same = sym (length-map es address_in) ∙ ap (λ (xs : List ℕ). length xs) unit.addresses

    pub unit_few : (1 ≤ length es) × (length es ≤ 4)
    unit_few = subst AreFew (sym count_same) (fetched_few t.hart.regs s.pc t.hart.pc unit.match.at.stands)

    pub unit_one : is_call_pair v s.pc ≡ false → Reads (image_word v s.pc) read → IsAlone read → length es ≡ 1
    unit_one single reads alone = count_same ∙ fetched_one t.hart.regs s.pc t.hart.pc read unit.match.at.stands single reads alone

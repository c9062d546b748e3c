-- No word of the patch range that runs on the way to a unit stands where a form of the unit does, and none at its home where a
-- pad is. So control comes to a displaced unit at its first word alone.
use Rattle.std.proofs.Common.{◌≡◌, ◌∙◌, inl, inr, ℕ, ◌+◌, ◌-◌, ◌*◌, ◌<◌, ◌≤◌, ◌==◌, ◌&&◌, if◌then◌else◌, Bool, true, false, List, [], ◌∷◌, ◌++◌, length, drop, refl, sym, ap, subst, arith, pos}
use Rattle.std.specs.Prelude.{All, Contains}
use Rattle.std.proofs.lemmas.Bool.{both_ways, cases_lt}
use Rattle.std.proofs.lemmas.List.Elements.{All-nil, All-cons, All-append, All-contains}
use Rattle.list_checks.proofs.TestLemmas.{any_at}
use Rattle.rv32im.specs.Sequences.{load_immediate, distance}
use Rattle.rv32im.specs.declared.instructions.Instr.TheVariants as instr
use Rattle.rv32im.proofs.SequenceLemmas.{mean_count}
use Rattle.board_config.specs.declared.board.Board.{Board}
use Rattle.flat_machine.specs.declared.events.FlatEvent.{FlatEvent}
use Rattle.object_graph.specs.Sites.{in_range}
use Rattle.object_graph.specs.declared.parts.Graph.{Graph}
use Rattle.code_blocks.proofs.LeaderLemmas.{both_pass}
use Rattle.code_blocks.specs.Numbers.{start_at}
use Rattle.code_blocks.specs.declared.parts.Code.{Code}
use Rattle.code_blocks.specs.declared.parts.Unit.{Unit}
use Rattle.dataflow.proofs.EdgeLemmas.{one_start}
use Rattle.block_splitter.specs.declared.unit_kind.UnitKind.{UnitKind}
use Rattle.block_splitter.specs.declared.unit_kind.UnitKind.TheVariants.{Plain, Upper, Branch, Jump, Call, Tail, Indirect, Linking, Halt}
use Rattle.block_splitter.specs.Forms.{holds_block, is_site, kind_of, body_at as body_of}
use Rattle.block_splitter.specs.Copies.{Patch, IsDisplaced}
use Rattle.result_laws.specs.CopyLaws.{unit_at}
use Rattle.patch_code.specs.Told.{IsFrom}
use Rattle.patch_code.specs.Start.{start_at as stub_start, start_bytes}
use Rattle.patch_code.specs.Serving.{ServingStub, jumps_to, body_bytes, serving_size, served_before, test_bytes}
use Rattle.patch_code.specs.Overlay.{OverlayPlan, serving_place}
use Rattle.patch_code.specs.Served.{body_at}
use Rattle.result_laws.specs.LiveUnits.{StandsThere}
use Rattle.result_laws.proofs.Setting.{setting}
use Rattle.result_laws.proofs.CodeUnits.{first, units_stand}
use Rattle.result_laws.proofs.Loaded.{IsKept}
use Rattle.result_laws.proofs.HomeNumbers.{same_number}
use Rattle.result_laws.specs.ChosenPlacement.{ChosenPlacement, piece_of}
use Rattle.result_laws.specs.PlacedView.{is_served, is_padded, IsUncopied, HasBody, ToCopy, Displaced, Serves, ServesSome}
use Rattle.result_laws.specs.PlacedLaws.{IsPlacedResult}
use Rattle.result_laws.specs.Walks.{StubPasses, body_fetched, BlockEntered, Bare, ByStub, own_fetched}
use Rattle.result_laws.proofs.Apart.{before_fits}
use Rattle.result_laws.proofs.Spared.{spared}
use Rattle.result_laws.proofs.StubBodies.{stub_inside}
use Rattle.result_laws.proofs.StubWords as stubs
use Rattle.compare_runner.proofs.OffParts.{each_address}
use Rattle.compare_runner.proofs.Ranges.{IsOff, stands_as, StandsInStub, home_off, plan_in_patch, stub_in_patch, only_stub, only_home}

-- ---- stubs one behind the other

-- one of a lower home ends where one of a higher home begins, or before
pub stubs_follow : (plan : OverlayPlan) (stub other : ServingStub) → Contains plan.stubs stub → stub.home < other.home → serving_place plan stub + serving_size stub ≤ serving_place plan other
stubs_follow plan stub other listed less =
    let fits =
    All-contains (λ (one : ServingStub). one.home < other.home → served_before one.home plan.stubs + serving_size one ≤ served_before other.home plan.stubs)
    plan.stubs stub (λ k d below. before_fits other.home plan.stubs k d below) listed less in
    omega (arith, fits)

-- ---- the words of a displaced unit behind its first

-- words of it stand there
abbrev pub IsBehind : (at : ℕ) (words : List ℕ) (a : ℕ) → Type 0
IsBehind at words a = (at < a) × (a < at + 4 * length words)

module _ (sites : List Patch) (at : ℕ) (u : Unit) (words : List ℕ) where
  abbrev Is : ℕ → Type 0
  Is a = IsBehind at words a

  one_behind : (a : ℕ) → Is a → All Is (a ∷ [])
  one_behind a is = All-cons Is a [] is (All-nil Is)

  two_behind : length words ≡ 3 → All Is ((at + 4) ∷ (at + 4 + 4) ∷ [])
  two_behind three =
      All-cons Is (at + 4) ((at + 4 + 4) ∷ []) (omega arith, omega (arith, three))
      (one_behind (at + 4 + 4) (omega arith, omega (arith, three)))

  branch_behind : (taken : Bool) → length words ≡ 3 → All Is (drop 1 (at ∷ (if taken then at + 8 else at + 4) ∷ []))
  branch_behind true three = one_behind (at + 8) (omega arith, omega (arith, three))
  branch_behind false three = one_behind (at + 4) (omega arith, omega (arith, three))

  pub own_behind : (taken : Bool) (kind : UnitKind) → IsDisplaced sites at u kind words → All Is (drop 1 (own_fetched at taken kind))
  own_behind taken Plain is = All-nil Is
  own_behind taken (Upper rd value) is =
      two_behind (mean_count words (load_immediate rd value ++ instr.Jal 0 (distance (at + 8) (u.at + 4)) ∷ []) is)
  own_behind taken (Branch kind rs1 rs2 target) is =
      branch_behind taken
      (mean_count words (instr.Branch kind rs1 rs2 (pos 8) ∷ instr.Jal 0 (distance (at + 4) (u.at + 4)) ∷ instr.Jal 0 (distance (at + 8) target) ∷ []) is)
  own_behind taken (Jump target) is = All-nil Is
  own_behind taken (Call target back link) is =
      two_behind (mean_count words (load_immediate link back ++ instr.Jal 0 (distance (at + 8) target) ∷ []) is)
  own_behind taken (Tail target register) is = All-nil Is
  own_behind taken Indirect is = All-nil Is
  own_behind taken (Linking back link base imm) is =
      two_behind (mean_count words (load_immediate link back ++ instr.Jalr 0 base imm ∷ []) is)
  own_behind taken Halt is = All-nil Is

module _ (file out : List ℕ) (board : Board) (g : Graph) (c : Code) (pl : ChosenPlacement) (result : IsPlacedResult file out board g c pl) where
  open (setting file out board g c pl result) use {v, plan}

  -- no form of the unit at `home` stands at an address
  abbrev Off : ℕ → ℕ → Type 0
  Off home a = IsOff board c g pl plan home a

  -- ---- pads

  starts_there : (b u : ℕ) → b < length c.blocks.items → start_at c b ≡ u → StandsThere c u b 0
  starts_there b u below starts =
      subst (λ (x : ℕ). StandsThere c x b 0) starts (first file board g c result.accepted result.code b below)

  -- a block that a stub serves has a pad
  pub padded : (b : ℕ) (stub : ServingStub) → b < length c.blocks.items → Contains plan.stubs stub → stub.home ≡ start_at c b → is_padded c pl (start_at c b) ≡ true
  padded b stub below listed home =
      let some = All-contains (ServesSome c g pl plan) plan.stubs stub result.view.planned.stubs.only listed in
      let same : start_at c b ≡ start_at c some.block = sym home ∙ some.serves.home in
      let one = one_start c b some.block result.code.ascending below some.below same in
      let served : is_served c pl b ≡ true = subst (λ (d : ℕ). is_served c pl d ≡ true) (sym one) some.served in
      any_at (λ d. is_served c pl d && (start_at c d == start_at c b)) (length c.blocks.items) b below
      (both_pass (is_served c pl b) (start_at c b == start_at c b) served (same_number (start_at c b)))

  -- so its own home is no place of it
  pub pad_free : (u b : ℕ) (stub : ServingStub) → b < length c.blocks.items → start_at c b ≡ u → Contains plan.stubs stub → Serves c g pl (body_at plan stub) b stub → Off u u
  pad_free u b stub below starts listed serves x form home at =
      let there = starts_there b u below starts in
      let kept = home_off file out board g c pl result u b 0 there in
      let here = only_home file out board g c pl result x form (subst (IsKept v board) (sym at) kept) in
      let pad = subst (λ (y : ℕ). is_padded c pl y ≡ true) (starts ∙ sym home) (padded b stub below listed serves.home) in
      both_ways (is_padded c pl x.home) here.bare pad

  -- ---- addresses in the patch range

  -- one is off where no unit is displaced to it
  pub off_in_patch : (u a : ℕ) → in_range board.patch a ≡ true → ((b : ℕ) (stub : ServingStub) → StandsThere c u b 0 → Contains plan.stubs stub → Serves c g pl (body_at plan stub) b stub → IsUncopied pl b → body_at plan stub ≡ a → ⊥) → Off u a
  off_in_patch u a patch none x form home at =
      let here : StandsInStub c g pl plan x = only_stub file out board g c pl result x form (subst (λ (y : ℕ). in_range board.patch y ≡ true) (sym at) patch) in
      none here.block here.stub (subst (λ (y : ℕ). StandsThere c y here.block 0) home here.there) here.listed here.serves here.uncopied
      (sym here.place ∙ at)

  -- words of the start stub run before any stub stands
  pub start_free : (u : ℕ) (e : FlatEvent) → IsFrom (stub_start plan.start) (start_bytes plan.start) e → Off u e.at
  start_free u e from =
      let low = from.low in
      let high = from.high in
      off_in_patch u e.at (plan_in_patch file out board g c pl result e.at low (omega (arith, high)))
      (λ b stub there listed serves uncopied at.
      let inside = (stub_inside file out board g c pl result stub listed).from in
      omega (arith, inside, at, high))

  -- ---- a displaced unit

  module _ (w b : ℕ) (stub : ServingStub) (there : StandsThere c w b 0) (listed : Contains plan.stubs stub) (serves : Serves c g pl (body_at plan stub) b stub) (uncopied : IsUncopied pl b) where
    abbrev pub words : List ℕ
    words = stubs.words file out board g c pl result w b stub there listed serves uncopied

    abbrev pub kind : UnitKind
    kind = kind_of (is_site g) (body_of c.blocks.items b) 0

    -- no other is displaced to one of its words
    no_other : (u e a : ℕ) (other : ServingStub) → StandsThere c u e 0 → Contains plan.stubs other → Serves c g pl (body_at plan other) e other → IsUncopied pl e → IsBehind (body_at plan stub) words a → body_at plan other ≡ a → ⊥
    no_other u e a other stands listed_too serves_too uncopied_too behind at =
        let size = stubs.size_least file out board g c pl result w b stub there listed serves uncopied (length words) refl in
        let size_too = stubs.size_least file out board g c pl result u e other stands listed_too serves_too uncopied_too (length (stubs.words file out board g c pl result u e other stands listed_too serves_too uncopied_too)) refl in
        let after = behind.0 in
        let before = behind.1 in
        elim (cases_lt stub.home other.home) [
          | inl lower ↦
              let follows = stubs_follow plan stub other listed lower in
              omega (arith, follows, size, before, at)
          | inr least ↦ elim (cases_lt other.home stub.home) [
            | inl higher ↦
                let follows = stubs_follow plan other stub listed_too higher in
                omega (arith, follows, size_too, after, at)
            | inr most ↦
                let same : stub.home ≡ other.home = omega (arith, least, most) in
                let place = ap (λ (home : ℕ). served_before home plan.stubs) same in
                omega (arith, place, after, at)
          ]
        ]

    -- so no form is behind its first word
    pub behind_free : (u a : ℕ) → IsBehind (body_at plan stub) words a → Off u a
    behind_free u a behind =
        let after = behind.0 in
        let before = behind.1 in
        let same : body_at plan stub + (a - body_at plan stub) ≡ a = omega (arith, after) in
        let patch =
        subst (λ (x : ℕ). in_range board.patch x ≡ true) same
        (stubs.inside_patch file out board g c pl result w b stub there listed serves uncopied (a - body_at plan stub) (omega (arith, after, before))) in
        off_in_patch u a patch
        (λ e other stands listed_too serves_too uncopied_too at.
        no_other u e a other stands listed_too serves_too uncopied_too behind at)

    -- the words of it that run, behind the first
    pub own_free : (u : ℕ) (taken : Bool) → All (Off u) (drop 1 (own_fetched (body_at plan stub) taken kind))
    own_free u taken k d below =
        behind_free u _
        (own_behind pl.sites (body_at plan stub) (unit_at c b 0) words taken kind
        (stubs.has_words file out board g c pl result w b stub there listed serves uncopied).form k d below)

    -- and where it doesn't jump the jump home behind it
    pub jump_free : (u : ℕ) → kind ≡ Plain → Off u (body_at plan stub + 4)
    jump_free u plain =
        let form =
        subst (λ (x : UnitKind). IsDisplaced pl.sites (body_at plan stub) (unit_at c b 0) x words) plain
        (stubs.has_words file out board g c pl result w b stub there listed serves uncopied).form in
        let two = ap (λ (xs : List ℕ). length xs) form.words in
        behind_free u (body_at plan stub + 4) (omega arith, omega (arith, two))

  -- ---- a stub's body

  -- no unit of a block that has a copy is displaced
  no_displaced : (u b e n : ℕ) → b < length c.blocks.items → start_at c b ≡ u → n < length pl.pieces → holds_block b (piece_of pl n).range ≡ true → StandsThere c u e 0 → IsUncopied pl e → ⊥
  no_displaced u b e n below starts inside held stands uncopied =
      let one = ((units_stand file board g c result.accepted result.code).one u b 0 e 0 (starts_there b u below starts) stands).0 in
      both_ways (holds_block b (piece_of pl n).range) (subst (λ (d : ℕ). holds_block d (piece_of pl n).range ≡ false) (sym one) (uncopied n inside)) held

  -- the words that lead to the copy of the block
  module _ (u b : ℕ) (stub : ServingStub) (below : b < length c.blocks.items) (starts : start_at c b ≡ u) (listed : Contains plan.stubs stub) where
    abbrev body : ℕ
    body = serving_place plan stub + test_bytes stub.region

    jump_off : (n : ℕ) → n < length pl.pieces → holds_block b (piece_of pl n).range ≡ true → (to i : ℕ) → stub.body ≡ jumps_to to → i < 8 → Off u (body + i)
    jump_off n inside held to i jumps small =
        let bytes = ap body_bytes jumps in
        let same : serving_place plan stub + (test_bytes stub.region + i) ≡ body + i = omega arith in
        off_in_patch u (body + i)
        (subst (λ (x : ℕ). in_range board.patch x ≡ true) same
        (stub_in_patch file out board g c pl result stub listed (test_bytes stub.region + i) (omega (arith, bytes, small))))
        (λ e other stands listed_too serves_too uncopied at. no_displaced u b e n below starts inside held stands uncopied)

    pub body_free : (has : HasBody c g pl (body_at plan stub) b stub) → All (Off u) (body_fetched c g pl (body_at plan stub) b stub body has)
    body_free (Displaced words uncopied runs form) = All-nil (Off u)
    body_free (ToCopy n inside held jumps) =
        let first_word : body + 0 ≡ body = omega arith in
        All-cons (Off u) body ((body + 4) ∷ []) (subst (Off u) first_word (jump_off n inside held _ 0 jumps (omega arith)))
        (All-cons (Off u) (body + 4) [] (jump_off n inside held _ 4 jumps (omega arith)) (All-nil (Off u)))

  -- ---- what a stub does before its body

  pub passed_free : (u : ℕ) (stub : ServingStub) (from to : ℕ) (es : List FlatEvent) → Contains plan.stubs stub → StubPasses plan stub from to es → All (λ (e : FlatEvent). Off u e.at) es
  passed_free u stub from to es listed passes k d below x form home at =
      spared file out board g c pl result stub listed from to es passes x.home x.at (stands_as board c g pl plan x form) k d below (sym at)

  -- ---- the way from a home to the unit

  pub entered_free : (u from to : ℕ) (es : List FlatEvent) → BlockEntered c g pl plan from u to es → All (λ (e : FlatEvent). Off u e.at) es
  entered_free u from _ _ (Bare form) = All-nil (λ (e : FlatEvent). Off u e.at)
  entered_free u from _ _ (ByStub b to stub pad passed body below starts listed serves are_pad passes are_body) =
      let P : FlatEvent → Type 0 = λ (e : FlatEvent). Off u e.at in
      All-append P pad (passed ++ body)
      (each_address (Off u) pad (u ∷ []) are_pad.addresses (All-cons (Off u) u [] (pad_free u b stub below starts listed serves) (All-nil (Off u))))
      (All-append P passed body (passed_free u stub from to passed listed passes)
      (each_address (Off u) body (body_fetched c g pl (body_at plan stub) b stub (serving_place plan stub + test_bytes stub.region) serves.body) are_body.addresses
      (body_free u b stub below starts listed serves.body)))

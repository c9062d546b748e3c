-- An address to which a unit's words lead tells whether words lead home from it: copies, stubs and homes share no byte.
use Rattle.std.proofs.Common.{◌≡◌, ◌∙◌, ℕ, zero, suc, ◌+◌, ◌*◌, ◌/◌, ◌<◌, ◌≤◌, true, false, List, [], ◌∷◌, ◌++◌, length, slice_index_or, Some, refl, sym, ap, subst, arith}
use Rattle.std.specs.Prelude.{Contains}
use Rattle.std.proofs.lemmas.Bool.{both_ways}
use Rattle.std.proofs.lemmas.Bool.Decides.{nat_tests}
use Rattle.std.proofs.lemmas.List.Elements.{All-contains}
use Rattle.board_config.specs.declared.board.Board.{Board}
use Rattle.flat_machine.specs.Lines.{words_from}
use Rattle.object_graph.specs.Sites.{in_range}
use Rattle.object_graph.specs.declared.parts.Graph.{Graph}
use Rattle.code_blocks.specs.Numbers.{start_at, end_at}
use Rattle.code_blocks.specs.declared.parts.Code.{Code}
use Rattle.block_splitter.specs.declared.unit_kind.UnitKind.{UnitKind}
use Rattle.block_splitter.specs.declared.unit_kind.UnitKind.TheVariants.{Plain, Upper, Branch, Jump, Call, Tail, Indirect, Linking, Halt}
use Rattle.block_splitter.specs.Forms.{holds_block, is_site, kind_of, body_at as body_of}
use Rattle.block_splitter.specs.Copies.{Copy, Patch, is_inside, kind_in, place_of, address_of, IsDisplaced}
use Rattle.block_splitter.proofs.LookupLemmas.{inside_at}
use Rattle.result_laws.specs.CopyLaws.{falls_to, place_behind, unit_at}
use Rattle.result_laws.proofs.Setting.{setting}
use Rattle.result_laws.proofs.Places.{unit_fits}
use Rattle.rv32im.specs.declared.instructions.Instr.{Instr}
use Rattle.rv32im.specs.declared.instructions.Instr.TheVariants as instr
use Rattle.rv32im.specs.Sequences.{MeanAll, load_immediate, distance}
use Rattle.code_blocks.specs.declared.parts.Unit.{Unit}
use Rattle.loaded_file.specs.Code.{is_code_word}
use Rattle.result_laws.proofs.CopiedUnits.{held_below}
use Rattle.result_laws.specs.ChosenJobs.{code_number}
use Rattle.patch_code.specs.Serving.{ServingStub, serving_home, serving_size, served_before}
use Rattle.patch_code.specs.Served.{body_at}
use Rattle.patch_code.proofs.Order.{below_more}
use Rattle.result_laws.proofs.JobChosen.{same_slot}
use Rattle.result_laws.specs.LiveUnits.{StandsThere}
use Rattle.result_laws.proofs.CodeUnits.{first, units_stand}
use Rattle.result_laws.proofs.Kept.{code_byte_kept}
use Rattle.result_laws.proofs.Loaded.{IsKept}
use Rattle.result_laws.proofs.Ranges.{patch_off_spm}
use Rattle.result_laws.proofs.PlacedUnits.{copy_some}
use Rattle.result_laws.proofs.Words.{code_even}
use Rattle.result_laws.specs.Entries.{RunsIn}
use Rattle.result_laws.specs.ChosenPlacement.{ChosenPlacement, slots_in, piece_of, copy_in}
use Rattle.result_laws.specs.PlacedView.{IsUncopied, Serves}
use Rattle.result_laws.specs.PlacedLaws.{IsPlacedResult}
use Rattle.result_laws.specs.PlacedForms.{StandsAs, AtHome, InCopy, InStub, MayRun, ArrivesHome, FormThere, BlockThere, ArrivesAt, AtForm, AtItsHome, BehindCopy, BehindStub}
use Rattle.result_laws.specs.Walks.{leaving_fetched, ArrivalsAreDetermined}
use Rattle.result_laws.proofs.Blocks.{unit_code}
use Rattle.result_laws.proofs.Coming.{jump_fits}
use Rattle.result_laws.proofs.CopyWays as ways
use Rattle.result_laws.proofs.Standing.{HasSlot, laid, slot, piece_here, copy_inside}
use Rattle.result_laws.proofs.StubWords as stubs

-- ---- stubs one behind the other

before_least : (low high : ℕ) → low ≤ high → (all : List ServingStub) → served_before low all ≤ served_before high all
before_least low high less [] = omega arith
before_least low high less (one ∷ all) =
    let first = below_more serving_home serving_size low one all in
    let last = below_more serving_home serving_size high one all in
    let rest = before_least low high less all in
    grind (arith, nat_tests, first, last, rest, less)

pub before_fits : (at : ℕ) (all : List ServingStub) (k : ℕ) (d : ServingStub) → k < length all → (slice_index_or all k d).home < at → served_before (slice_index_or all k d).home all + serving_size (slice_index_or all k d) ≤ served_before at all
before_fits at [] k d below less = absurd (omega (arith, below))
before_fits at (one ∷ all) zero d below less =
    let first = below_more serving_home serving_size one.home one all in
    let last = below_more serving_home serving_size at one all in
    let rest = before_least one.home at (omega (arith, less)) all in
    grind (arith, nat_tests, first, last, rest, less)
before_fits at (one ∷ all) (suc k) d below less =
    let home : ℕ = (slice_index_or all k d).home in
    let first = below_more serving_home serving_size home one all in
    let last = below_more serving_home serving_size at one all in
    let rest = before_fits at all k d (omega (arith, below)) less in
    grind (arith, nat_tests, first, last, rest, less)

-- ---- displaced units have words

none_mean : (is : List Instr) (i : Instr) → MeanAll [] (is ++ i ∷ []) → ⊥
none_mean [] i mean = mean
none_mean (j ∷ is) i mean = mean

none_displaced : (sites : List Patch) (at : ℕ) (u : Unit) (kind : UnitKind) → IsDisplaced sites at u kind [] → ⊥
none_displaced sites at u Plain is = let count = ap (λ (xs : List ℕ). length xs) is.words in omega (arith, count)
none_displaced sites at u Indirect is = let count = ap (λ (xs : List ℕ). length xs) is in omega (arith, count)
none_displaced sites at u Halt is = let count = ap (λ (xs : List ℕ). length xs) is in omega (arith, count)
none_displaced sites at u (Jump target) is = is
none_displaced sites at u (Tail target register) is = is
none_displaced sites at u (Branch kind rs1 rs2 target) is = is
none_displaced sites at u (Upper rd value) is = none_mean (load_immediate rd value) (instr.Jal 0 (distance (at + 8) (u.at + 4))) is
none_displaced sites at u (Call target back link) is = none_mean (load_immediate link back) (instr.Jal 0 (distance (at + 8) target)) is
none_displaced sites at u (Linking back link base imm) is = none_mean (load_immediate link back) (instr.Jalr 0 base imm) is

displaced_some : (sites : List Patch) (at : ℕ) (u : Unit) (kind : UnitKind) (ws : List ℕ) → IsDisplaced sites at u kind ws → 1 ≤ length ws
displaced_some sites at u kind [] is = absurd (none_displaced sites at u kind is)
displaced_some sites at u kind (w ∷ ws) is = omega arith

module _ (file out : List ℕ) (board : Board) (g : Graph) (c : Code) (pl : ChosenPlacement) (result : IsPlacedResult file out board g c pl) where
  open (setting file out board g c pl result) use {v, plan}

  -- ---- homes

  -- the home of a unit is in neither range
  pub home_kept : (u b k : ℕ) → StandsThere c u b k → IsKept v board u
  home_kept u b k stands =
      let code = unit_code file out board g c pl result u b k stands in
      let even = code_even v u code in
      let same : u ≡ u / 4 * 4 = omega (arith, even) in
      code_byte_kept file board g result.accepted u (subst (λ (x : ℕ). is_code_word v x ≡ true) same code)

  block_first : (b u : ℕ) → b < length c.blocks.items → start_at c b ≡ u → StandsThere c u b 0
  block_first b u below starts =
      subst (λ (x : ℕ). StandsThere c x b 0) starts (first file board g c result.accepted result.code b below)

  arrives_kept : (r u : ℕ) → ArrivesHome c g pl plan r u → IsKept v board u
  arrives_kept r u (FormThere at) = home_kept u at.may.block at.may.unit at.may.there
  arrives_kept r u (BlockThere b below starts) = home_kept u b 0 (block_first b u below starts)

  -- ---- ranges

  -- a stub's body has words, and those of a unit that doesn't jump are two
  module _ (u b : ℕ) (stub : ServingStub) (there : StandsThere c u b 0) (listed : Contains plan.stubs stub) (serves : Serves c g pl (body_at plan stub) b stub) (uncopied : IsUncopied pl b) where
    abbrev words : List ℕ
    words = stubs.words file out board g c pl result u b stub there listed serves uncopied

    pub some_words : 1 ≤ length words
    some_words =
        displaced_some pl.sites (body_at plan stub) (unit_at c b 0) (stubs.kind file out board g c pl result u b stub there listed serves uncopied) words
        (stubs.has_words file out board g c pl result u b stub there listed serves uncopied).form

    pub body_in_patch : in_range board.patch (body_at plan stub) ≡ true
    body_in_patch =
        let some = some_words in
        let zero_there : body_at plan stub + 0 ≡ body_at plan stub = omega arith in
        subst (λ (x : ℕ). in_range board.patch x ≡ true) zero_there
        (stubs.inside_patch file out board g c pl result u b stub there listed serves uncopied 0 (omega (arith, some)))

    module _ (plain : kind_of (is_site g) (body_of c.blocks.items b) 0 ≡ Plain) where
      two_words : length words ≡ 2
      two_words =
          let displaced =
          subst (λ (kind : UnitKind). IsDisplaced pl.sites (body_at plan stub) (unit_at c b 0) kind words) plain
          (stubs.has_words file out board g c pl result u b stub there listed serves uncopied).form in
          ap (λ (xs : List ℕ). length xs) displaced.words

      pub jump_in_patch : in_range board.patch (body_at plan stub + 4) ≡ true
      jump_in_patch =
          let two = two_words in
          stubs.inside_patch file out board g c pl result u b stub there listed serves uncopied 4 (omega (arith, two))

      stub_size : 96 ≤ serving_size stub
      stub_size = stubs.size_least file out board g c pl result u b stub there listed serves uncopied 2 two_words

  -- a copy's words are in the scratchpad
  pub copy_in_spm : (u n b k : ℕ) → n < length pl.pieces → holds_block b (piece_of pl n).range ≡ true → StandsThere c u b k → in_range board.spm (address_of (copy_in c g pl n) (place_of (copy_in c g pl n) b k)) ≡ true
  copy_in_spm u n b k inside held there =
      let copied = ways.is_copy file out board g c pl result n inside in
      let below = held_below v (copy_in c g pl n) (piece_of pl n).words (piece_of pl n).starts b copied held in
      let counts = ways.unit_count file out board g c pl result n inside b in
      let is = there.is in
      let whole = unit_fits (copy_in c g pl n) b k held below (omega (arith, counts, is)) in
      let size = copy_some (is_inside (copy_in c g pl n)) (kind_in (copy_in c g pl n) b k) in
      let count = copied.copy.count in
      copy_inside file out board g c pl result n inside (4 * place_of (copy_in c g pl n) b k) (omega (arith, whole, size, count))

  -- ---- behind a copy

  module _ (r u n b d : ℕ) (few : r ≤ pl.count) (inside : n < length pl.pieces) (held : holds_block b (piece_of pl n).range ≡ true) (runs : RunsIn pl.regions b r) (falls : falls_to (end_at c b) ≡ Some u) (leaves : is_inside (copy_in c g pl n) u ≡ false) (below : d < length c.blocks.items) (starts : start_at c d ≡ u) where
    abbrev copy : Copy
    copy = copy_in c g pl n

    abbrev behind : ℕ
    behind = address_of copy (place_behind copy b)

    room : place_behind copy b + 2 ≤ length (piece_of pl n).words
    room =
        let fits = jump_fits file out board g c pl result (λ q x a. Prim.Unit {0}) n inside r b held runs u falls leaves in
        let whole = fits.0 in
        let two = fits.1 in
        omega (arith, whole, two)

    pub in_spm : in_range board.spm behind ≡ true
    in_spm =
        let fits = room in
        copy_inside file out board g c pl result n inside (4 * place_behind copy b) (omega (arith, fits))

    off_patch : in_range board.patch behind ≡ true → ⊥
    off_patch patch = both_ways (in_range board.spm behind) (patch_off_spm v board behind result.accepted.layout patch) in_spm

    -- no unit's copy is there
    no_copy : (m e k : ℕ) → m < length pl.pieces → holds_block e (piece_of pl m).range ≡ true → StandsThere c u e k → RunsIn pl.regions e r → address_of (copy_in c g pl m) (place_of (copy_in c g pl m) e k) ≡ behind → ⊥
    no_copy m e k inside_too held_too there runs_too same =
        let one : HasSlot board pl n = slot file out board g c pl result n inside in
        let other : HasSlot board pl m = slot file out board g c pl result m inside_too in
        let in_order = ways.in_order file out board g c pl result m inside_too r e held_too runs_too in
        let counts = ways.unit_count file out board g c pl result m inside_too e in
        let is = there.is in
        let whole = unit_fits (copy_in c g pl m) e k held_too in_order (omega (arith, counts, is)) in
        let size = copy_some (is_inside (copy_in c g pl m)) (kind_in (copy_in c g pl m) e k) in
        let count = (ways.is_copy file out board g c pl result m inside_too).copy.count in
        let fits = room in
        let at = one.stands.at in
        let span = one.stands.room in
        let at_too = other.stands.at in
        let span_too = other.stands.room in
        let slots : other.k ≡ one.k =
        same_slot v g pl.count board pl.programme pl.choice (laid file out board g c pl result) result.placement.can r other.k one.k
        (4 * place_of (copy_in c g pl m) e k) (4 * place_behind copy b) other.of.0 one.of.0
        (piece_here file out board g c pl result m inside_too r e held_too runs_too) (piece_here file out board g c pl result n inside r b held runs)
        (omega (arith, span_too, whole, size, count)) (omega (arith, span, fits)) (omega (arith, same, at, at_too)) in
        let pieces : m ≡ n = sym other.number ∙ (ap (code_number (slots_in board pl)) slots ∙ one.number) in
        let blocks : e ≡ d =
        ((units_stand file board g c result.accepted result.code).one u e k d 0 there (block_first d u below starts)).0 in
        let own : holds_block d (piece_of pl n).range ≡ true =
        subst (λ (x : ℕ). holds_block x (piece_of pl n).range ≡ true) blocks (subst (λ (x : ℕ). holds_block e (piece_of pl x).range ≡ true) pieces held_too) in
        both_ways (is_inside copy u) leaves (inside_at c (piece_of pl n).range u d below own starts)

    -- nor is a home, nor a stub's body
    no_form : (x a : ℕ) → x ≡ u → (stands : StandsAs c g pl plan x a) → MayRun c pl.regions r x → a ≡ behind → ⊥
    no_form _ _ is (AtHome x e k there bare) may same =
        let kept = home_kept x e k there in both_ways (in_range board.spm behind) (subst (λ (y : ℕ). in_range board.spm y ≡ false) same kept.spm) in_spm
    no_form _ _ is (InCopy x m e k inside_too held_too there) may same =
        let own = ((units_stand file board g c result.accepted result.code).one x may.block may.unit e k may.there there).0 in
        no_copy m e k inside_too held_too (subst (λ (y : ℕ). StandsThere c y e k) is there)
        (subst (λ (y : ℕ). RunsIn pl.regions y r) own may.runs) same
    no_form _ _ is (InStub x e stub there listed serves uncopied) may same =
        off_patch (subst (λ (y : ℕ). in_range board.patch y ≡ true) same (body_in_patch x e stub there listed serves uncopied))

    pub copy_only : (a : ℕ) → (x : ArrivesAt c g pl plan r u a) → a ≡ behind → leaving_fetched c g pl plan r u a x ≡ words_from a 2
    copy_only _ (AtForm a at) same = absurd (no_form u a refl at.stands at.may same)
    copy_only _ (AtItsHome home) same =
        let kept = arrives_kept r u home in
        absurd (both_ways (in_range board.spm behind) (subst (λ (y : ℕ). in_range board.spm y ≡ false) same kept.spm) in_spm)
    copy_only _ (BehindCopy m e f inside_too held_too runs_too falls_too leaves_too below_too starts_too) same = refl
    copy_only _ (BehindStub x e stub there listed serves uncopied plain is home) same =
        absurd (off_patch (subst (λ (y : ℕ). in_range board.patch y ≡ true) same (jump_in_patch x e stub there listed serves uncopied plain)))

  -- ---- behind a displaced unit

  module _ (r u x b : ℕ) (stub : ServingStub) (there : StandsThere c x b 0) (listed : Contains plan.stubs stub) (serves : Serves c g pl (body_at plan stub) b stub) (uncopied : IsUncopied pl b) (plain : kind_of (is_site g) (body_of c.blocks.items b) 0 ≡ Plain) (is : u ≡ x + 4) where
    abbrev jump : ℕ
    jump = body_at plan stub + 4

    in_patch : in_range board.patch jump ≡ true
    in_patch = jump_in_patch x b stub there listed serves uncopied plain

    off_spm : in_range board.spm jump ≡ false
    off_spm = patch_off_spm v board jump result.accepted.layout in_patch

    home_there : (e y : ℕ) (other : ServingStub) → StandsThere c y e 0 → Serves c g pl (body_at plan other) e other → other.home ≡ y
    home_there e y other stands at =
        let place = (units_stand file board g c result.accepted result.code).at e 0 stands.is in
        let same = stands.at in
        at.home ∙ omega (arith, place, same)

    -- the next stub stands behind this one
    no_stub : (e : ℕ) (other : ServingStub) → StandsThere c u e 0 → Contains plan.stubs other → Serves c g pl (body_at plan other) e other → body_at plan other ≡ jump → ⊥
    no_stub e other stands listed_too serves_too same =
        let here = home_there b x stub there serves in
        let next = home_there e u other stands serves_too in
        let size = stub_size x b stub there listed serves uncopied plain in
        let fits =
        All-contains (λ (one : ServingStub). one.home < other.home → served_before one.home plan.stubs + serving_size one ≤ served_before other.home plan.stubs)
        plan.stubs stub (λ k d below. before_fits other.home plan.stubs k d below) listed (omega (arith, here, next, is)) in
        omega (arith, fits, size, same)

    no_form_there : (y a : ℕ) → y ≡ u → (stands : StandsAs c g pl plan y a) → a ≡ jump → ⊥
    no_form_there _ _ own (AtHome y e k stands bare) same =
        let kept = home_kept y e k stands in both_ways (in_range board.patch jump) (subst (λ (q : ℕ). in_range board.patch q ≡ false) same kept.patch) in_patch
    no_form_there _ _ own (InCopy y m e k inside held stands) same =
        both_ways (in_range board.spm jump) off_spm (subst (λ (q : ℕ). in_range board.spm q ≡ true) same (copy_in_spm y m e k inside held stands))
    no_form_there _ _ own (InStub y e other stands listed_too serves_too uncopied_too) same =
        no_stub e other (subst (λ (q : ℕ). StandsThere c q e 0) own stands) listed_too serves_too same

    pub stub_only : (a : ℕ) → r ≤ pl.count → (y : ArrivesAt c g pl plan r u a) → a ≡ jump → leaving_fetched c g pl plan r u a y ≡ a ∷ []
    stub_only _ few (AtForm a at) same = absurd (no_form_there u a refl at.stands same)
    stub_only _ few (AtItsHome home) same =
        let kept = arrives_kept r u home in
        absurd (both_ways (in_range board.patch jump) (subst (λ (q : ℕ). in_range board.patch q ≡ false) same kept.patch) in_patch)
    stub_only _ few (BehindCopy n e d inside held runs falls leaves below starts) same =
        absurd (both_ways (in_range board.spm jump) off_spm (subst (λ (q : ℕ). in_range board.spm q ≡ true) same (in_spm r u n e d few inside held runs falls leaves below starts)))
    stub_only _ few (BehindStub y e other stands listed_too serves_too uncopied_too plain_too own home) same = refl

  -- ---- so words that lead home are known

  none_leads : (r u a : ℕ) (x y : ArrivesAt c g pl plan r u a) → r ≤ pl.count → leaving_fetched c g pl plan r u a x ≡ [] → leaving_fetched c g pl plan r u a x ≡ leaving_fetched c g pl plan r u a y
  none_leads r u _ x (AtForm a at) few none = none
  none_leads r u _ x (AtItsHome home) few none = none
  none_leads r u _ x (BehindCopy n b d inside held runs falls leaves below starts) few none =
      copy_only r u n b d few inside held runs falls leaves below starts _ x refl
  none_leads r u _ x (BehindStub w b stub there listed serves uncopied plain is home) few none =
      stub_only r u w b stub there listed serves uncopied plain is _ few x refl

  pub determined : (r u a : ℕ) (x y : ArrivesAt c g pl plan r u a) → r ≤ pl.count → leaving_fetched c g pl plan r u a x ≡ leaving_fetched c g pl plan r u a y
  determined r u _ (AtForm a at) y few = none_leads r u a (AtForm a at) y few refl
  determined r u _ (AtItsHome home) y few = none_leads r u u (AtItsHome home) y few refl
  determined r u _ (BehindCopy n b d inside held runs falls leaves below starts) y few =
      sym (copy_only r u n b d few inside held runs falls leaves below starts _ y refl)
  determined r u _ (BehindStub w b stub there listed serves uncopied plain is home) y few =
      sym (stub_only r u w b stub there listed serves uncopied plain is _ few y refl)

pub arrivals_determined : ArrivalsAreDetermined
arrivals_determined file out board g c pl result r v a x y few = determined file out board g c pl result r v a x y few

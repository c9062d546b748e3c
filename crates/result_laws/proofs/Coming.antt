-- From where a unit's words lead the flat machine comes to a form of the next unit, or to where a switch begins.
use Rattle.std.proofs.Common.{◌≡◌, inl, ℕ, suc, ◌+◌, ◌*◌, ◌<◌, ◌≤◌, Bool, true, false, if◌then◌else◌, List, [], length, slice_index, Some, sym, ap, subst, arith}
use Rattle.std.specs.Prelude.{Contains}
use Rattle.std.specs.Bool.{MatchBool}
use Rattle.rv32im.specs.Table.{Means}
use Rattle.rv32im.specs.Sequences.{distance, jump_absolute}
use Rattle.rv32im.specs.Words.{upper_half}
use Rattle.rv32im.specs.declared.instructions.Instr.TheVariants as instr
use Rattle.rv32im.proofs.SequenceLemmas.{arrives, mean_count}
use Rattle.board_config.specs.declared.board.Board.{Board}
use Rattle.object_graph.specs.declared.parts.Graph.{Graph}
use Rattle.code_blocks.specs.Leaders.{is_leader}
use Rattle.code_blocks.specs.Numbers.{start_at, end_at}
use Rattle.code_blocks.specs.declared.parts.Code.{Code}
use Rattle.block_splitter.specs.declared.unit_kind.UnitKind.{UnitKind}
use Rattle.block_splitter.specs.declared.unit_kind.UnitKind.TheVariants.{Plain}
use Rattle.block_splitter.specs.Forms.{holds_block, fall_out_size, is_site, kind_of, body_at as body_of}
use Rattle.block_splitter.specs.Copies.{Copy, is_inside, address_of, words_at, JumpsOut, FallsTo, IsDisplaced}
use Rattle.result_laws.specs.CopyLaws.{IsCopyOf, falls_to, place_behind, unit_at}
use Rattle.result_laws.proofs.Setting.{setting}
use Rattle.result_laws.proofs.Falls.{falls_form, falls_size, fall_size}
use Rattle.result_laws.proofs.Places.{block_fits}
use Rattle.patch_code.specs.Serving.{ServingStub}
use Rattle.patch_code.specs.Served.{body_at}
use Rattle.simulation.specs.Setups.{Setup}
use Rattle.simulation.specs.Units.{StandsAt}
use Rattle.simulation.specs.Ways.{Way, There, Near, Comes}
use Rattle.simulation.specs.Switches.{MayLand}
use Rattle.result_laws.specs.LiveUnits.{StandsThere}
use Rattle.result_laws.specs.PlacedPieces.{PlacedPiece}
use Rattle.result_laws.proofs.CodeUnits.{begins}
use Rattle.result_laws.proofs.FarWays.{far_way}
use Rattle.result_laws.specs.Entries.{RunsIn}
use Rattle.result_laws.specs.ChosenPlacement.{ChosenPlacement, piece_of, copy_in}
use Rattle.result_laws.specs.PlacedView.{IsUncopied, Serves}
use Rattle.result_laws.specs.PlacedLaws.{IsPlacedResult}
use Rattle.result_laws.specs.PlacedForms.{IsFormOf, ComesTo, ArrivesHome, FormThere, BlockThere, ArrivesAt, AtForm, AtItsHome, BehindCopy, BehindStub}
use Rattle.result_laws.proofs.Blocks.{leader_low, leader_even, temporary_dead, temporary_some, unit_low}
use Rattle.result_laws.proofs.CopyWays as ways
use Rattle.result_laws.proofs.Moves.{jump_begins}
use Rattle.result_laws.proofs.StubWords as stubs

-- the same way is one of more steps at most
longer : (l : Setup) (live : ℕ → ℕ → Type 0) (form : ℕ → ℕ → ℕ → Type 0) (few most r v a : ℕ) → few ≤ most → Comes l live form few r v a → Comes l live form most r v a
longer l live form few most r v a less comes = let fits = comes.1.0 in (comes.0, (omega (arith, less, fits), comes.1.1))

module _ (file out : List ℕ) (board : Board) (g : Graph) (c : Code) (pl : ChosenPlacement) (result : IsPlacedResult file out board g c pl) where
  open (setting file out board g c pl result) use {v, l, live, plan}

  -- ---- ways home

  -- behind the copy of a block from which control falls out of the piece
  module _ (form : ℕ → ℕ → ℕ → Type 0) (n : ℕ) (inside : n < length pl.pieces) (r b : ℕ) (held : holds_block b (piece_of pl n).range ≡ true) (runs : RunsIn pl.regions b r) where
    abbrev y : PlacedPiece
    y = piece_of pl n

    abbrev copy : Copy
    copy = copy_in c g pl n

    abbrev size : ℕ
    size = fall_out_size (is_inside copy) (end_at c b)

    -- the words there jump out
    jump_out : (next : ℕ) → falls_to (end_at c b) ≡ Some next → is_inside copy next ≡ false → JumpsOut c [] next 0 (words_at y.words (place_behind copy b) size)
    jump_out next falls none =
        let copied : IsCopyOf v copy y.words y.starts = ways.is_copy file out board g c pl result n inside in
        let behind : FallsTo copy next (words_at y.words (place_behind copy b) size) =
        falls_form copy (end_at c b) next (words_at y.words (place_behind copy b) size) falls (copied.copy.blocks b held).falls in
        subst (λ (t : Bool). MatchBool t (words_at y.words (place_behind copy b) size ≡ []) (JumpsOut c [] next 0 (words_at y.words (place_behind copy b) size))) none behind

    -- they are two, inside the copy
    pub jump_fits : (next : ℕ) → falls_to (end_at c b) ≡ Some next → is_inside copy next ≡ false → (place_behind copy b + size ≤ length y.words) × (size ≡ 2)
    jump_fits next falls none =
        let copied : IsCopyOf v copy y.words y.starts = ways.is_copy file out board g c pl result n inside in
        let whole = block_fits copy b held (ways.in_order file out board g c pl result n inside r b held runs) in
        let body_size = fall_size v copy y.words y.starts copied b next held falls in
        let size_is = falls_size (is_inside copy) (end_at c b) next falls in
        let count = copied.copy.count in
        let fall : ℕ = if is_inside copy next then 0 else 2 in
        let two : fall ≡ 2 = ap (λ (t : Bool). if t then 0 else 2) none in
        (omega (arith, whole, body_size, size_is, count), omega (arith, size_is, two))

    abbrev behind_at : ℕ
    behind_at = address_of copy (place_behind copy b)

    -- its first word is a LUI
    pub record LeavesByJump : Type 0 where
      pub word : ℕ
      pub register : ℕ
      pub upper : ℕ
      pub stands : StandsAt l r behind_at word
      pub means : Means word (instr.Lui register upper)
      pub low : behind_at + 4 < 4294967296

    pub leaves_by_jump : (next : ℕ) → falls_to (end_at c b) ≡ Some next → is_inside copy next ≡ false → LeavesByJump
    leaves_by_jump next falls none =
        let copied : IsCopyOf v copy y.words y.starts = ways.is_copy file out board g c pl result n inside in
        let jump = jump_out next falls none in
        let fits = jump_fits next falls none in
        let two = mean_count (words_at y.words (place_behind copy b) size) (jump_absolute jump.temporary next) jump.words in
        let here : behind_at + 4 * 0 ≡ behind_at = omega arith in
        let below = copied.below in
        record {
          word = slice_index (words_at y.words (place_behind copy b) size) 0;
          register = jump.temporary;
          upper = upper_half next;
          stands = subst (λ (x : ℕ). StandsAt l r x (slice_index (words_at y.words (place_behind copy b) size) 0)) here
              (ways.words_stand file out board g c pl result n inside r b (place_behind copy b) size 0 held runs fits.0 (omega (arith, two)));
          means = jump_begins (words_at y.words (place_behind copy b) size) jump.temporary next jump.words;
          low = let room = fits.0 in let count = fits.1 in omega (arith, room, count, below);
        }

    pub leaves_copy : (next few : ℕ) → falls_to (end_at c b) ≡ Some next → is_inside copy next ≡ false → is_leader v next ≡ true → Way l live form r next few next → Way l live form r next (suc (suc few)) (address_of copy (place_behind copy b))
    leaves_copy next few falls none leads way =
        let copied : IsCopyOf v copy y.words y.starts = ways.is_copy file out board g c pl result n inside in
        let jump = jump_out next falls none in
        let fits = jump_fits next falls none in
        let room = fits.0 in
        let count = fits.1 in
        let below = copied.below in
        let low = leader_low file out board g c pl result next leads in
        let even = leader_even file out board g c pl result next leads in
        far_way l live form r next (address_of copy (place_behind copy b)) jump.temporary next few (words_at y.words (place_behind copy b) size)
        (omega (arith, room, count, below)) (omega (arith, low)) (omega (arith, even)) jump.words
        (λ k small. ways.words_stand file out board g c pl result n inside r b (place_behind copy b) size k held runs room small)
        (temporary_some c next 0 jump.temporary jump.free) (temporary_dead file out board g c pl result next 0 jump.temporary leads jump.free) way

  -- behind a displaced unit
  module _ (form : ℕ → ℕ → ℕ → Type 0) (r u b : ℕ) (stub : ServingStub) (stands : StandsThere c u b 0) (listed : Contains plan.stubs stub) (serves : Serves c g pl (body_at plan stub) b stub) (uncopied : IsUncopied pl b) (plain : kind_of (is_site g) (body_of c.blocks.items b) 0 ≡ Plain) where
    abbrev a : ℕ
    a = body_at plan stub

    abbrev words : List ℕ
    words = stubs.words file out board g c pl result u b stub stands listed serves uncopied

    pub leaves_stub : (few : ℕ) → Way l live form r (u + 4) few (u + 4) → Way l live form r (u + 4) (suc few) (a + 4)
    leaves_stub few way =
        let displaced =
        subst (λ (kind : UnitKind). IsDisplaced pl.sites a (unit_at c b 0) kind words) plain
        (stubs.has_words file out board g c pl result u b stub stands listed serves uncopied).form in
        let count = ap (λ (xs : List ℕ). length xs) displaced.words in
        let jump : slice_index words 1 ≡ displaced.jump = ap (λ (xs : List ℕ). slice_index xs 1) displaced.words in
        let place : a + 4 * 1 ≡ a + 4 = omega arith in
        let at_unit = stubs.at_unit file out board g c pl result u b stub stands listed serves uncopied in
        let low = unit_low file out board g c pl result u b 0 stands in
        let whole = stubs.low file out board g c pl result u b stub stands listed serves uncopied in
        let there : StandsAt l r (a + 4) displaced.jump =
        subst (λ (q : ℕ). StandsAt l r q displaced.jump) place
        (subst (λ (w : ℕ). StandsAt l r (a + 4 * 1) w) jump
        (stubs.stub_word file out board g c pl result u b stub stands listed serves uncopied r 1 (omega (arith, count)))) in
        let means : Means displaced.jump (instr.Jal 0 (distance (a + 4) (u + 4))) =
        subst (λ (q : ℕ). Means displaced.jump (instr.Jal 0 (distance (a + 4) (q + 4)))) at_unit displaced.means in
        Near few (a + 4) displaced.jump (distance (a + 4) (u + 4)) there means
        (subst (λ (q : ℕ). Way l live form r (u + 4) few q) (sym (arrives (a + 4) (u + 4) (omega (arith, whole, count)) low)) way)

  -- ---- so it comes there

  module _ (switches : ℕ → ℕ → ℕ → Type 0) (block_arrives : (r a : ℕ) → is_leader v a ≡ true → ComesTo c g pl plan l live switches 3 r a a) where
    abbrev form : ℕ → ℕ → ℕ → Type 0
    form = MayLand (IsFormOf c g pl plan) switches

    leads_at : (b x : ℕ) → b < length c.blocks.items → start_at c b ≡ x → is_leader v x ≡ true
    leads_at b x below is = subst (λ (q : ℕ). is_leader v q ≡ true) is (begins file board g c result.accepted result.code b below)

    pub comes_home : (r x : ℕ) → ArrivesHome c g pl plan r x → ComesTo c g pl plan l live switches 3 r x x
    comes_home r x (FormThere at) within enters = (0, (omega arith, There x (inl at)))
    comes_home r x (BlockThere b below is) within enters = block_arrives r x (leads_at b x below is) within enters

    pub comes_there : (r x a : ℕ) → ArrivesAt c g pl plan r x a → ComesTo c g pl plan l live switches 5 r x a
    comes_there r x _ (AtForm a at) within enters = (0, (omega arith, There a (inl at)))
    comes_there r x _ (AtItsHome home) within enters = longer l live form 3 5 r x x (omega arith) (comes_home r x home within enters)
    comes_there r x _ (BehindCopy n b d inside held runs falls none below is) within enters =
        let leads = leads_at d x below is in
        let comes = block_arrives r x leads within enters in
        let few = comes.1.0 in
        (suc (suc comes.0), (omega (arith, few), leaves_copy form n inside r b held runs x comes.0 falls none leads comes.1.1))
    comes_there r x _ (BehindStub u b stub stands listed serves uncopied plain is home) within enters =
        let comes = comes_home r x home within enters in
        let few = comes.1.0 in (
          suc comes.0,
          (
            omega (arith, few),
            subst (λ (q : ℕ). Way l live form r q (suc comes.0) (body_at plan stub + 4)) (sym is)
                (leaves_stub form r u b stub stands listed serves uncopied plain comes.0
                (subst (λ (q : ℕ). Way l live form r q comes.0 q) is comes.1.1)),
          ),
        )

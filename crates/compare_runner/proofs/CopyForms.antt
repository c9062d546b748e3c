-- Words of a copy at which no unit of it begins are at no form of a unit that stands there in the same region: copies that are
-- in the scratchpad together share no byte.
use Rattle.std.proofs.Common.{◌≡◌, ◌∙◌, ◌⊎◌, ℕ, ◌+◌, ◌*◌, ◌<◌, Bool, true, false, if◌then◌else◌, List, length, Some, sym, ap, subst, arith}
use Rattle.board_config.specs.declared.board.Board.{Board}
use Rattle.object_graph.specs.Sites.{in_range}
use Rattle.object_graph.specs.declared.parts.Graph.{Graph}
use Rattle.code_blocks.specs.Numbers.{end_at}
use Rattle.code_blocks.specs.declared.parts.Code.{Code}
use Rattle.block_splitter.specs.Forms.{body_at, holds_block, fall_out_size}
use Rattle.block_splitter.specs.Copies.{Copy, is_inside, kind_in, place_of, address_of}
use Rattle.result_laws.specs.Copied.{unit_words}
use Rattle.result_laws.specs.CopyLaws.{falls_to, place_behind}
use Rattle.result_laws.proofs.Setting.{setting}
use Rattle.result_laws.proofs.Falls.{fall_size}
use Rattle.relocator.specs.Laws.{IsPresent, slot_at}
use Rattle.result_laws.specs.ChosenJobs.{code_number}
use Rattle.result_laws.proofs.JobChosen.{same_slot}
use Rattle.result_laws.specs.LiveUnits.{StandsThere}
use Rattle.result_laws.specs.Entries.{RunsIn}
use Rattle.result_laws.specs.ChosenPlacement.{ChosenPlacement, slots_in, piece_of, copy_in}
use Rattle.result_laws.specs.PlacedLaws.{IsPlacedResult}
use Rattle.result_laws.proofs.CopyWays as ways
use Rattle.result_laws.proofs.Standing.{HasSlot, laid, slot, piece_here}
use Rattle.result_laws.proofs.PlacedUnits.{copy_some}
use Rattle.relink_core.specs.UnitMaps.{IsUnitAt}
use Rattle.relink_core.specs.declared.unit_forms.UnitAt.{UnitAt}
use Rattle.compare_runner.proofs.CopyPlaces.{unit_count, BeginsNone, words_stand, none_behind_first, none_behind_block}
use Rattle.compare_runner.proofs.CodeRegions.{here_by_region}
use Rattle.compare_runner.proofs.Ranges.{StandsInCopy, word_in_spm, unit_within, behind_within, only_copy}

module _ (file out : List ℕ) (board : Board) (g : Graph) (c : Code) (pl : ChosenPlacement) (result : IsPlacedResult file out board g c pl) where
  open (setting file out board g c pl result) use {v, plan}

  abbrev copy : ℕ → Copy
  copy n = copy_in c g pl n

  -- a piece is in the scratchpad while a region is current
  abbrev pub IsHere : (n : ℕ) → n < length pl.pieces → ℕ → Type 0
  IsHere n inside r = IsPresent r (slot_at (slots_in board pl) (slot file out board g c pl result n inside).k).name

  -- a form stands while a region is current
  abbrev pub Stands : ℕ → UnitAt → Type 0
  Stands r x = (x.region ≡ 0) ⊎ (x.region ≡ r)

  -- a unit of the code is one of the units of its copy
  unit_is : (n u e j : ℕ) → n < length pl.pieces → StandsThere c u e j → j < unit_count (copy n) e
  unit_is n u e j inside there =
      let counts = ways.unit_count file out board g c pl result n inside e in
      let is = there.is in
      omega (arith, counts, is)

  -- ---- a word at which no unit begins

  module _ (n place : ℕ) (inside : n < length pl.pieces) (fits : place < length (piece_of pl n).words) (none : BeginsNone (copy n) place) where
    abbrev at : ℕ
    at = address_of (copy n) place

    -- no unit of a copy that is in the scratchpad with it stands there
    no_copy : (r m e j u : ℕ) (inside_too : m < length pl.pieces) → IsHere n inside r → IsHere m inside_too r → holds_block e (piece_of pl m).range ≡ true → StandsThere c u e j → address_of (copy m) (place_of (copy m) e j) ≡ at → ⊥
    no_copy r m e j u inside_too here here_too held there same =
        let one : HasSlot board pl n = slot file out board g c pl result n inside in
        let other : HasSlot board pl m = slot file out board g c pl result m inside_too in
        let whole = unit_within file out board g c pl result m e inside_too held u j there in
        let size = copy_some (is_inside (copy m)) (kind_in (copy m) e j) in
        let at_one = one.stands.at in
        let span = one.stands.room in
        let at_other = other.stands.at in
        let span_other = other.stands.room in
        let slots : other.k ≡ one.k =
        same_slot v g pl.count board pl.programme pl.choice (laid file out board g c pl result) result.placement.can r other.k one.k
        (4 * place_of (copy m) e j) (4 * place) other.of.0 one.of.0 here_too here
        (omega (arith, span_other, whole, size)) (omega (arith, span, fits)) (omega (arith, same, at_one, at_other)) in
        let pieces : m ≡ n = sym other.number ∙ (ap (code_number (slots_in board pl)) slots ∙ one.number) in
        let there_too : address_of (copy n) (place_of (copy n) e j) ≡ at =
        subst (λ (q : ℕ). address_of (copy q) (place_of (copy q) e j) ≡ at) pieces same in
        let held_too : holds_block e (piece_of pl n).range ≡ true =
        subst (λ (q : ℕ). holds_block e (piece_of pl q).range ≡ true) pieces held in
        none e j held_too (unit_is n u e j inside there) (omega (arith, there_too))

    -- nor does any other form
    pub no_form : (r : ℕ) → IsHere n inside r → (x : UnitAt) → IsUnitAt board c g pl plan x → Stands r x → x.at ≡ at → ⊥
    no_form r here x is stands same =
        let spm : in_range board.spm x.at ≡ true =
        subst (λ (y : ℕ). in_range board.spm y ≡ true) (sym same) (word_in_spm file out board g c pl result n place inside fits) in
        let form : StandsInCopy board c g pl x = only_copy file out board g c pl result x is spm in
        no_copy r form.piece form.block form.unit x.home form.inside here
        (here_by_region file out board g c pl result form.piece form.inside r (subst (λ (q : ℕ). (q ≡ 0) ⊎ (q ≡ r)) form.present stands))
        form.held form.there (sym form.place ∙ same)

  -- ---- the words of a unit behind its first

  module _ (r u n b k : ℕ) (taken : Bool) (inside : n < length pl.pieces) (held : holds_block b (piece_of pl n).range ≡ true) (there : StandsThere c u b k) (runs : RunsIn pl.regions b r) where
    abbrev words_run : ℕ
    words_run = unit_words (is_inside (copy n)) taken (kind_in (copy n) b k)

    none_there : (i : ℕ) → 0 < i → i < words_run → BeginsNone (copy n) (place_of (copy n) b k + i)
    none_there i some small =
        let words = words_stand (is_inside (copy n)) taken (kind_in (copy n) b k) in
        none_behind_first (copy n) b k i held (unit_is n u b k inside there) some (omega (arith, small, words))

    pub copy_free : (i : ℕ) → 0 < i → i < words_run → (x : UnitAt) → IsUnitAt board c g pl plan x → Stands r x → x.at ≡ address_of (copy n) (place_of (copy n) b k) + 4 * i → ⊥
    copy_free i some small x is stands same =
        let words = words_stand (is_inside (copy n)) taken (kind_in (copy n) b k) in
        let whole = unit_within file out board g c pl result n b inside held u k there in
        no_form n (place_of (copy n) b k + i) inside (omega (arith, whole, words, small)) (none_there i some small) r
        (piece_here file out board g c pl result n inside r b held runs) x is stands (omega (arith, same))

  -- ---- the two words behind a block from which control falls out of the piece

  module _ (r n b next : ℕ) (inside : n < length pl.pieces) (held : holds_block b (piece_of pl n).range ≡ true) (runs : RunsIn pl.regions b r) (falls : falls_to (end_at c b) ≡ Some next) (leaves : is_inside (copy n) next ≡ false) where
    two_words : fall_out_size (is_inside (copy n)) (body_at c.blocks.items b).end ≡ 2
    two_words =
        fall_size v (copy n) (piece_of pl n).words (piece_of pl n).starts (ways.is_copy file out board g c pl result n inside) b next held falls
        ∙ ap (λ (t : Bool). if t then 0 else 2) leaves

    pub fall_free : (i : ℕ) → i < 2 → (x : UnitAt) → IsUnitAt board c g pl plan x → Stands r x → x.at ≡ address_of (copy n) (place_behind (copy n) b) + 4 * i → ⊥
    fall_free i small x is stands same =
        let two = two_words in
        let whole = behind_within file out board g c pl result n b inside held r next runs falls leaves in
        no_form n (place_behind (copy n) b + i) inside (omega (arith, whole, small))
        (none_behind_block (copy n) b i held (omega (arith, two, small))) r (piece_here file out board g c pl result n inside r b held runs) x is stands
        (omega (arith, same))

-- Where the words and objects of a result stand, as the prices of memory tell: copies and what is put into slots in the
-- scratchpad, and the patch range, code at home and what has no slot in main memory.
use Rattle.std.proofs.Common.{◌≡◌, ◌∙◌, inl, inr, ℕ, zero, suc, ◌+◌, ◌<◌, ◌≤◌, ◌==◌, Bool, true, false, ◌&&◌, List, [], ◌∷◌, length, map, refl, sym, ap, arith}
use Rattle.std.specs.Prelude.{All}
use Rattle.std.specs.List.{list_any}
use Rattle.std.proofs.lemmas.Bool.Decides.{nat_tests}
use Rattle.std.proofs.lemmas.List.Elements.{All-head, All-tail}
use Rattle.board_config.specs.declared.board.Board.{Board}
use Rattle.board_config.specs.declared.board.Range.{Range}
use Rattle.flat_machine.specs.Mapping.{in_range}
use Rattle.object_graph.specs.declared.parts.Graph.{Graph}
use Rattle.cell_values.specs.Objects.{object_of}
use Rattle.code_blocks.specs.declared.parts.Code.{Code}
use Rattle.placement_programme.specs.declared.variables.VarName.{VarName}
use Rattle.placement_programme.specs.declared.variables.VarName.TheVariants.{StaticData, StaticCode, OverlayData, OverlayCode, KeptData}
use Rattle.relocator.specs.declared.slots.Slot.{Slot}
use Rattle.relocator.specs.Slots.{pair_of}
use Rattle.relocator.specs.Placing.{puts}
use Rattle.relocator.specs.Laws.{slot_at}
use Rattle.relocator.proofs.WeightLemmas.{IsAmong}
use Rattle.relocator.proofs.FitLemmas.{are_laid}
use Rattle.result_laws.proofs.Setting.{setting}
use Rattle.result_laws.proofs.JobChosen.{InScratchpad, where_is, among, object_inside}
use Rattle.energy_model.specs.Energy.{brings, is_of_pair}
use Rattle.energy_model.specs.Energy as energy
use Rattle.result_laws.proofs.Ranges.{patch_off_spm}
use Rattle.result_laws.specs.ChosenPlacement.{ChosenPlacement, places_in}
use Rattle.relink_core.specs.Names.{name_of_slot}
use Rattle.result_laws.specs.PlacedLaws.{IsPlacedResult}
use Rattle.result_laws.proofs.Standing.{laid}
use Rattle.paid_energy.specs.Costs.{is_fast}
use Rattle.paid_energy.specs.WalkCosts.{placed_names}
use Rattle.paid_energy.proofs.HomePrices.{IsSlow, object_slow}
use Rattle.paid_energy.proofs.Tests.{turned}

-- ---- what a name puts into the scratchpad

pub of_pair : (pair r : ℕ) → 1 ≤ pair → is_of_pair pair r ≡ (pair_of r == pair)
of_pair pair r some = grind (arith, nat_tests, some)

both_same : (a b c d : Bool) → a ≡ b → c ≡ d → a && c ≡ b && d
both_same a b c d first second = ap (λ (x : Bool). x && c) first ∙ ap (λ (x : Bool). b && x) second

brings_puts : (regions o r : ℕ) (name : VarName) → IsAmong regions name → brings o r name ≡ puts name r o
brings_puts regions o r (StaticData object) among = turned o object
brings_puts regions o r (StaticCode first last) among = refl
brings_puts regions o r (OverlayData own object) among = both_same (o == object) (object == o) (r == own) (own == r) (turned o object) (turned r own)
brings_puts regions o r (OverlayCode own first last) among = refl
brings_puts regions o r (KeptData pair object) among =
    both_same (o == object) (object == o) (is_of_pair pair r) (pair_of r == pair) (turned o object) (of_pair pair r among.0)

-- none of the slots does
none_brings : (regions o r : ℕ) (slots : List Slot) → All (λ (s : Slot). IsAmong regions s.name) slots → All (λ (s : Slot). puts s.name r o ≡ false) slots → list_any (brings o r) (map name_of_slot slots) ≡ false
none_brings regions o r [] all none = refl
none_brings regions o r (s ∷ ss) all none =
    let first : brings o r s.name ≡ false =
    brings_puts regions o r s.name (All-head (λ (t : Slot). IsAmong regions t.name) s ss all) ∙ All-head (λ (t : Slot). puts t.name r o ≡ false) s ss none in
    let rest =
    none_brings regions o r ss (All-tail (λ (t : Slot). IsAmong regions t.name) s ss all) (All-tail (λ (t : Slot). puts t.name r o ≡ false) s ss none) in
    grind (arith, first, rest)

-- slot `k` does
one_brings : (regions o r : ℕ) (slots : List Slot) (k : ℕ) → k < length slots → IsAmong regions (slot_at slots k).name → puts (slot_at slots k).name r o ≡ true → list_any (brings o r) (map name_of_slot slots) ≡ true
one_brings regions o r [] k below among is = absurd (omega (arith, below))
one_brings regions o r (s ∷ ss) zero below among is = let first : brings o r s.name ≡ true = brings_puts regions o r s.name among ∙ is in grind (arith, first)
one_brings regions o r (s ∷ ss) (suc k) below among is =
    let rest = one_brings regions o r ss k (omega (arith, below)) among is in grind (arith, rest)

pub inside_range : (r : Range) (a : ℕ) → r.base ≤ a → a < r.base + r.size → in_range r a ≡ true
inside_range r a from to = grind (arith, nat_tests, from, to)

module _ (file out : List ℕ) (board : Board) (g : Graph) (c : Code) (pl : ChosenPlacement) (result : IsPlacedResult file out board g c pl) where
  open (setting file out board g c pl result) use {v, slots}

  -- ---- objects

  in_spm : (a : ℕ) → InScratchpad board a → is_fast board a ≡ true
  in_spm a inside =
      let below = inside.1.0 in
      let at = inside.1.1 in
      inside_range board.spm a (omega (arith, at)) (omega (arith, at, below))

  each_among : All (λ (s : Slot). IsAmong pl.count s.name) slots
  each_among k d below =
      ((are_laid v g pl.count board pl.programme pl.choice 0 (laid file out board g c pl result) result.placement.can).sized k d below).among

  -- an object is in the scratchpad just where a name brings it there
  pub object_fast : (r o d : ℕ) → d < (object_of g o).size → is_fast board (places_in board g pl r o + d) ≡ energy.is_fast (placed_names board pl).names o r
  object_fast r o d below =
      elim (where_is v g pl.count board pl.programme pl.choice (laid file out board g c pl result) result.placement.can r o) [
        | inl put ↦
            in_spm (places_in board g pl r o + d)
            (object_inside v g pl.count board pl.programme pl.choice (laid file out board g c pl result) result.placement.can r o put.0 d put.1 below)
            ∙ sym (one_brings pl.count o r slots put.0 put.1.below
            (among v g pl.count board pl.programme pl.choice (laid file out board g c pl result) result.placement.can put.0 put.1.below) put.1.puts)
        | inr home ↦
            ap (λ (a : ℕ). is_fast board (a + d)) home.there
            ∙ (object_slow file board g result.accepted o d below ∙ sym (none_brings pl.count o r slots each_among home.none))
      ]

  -- ---- the patch range

  pub patch_slow : (a : ℕ) → in_range board.patch a ≡ true → IsSlow board a
  patch_slow a inside = patch_off_spm v board a result.accepted.layout inside

-- Files that realise the same start alike, and so run alike.
use Rattle.std.proofs.Common.{◌≡◌, ◌∙◌, ◌⊎◌, inl, inr, ℕ, ◌+◌, ◌<◌, true, false, List, [], length, map, get_or, sym, ap, subst, arith}
use Rattle.std.specs.List.{list_any}
use Rattle.std.proofs.lemmas.Bool.{both_ways}
use Rattle.rv32im.specs.Memory.{zeros}
use Rattle.rv32im.proofs.Meaning.{same_instruction}
use Rattle.elf_reader.specs.File.{view_in}
use Rattle.elf_writer.specs.declared.parts.SymbolMove.{SymbolMove}
use Rattle.board_config.specs.Board.{mapped_ranges}
use Rattle.board_config.specs.declared.board.Board.{Board}
use Rattle.flat_machine.specs.declared.events.FlatEvent.{FlatEvent}
use Rattle.flat_machine.specs.declared.events.FlatOutcome.TheVariants.{GoesOn}
use Rattle.flat_machine.specs.State.{State}
use Rattle.flat_machine.proofs.Runs.{one_run, one_list}
use Rattle.object_graph.specs.declared.parts.Graph.{Graph}
use Rattle.code_blocks.specs.declared.parts.Code.{Code}
use Rattle.region_former.specs.declared.table.RegionTable.{RegionTable}
use Rattle.patch_code.specs.Start.{start_at}
use Rattle.relocator.specs.declared.items.Item.{Item}
use Rattle.relocator.specs.Slots.{items_of}
use Rattle.relocator.specs.Placing.{placed}
use Rattle.relocator.specs.SiteWords.{no_site}
use Rattle.result_laws.specs.HomeLaws.{IsAccepted, file_start}
use Rattle.result_laws.specs.PlacedLaws.{IsPlacedResult}
use Rattle.result_laws.proofs.HomeSound.{loadable}
use Rattle.result_laws.proofs.Words.{code_below}
use Rattle.relink_core.specs.Names.{name_of_slot, objects_named}
use Rattle.relink_core.specs.Written.{same_move, is_symbol_move}
use Rattle.relink_core.specs.Placed.{Taken, MovesItems, Realises, hands_on, moves}
use Rattle.relink_core.proofs.KeepsLemmas.{passes}
use Rattle.relink_core.proofs.RealiseLemmas.{codes}
use Rattle.paid_energy.specs.Costs.{run_cost}
use Rattle.paid_energy.specs.Laws.{IsPassed}
use Rattle.paid_energy.specs.Alike.{AreAlike, RunAlike, ResultsStartAlike}
use Rattle.paid_energy.proofs.RunLemmas.{one_run_until}
use Rattle.paid_energy.proofs.AlikePieces.{slots_same}
use Rattle.paid_energy.proofs.AlikeMemory.{memory_same}

-- ---- from one state

own_run : (board : Board) (s : State) → RunAlike board s s
own_run board s =
    record {
      steps = λ n u. ((λ run. run), (λ run. run));
      events = λ es u. ((λ run. run), (λ run. run));
      one_state = λ n u w one other. one_run same_instruction n s u w one other;
      one_list = λ es fs u w count one other. one_list same_instruction es fs s u w count one other;
      pays = λ most outcome steps energy. ((λ run. run), (λ run. run));
      one_price = λ most outcome other steps more energy paid one two.
          let same = one_run_until same_instruction most s one.last two.last one.events two.events one.run two.run in (
            one.outcome_is ∙ (ap (λ (u : State). u.outcome) same.1 ∙ sym two.outcome_is),
            one.steps_are ∙ (ap (λ (es : List FlatEvent). length es) same.0 ∙ sym two.steps_are),
            one.energy_is ∙ (ap (run_cost board) same.0 ∙ sym two.energy_is),
          );
    }

alike_by : (s t : State) → s ≡ t → AreAlike s t
alike_by s t same =
    record {
      pc = ap (λ (u : State). u.hart.pc) same;
      registers = λ k. ap (λ (u : State). u.hart.regs k) same;
      memory = λ a. ap (λ (u : State). u.hart.mem a) same;
      whole = same;
    }

both_alike : (board : Board) (s t : State) → s ≡ t → AreAlike s t × RunAlike board s t
both_alike board s t same = (alike_by s t same, subst (λ (u : State). RunAlike board s u) same (own_run board s))

-- ---- two results in which items stand in the scratchpad

module _ (file out other : List ℕ) (board : Board) (g : Graph) (c : Code) (t : RegionTable) (taken : Taken) (input : List ℕ) (passed : IsPassed file board g c) where
  accepted : IsAccepted file board g
  accepted =
      let sound = passes file board passed.no_fault in
      record { bytes = passed.bytes; none = sound.first; lawful = passed.lawful; layout = sound.layout; graph = passed.graph; code = sound.code }

  low : (k : ℕ) → k < length g.sites.items → (get_or g.sites.items k no_site).at + 3 < 4294967296
  low k below =
      let ends = code_below (view_in file) (get_or g.sites.items k no_site).at (loadable file board g accepted) (codes file board g accepted k below) in
      omega (arith, ends)

  module _ (one : MovesItems file board g c t taken out) (two : MovesItems file board g c t taken other) where
    first : IsPlacedResult file out board g c one.pl
    first = record { accepted = accepted; code = passed.code; placement = one.placement; view = one.shows }

    second : IsPlacedResult file other board g c two.pl
    second = record { accepted = accepted; code = passed.code; placement = two.placement; view = two.shows }

    items : items_of one.pl.programme one.pl.choice ≡ items_of two.pl.programme two.pl.choice
    items = one.placed.items ∙ sym two.placed.items

    count : one.pl.count ≡ two.pl.count
    count = one.placed.count ∙ sym two.placed.count

    regions : one.pl.regions ≡ two.pl.regions
    regions = one.placed.regions ∙ sym two.placed.regions

    borders : one.pl.borders ≡ two.pl.borders
    borders = one.placed.borders ∙ sym two.placed.borders

    same_moves : (m : SymbolMove) → list_any (same_move m) one.written.moves ≡ list_any (same_move m) two.written.moves
    same_moves m =
        let slots = slots_same file out other board g c one.pl two.pl first second items count regions borders in
        one.written.symbols.exact m
        ∙ ((λ i. is_symbol_move (view_in file) g (placed g (slots i) 0) (objects_named (map name_of_slot (slots i))) m)
        ∙ sym (two.written.symbols.exact m))

    memory : (a : ℕ) → (file_start out board input).hart.mem a ≡ (file_start other board input).hart.mem a
    unfolding first second
    memory =
        memory_same file out other board g c one.pl two.pl first second items count regions borders low one.written.patches two.written.patches one.written.moves two.written.moves
        one.written.writable two.written.writable one.written.view two.written.view same_moves

    entry : (view_in out).entry ≡ (view_in other).entry
    entry =
        one.shows.entry
        ∙ (ap start_at one.shows.planned.start ∙ (sym (ap start_at two.shows.planned.start) ∙ sym two.shows.entry))

    pub moved_same : file_start out board input ≡ file_start other board input
    moved_same =
        let mem = memory in
        let pc = entry in
        λ i. record {
          map = mapped_ranges board;
          hart = record { pc = pc i; regs = zeros; mem = λ a. mem a i };
          input = input;
          output = [];
          outcome = GoesOn;
        }

  -- ---- two results

  not_both : taken.on ≡ false → taken.items ≡ [] → (taken.on ≡ true) ⊎ (0 < length taken.items) → ⊥
  not_both off none (inl on) = both_ways taken.on off on
  not_both off none (inr some) = let count = ap (λ (is : List Item). length is) none in omega (arith, some, count)

  pub same_start : Realises file board g c t taken out → Realises file board g c t taken other → file_start out board input ≡ file_start other board input
  same_start (hands_on off none is) (hands_on off_too none_too also) = ap (λ (f : List ℕ). file_start f board input) (is ∙ sym also)
  same_start (hands_on off none is) (moves some moved) = absurd (not_both off none some)
  same_start (moves some moved) (hands_on off none is) = absurd (not_both off none some)
  same_start (moves some one) (moves also two) = moved_same one two

pub results_start_alike_so : ResultsStartAlike
results_start_alike_so file out other board g c t taken input passed one two =
    both_alike board (file_start out board input) (file_start other board input) (same_start file out other board g c t taken input passed one two)

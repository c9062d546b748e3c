-- Where nothing is moved, a file is traced beside each paired run of its program, from the start to the end.
use Rattle.std.proofs.Common.{◌≡◌, inl, inr, ℕ, zero, suc, ◌+◌, ◌<◌, true, false, List, [], length, refl, ap, subst, arith}
use Rattle.elf_reader.specs.File.{view_in}
use Rattle.elf_reader.specs.Loadable.{AreBytes}
use Rattle.board_config.specs.declared.board.Board.{Board}
use Rattle.flat_machine.specs.State.{State}
use Rattle.object_graph.specs.declared.parts.Graph.{Graph}
use Rattle.code_blocks.specs.Leaders.{is_call_pair}
use Rattle.code_blocks.specs.Blocks.{IsCode}
use Rattle.code_blocks.specs.declared.parts.Code.{Code}
use Rattle.code_blocks.proofs.EntryLemmas.{entry_leads}
use Rattle.object_machine.specs.declared.events.Outcome.{Outcome}
use Rattle.object_machine.specs.declared.events.Outcome.TheVariants.{GoesOn, Exited, Trapped, AddressFault}
use Rattle.object_machine.specs.Program.{Program}
use Rattle.object_machine.specs.State.{SourceState}
use Rattle.object_machine.specs.Step.{next_state}
use Rattle.object_machine.specs.Paired.{Origins, at_start, PairedFrom, PairedSteps}
use Rattle.simulation.proofs.AtHome.{made_at_start}
use Rattle.result_laws.specs.HomeLaws.{IsAccepted, program_in, source_start, file_start}
use Rattle.result_laws.specs.LiveUnits.{StandsThere}
use Rattle.result_laws.proofs.HomeStart.{alike_at_start, entry_unit}
use Rattle.result_laws.proofs.CodeUnits.{first, block_of}
use Rattle.result_laws.specs.Walks.{IsNoFault}
use Rattle.relink_core.specs.declared.unit_forms.UnitAt.{UnitAt}
use Rattle.region_former.specs.declared.table.RegionTable.{RegionTable}
use Rattle.relocator.specs.declared.items.Item.{Item}
use Rattle.std.proofs.lemmas.Bool.{both_ways}
use Rattle.relink_core.specs.Placed.{Taken}
use Rattle.relink_core.specs.UnitMaps.{IsAtHome, AreUnitsAt, MakesWithUnits, hands_on, moves}
use Rattle.compare_runner.specs.Comings.{StopsFirst, IsAtForm}
use Rattle.compare_runner.specs.TraceLaws.{homes_of, UnmovedIsTraced}
use Rattle.compare_runner.specs.Tracing.{TracedProgram, region_in}
use Rattle.compare_runner.proofs.WholeLemmas.{StepIsTraced, AllAreTraced, all_traced}
use Rattle.compare_runner.proofs.UnmovedSteps as steps

-- a run in no fault has met none
fine_from : (o : Outcome) (p : Program) (n : ℕ) (s t : SourceState) (m : Origins) → s.outcome ≡ o → PairedSteps p n s m t → IsNoFault t.outcome → IsNoFault o
fine_from GoesOn p n s t m is ran fine = tt
fine_from (Exited code) p n s t m is ran fine = tt
fine_from (Trapped pc) p n s t m is ran fine = tt
fine_from (AddressFault pc why) p zero s t m is ran fine = subst IsNoFault is (subst (λ (x : SourceState). IsNoFault x.outcome) ran fine)
fine_from (AddressFault pc why) p (suc n) s t m is ran fine =
    let same : t ≡ s = subst (λ (o : Outcome). PairedFrom o (PairedSteps p n) p s m t) is ran in
    subst IsNoFault is (subst (λ (x : SourceState). IsNoFault x.outcome) same fine)

module _ (file : List ℕ) (board : Board) (g : Graph) (c : Code) (accepted : IsAccepted file board g) (code : IsCode (view_in file) c) (regions : List ℕ) (units : List UnitAt) (forms : AreUnitsAt (IsAtHome c) units) (apart : (u e j : ℕ) → is_call_pair (view_in file) u ≡ true → StandsThere c (u + 4) e j → ⊥) where
  abbrev p : Program
  p = program_in file board g

  abbrev w : TracedProgram
  w = steps.w file board g c accepted code regions units forms apart

  abbrev AreHome : SourceState → Origins → State → Type 0
  AreHome s m t = steps.AreHome file board g c accepted code regions units forms apart s m t

  -- so many paired steps are left, which end in no fault
  pub record Going (n : ℕ) (s : SourceState) (t : State) : Type 0 where
    pub made : Origins
    pub here : AreHome s made t
    pub last : SourceState
    pub ran : PairedSteps p n s made last
    pub fine : IsNoFault last.outcome

  -- where the program goes on
  abbrev pub Left : ℕ → ℕ → SourceState → State → Type 0
  Left n region s t = s.outcome ≡ GoesOn → Going n s t

  each : (n region : ℕ) (s : SourceState) (t : State) → s.outcome ≡ GoesOn → Left (suc n) region s t → StepIsTraced w (homes_of g) Left n region s t
  each n region s t on left =
      let going : Going (suc n) s t = left on in
      let ran : PairedFrom GoesOn (PairedSteps p n) p s going.made going.last =
      subst (λ (o : Outcome). PairedFrom o (PairedSteps p n) p s going.made going.last) on going.ran in
      let next : SourceState = next_state p s ran.0 in
      let x =
      steps.home_step file board g c accepted code regions units forms apart region s going.made t ran.0 going.here ran.1.0 ran.1.1.0
      (fine_from next.outcome p n next going.last _ refl ran.1.1.1 going.fine) in
      record {
        read = ran.0;
        reads = ran.1.0;
        step = x.step;
        after = x.after;
        traced = x.traced;
        at_place = x.at_place;
        left = λ again. record { made = _; here = x.again again; last = going.last; ran = ran.1.1.1; fine = going.fine };
      }

  module _ (input : List ℕ) (bytes : AreBytes input) where
    abbrev source : SourceState
    source = source_start file board g input

    abbrev start : State
    start = file_start file board input

    entry : (d : ℕ) × ((d < length c.blocks.items) × StandsThere c source.pc d 0)
    entry =
        let there = block_of file board g c accepted code (view_in file).entry (entry_leads (view_in file) accepted.code) in
        (there.0, (there.1, subst (λ (a : ℕ). StandsThere c a there.0 0) there.2 (first file board g c accepted code there.0 there.1)))

    pub home_first : StopsFirst (IsAtForm units board 0 (region_in w 0 source) source.pc) start [] start
    home_first =
        record {
          does = refl;
          stops = steps.home_at_form file board g c accepted code regions units forms apart 0 (region_in w 0 source) source.pc entry.0 0 [] start entry.1.1 refl;
          first = λ fs m less does stops. absurd (omega (arith, less));
        }

    pub home_traced : (n : ℕ) (s : SourceState) → PairedSteps p n source at_start s → IsNoFault s.outcome → AllAreTraced w (homes_of g) n (region_in w 0 source) source start
    home_traced n s ran fine =
        all_traced w (homes_of g) Left each n (region_in w 0 source) source start
        (λ on.
        record {
          made = at_start;
          here = record {
            alike = alike_at_start file board g accepted input bytes;
            made = made_at_start (view_in file) p g input;
            at = (refl, entry_unit file board g accepted);
            block = entry.0;
            unit = 0;
            there = entry.1.1;
          };
          last = s;
          ran = ran;
          fine = fine;
        })

-- units stand at home alone where nothing is taken
pub home_forms : (file out : List ℕ) (board : Board) (g : Graph) (c : Code) (t : RegionTable) (taken : Taken) (units : List UnitAt) → MakesWithUnits file board g c t taken out units → taken.on ≡ false → taken.items ≡ [] → AreUnitsAt (IsAtHome c) units
home_forms file out board g c t taken units (hands_on off none same forms) side items = forms
home_forms file out board g c t taken units (moves (inl on) made) side items = absurd (both_ways taken.on side on)
home_forms file out board g c t taken units (moves (inr some) made) side items = let count = ap (λ (xs : List Item). length xs) items in absurd (omega (arith, count, some))

pub unmoved_is_traced : ((file : List ℕ) (board : Board) (g : Graph) (c : Code) → IsAccepted file board g → IsCode (view_in file) c → (u e j : ℕ) → is_call_pair (view_in file) u ≡ true → StandsThere c (u + 4) e j → ⊥) → UnmovedIsTraced
unmoved_is_traced no_unit file board g c t taken units made side items input n s traceable bytes ran fine =
    let forms = home_forms file file board g c t taken units made side items in
    let apart = no_unit file board g c traceable.accepted traceable.code in
    let all =
    home_traced file board g c traceable.accepted traceable.code t.of_block.items units forms apart input bytes n s ran fine in
    record {
      start = 0;
      steps = all.steps;
      trace = record {
        events = [];
        first = file_start file board input;
        comes = home_first file board g c traceable.accepted traceable.code t.of_block.items units forms apart input bytes;
        start_is = refl;
        traced = all.traces;
      };
      few = omega arith;
      at_places = all.at_places;
    }

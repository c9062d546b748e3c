-- From where a block begins the flat machine comes to a form of the unit there, in the region that is current or in the one
-- that control enters.
use Rattle.std.proofs.Common.{◌≡◌, inl, inr, ℕ, ◌+◌, ◌≤◌, ◌==◌, true, List, Option, refl, subst}
use Rattle.std.proofs.lemmas.Bool.{both_ways}
use Rattle.list_checks.proofs.TestLemmas.{not_true}
use Rattle.rv32im.specs.declared.instructions.Instr.{Instr}
use Rattle.board_config.specs.declared.board.Board.{Board}
use Rattle.flat_machine.specs.State.{State}
use Rattle.flat_machine.specs.Runs.{Does}
use Rattle.flat_machine.specs.declared.events.FlatEvent.{FlatEvent}
use Rattle.object_graph.specs.declared.parts.Graph.{Graph}
use Rattle.code_blocks.specs.declared.parts.Code.{Code}
use Rattle.dataflow.specs.Live.{LiveAt}
use Rattle.dataflow.specs.Overlaid.{MayBeOverlaid}
use Rattle.object_machine.specs.declared.events.Outcome.TheVariants.{GoesOn}
use Rattle.object_machine.specs.State.{SourceState}
use Rattle.object_machine.specs.Step.{Reads, next_state}
use Rattle.object_machine.specs.Paired.{Origins, at_start, origins_after, is_paired_step}
use Rattle.simulation.specs.Setups.{Sound}
use Rattle.simulation.specs.Made.{AreMade}
use Rattle.simulation.specs.Relation.{Alike}
use Rattle.simulation.specs.Ways.{AtAny, Arrivals, within}
use Rattle.simulation.specs.Changes.{moves}
use Rattle.simulation.specs.Unwritten.{AreUnwritten}
use Rattle.simulation.specs.Switches.{MayChange}
use Rattle.simulation.proofs.Stays.{places_decide}
use Rattle.simulation.proofs.Switches.{way_lands}
use Rattle.simulation.proofs.Unwritten.{unwritten_stay}
use Rattle.result_laws.specs.Pads.{IsServed}
use Rattle.result_laws.proofs.Setting.{setting}
use Rattle.result_laws.proofs.ArrivalPads.{pads_lead}
use Rattle.result_laws.specs.HomeLaws.{source_start}
use Rattle.result_laws.specs.Held.{IsHeld}
use Rattle.result_laws.specs.Entries.{ComesIn}
use Rattle.result_laws.proofs.Held.{held_stays}
use Rattle.result_laws.proofs.Entries.{enters_at_borders, borders_are_free}
use Rattle.result_laws.proofs.Copies.{same_numbers}
use Rattle.result_laws.specs.ChosenPlacement.{ChosenPlacement, slots_in}
use Rattle.result_laws.specs.PlacedLaws.{IsPlacedResult}
use Rattle.result_laws.specs.PlacedForms.{ComesTo, EntersAt}
use Rattle.result_laws.proofs.MovingObjects.{stays_or_moves}
use Rattle.result_laws.proofs.PlacedChosen.{sound}
use Rattle.result_laws.proofs.PlacedPads.{served}

module _ (file out : List ℕ) (board : Board) (g : Graph) (c : Code) (pl : ChosenPlacement) (result : IsPlacedResult file out board g c pl) (input : List ℕ) where
  open (setting file out board g c pl result) use {p, l, live, plan, form}

  abbrev enters : ℕ → ℕ → Type 0
  enters = EntersAt c pl.regions pl.borders

  abbrev first : SourceState
  first = source_start file board g input

  -- while region `r` is current, the other machine comes in at a unit of that region, of none, or where control enters one.
  -- Addresses are where they may be, and objects that nothing writes are as at the start
  abbrev pub IsHeldIn : ℕ → SourceState → Origins → Type 0
  IsHeldIn r s m =
      (r ≤ pl.count)
      × (ComesIn c pl.regions pl.borders r s.pc × (IsHeld c g s × AreUnwritten p first at_start s m))

  pub held_on : (r a : ℕ) (s : SourceState) (m : Origins) (read : Option Instr) → form r s.pc a → IsHeldIn r s m → s.outcome ≡ GoesOn → Reads (p.word s.pc) read → is_paired_step p s m read ≡ true → (next_state p s read).outcome ≡ GoesOn → IsHeldIn r (next_state p s read) (origins_after p s m read)
  held_on r a s m read at held going reads paired on =
      let may = at.may in (
        held.0,
        (
          enters_at_borders file board g c pl.regions pl.borders s read may.block may.unit r result.accepted result.code result.placement.borders may.there may.runs reads on,
          (
            held_stays file board g c s read result.accepted result.code held.1.1.0 going reads,
            unwritten_stay p first s at_start m read held.1.1.1 on,
          ),
        ),
      )

  -- an object whose place changes may be overlaid
  moved_overlaid : (from to o : ℕ) → moves l from to o ≡ true → MayBeOverlaid (λ b x. LiveAt c x b 0) c g pl.regions pl.borders o
  moved_overlaid from to o moved =
      elim (stays_or_moves c g pl.regions pl.borders to from o (slots_in board pl) result.placement.moving) [
        | inr overlaid ↦ overlaid
        | inl same ↦
            let other = not_true (l.place to o == l.place from o) moved in
            absurd (both_ways (l.place to o == l.place from o) other (same_numbers (l.place to o) (l.place from o) same))
      ]

  module _ (bound : ℕ) where
    abbrev switches : ℕ → ℕ → ℕ → Type 0
    switches = served file out board g c pl result input bound

    -- control may enter the region of a pad's stub, and the objects that move then are held nowhere
    pub may_change : (r d : ℕ) (s : SourceState) (m : Origins) → IsHeldIn r s m → (at : IsServed p l live form enters plan result.view.words first at_start bound 5 r s.pc d) → (r ≡ at.stub.region → ⊥) → MayChange p l live IsHeldIn r at.stub.region s m
    may_change r d s m held at other =
        let to : ℕ = at.stub.region in
        let enter = at.entered in
        record {
          sound = sound file out board g c pl result to;
          held = (
            subst (λ (n : ℕ). n ≤ pl.count) enter.region (result.placement.below enter.block),
            (
              record { block = enter.block; unit = 0; there = enter.there; enters = inl (inr enter.region) },
              (held.1.1.0, held.1.1.1),
            ),
          );
          moving = moves l r to;
          others = places_decide l r to (λ origin o k. refl) (λ origin o k. refl);
          free = borders_are_free file board g c pl.regions pl.borders (moves l r to) s enter.block result.accepted result.code held.1.1.0 enter.there enter.border
              (λ o moved. moved_overlaid r to o moved);
        }

    -- so the flat machine comes to a form
    pub arrives : (r : ℕ) (s : SourceState) (m : Origins) (t : State) → Sound p l r → IsHeldIn r s m → Alike p l live r s.pc s m t → AreMade p s m → ComesTo c g pl plan l live switches 5 r s.pc t.hart.pc → (es : List FlatEvent) × ((t' : State) × (Does es t t' × (within (5 + (bound + 5)) s t es × AtAny p l live form IsHeldIn s m t')))
    arrives r s m t sound_there held alike made comes =
        way_lands p l live form IsHeldIn bound 5 switches
        (pads_lead p l live form enters IsHeldIn plan result.view.words first at_start bound 5 (λ q n k has. has.1.1.1) may_change)
        r s m sound_there held made t alike (comes held.0 held.1.0)

    pub arrivals : Arrivals p l live (ComesTo c g pl plan l live switches 5) form IsHeldIn (within (5 + (bound + 5)))
    arrivals = record { stays = held_on; arrives = arrives }

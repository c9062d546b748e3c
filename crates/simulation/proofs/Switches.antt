-- A change of the region is an arrival.
use Rattle.std.proofs.Common.{◌≡◌, inl, inr, ℕ, ◌+◌, ◌≤◌, true, List, [], ◌++◌, length, map, Option, refl, arith}
use Rattle.std.proofs.lemmas.List.{length-append, length-map}
use Rattle.rv32im.specs.declared.instructions.Instr.{Instr}
use Rattle.flat_machine.specs.declared.events.FlatEvent.{FlatEvent}
use Rattle.flat_machine.specs.Lines.{fetch_of, went}
use Rattle.flat_machine.specs.Runs.{Does}
use Rattle.flat_machine.specs.State.{State}
use Rattle.flat_machine.proofs.Runs.{does_joined}
use Rattle.object_machine.specs.declared.events.Outcome.TheVariants.{GoesOn}
use Rattle.object_machine.specs.Program.{Program}
use Rattle.object_machine.specs.State.{SourceState}
use Rattle.object_machine.specs.Step.{Reads, next_state}
use Rattle.object_machine.specs.Paired.{Origins, origins_after, is_paired_step}
use Rattle.simulation.specs.Setups.{Setup, Sound}
use Rattle.simulation.specs.Made.{AreMade}
use Rattle.simulation.specs.Relation.{Alike}
use Rattle.simulation.specs.Ways.{Comes, way_fetched, AtAny, Arrivals, within}
use Rattle.simulation.proofs.Steps.{does_words}
use Rattle.simulation.proofs.Arriving.{way_leads, way_length}
use Rattle.simulation.specs.Changes.{ChangesRegion, AreAtHomeToo}
use Rattle.simulation.specs.Switches.{MayChange, MayLand, Switch, SwitchesLead}
use Rattle.simulation.proofs.Stays.{switched}

module _ (p : Program) (l : Setup) (live : ℕ → ℕ → Type 0) (form : ℕ → ℕ → ℕ → Type 0) (holds : ℕ → SourceState → Origins → Type 0) where
  -- both machines are alike in the new region behind steps that change it
  pub may_switch : (from to : ℕ) (s : SourceState) (m : Origins) (t t' : State) (es : List FlatEvent) → MayChange p l live holds from to s m → AreAtHomeToo p l from s m t → Alike p l live from s.pc s m t → Does es t t' → ChangesRegion p l live from to s.pc t t' → Alike p l live to s.pc s m t'
  may_switch from to s m t t' es may homes alike does change =
      switched p l live may.moving from to s.pc s m t t' alike homes may.others may.free change
      (does_words es t t' alike.words does)

  -- so steps that end at a form of the unit are an arrival, and more may be told of them
  pub switch_arrives : (tells : SourceState → State → List FlatEvent → Type 0) (from to : ℕ) (s : SourceState) (m : Origins) (t t' : State) (es : List FlatEvent) → MayChange p l live holds from to s m → AreAtHomeToo p l from s m t → Alike p l live from s.pc s m t → AreMade p s m → Does es t t' → ChangesRegion p l live from to s.pc t t' → form to s.pc t'.hart.pc → tells s t es → (fs : List FlatEvent) × ((u : State) × (Does fs t u × (tells s t fs × AtAny p l live form holds s m u)))
  switch_arrives tells from to s m t t' es may homes alike made does change at told = (
    es,
    (
      t',
      (
        does,
        (
          told,
          record {
            region = to;
            sound = may.sound;
            held = may.held;
            alike = may_switch from to s m t t' es may homes alike does change;
            made = made;
            at = at;
          },
        ),
      ),
    ),
  )

  -- and those from which a way leads on
  module _ (bound most : ℕ) where
    pub switch_leads : (from : ℕ) (s : SourceState) (m : Origins) (t : State) → Switch p l live form holds bound most from s m t → Alike p l live from s.pc s m t → AreMade p s m → (fs : List FlatEvent) × ((u : State) × (Does fs t u × (within (bound + most) s t fs × AtAny p l live form holds s m u)))
    switch_leads from s m t switch alike made =
        let t' : State = switch.after in
        let now = may_switch from switch.to s m t t' switch.events switch.may switch.homes alike switch.does switch.change in
        let fetched : List ℕ = way_fetched l live form switch.to s.pc switch.comes.0 t'.hart.pc switch.comes.1.1 in
        let led = way_leads p l live switch.to s.pc s m form switch.comes.0 t'.hart.pc switch.comes.1.1 t' refl now in
        let later : List FlatEvent = map (fetch_of t'.hart.mem) fetched in
        let both = length-append switch.events later in
        let count = length-map fetched (fetch_of t'.hart.mem) in
        let steps = way_length l live form switch.to s.pc switch.comes.0 t'.hart.pc switch.comes.1.1 in
        let few = switch.few in
        let short = switch.comes.1.0 in (
          switch.events ++ later,
          (
            went t' led.regs led.to,
            (
              does_joined switch.events later t t' (went t' led.regs led.to) switch.does led.ran,
              (
                omega (arith, both, count, steps, few, short),
                record {
                  region = switch.to;
                  sound = switch.may.sound;
                  held = switch.may.held;
                  alike = led.alike;
                  made = made;
                  at = led.at;
                },
              ),
            ),
          ),
        )

    -- ways lead to a form, or to where a switch begins
    module _ (switches : ℕ → ℕ → ℕ → Type 0) (leads : SwitchesLead p l live form holds switches bound most) where
      module _ (r : ℕ) (s : SourceState) (m : Origins) (sound : Sound p l r) (held : holds r s m) (made : AreMade p s m) where
        -- at most so many steps lead to a form
        abbrev pub Arrives : ℕ → State → Type 0
        Arrives few t =
            (fs : List FlatEvent) × ((u : State) × (Does fs t u × (within few s t fs × AtAny p l live form holds s m u)))

        landed : (t : State) → Alike p l live r s.pc s m t → MayLand form switches r s.pc t.hart.pc → Arrives (bound + most) t
        landed t alike (inl at) = (
          [],
          (t, (refl, (omega arith, record { region = r; sound = sound; held = held; alike = alike; made = made; at = at }))),
        )
        landed t alike (inr at) = switch_leads r s m t (leads r s m t sound held alike made at) alike made

        further : (t now : State) (first : List FlatEvent) → length first ≤ most → Does first t now → Arrives (bound + most) now → Arrives (most + (bound + most)) t
        further t now first few does rest =
            let both = length-append first rest.0 in
            let more = rest.1.1.1.0 in (
              first ++ rest.0,
              (
                rest.1.0,
                (
                  does_joined first rest.0 t now rest.1.0 does rest.1.1.0,
                  (omega (arith, both, few, more), rest.1.1.1.1),
                ),
              ),
            )

        pub way_lands : (t : State) → Alike p l live r s.pc s m t → Comes l live (MayLand form switches) most r s.pc t.hart.pc → Arrives (most + (bound + most)) t
        way_lands t alike comes =
            let fetched : List ℕ = way_fetched l live (MayLand form switches) r s.pc comes.0 t.hart.pc comes.1.1 in
            let led = way_leads p l live r s.pc s m (MayLand form switches) comes.0 t.hart.pc comes.1.1 t refl alike in
            let count = length-map fetched (fetch_of t.hart.mem) in
            let steps = way_length l live (MayLand form switches) r s.pc comes.0 t.hart.pc comes.1.1 in
            let short = comes.1.0 in
            further t (went t led.regs led.to) (map (fetch_of t.hart.mem) fetched) (omega (arith, count, steps, short)) led.ran
            (landed (went t led.regs led.to) led.alike led.at)

      pub ways_and_switches_arrive : ((r a : ℕ) (s : SourceState) (m : Origins) (read : Option Instr) → form r s.pc a → holds r s m → s.outcome ≡ GoesOn → Reads (p.word s.pc) read → is_paired_step p s m read ≡ true → (next_state p s read).outcome ≡ GoesOn → holds r (next_state p s read) (origins_after p s m read)) → Arrivals p l live (Comes l live (MayLand form switches) most) form holds (within (most + (bound + most)))
      ways_and_switches_arrive stays =
          record { stays = stays; arrives = λ r s m t sound held alike made comes. way_lands r s m sound held made t alike comes }

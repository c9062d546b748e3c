-- A pad whose stub has a region is where a switch begins.
use Rattle.std.proofs.Common.{◌≡◌, ◌∙◌, inl, inr, ℕ, ◌+◌, ◌*◌, ◌<◌, true, false, List, [], ◌∷◌, ◌++◌, length, map, Option, refl, sym, ap, subst, arith}
use Rattle.std.specs.Prelude.{All}
use Rattle.std.proofs.lemmas.Bool.{cases_eq}
use Rattle.rv32im.specs.Words.{plus, word_of, byte_of}
use Rattle.rv32im.specs.Memory.{Memory, word_at}
use Rattle.rv32im.specs.Sequences.{distance}
use Rattle.rv32im.specs.declared.instructions.Instr.{Instr}
use Rattle.rv32im.specs.declared.instructions.Instr.TheVariants.{Jal}
use Rattle.flat_machine.specs.declared.events.FlatAccess.{FlatAccess}
use Rattle.flat_machine.specs.declared.events.FlatEvent.{FlatEvent}
use Rattle.flat_machine.specs.Lines.{AreMapped, fetch_of, went}
use Rattle.flat_machine.specs.Runs.{Does}
use Rattle.flat_machine.specs.Sizes.{HasWords}
use Rattle.flat_machine.specs.State.{State}
use Rattle.flat_machine.proofs.Runs.{does_joined}
use Rattle.patch_code.specs.declared.job.CopyJob.{CopyJob}
use Rattle.patch_code.specs.Jobs.{CanCopy}
use Rattle.patch_code.specs.Told.{IsFrom, accesses, read_at}
use Rattle.patch_code.specs.Switching.{routine_run, switch_jobs}
use Rattle.patch_code.specs.Switches.{Switched, switch_accesses}
use Rattle.patch_code.specs.Start.{start_at, start_bytes}
use Rattle.patch_code.specs.Serving.{ServingStub}
use Rattle.patch_code.specs.Overlay.{OverlayPlan, switching, serving_place, rest_bytes}
use Rattle.patch_code.specs.Served.{HoldsCode, HasCode, IsAtPad, IsFromStubOf, body_at}
use Rattle.patch_code.proofs.WholePlaces.{words_count}
use Rattle.patch_code.proofs.FromPads.{pads_lead_so}
use Rattle.cell_values.specs.declared.values.Val.{Val}
use Rattle.cell_values.specs.declared.values.Val.TheVariants.{Int, Addr, Hi, Low, Piece, Unknown}
use Rattle.cell_values.specs.declared.values.Cell.{Cell}
use Rattle.cell_values.specs.declared.values.Cell.TheVariants.{Byte, Part, Mist}
use Rattle.object_machine.specs.declared.events.Outcome.TheVariants.{GoesOn}
use Rattle.object_machine.specs.Program.{Program}
use Rattle.object_machine.specs.State.{SourceState, value}
use Rattle.object_machine.specs.Step.{Reads, next_state}
use Rattle.object_machine.specs.Paired.{Origins, origins_after, is_paired_step}
use Rattle.simulation.specs.Setups.{Setup, Sound}
use Rattle.simulation.specs.Relation.{Alike}
use Rattle.simulation.specs.Forms.{IsAt}
use Rattle.simulation.specs.Ways.{Comes, Arrivals, within}
use Rattle.simulation.proofs.Steps.{fetched_at, does_words, is_at}
use Rattle.simulation.specs.Names.{NamesNone, CellNamesNone}
use Rattle.simulation.specs.Changes.{AreAtHomeToo}
use Rattle.simulation.specs.Unwritten.{AreUnwritten}
use Rattle.simulation.specs.Switches.{MayChange, MayLand, Switch, SwitchesLead}
use Rattle.simulation.proofs.Homes.{home_too, home_as_placed, home_stayed}
use Rattle.simulation.proofs.Switches.{ways_and_switches_arrive}
use Rattle.result_laws.specs.Serves.{IsOfRegion}
use Rattle.result_laws.specs.Pads.{PlanStands, PadStands, CanSwitch, IsServed}
use Rattle.result_laws.proofs.Changed.{other_register, region_changed}

-- ---- words that stand still

word_kept : (mem still : Memory) (a : ℕ) → a + 3 < 4294967296 → ((i : ℕ) → i < 4 → mem (a + i) ≡ still (a + i)) → word_at mem a ≡ word_at still a
word_kept mem still a low same =
    let at_0 : a + 0 ≡ a = omega arith in
    let at_1 : a + 1 ≡ plus a 1 = omega (arith, low) in
    let at_2 : a + 2 ≡ plus a 2 = omega (arith, low) in
    let at_3 : a + 3 ≡ plus a 3 = omega (arith, low) in
    let byte_0 : mem a ≡ still a = subst (λ x. mem x ≡ still x) at_0 (same 0 (omega arith)) in
    let byte_1 : mem (plus a 1) ≡ still (plus a 1) = subst (λ x. mem x ≡ still x) at_1 (same 1 (omega arith)) in
    let byte_2 : mem (plus a 2) ≡ still (plus a 2) = subst (λ x. mem x ≡ still x) at_2 (same 2 (omega arith)) in
    let byte_3 : mem (plus a 3) ≡ still (plus a 3) = subst (λ x. mem x ≡ still x) at_3 (same 3 (omega arith)) in
    rw (byte_0, byte_1, byte_2, byte_3) refl

joined_bytes : (w x y z v : ℕ) → v < 4294967296 → w ≡ byte_of v 0 → x ≡ byte_of v 1 → y ≡ byte_of v 2 → z ≡ byte_of v 3 → word_of w x y z ≡ v
joined_bytes w x y z v small first second third fourth = omega (arith, small, first, second, third, fourth)

number_word : (mem : Memory) (a v : ℕ) → a + 3 < 4294967296 → v < 4294967296 → ((k : ℕ) → k < 4 → mem (a + k) ≡ byte_of v k) → word_at mem a ≡ v
number_word mem a v low small bytes =
    let at_0 : a + 0 ≡ a = omega arith in
    let at_1 : a + 1 ≡ plus a 1 = omega (arith, low) in
    let at_2 : a + 2 ≡ plus a 2 = omega (arith, low) in
    let at_3 : a + 3 ≡ plus a 3 = omega (arith, low) in
    joined_bytes (mem a) (mem (plus a 1)) (mem (plus a 2)) (mem (plus a 3)) v small
    (subst (λ x. mem x ≡ byte_of v 0) at_0 (bytes 0 (omega arith))) (subst (λ x. mem x ≡ byte_of v 1) at_1 (bytes 1 (omega arith)))
    (subst (λ x. mem x ≡ byte_of v 2) at_2 (bytes 2 (omega arith))) (subst (λ x. mem x ≡ byte_of v 3) at_3 (bytes 3 (omega arith)))

module _ (plan : OverlayPlan) (words : List ℕ) (l : Setup) (r : ℕ) (stands : PlanStands plan words l r) where
  code_ends : plan.start.base + 4 * length words < 4294967296
  code_ends =
      let count = words_count plan words stands.are in
      let ends = stands.can.ends in
      omega (arith, count, ends)

  control_ends : plan.start.base + 64 < 4294967296
  control_ends = let ends = stands.can.ends in omega (arith, ends)

  module _ (a : ℕ) (t : State) (here : IsAt l r a t) where
    code_stands : HoldsCode t.hart.mem plan.start.base words
    code_stands k from below =
        let ends = code_ends in
        let base : ℕ = plan.start.base in
        word_kept t.hart.mem (l.still r) (base + 4 * k) (omega (arith, ends, below))
        (λ i small.
        let at : base + (4 * k + i) ≡ base + 4 * k + i = omega arith in
        subst (λ x. t.hart.mem x ≡ l.still r x) at
        (here.still (base + (4 * k + i)) (stands.still (4 * k + i) (omega (arith, from)) (omega (arith, below, small)))))
        ∙ stands.code k from below

    pub region_number : word_at t.hart.mem plan.start.base ≡ r
    region_number =
        let ends = control_ends in
        number_word t.hart.mem plan.start.base r (omega (arith, ends)) stands.small
        (λ k below. here.still (plan.start.base + k) (stands.control k below) ∙ stands.number k below)

    has_code : HasCode plan words t
    has_code =
        record {
          can = stands.can;
          are = stands.are;
          stands = code_stands;
          mapped = subst (λ q. AreMapped q plan.start.base (4 * length words)) (sym here.map) stands.mapped;
          leave = λ i below. subst (λ q. All (CanCopy q) (plan.leave i)) (sym here.map) (stands.leave i below);
          enter = λ i below. subst (λ q. All (CanCopy q) (plan.enter i)) (sym here.map) (stands.enter i below);
          kept_leave = λ i below. subst (λ q. All (CanCopy q) (plan.kept_leave i)) (sym here.map) (stands.kept_leave i below);
          kept_enter = λ i below. subst (λ q. All (CanCopy q) (plan.kept_enter i)) (sym here.map) (stands.kept_enter i below);
        }

    at_pad : (stub : ServingStub) → PadStands plan l r stub → a ≡ stub.home → IsAtPad plan stub t
    at_pad stub pad at =
        let there : IsAt l r stub.home t = subst (λ x. IsAt l r x t) at here in
        record {
          listed = pad.listed;
          checked = pad.checked;
          going = here.going;
          words = here.words.hart;
          home = pad.home;
          pc = there.at;
          pad = fetched_at l r stub.home pad.word t there pad.stands (Jal 0 (distance stub.home (serving_place plan stub))) pad.means;
        }

-- ---- a region that stays

no_value : (x : Val) → NamesNone (λ o. false) x
no_value (Addr o d) = refl
no_value (Hi o d) = refl
no_value (Piece hi o d k) = refl
no_value (Int n) = tt
no_value (Low n) = tt
no_value Unknown = tt

no_cell : (c : Cell) → CellNamesNone (λ o. false) c
no_cell (Part hi o d k) = refl
no_cell (Byte n) = tt
no_cell Mist = tt

may_stay : (p : Program) (l : Setup) (live : ℕ → ℕ → Type 0) (holds : ℕ → SourceState → Origins → Type 0) (r : ℕ) (s : SourceState) (m : Origins) → Sound p l r → holds r s m → MayChange p l live holds r r s m
may_stay p l live holds r s m sound held =
    record {
      sound = sound;
      held = held;
      moving = λ o. false;
      others = record { place = λ o stays. refl; upper = λ origin o d stays. refl };
      free =
          record {
            regs = λ k lives. no_value (value s.regs k);
            fixed = λ a. no_cell (s.fixed a);
            cells = λ o i. no_cell (s.cells o i);
          };
    }

-- ---- both cases

module _ (p : Program) (l : Setup) (live : ℕ → ℕ → Type 0) (form : ℕ → ℕ → ℕ → Type 0) (enters : ℕ → ℕ → Type 0) (holds : ℕ → SourceState → Origins → Type 0) (plan : OverlayPlan) (words : List ℕ) (first : SourceState) (made : Origins) (bound most : ℕ) (unwritten : (r : ℕ) (s : SourceState) (m : Origins) → holds r s m → AreUnwritten p first made s m) (may : (r c : ℕ) (s : SourceState) (m : Origins) → holds r s m → (at : IsServed p l live form enters plan words first made bound most r s.pc c) → (r ≡ at.stub.region → ⊥) → MayChange p l live holds r at.stub.region s m) where
  module _ (r : ℕ) (s : SourceState) (m : Origins) (t : State) (sound : Sound p l r) (held : holds r s m) (alike : Alike p l live r s.pc s m t) (at : IsServed p l live form enters plan words first made bound most r s.pc t.hart.pc) where
    here : IsAt l r t.hart.pc t
    here = is_at p l live r s.pc s m t alike

    home_bytes : AreAtHomeToo p l r s m t
    home_bytes = home_too p l live r s.pc first s made m t alike (unwritten r s m held) at.homes

    has : HasCode plan words t
    has = has_code plan words l r at.plan_stands t.hart.pc t here

    pad : IsAtPad plan at.stub t
    pad = at_pad plan words l r at.plan_stands t.hart.pc t here at.stub at.pad at.at

    number : word_at t.hart.mem plan.start.base ≡ r
    number = region_number plan words l r at.plan_stands t.hart.pc t here

    -- the pad's jump, and the words of the stub and of the routine
    abbrev pad_events : List FlatEvent → List FlatEvent
    pad_events events = map (fetch_of t.hart.mem) (at.stub.home ∷ []) ++ events

    -- what is told of a switch: behind the pad's jump so many words of the plan run with these accesses, up to the stub's body
    pub record Passed (n : ℕ) (made_there : List FlatAccess) (switch : Switch p l live form holds bound most r s m t) : Type 0 where
      pub to : switch.to ≡ at.stub.region
      pub rest : List FlatEvent
      pub events : switch.events ≡ fetch_of t.hart.mem at.stub.home ∷ rest
      pub count : length rest ≡ n
      pub all : accesses rest ≡ made_there
      pub fetched : All (IsFrom (start_at plan.start) (start_bytes plan.start + rest_bytes plan)) rest
      pub own : All (IsFromStubOf plan at.stub) rest
      pub after : switch.after.hart.pc ≡ body_at plan at.stub

    pub passes : r ≡ at.stub.region → (switch : Switch p l live form holds bound most r s m t) × Passed 4 (read_at plan.start.base ∷ []) switch
    passes same =
        let run = pads_lead_so.passes plan words at.stub t has pad (number ∙ same) in
        let t' : State = run.0 in
        let came = run.1.0 in
        let memory = run.1.1 in
        let count = came.way.count in
        let five = at.five in (
          record {
            to = r;
            may = may_stay p l live holds r s m sound held;
            homes = home_bytes;
            events = pad_events came.way.events;
            after = t';
            does =
                does_joined (map (fetch_of t.hart.mem) (at.stub.home ∷ [])) came.way.events t
                (went t t.hart.regs (serving_place plan at.stub)) t' came.pad came.way.does;
            few = omega (arith, count, five);
            change =
                record {
                  regs = λ k lives.
                      other_register t'.hart.regs t.hart.regs k at.stub.temp came.came.registers
                      (λ is. at.dead (subst (live s.pc) is lives));
                  fixed = λ a is. ap (λ (mem : Memory). mem a) memory;
                  objects = λ o i below. inl (ap (λ (mem : Memory). mem (l.place r o + i)) memory);
                  still = λ a is. ap (λ (mem : Memory). mem a) memory ∙ alike.still a is;
                  map = ap (λ (n : State). n.map) came.came.rest;
                  outcome = ap (λ (n : State). n.outcome) came.came.rest;
                  input = ap (λ (n : State). n.input) came.came.rest;
                  output = ap (λ (n : State). n.output) came.came.rest;
                };
            comes =
                subst (λ a. Comes l live form most r s.pc a) (sym came.came.pc)
                (subst (λ q. Comes l live form most q s.pc (body_at plan at.stub)) (sym same) at.comes);
          },
          record {
            to = same;
            rest = came.way.events;
            events = refl;
            count = came.way.count;
            all = came.way.all;
            fetched = came.way.fetched;
            own = came.own;
            after = came.came.pc;
          },
        )

    module _ (other : r ≡ at.stub.region → ⊥) where
      can : CanSwitch p l plan first made bound r at.stub.region
      can = at.can other

      change_may : MayChange p l live holds r at.stub.region s m
      change_may = may r t.hart.pc s m held at other

      of_region : IsOfRegion p l r at.stub.region t.hart.mem
      of_region =
          record {
            still = alike.still;
            homes = λ o i unwritable below.
                home_as_placed p l live r s.pc first s made m t o i alike home_bytes (unwritten r s m held)
                (can.known o i unwritable below) unwritable below;
            next_homes = λ o i unwritable below away.
                home_stayed p l (live s.pc) change_may.moving r at.stub.region first s made m t o i home_bytes (unwritten r s m held)
                can.homes change_may.others change_may.free (can.known o i unwritable below) unwritable below away;
          }

      pub switches : (switch : Switch p l live form holds bound most r s m t) × Passed (22 + routine_run (switching plan) r at.stub.region) (switch_accesses (switching plan) r at.stub.region) switch
      switches =
          let run = pads_lead_so.switches plan words at.stub t has pad (λ same. other (sym number ∙ same)) in
          let t' : State = run.0 in
          let came = run.1.0 in
          let lo : ℕ = start_at plan.start in
          let size : ℕ = start_bytes plan.start + rest_bytes plan in
          let jobs : List CopyJob = switch_jobs (switching plan) r at.stub.region in
          let switched : Switched plan.start.base lo size at.stub.region jobs t.hart.mem t'.hart.mem =
          subst (λ q. Switched plan.start.base lo size at.stub.region (switch_jobs (switching plan) q at.stub.region) t.hart.mem t'.hart.mem) number run.1.1 in
          let count : length came.way.events ≡ 22 + routine_run (switching plan) r at.stub.region =
          subst (λ q. length came.way.events ≡ 22 + routine_run (switching plan) q at.stub.region) number came.way.count in
          let few = can.few in
          let does : Does (pad_events came.way.events) t t' =
          does_joined (map (fetch_of t.hart.mem) (at.stub.home ∷ [])) came.way.events t
          (went t t.hart.regs (serving_place plan at.stub)) t' came.pad came.way.does in
          let new_words : HasWords t' = does_words (pad_events came.way.events) t t' alike.words does in (
            record {
              to = at.stub.region;
              may = change_may;
              homes = home_bytes;
              events = pad_events came.way.events;
              after = t';
              does = does;
              few = omega (arith, count, few);
              change =
                  region_changed p l live plan.start.base lo size r at.stub.region s.pc (body_at plan at.stub) at.stub.temp jobs t t'
                  (control_ends plan words l r at.plan_stands) switched came.came new_words at.dead can.serve of_region;
              comes = subst (λ a. Comes l live form most at.stub.region s.pc a) (sym came.came.pc) at.comes;
            },
            record {
              to = refl;
              rest = came.way.events;
              events = refl;
              count = count;
              all = subst (λ q. accesses came.way.events ≡ switch_accesses (switching plan) q at.stub.region) number came.way.all;
              fetched = came.way.fetched;
              own = came.own;
              after = came.came.pc;
            },
          )

  pub pads_lead : SwitchesLead p l live form holds (IsServed p l live form enters plan words first made bound most) bound most
  pads_lead r s m t sound held alike made_so at =
      elim (cases_eq r at.stub.region) [
        | inl same ↦ (passes r s m t sound held alike at same).0
        | inr other ↦ (switches r s m t sound held alike at other).0
      ]

  -- so ways that end at forms or at such pads are arrivals
  pub pads_arrive : ((r a : ℕ) (s : SourceState) (m : Origins) (read : Option Instr) → form r s.pc a → holds r s m → s.outcome ≡ GoesOn → Reads (p.word s.pc) read → is_paired_step p s m read ≡ true → (next_state p s read).outcome ≡ GoesOn → holds r (next_state p s read) (origins_after p s m read)) → Arrivals p l live (Comes l live (MayLand form (IsServed p l live form enters plan words first made bound most)) most) form holds (within (most + (bound + most)))
  pads_arrive stays =
      ways_and_switches_arrive p l live form holds bound most (IsServed p l live form enters plan words first made bound most) pads_lead stays

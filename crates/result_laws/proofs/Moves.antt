-- Words that run on a way, without an access: how many, and at which addresses.
use Rattle.std.proofs.Common.{◌≡◌, ◌∙◌, ℕ, ◌+◌, ◌<◌, Bool, true, false, List, [], ◌∷◌, length, map, slice_index, Option, ap, arith}
use Rattle.std.specs.Bool.{MatchBool}
use Rattle.std.proofs.lemmas.List.{length-map}
use Rattle.rv32im.specs.Words.{plus, upper_half}
use Rattle.rv32im.specs.Table.{Means}
use Rattle.rv32im.specs.Sequences.{jump_absolute, MeanAll}
use Rattle.rv32im.specs.declared.instructions.Instr.{Instr}
use Rattle.rv32im.specs.declared.instructions.Instr.TheVariants.{Lui}
use Rattle.rv32im.proofs.Meaning.{same_instruction}
use Rattle.flat_machine.specs.declared.events.FlatEvent.{FlatEvent}
use Rattle.flat_machine.specs.declared.events.FlatOutcome.{FlatOutcome}
use Rattle.flat_machine.specs.declared.events.FlatOutcome.TheVariants.{GoesOn, Exited, Trapped}
use Rattle.flat_machine.specs.Lines.{fetch_of, went, words_from}
use Rattle.flat_machine.specs.Mapping.{can_access}
use Rattle.flat_machine.specs.Runs.{Does}
use Rattle.flat_machine.specs.State.{State, trap}
use Rattle.flat_machine.specs.Step.{performed, event_of, Performs, ReadsNothing, StepAt, Step}
use Rattle.flat_machine.proofs.Runs.{one_state}
use Rattle.patch_code.specs.Told.{accesses}
use Rattle.object_machine.specs.Program.{Program}
use Rattle.object_machine.specs.State.{SourceState}
use Rattle.object_machine.specs.Paired.{Origins}
use Rattle.simulation.specs.Setups.{Setup}
use Rattle.simulation.specs.Units.{StandsAt}
use Rattle.simulation.specs.Forms.{IsAt}
use Rattle.simulation.specs.Relation.{Alike}
use Rattle.simulation.specs.Ways.{Way, way_fetched}
use Rattle.simulation.proofs.Arriving.{way_leads, way_length}
use Rattle.simulation.proofs.Steps.{fetches}
use Rattle.result_laws.specs.Walks.{address_in}
use Rattle.result_laws.proofs.UnitEvents.{fetched_accesses}

-- ---- addresses

-- an event tells the pc before its step
address_at : (o : FlatOutcome) (t t' : State) (e : FlatEvent) → StepAt o t e t' → e.at ≡ t.hart.pc
address_at GoesOn t t' e step = by (can_access t.map t.hart.pc 4) step
  where
    by : (b : Bool) → MatchBool b ((read : Option Instr) × Performs t e t' read) (ReadsNothing t e t' (trap t)) → e.at ≡ t.hart.pc
    by true found = ap (λ (x : FlatEvent). x.at) found.1.event
    by false nothing = ap (λ (x : FlatEvent). x.at) nothing.event
address_at (Exited code) t t' e step = ap (λ (x : FlatEvent). x.at) step.event
address_at (Trapped pc) t t' e step = ap (λ (x : FlatEvent). x.at) step.event

step_address : (t t' : State) (e : FlatEvent) → Step t e t' → e.at ≡ t.hart.pc
step_address t t' e step = address_at t.outcome t t' e step

pub one_address : (t t' : State) (es : List FlatEvent) → length es ≡ 1 → Does es t t' → map address_in es ≡ t.hart.pc ∷ []
one_address t t' [] count does = absurd (omega (arith, count))
one_address t t' (e ∷ []) count does = ap (λ (a : ℕ). a ∷ []) (step_address t does.0 e does.1.0)
one_address t t' (e ∷ f ∷ es) count does = absurd (omega (arith, count))

-- the second word is the next one where the first is a LUI
pub two_addresses : (l : Setup) (r w d h : ℕ) (t t' : State) (es : List FlatEvent) → IsAt l r t.hart.pc t → StandsAt l r t.hart.pc w → Means w (Lui d h) → t.hart.pc + 4 < 4294967296 → length es ≡ 2 → Does es t t' → map address_in es ≡ words_from t.hart.pc 2
two_addresses l r w d h t t' [] here stands means low count does = absurd (omega (arith, count))
two_addresses l r w d h t t' (e ∷ []) here stands means low count does = absurd (omega (arith, count))
two_addresses l r w d h t t' (e ∷ f ∷ []) here stands means low count does =
    let lui : Instr = Lui d h in
    let same : does.0 ≡ performed t lui =
    one_state same_instruction t does.0 (performed t lui) e (event_of t lui) does.1.0 (fetches l r t.hart.pc w t here stands lui means) in
    let next : plus t.hart.pc 4 ≡ t.hart.pc + 4 = omega (arith, low) in
    let second : f.at ≡ t.hart.pc + 4 =
    step_address does.0 does.1.1.0 f does.1.1.1.0 ∙ (ap (λ (x : State). x.hart.pc) same ∙ next) in
    ap (λ (a : ℕ). a ∷ f.at ∷ []) (step_address t does.0 e does.1.0) ∙ ap (λ (a : ℕ). t.hart.pc ∷ a ∷ []) second
two_addresses l r w d h t t' (e ∷ f ∷ x ∷ es) here stands means low count does = absurd (omega (arith, count))

-- a jump to any address begins with a LUI
pub jump_begins : (words : List ℕ) (temp to : ℕ) → MeanAll words (jump_absolute temp to) → Means (slice_index words 0) (Lui temp (upper_half to))
jump_begins [] temp to mean = absurd mean
jump_begins (w ∷ ws) temp to mean = mean.0

-- ---- ways

module _ (p : Program) (l : Setup) (live : ℕ → ℕ → Type 0) (r : ℕ) (s : SourceState) (m : Origins) (form : ℕ → ℕ → ℕ → Type 0) where
  -- so many words run and lead there
  pub record Moved (n : ℕ) (t : State) : Type 0 where
    pub events : List FlatEvent
    pub after : State
    pub does : Does events t after
    pub count : length events ≡ n
    pub silent : accesses events ≡ []
    pub alike : Alike p l live r s.pc s m after
    pub at : form r s.pc after.hart.pc

  pub moved : (n c : ℕ) → Way l live form r s.pc n c → (t : State) → t.hart.pc ≡ c → Alike p l live r s.pc s m t → Moved n t
  moved n c way t here alike =
      let fetched : List ℕ = way_fetched l live form r s.pc n c way in
      let led = way_leads p l live r s.pc s m form n c way t here alike in
      record {
        events = map (fetch_of t.hart.mem) fetched;
        after = went t led.regs led.to;
        does = led.ran;
        count = length-map fetched (fetch_of t.hart.mem) ∙ way_length l live form r s.pc n c way;
        silent = fetched_accesses t.hart.mem fetched;
        alike = led.alike;
        at = led.at;
      }

-- A step that was taken and counted, as one transition more.
use Rattle.std.proofs.Common.{◌≡◌, ◌∙◌, inl, inr, ℕ, zero, suc, ◌+◌, ◌*◌, ◌≤◌, true, List, [], ◌∷◌, ◌++◌, length, Option, Some, None, refl, sym, subst, arith}
use Rattle.std.specs.List.{All}
use Rattle.rv32im.specs.declared.instructions.Instr.{Instr}
use Rattle.code_blocks.specs.Early.{has}
use Rattle.object_machine.specs.declared.events.Event.{Event}
use Rattle.object_machine.specs.declared.events.Outcome.{Outcome}
use Rattle.object_machine.specs.declared.events.Outcome.TheVariants.{GoesOn, Exited, Trapped, AddressFault}
use Rattle.object_machine.specs.declared.machine.Source.{Source}
use Rattle.object_machine.specs.Program.{Program}
use Rattle.object_machine.specs.State.{SourceState}
use Rattle.object_machine.specs.Step.{Performs}
use Rattle.object_machine.specs.Machine.{state_of, IsProgram}
use Rattle.profile_runner.specs.Transition.{Transition, is_going}
use Rattle.profile_runner.specs.Standing.{region_of}
use Rattle.profile_runner.specs.Tallies.{IsBlockAt, IsNext, units_now}
use Rattle.profile_runner.specs.Running.{IsMachineOf, IsComing, WhileGoing, IsSoFar, IsCounted}
use Rattle.profile_runner.specs.Taking.{KnowsBlocks}
use Rattle.profile_runner.specs.declared.tally.Tally.{Tally}
use Rattle.profile_runner.proofs.TransitionLemmas.{one_longer}
use Rattle.profile_runner.proofs.TallyLemmas.{IsOneMore, tally_more}
use Rattle.object_machine.proofs.LeadLemmas.{performs_lead}
use Rattle.profile_runner.proofs.RunLemmas.{step_transition, performed, same_outcome, transitions_more}

-- ---- what is known while the machine goes on

pub while_going : (o : Outcome) (P : Type 0) → (o ≡ GoesOn → P) → WhileGoing o P
while_going GoesOn P holds = holds refl
while_going (Exited code) P holds = tt
while_going (Trapped pc) P holds = tt
while_going (AddressFault pc why) P holds = tt

pub going_is : (o : Outcome) (P : Type 0) → o ≡ GoesOn → WhileGoing o P → P
going_is GoesOn P going holds = holds
going_is (Exited code) P going holds = cc
going_is (Trapped pc) P going holds = cc
going_is (AddressFault pc why) P going holds = cc

pub going_by : (o : Outcome) → is_going o ≡ true → o ≡ GoesOn
going_by GoesOn test = refl
going_by (Exited code) test = cc
going_by (Trapped pc) test = cc
going_by (AddressFault pc why) test = cc

-- ---- the blocks of the program

pub knows : (starts : List ℕ) (m : Source) (p : Program) → IsMachineOf starts m → IsProgram p m → KnowsBlocks starts p
knows starts m p of is =
    let same = λ (a : ℕ). is.blocks a ∙ sym (of.is.blocks a) in
    record {
      blocks = λ a. same a ∙ of.blocks a;
      reached = λ a reached. same a ∙ of.reached a (of.is.reached a ∙ (sym (is.reached a) ∙ reached));
    }

pub fits_at : (regions : List ℕ) (last k : ℕ) → All (λ r. r ≤ last) regions → region_of regions k ≤ last
fits_at [] last k all = omega arith
fits_at (r ∷ regions) last zero all = all 0 0 (omega arith)
fits_at (r ∷ regions) last (suc k) all = fits_at regions last k (λ j d below. all (suc j) d (omega (arith, below)))

-- ---- one more

units_behind : (coming : Option ℕ) (old new pc next : ℕ) → new ≡ units_now coming old → (coming ≡ None → 4 * old ≤ pc) → next ≡ pc + 4 → 4 * new ≤ next
units_behind None old new pc next is behind steps = let before = behind refl in omega (arith, is, before, steps)
units_behind (Some k) old new pc next is behind steps = omega (arith, is, steps)

no_block : (starts : List ℕ) (pc : ℕ) (next : Option ℕ) → IsBlockAt starts pc next → next ≡ None → has starts pc ≡ true → ⊥
no_block starts pc None at is begins = cc
no_block starts pc (Some k) at is begins = cc

next_comes : (starts : List ℕ) (p : Program) (s u : SourceState) (e : Event) (read : Option Instr) (ms : List Transition) (old new : Tally) (coming next : Option ℕ) → KnowsBlocks starts p → Performs p s e u read → u.outcome ≡ GoesOn → IsNext starts (is_going e.outcome) u.pc next → new.units ≡ units_now coming old.units → (coming ≡ None → 4 * old.units ≤ s.pc) → (length ms ≡ 0 → ⊥) → IsComing starts u.pc ms new next
next_comes starts p s u e read ms old new coming next knows performs on next_is units behind longer =
    let outcome : e.outcome ≡ GoesOn = same_outcome p s u e read performs ∙ on in
    let at : IsBlockAt starts u.pc next = subst (λ (o : Outcome). IsNext starts (is_going o) u.pc next) outcome next_is in
    record {
      at = at;
      first = λ none. absurd (longer none);
      behind = λ none.
          elim (performs_lead p s u e read knows.reached performs on) [
            | inl steps ↦ units_behind coming old.units new.units s.pc u.pc units behind steps
            | inr block ↦ absurd (no_block starts u.pc next at none (sym (knows.blocks u.pc) ∙ block))
          ];
    }

pub so_far_more : (starts regions : List ℕ) (last size : ℕ) (p : Program) (s : SourceState) (i : ℕ) (m n : Source) (old new : Tally) (coming next : Option ℕ) → KnowsBlocks starts p → ((k : ℕ) → region_of regions k ≤ last) → (state_of p m).outcome ≡ GoesOn → IsSoFar starts regions last size p s i m old coming → IsCounted starts regions p m n coming next old new → IsSoFar starts regions last size p s (suc i) n new next
so_far_more starts regions last size p s i m n old new coming next knows fit going far counted =
    let (read, performs) = performed (state_of p m).outcome p (state_of p m) (state_of p n) counted.event going counted.step in
    let transition = step_transition (state_of p m) counted.event (state_of p n) in
    let now = going_is (state_of p m).outcome (IsComing starts (state_of p m).pc far.transitions old coming) going far.next in
    let one : IsOneMore starts regions last far.transitions transition coming next =
    record { begun_is = now.at; next_is = counted.next_is; first_begins = now.first; regions_fit = fit } in
    let longer = one_longer far.transitions transition in
    record {
      is = counted.is;
      transitions = far.transitions ++ transition ∷ [];
      run = transitions_more p i s (state_of p m) (state_of p n) far.transitions counted.event read far.run going performs;
      few = let few = far.few in omega (arith, longer, few);
      tally = tally_more starts regions last size far.transitions transition coming next old new far.tally counted.counted one;
      next = while_going (state_of p n).outcome _ (λ on.
          next_comes starts p (state_of p m) (state_of p n) counted.event read (far.transitions ++ transition ∷ []) old new coming next knows performs on counted.next_is counted.counted.units_are now.behind (λ none. absurd (omega (arith, none, longer))));
    }

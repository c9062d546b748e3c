-- A run from its first transition to its last.
use Rattle.std.proofs.Common.{◌≡◌, ◌∙◌, ℕ, ◌<◌, ◌≤◌, true, false, List, [], length, Option, Some, None, Ok, Err, refl, sym, subst, arith}
use Rattle.code_blocks.specs.Early.{has}
use Rattle.code_blocks.proofs.LeaderLemmas.{indirect_is_leader}
use Rattle.code_blocks.specs.Numbers.{starts_of}
use Rattle.code_blocks.specs.declared.parts.Code.{Code}
use Rattle.object_graph.specs.declared.parts.Graph.{Graph}
use Rattle.object_machine.specs.declared.events.Outcome.{Outcome}
use Rattle.object_machine.specs.declared.events.Outcome.TheVariants.{GoesOn, Exited, Trapped, AddressFault}
use Rattle.object_machine.specs.declared.machine.Source.{Source}
use Rattle.object_machine.specs.Program.{Program, program_of}
use Rattle.object_machine.specs.State.{SourceState}
use Rattle.object_machine.specs.Machine.{state_of, IsProgram}
use Rattle.object_machine.specs.Runs.{HasEnded}
use Rattle.profile_runner.specs.Transition.{Transition, is_going}
use Rattle.profile_runner.specs.Standing.{region_of}
use Rattle.profile_runner.specs.Counts.{IsProfile}
use Rattle.profile_runner.specs.Tallies.{IsBlockAt}
use Rattle.profile_runner.specs.Transitions.{Transitions}
use Rattle.profile_runner.specs.Tally.{HasRoom, IsNew, IsTally}
use Rattle.profile_runner.specs.Running.{HasStarted, fault_of, ReportsOfRun, IsMachineOf, IsComing, IsSoFar, IsAll}
use Rattle.profile_runner.specs.declared.counts.Profile.{Profile}
use Rattle.profile_runner.specs.declared.fault.ProfileFault.{ProfileFault}
use Rattle.profile_runner.specs.declared.fault.ProfileFault.TheVariants.{AddressFault as FaultAt, Memory}
use Rattle.profile_runner.specs.declared.tally.Tally.{Tally}
use Rattle.profile_runner.proofs.FillLemmas.{nothing_is}
use Rattle.profile_runner.proofs.RoomLemmas.{room}
use Rattle.profile_runner.proofs.RunLemmas.{transitions_to_end, some_transitions}
use Rattle.profile_runner.proofs.StepLemmas.{while_going, going_is}

-- ---- before the first transition

pub machine_of : (g : Graph) (c : Code) (m : Source) → HasStarted g c m → IsMachineOf (starts_of c) m
machine_of g c m (v, (board, at)) =
    record {
      some = program_of v board g;
      is = at.program;
      ascending = at.code.ascending;
      blocks = λ a. sym (at.code.leaders a);
      reached = λ a reached. indirect_is_leader v a reached;
    }

pub begins_at : (g : Graph) (c : Code) (m : Source) (pc : ℕ) → HasStarted g c m → ((p : Program) → pc ≡ (state_of p m).pc) → has (starts_of c) pc ≡ true
begins_at g c m pc (v, (board, at)) is =
    rw (is (program_of v board g)) (at.code.leaders (state_of (program_of v board g) m).pc ∙ at.begins)

pub goes_at_first : (g : Graph) (c : Code) (m : Source) (p : Program) → HasStarted g c m → (state_of p m).outcome ≡ GoesOn
goes_at_first g c m p (v, (board, at)) = at.going

pub so_far_first : (starts regions : List ℕ) (last size first : ℕ) (p : Program) (m : Source) (t : Tally) → IsProgram p m → IsNew (length starts) size last first t → IsBlockAt starts (state_of p m).pc (Some first) → IsSoFar starts regions last size p (state_of p m) 0 m t (Some first)
so_far_first starts regions last size first p m t is new at =
    record {
      is = is;
      transitions = [];
      run = (refl, refl);
      few = omega arith;
      tally = nothing_is starts regions last size first t new at.2;
      next = while_going (state_of p m).outcome _ (λ on. record { at = at; first = λ none. at.0; behind = λ none. cc });
    }

-- ---- before a transition

pub room_now : (starts regions : List ℕ) (last size : ℕ) (p : Program) (s : SourceState) (i : ℕ) (m : Source) (t : Tally) (coming next : Option ℕ) → IsSoFar starts regions last size p s i m t coming → (state_of p m).outcome ≡ GoesOn → i < 18446744073709551615 → length regions ≡ length starts → ((k : ℕ) → region_of regions k ≤ last) → HasRoom regions coming next t
room_now starts regions last size p s i m t coming next far going few same fit =
    let now = going_is (state_of p m).outcome (IsComing starts (state_of p m).pc far.transitions t coming) going far.next in
    let less = far.few in
    room starts regions last size (state_of p m).pc far.transitions t coming next far.tally (omega (arith, less, few)) same fit now.at

-- ---- behind the last

ended_by : (o : Outcome) → is_going o ≡ false → HasEnded o
ended_by GoesOn test = cc
ended_by (Exited code) test = tt
ended_by (Trapped pc) test = tt
ended_by (AddressFault pc why) test = tt

pub all_taken : (starts regions : List ℕ) (last size : ℕ) (p : Program) (s : SourceState) (i n : ℕ) (m : Source) (t : Tally) (coming : Option ℕ) → IsSoFar starts regions last size p s i m t coming → i ≡ n → IsAll starts regions last size p s (state_of p m) n t
all_taken starts regions last size p s i n m t coming far is =
    record { transitions = far.transitions; run = subst (λ k. Transitions p k s far.transitions (state_of p m)) is far.run; tally = far.tally }

pub all_to_end : (starts regions : List ℕ) (last size : ℕ) (p : Program) (s : SourceState) (i n : ℕ) (m : Source) (t : Tally) (coming : Option ℕ) → IsSoFar starts regions last size p s i m t coming → i ≤ n → is_going (state_of p m).outcome ≡ false → IsAll starts regions last size p s (state_of p m) n t
all_to_end starts regions last size p s i n m t coming far le ended =
    record {
      transitions = far.transitions;
      run = transitions_to_end p i n s (state_of p m) far.transitions le (ended_by (state_of p m).outcome ended) far.run;
      tally = far.tally;
    }

-- ---- what is told

pub not_some : {A : Type 0} (o : Option A) → ((f : A) → o ≡ Some f → ⊥) → o ≡ None
not_some None none = refl
not_some (Some f) none = absurd (none f refl)

fault_is : (starts regions : List ℕ) (last size : ℕ) (p : Program) (n : ℕ) (s t : SourceState) (y : Tally) (f : ProfileFault) → fault_of t.outcome ≡ Some f → IsAll starts regions last size p s t n y → ReportsOfRun starts regions last size p n s t (Err f)
fault_is starts regions last size p n s t y (FaultAt pc why) is all =
    record { fault = is; transitions = all.transitions; run = all.run }
fault_is starts regions last size p n s t y Memory is all = tt

pub tells_fault : (starts regions : List ℕ) (last size : ℕ) (p : Program) (n : ℕ) (s : SourceState) (m : Source) (y : Tally) (f : ProfileFault) (o : Outcome) → o ≡ (state_of p m).outcome → fault_of o ≡ Some f → IsAll starts regions last size p s (state_of p m) n y → ReportsOfRun starts regions last size p n s (state_of p m) (Err f)
tells_fault starts regions last size p n s m y f o same is all =
    fault_is starts regions last size p n s (state_of p m) y f (subst (λ (x : Outcome). fault_of x ≡ Some f) same is) all

pub tells_profile : (starts regions : List ℕ) (last size : ℕ) (p : Program) (n : ℕ) (s : SourceState) (m : Source) (y : Tally) (q : Profile) (o b : Outcome) → o ≡ (state_of p m).outcome → fault_of o ≡ None → b ≡ (state_of p m).outcome → 0 < n → s.outcome ≡ GoesOn → IsAll starts regions last size p s (state_of p m) n y → ((transitions : List Transition) → IsTally starts regions last size transitions y → 0 < length transitions → IsProfile starts regions last size transitions b q) → ReportsOfRun starts regions last size p n s (state_of p m) (Ok q)
tells_profile starts regions last size p n s m y q o b same none is some going all profile =
    record {
      no_fault = subst (λ (x : Outcome). fault_of x ≡ None) same none;
      transitions = all.transitions;
      run = all.run;
      profile = subst (λ (x : Outcome). IsProfile starts regions last size all.transitions x q) is
          (profile all.transitions all.tally (some_transitions p n s (state_of p m) all.transitions some going all.run));
    }

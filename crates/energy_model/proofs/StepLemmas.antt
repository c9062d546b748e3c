-- The steps of the transitions of a run, one by one.
use Rattle.std.proofs.Common.{◌≡◌, ◌∙◌, ℕ, zero, suc, ◌<◌, Bool, true, false, if◌then◌else◌, List, [], ◌∷◌, length, Option, Some, None, refl, sym, ap, subst, arith}
use Rattle.board_config.specs.declared.board.Prices.{Prices}
use Rattle.rv32im.specs.declared.instructions.Instr.{Instr}
use Rattle.rv32im.specs.declared.instructions.Instr.TheVariants.{Lui, Auipc, Jal, Jalr, Branch, Load, Store, OpImm, OpReg, Fence, FenceI, Ecall, Ebreak}
use Rattle.object_machine.specs.declared.events.Access.{Access}
use Rattle.object_machine.specs.declared.events.Outcome.{Outcome}
use Rattle.object_machine.specs.declared.events.Outcome.TheVariants.{GoesOn, Exited, Trapped, AddressFault}
use Rattle.object_machine.specs.Places.{Where, InFixed, InObject, Nowhere}
use Rattle.object_machine.specs.Program.{Program}
use Rattle.object_machine.specs.State.{SourceState}
use Rattle.object_machine.specs.Step.{Reads, next_state, access_in, access_by, access_of, load_place, store_place}
use Rattle.profile_runner.specs.Transition.{Transition, is_going, transition_at}
use Rattle.profile_runner.specs.Transitions.{transition_of, TransitionsFrom, Transitions}
use Rattle.energy_model.specs.Energy.{read_price, write_price, data_price}
use Rattle.energy_model.specs.Priced.{direction_price}

-- ---- where the machine stood at transition `i`

pub record StepAt (p : Program) (ms : List Transition) (i : ℕ) : Type 0 where
  pub state : SourceState
  pub read : Option Instr
  pub meant : Reads (p.word state.pc) read
  pub transition : transition_at ms i ≡ transition_of p state (next_state p state read) read
  pub goes_on : suc i < length ms → (next_state p state read).outcome ≡ GoesOn
  pub next : suc i < length ms → (next_state p state read).pc ≡ (transition_at ms (suc i)).at

abbrev Between : Type 1
Between = SourceState → List Transition → SourceState → Type 0

-- a run that has transitions begins with the first
pub record BeginsAt (s : SourceState) (ms : List Transition) : Type 0 where
  pub going : s.outcome ≡ GoesOn
  pub at : s.pc ≡ (transition_at ms 0).at

nothing_below : (ms : List Transition) (i : ℕ) → ms ≡ [] → i < length ms → ⊥
nothing_below ms i none below = let count = ap (λ (l : List Transition). length l) none in omega (arith, count, below)

first_from : (o : Outcome) (R : Between) (p : Program) (s t : SourceState) (ms : List Transition) → o ≡ s.outcome → TransitionsFrom o R p s ms t → 0 < length ms → BeginsAt s ms
first_from GoesOn R p s t ms is run some =
    let (read, (meant, (others, (same, rest)))) = run in
    record { going = sym is; at = ap (λ (l : List Transition). (transition_at l 0).at) (sym same) }
first_from (Exited code) R p s t ms is run some = absurd (nothing_below ms 0 run.0 some)
first_from (Trapped pc) R p s t ms is run some = absurd (nothing_below ms 0 run.0 some)
first_from (AddressFault pc why) R p s t ms is run some = absurd (nothing_below ms 0 run.0 some)

pub first_transition : (p : Program) (n : ℕ) (s t : SourceState) (ms : List Transition) → Transitions p n s ms t → 0 < length ms → BeginsAt s ms
first_transition p zero s t ms run some = absurd (nothing_below ms 0 run.0 some)
first_transition p (suc n) s t ms run some = first_from s.outcome (Transitions p n) p s t ms refl run some

at_first : (p : Program) (s : SourceState) (read : Option Instr) (others : List Transition) → Reads (p.word s.pc) read → (0 < length others → BeginsAt (next_state p s read) others) → StepAt p (transition_of p s (next_state p s read) read ∷ others) 0
at_first p s read others meant first =
    record {
      state = s;
      read = read;
      meant = meant;
      transition = refl;
      goes_on = λ more. (first (omega (arith, more))).going;
      next = λ more. (first (omega (arith, more))).at;
    }

one_behind : (p : Program) (m : Transition) (others : List Transition) (i : ℕ) → StepAt p others i → StepAt p (m ∷ others) (suc i)
one_behind p m others i step =
    record {
      state = step.state;
      read = step.read;
      meant = step.meant;
      transition = step.transition;
      goes_on = λ more. step.goes_on (omega (arith, more));
      next = λ more. step.next (omega (arith, more));
    }

step_from : (o : Outcome) (R : Between) (p : Program) (s t : SourceState) (ms : List Transition) (i : ℕ) → ((u : SourceState) (others : List Transition) (j : ℕ) → R u others t → j < length others → StepAt p others j) → ((u : SourceState) (others : List Transition) → R u others t → 0 < length others → BeginsAt u others) → TransitionsFrom o R p s ms t → i < length ms → StepAt p ms i
step_from GoesOn R p s t ms zero all first run below =
    let (read, (meant, (others, (same, rest)))) = run in
    subst (λ (l : List Transition). StepAt p l 0) (sym same) (at_first p s read others meant (first (next_state p s read) others rest))
step_from GoesOn R p s t ms (suc i) all first run below =
    let (read, (meant, (others, (same, rest)))) = run in
    let count = ap (λ (l : List Transition). length l) same in
    subst (λ (l : List Transition). StepAt p l (suc i)) (sym same)
    (one_behind p (transition_of p s (next_state p s read) read) others i (all (next_state p s read) others i rest (omega (arith, count, below))))
step_from (Exited code) R p s t ms i all first run below = absurd (nothing_below ms i run.0 below)
step_from (Trapped pc) R p s t ms i all first run below = absurd (nothing_below ms i run.0 below)
step_from (AddressFault pc why) R p s t ms i all first run below = absurd (nothing_below ms i run.0 below)

pub step_at : (p : Program) (n : ℕ) (s t : SourceState) (ms : List Transition) (i : ℕ) → Transitions p n s ms t → i < length ms → StepAt p ms i
step_at p zero s t ms i run below = absurd (nothing_below ms i run.0 below)
step_at p (suc n) s t ms i run below =
    step_from s.outcome (Transitions p n) p s t ms i (λ u others j rest inside. step_at p n u t others j rest inside)
    (λ u others rest some. first_transition p n u t others rest some) run below

-- ---- the end of a run: where the last transition goes on, so does the machine

pub record EndsAt (ms : List Transition) (t : SourceState) : Type 0 where
  pub goes_on : (i : ℕ) → length ms ≡ suc i → (transition_at ms i).goes_on ≡ is_going t.outcome

no_end : (ms : List Transition) (t : SourceState) → ms ≡ [] → EndsAt ms t
no_end ms t none = record { goes_on = λ i is. let count = ap (λ (l : List Transition). length l) none in absurd (omega (arith, count, is)) }

end_of_list : (p : Program) (n : ℕ) (u t : SourceState) (m : Transition) (others : List Transition) → m.goes_on ≡ is_going u.outcome → Transitions p n u others t → EndsAt others t → (others ≡ [] → t ≡ u) → EndsAt (m ∷ others) t
end_of_list p n u t m [] here run later none =
    let same = none refl in
    record { goes_on = λ i is. goes i is (subst (λ (x : SourceState). m.goes_on ≡ is_going x.outcome) (sym same) here) }
  where
    goes : (i : ℕ) → 1 ≡ suc i → m.goes_on ≡ is_going t.outcome → (transition_at (m ∷ []) i).goes_on ≡ is_going t.outcome
    goes zero is known = known
    goes (suc i) is known = absurd (omega (arith, is))
end_of_list p n u t m (x ∷ others) here run later none =
    record { goes_on = goes }
  where
    goes : (i : ℕ) → length (m ∷ x ∷ others) ≡ suc i → (transition_at (m ∷ x ∷ others) i).goes_on ≡ is_going t.outcome
    goes zero is = absurd (omega (arith, is))
    goes (suc i) is = later.goes_on i (omega (arith, is))

empty_from : (o : Outcome) (R : Between) (p : Program) (s t : SourceState) (ms : List Transition) → ms ≡ [] → TransitionsFrom o R p s ms t → t ≡ s
empty_from GoesOn R p s t ms none run =
    let (read, (meant, (others, (same, rest)))) = run in
    let count = ap (λ (l : List Transition). length l) (sym none ∙ same) in
    absurd (omega (arith, count))
empty_from (Exited code) R p s t ms none run = run.1
empty_from (Trapped pc) R p s t ms none run = run.1
empty_from (AddressFault pc why) R p s t ms none run = run.1

empty_run : (p : Program) (n : ℕ) (s t : SourceState) (ms : List Transition) → ms ≡ [] → Transitions p n s ms t → t ≡ s
empty_run p zero s t ms none run = run.1
empty_run p (suc n) s t ms none run = empty_from s.outcome (Transitions p n) p s t ms none run

end_from : (o : Outcome) (p : Program) (n : ℕ) (s t : SourceState) (ms : List Transition) → ((u : SourceState) (others : List Transition) → Transitions p n u others t → EndsAt others t) → TransitionsFrom o (Transitions p n) p s ms t → EndsAt ms t
end_from GoesOn p n s t ms all run =
    let (read, (meant, (others, (same, rest)))) = run in
    let u = next_state p s read in
    subst (λ (l : List Transition). EndsAt l t) (sym same)
    (end_of_list p n u t (transition_of p s u read) others refl rest (all u others rest) (λ none. empty_run p n u t others none rest))
end_from (Exited code) p n s t ms all run = no_end ms t run.0
end_from (Trapped pc) p n s t ms all run = no_end ms t run.0
end_from (AddressFault pc why) p n s t ms all run = no_end ms t run.0

pub end_of_run : (p : Program) (n : ℕ) (s t : SourceState) (ms : List Transition) → Transitions p n s ms t → EndsAt ms t
end_of_run p zero s t ms run = no_end ms t run.0
end_of_run p (suc n) s t ms run = end_from s.outcome p n s t ms (λ u others rest. end_of_run p n u t others rest) run

-- ---- the access of a step is that of its instruction, a load or a store

abbrev pub IsAccessOf : Option Access → Bool → Option Instr → Type 0
IsAccessOf None goes_on read = Unit {0}
IsAccessOf (Some a) goes_on read =
    (goes_on ≡ true) × ((prices : Prices) (fast : Bool) → data_price prices fast read ≡ direction_price prices fast a.write)

in_load : (w : Where) (read : Option Instr) → ((prices : Prices) (fast : Bool) → data_price prices fast read ≡ read_price fast prices) → IsAccessOf (access_in w false) true read
in_load (InFixed a) read is = tt
in_load (InObject o d) read is = (refl, is)
in_load (Nowhere why) read is = tt

in_store : (w : Where) (read : Option Instr) → ((prices : Prices) (fast : Bool) → data_price prices fast read ≡ write_price fast prices) → IsAccessOf (access_in w true) true read
in_store (InFixed a) read is = tt
in_store (InObject o d) read is = (refl, is)
in_store (Nowhere why) read is = tt

access_going : (p : Program) (s : SourceState) (read : Option Instr) → IsAccessOf (access_by p s read) true read
access_going p s None = tt
access_going p s (Some (Lui rd imm)) = tt
access_going p s (Some (Auipc rd imm)) = tt
access_going p s (Some (Jal rd off)) = tt
access_going p s (Some (Jalr rd rs1 imm)) = tt
access_going p s (Some (Branch kind rs1 rs2 off)) = tt
access_going p s (Some (Load kind rd rs1 imm)) =
    in_load (load_place p s kind rs1 imm (p.site s.pc)) (Some (Load kind rd rs1 imm)) (λ prices fast. refl)
access_going p s (Some (Store kind rs1 rs2 imm)) =
    in_store (store_place p s kind rs1 imm (p.site s.pc)) (Some (Store kind rs1 rs2 imm)) (λ prices fast. refl)
access_going p s (Some (OpImm kind rd rs1 imm)) = tt
access_going p s (Some (OpReg kind rd rs1 rs2)) = tt
access_going p s (Some (Fence bits)) = tt
access_going p s (Some (FenceI bits)) = tt
access_going p s (Some Ecall) = tt
access_going p s (Some Ebreak) = tt

access_or : (b : Bool) (access : Option Access) (read : Option Instr) → IsAccessOf access true read → IsAccessOf (if b then None else access) true read
access_or true access read is = tt
access_or false access read is = is

pub access_is : (o : Outcome) (p : Program) (s : SourceState) (read : Option Instr) → IsAccessOf (access_of p s o read) (is_going o) read
access_is GoesOn p s read = access_or (p.is_pair s.pc) (access_by p s read) read (access_going p s read)
access_is (Exited code) p s read = tt
access_is (Trapped pc) p s read = tt
access_is (AddressFault pc why) p s read = tt

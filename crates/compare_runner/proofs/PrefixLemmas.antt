-- Which address control has behind a part of some steps: that of the next word. So it comes first to a form where no word before
-- it is fetched at one.
use Rattle.std.proofs.Common.{◌≡◌, ◌⊎◌, ℕ, ◌<◌, ◌≤◌, Bool, true, false, List, [], ◌∷◌, ◌++◌, length, Option, refl, sym, ◌∙◌, ap, subst, arith}
use Rattle.std.specs.Prelude.{Contains}
use Rattle.std.proofs.lemmas.List.{append-nil}
use Rattle.std.specs.Bool.{MatchBool}
use Rattle.rv32im.specs.Table.{OneInstruction}
use Rattle.rv32im.specs.declared.instructions.Instr.{Instr}
use Rattle.board_config.specs.declared.board.Board.{Board}
use Rattle.flat_machine.specs.Mapping.{can_access}
use Rattle.flat_machine.specs.State.{State, trap}
use Rattle.flat_machine.specs.Step.{Performs, ReadsNothing, StepAt, Step}
use Rattle.flat_machine.specs.Runs.{Does}
use Rattle.flat_machine.specs.declared.events.FlatEvent.{FlatEvent}
use Rattle.flat_machine.specs.declared.events.FlatOutcome.{FlatOutcome}
use Rattle.flat_machine.specs.declared.events.FlatOutcome.TheVariants.{GoesOn, Exited, Trapped}
use Rattle.flat_machine.proofs.Runs.{one_event, one_state}
use Rattle.relink_core.specs.declared.unit_forms.UnitAt.{UnitAt}
use Rattle.compare_runner.specs.Comings.{StopsFirst, EndsInPatch, IsAtForm}

-- ---- a step tells where it began

performed : (s t : State) (e : FlatEvent) (read : Option Instr) → Performs s e t read → e.at ≡ s.hart.pc
performed s t e read p = ap (λ (x : FlatEvent). x.at) p.event

nothing_read : (s t next : State) (e : FlatEvent) → ReadsNothing s e t next → e.at ≡ s.hart.pc
nothing_read s t next e r = ap (λ (x : FlatEvent). x.at) r.event

fetched : (fetches : Bool) (s t : State) (e : FlatEvent) → MatchBool fetches ((read : Option Instr) × Performs s e t read) (ReadsNothing s e t (trap s)) → e.at ≡ s.hart.pc
fetched true s t e q = performed s t e q.0 q.1
fetched false s t e q = nothing_read s t (trap s) e q

told_at : (o : FlatOutcome) (s t : State) (e : FlatEvent) → StepAt o s e t → e.at ≡ s.hart.pc
told_at GoesOn s t e q = fetched (can_access s.map s.hart.pc 4) s t e q
told_at (Exited code) s t e q = nothing_read s t s e q
told_at (Trapped pc) s t e q = nothing_read s t s e q

pub told_place : (s t : State) (e : FlatEvent) → Step s e t → e.at ≡ s.hart.pc
told_place s t e q = told_at s.outcome s t e q

-- ---- fewer steps from the same state

-- are the first of more
pub record IsPrefix (es fs : List FlatEvent) (m t : State) : Type 0 where
  pub rest : List FlatEvent
  pub whole : es ≡ fs ++ rest
  pub does : Does rest m t

pub is_prefix : OneInstruction → (es fs : List FlatEvent) (s t m : State) → Does es s t → length fs ≤ length es → Does fs s m → IsPrefix es fs m t
is_prefix one es [] s t m does few part = record { rest = es; whole = refl; does = subst (λ (x : State). Does es x t) (sym part) does }
is_prefix one [] (f ∷ fs) s t m does few part = absurd (omega (arith, few))
is_prefix one (e ∷ es) (f ∷ fs) s t m does few part =
    let event : e ≡ f = one_event one s does.0 part.0 e f does.1.0 part.1.0 in
    let state : does.0 ≡ part.0 = one_state one s does.0 part.0 e f does.1.0 part.1.0 in
    let tail = is_prefix one es fs part.0 t m (subst (λ (x : State). Does es x t) state does.1.1) (omega (arith, few)) part.1.1 in
    record {
      rest = tail.rest;
      whole = ap (λ (x : FlatEvent). x ∷ es) event ∙ ap (λ (xs : List FlatEvent). f ∷ xs) tail.whole;
      does = tail.does;
    }

-- ---- the first form

-- of the words behind the first none is fetched at a form of the unit that stands there
abbrev pub AreOffForms : List UnitAt → Board → (from to home : ℕ) → List FlatEvent → Type 0
AreOffForms units board from to home es =
    (fs rest : List FlatEvent) (e : FlatEvent) (x : UnitAt) → es ≡ fs ++ e ∷ rest → 0 < length fs → Contains units x → x.home ≡ home
    → x.at ≡ e.at → (x.region ≡ 0) ⊎ ((x.region ≡ to) × ((from ≡ to) ⊎ EndsInPatch board fs)) → ⊥

module _ (one : OneInstruction) (units : List UnitAt) (board : Board) (from to home : ℕ) (es : List FlatEvent) (s t : State) (does : Does es s t) (off : AreOffForms units board from to home es) where
  not_whole : (fs : List FlatEvent) (m : State) → length fs < length es → 0 < length fs → IsAtForm units board from to home fs m → (rest : List FlatEvent) → es ≡ fs ++ rest → Does rest m t → ⊥
  not_whole fs m less some at [] whole left =
      let same : length es ≡ length fs = ap length (whole ∙ append-nil fs) in omega (arith, less, same)
  not_whole fs m less some at (e ∷ rest) whole left =
      off fs rest e at.form whole some at.listed at.home_is (at.at ∙ sym (told_place m left.0 e left.1.0)) at.stands

  pub first_form : 0 < length es → IsAtForm units board from to home es t → StopsFirst (λ gs u. (0 < length gs) × IsAtForm units board from to home gs u) s es t
  first_form some at =
      record {
        does = does;
        stops = (some, at);
        first = λ fs m less part stops.
            let prefix = is_prefix one es fs s t m does (omega (arith, less)) part in
            not_whole fs m less stops.0 stops.1 prefix.rest prefix.whole prefix.does;
      }

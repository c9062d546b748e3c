-- Runs write at the end of the output, and take nothing back.
use Rattle.std.proofs.Common.{◌≡◌, ℕ, zero, suc, List, [], ◌++◌, append_assoc, refl, sym, ◌∙◌, ap, if◌then◌else◌, ◌==◌}
use Rattle.std.specs.Prelude.{Bool, true, false, Option, Some, None}
use Rattle.std.specs.Bool.{MatchBool}
use Rattle.std.proofs.lemmas.List.{append-nil}
use Rattle.rv32im.specs.Memory.{bytes_at}
use Rattle.rv32im.specs.declared.instructions.Instr.{Instr}
use Rattle.rv32im.specs.declared.instructions.Instr.TheVariants.{Ecall, Ebreak}
use Rattle.rv32im.specs.Acts.{acts, access_of}
use Rattle.flat_machine.specs.declared.events.FlatOutcome.{FlatOutcome}
use Rattle.flat_machine.specs.declared.events.FlatOutcome.TheVariants.{GoesOn, Exited, Trapped}
use Rattle.flat_machine.specs.declared.events.FlatEvent.{FlatEvent}
use Rattle.flat_machine.specs.Mapping.{can_access, can_move}
use Rattle.flat_machine.specs.State.{State, trap}
use Rattle.flat_machine.specs.Calls.{a1, a2, a7, answered, exited, written, read_count, with_read_bytes, read, call}
use Rattle.flat_machine.specs.Step.{may_access, performed, next_state, Performs, ReadsNothing, StepAt}
use Rattle.flat_machine.specs.Runs.{Steps}

-- what a state has written begins with what another has
Extends : State → State → Type 0
Extends s t = (more : List ℕ) × (t.output ≡ s.output ++ more)

stays : (s t : State) → t.output ≡ s.output → Extends s t
unfolding Extends
stays s t e = ([], e ∙ sym (append-nil s.output))

either : (test : Bool) (s t u : State) → Extends s t → Extends s u → Extends s (if test then t else u)
either true s t u a b = a
either false s t u a b = b

written_extends : (s : State) → Extends s (written s)
unfolding Extends
written_extends s =
    either (can_move s.map (a1 s) (a2 s)) s (record (answered s (a2 s)) { output = s.output ++ bytes_at s.hart.mem (a1 s) (a2 s) }) (trap s)
    (bytes_at s.hart.mem (a1 s) (a2 s), refl) (stays s (trap s) refl)

read_extends : (s : State) → Extends s (read s)
read_extends s =
    either (can_move s.map (a1 s) (read_count s)) s (answered (with_read_bytes s) (read_count s)) (trap s)
    (stays s (answered (with_read_bytes s) (read_count s)) refl) (stays s (trap s) refl)

call_extends : (s : State) → Extends s (call s)
call_extends s =
    either (a7 s == 93) s (exited s) _ (stays s (exited s) refl)
    (either (a7 s == 64) s (written s) _ (written_extends s)
    (either (a7 s == 63) s (read s) (answered s 4294967258) (read_extends s) (stays s (answered s 4294967258) refl)))

performed_extends : (s : State) (i : Instr) → Extends s (performed s i)
performed_extends s Ecall = call_extends s
performed_extends s Ebreak = stays s (trap s) refl
performed_extends s i =
    either (may_access s (access_of i s.hart.regs)) s (record s { hart = acts i s.hart }) (trap s)
    (stays s (record s { hart = acts i s.hart }) refl) (stays s (trap s) refl)

next_extends : (s : State) (i : Option Instr) → Extends s (next_state s i)
next_extends s None = stays s (trap s) refl
next_extends s (Some i) = performed_extends s i

-- along an equation
to : (s t u : State) → t ≡ u → Extends s u → Extends s t
unfolding Extends
to s t u e x = (x.0, ap (λ (w : State). w.output) e ∙ x.1)

going_extends : (fetches : Bool) (s t : State) (e : FlatEvent) → MatchBool fetches ((read : Option Instr) × Performs s e t read) (ReadsNothing s e t (trap s)) → Extends s t
going_extends true s t e q = to s t (next_state s q.0) q.1.state (next_extends s q.0)
going_extends false s t e q = to s t (trap s) q.state (stays s (trap s) refl)

step_extends : (o : FlatOutcome) (s t : State) (e : FlatEvent) → StepAt o s e t → Extends s t
step_extends GoesOn s t e q = going_extends (can_access s.map s.hart.pc 4) s t e q
step_extends (Exited code) s t e q = to s t s q.state (stays s s refl)
step_extends (Trapped pc) s t e q = to s t s q.state (stays s s refl)

pub steps_extend : (n : ℕ) (s t : State) → Steps n s t → (more : List ℕ) × (t.output ≡ s.output ++ more)
unfolding Extends
steps_extend zero s t r = to s t s r (stays s s refl)
steps_extend (suc n) s t r =
    let first = step_extends s.outcome s r.0 r.1.0.0 r.1.0.1 in
    let rest = steps_extend n r.0 t r.1.1 in
    (first.0 ++ rest.0, rest.1 ∙ (ap (λ (out : List ℕ). out ++ rest.0) first.1 ∙ append_assoc s.output first.0 rest.0))

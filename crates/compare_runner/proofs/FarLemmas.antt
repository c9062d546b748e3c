-- What the code sees of a result: what a step tells, and whether it is run far enough.
use Rattle.std.proofs.Common.{◌≡◌, ℕ, ◌+◌, ◌*◌, Bool, true, false, List, Option, length, refl, sym, ap, subst, inl}
use Rattle.std.specs.Bool.{MatchBool}
use Rattle.rv32im.specs.declared.instructions.Instr.{Instr}
use Rattle.flat_machine.specs.Mapping.{can_access}
use Rattle.flat_machine.specs.State.{State, trap}
use Rattle.flat_machine.specs.Step.{Performs, ReadsNothing, StepAt, Step}
use Rattle.flat_machine.specs.declared.events.FlatEvent.{FlatEvent}
use Rattle.flat_machine.specs.declared.events.FlatOutcome.{FlatOutcome}
use Rattle.flat_machine.specs.declared.events.FlatOutcome.TheVariants.{GoesOn, Exited, Trapped}
use Rattle.flat_machine.specs.Runs as flat_runs
use Rattle.board_config.specs.declared.board.Board.{Board}
use Rattle.object_machine.specs.declared.events.Outcome.{Outcome}
use Rattle.object_machine.specs.declared.events.Outcome.TheVariants as source
use Rattle.object_machine.specs.Program.{Program}
use Rattle.object_machine.specs.State.{SourceState}
use Rattle.result_laws.specs.ResultLaws.{most_steps}
use Rattle.compare_runner.specs.declared.comparing.Comparison.{Comparison}
use Rattle.compare_runner.specs.Comparing.{RunsUntil, SourceEnds, IsEnough, IsFar, Judges, Reports, JudgesRun}

-- ---- a step tells the outcome that it leads to

performed : (s t : State) (e : FlatEvent) (read : Option Instr) → Performs s e t read → e.outcome ≡ t.outcome
performed s t e read p = ap (λ (x : FlatEvent). x.outcome) p.event

nothing_read : (s t next : State) (e : FlatEvent) → ReadsNothing s e t next → e.outcome ≡ t.outcome
nothing_read s t next e r = ap (λ (x : FlatEvent). x.outcome) r.event

fetched : (fetches : Bool) (s t : State) (e : FlatEvent) → MatchBool fetches ((read : Option Instr) × Performs s e t read) (ReadsNothing s e t (trap s)) → e.outcome ≡ t.outcome
fetched true s t e q = performed s t e q.0 q.1
fetched false s t e q = nothing_read s t (trap s) e q

told_at : (o : FlatOutcome) (s t : State) (e : FlatEvent) → StepAt o s e t → e.outcome ≡ t.outcome
told_at GoesOn s t e q = fetched (can_access s.map s.hart.pc 4) s t e q
told_at (Exited code) s t e q = nothing_read s t s e q
told_at (Trapped pc) s t e q = nothing_read s t s e q

pub told_outcome : (s t : State) (e : FlatEvent) → Step s e t → e.outcome ≡ t.outcome
told_outcome s t e q = told_at s.outcome s t e q

-- ---- far enough

pub not_far : (o : Outcome) (written n : ℕ) (other : FlatOutcome) (t : State) → other ≡ t.outcome → n ≡ length t.output → (IsEnough o written other n → ⊥) → IsFar o written t → ⊥
not_far o written n other t outcome bytes short far =
    short (subst (λ (k : ℕ). IsEnough o written other k) (sym bytes) (subst (λ (x : FlatOutcome). IsEnough o written x (length t.output)) (sym outcome) far))

-- a result that is not run far enough goes on
pub goes_on : (o : Outcome) (written n : ℕ) (other : FlatOutcome) → (IsEnough o written other n → ⊥) → other ≡ GoesOn
goes_on o written n GoesOn short = refl
goes_on o written n (Exited code) short = absurd (short (inl tt))
goes_on o written n (Trapped pc) short = absurd (short (inl tt))

-- ---- the program

-- a run from a state that is the start
pub started : (p : Program) (n : ℕ) (x start : SourceState) (taken : ℕ) (end : SourceState) → x ≡ start → SourceEnds p n x taken end → SourceEnds p n start taken end
started p n x start taken end is ends = subst (λ (s : SourceState). SourceEnds p n s taken end) is ends

-- ---- what is judged

-- a result that was run beside a program, in the terms of the definition
pub judged_run : (board : Board) (k most m : ℕ) (s : SourceState) (start begin end : State) (o : Outcome) (xs ys : List ℕ) (other : FlatOutcome) (c : Comparison) → o ≡ s.outcome → xs ≡ s.output → most ≡ (k + 1) * most_steps board → begin ≡ start → RunsUntil State flat_runs.Steps (IsFar o (length xs)) most begin m end → other ≡ end.outcome → ys ≡ end.output → Judges o xs other ys c → JudgesRun board k s start c
judged_run board k most m s start begin end o xs ys other c outcome written bound begun run told bytes judges =
    let first : RunsUntil State flat_runs.Steps (IsFar s.outcome (length xs)) most begin m end =
    subst (λ (x : Outcome). RunsUntil State flat_runs.Steps (IsFar x (length xs)) most begin m end) outcome run in
    let second : RunsUntil State flat_runs.Steps (IsFar s.outcome (length s.output)) most begin m end =
    subst (λ (zs : List ℕ). RunsUntil State flat_runs.Steps (IsFar s.outcome (length zs)) most begin m end) written first in
    let third : RunsUntil State flat_runs.Steps (IsFar s.outcome (length s.output)) ((k + 1) * most_steps board) begin m end =
    subst (λ (j : ℕ). RunsUntil State flat_runs.Steps (IsFar s.outcome (length s.output)) j begin m end) bound second in
    let ends = subst (λ (x : State). RunsUntil State flat_runs.Steps (IsFar s.outcome (length s.output)) ((k + 1) * most_steps board) x m end) begun third in
    let here : Judges s.outcome xs other ys c = subst (λ (x : Outcome). Judges x xs other ys c) outcome judges in
    let there : Judges s.outcome s.output other ys c = subst (λ (zs : List ℕ). Judges s.outcome zs other ys c) written here in
    let after : Judges s.outcome s.output end.outcome ys c = subst (λ (x : FlatOutcome). Judges s.outcome s.output x ys c) told there in
    (m, (end, (ends, subst (λ (zs : List ℕ). Judges s.outcome s.output end.outcome zs c) bytes after)))

-- where there is no address fault, what is judged is told
pub judged_told : (o : Outcome) (judges : Comparison → Type 0) (c : Comparison) → ((pc why : ℕ) → o ≡ source.AddressFault pc why → ⊥) → judges c → Reports o judges c
judged_told source.GoesOn judges c no_fault j = j
judged_told (source.Exited code) judges c no_fault j = j
judged_told (source.Trapped pc) judges c no_fault j = j
judged_told (source.AddressFault pc why) judges c no_fault j = absurd (no_fault pc why refl)

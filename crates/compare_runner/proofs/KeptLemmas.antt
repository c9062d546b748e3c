-- A result that keeps the meaning of a program is like it where it is looked at.
use Rattle.std.proofs.Common.{◌≡◌, ℕ, ◌+◌, ◌-◌, ◌*◌, ◌≤◌, ◌⊎◌, inl, inr, List, [], ◌++◌, length, sym, ◌∙◌, ap, subst, arith, length-append}
use Rattle.std.proofs.lemmas.List.{append-nil, nil_from_length}
use Rattle.rv32im.specs.Table.{OneInstruction}
use Rattle.board_config.specs.declared.board.Board.{Board}
use Rattle.flat_machine.specs.State.{State}
use Rattle.flat_machine.specs.Runs as flat_runs
use Rattle.flat_machine.specs.declared.events.FlatOutcome.TheVariants as flat
use Rattle.flat_machine.proofs.Runs as flat_lemmas
use Rattle.flat_machine.proofs.Outputs.{steps_extend}
use Rattle.object_graph.specs.declared.parts.Graph.{Graph}
use Rattle.object_machine.specs.declared.events.Outcome.{Outcome}
use Rattle.object_machine.specs.declared.events.Outcome.TheVariants.{GoesOn, Exited, Trapped, AddressFault}
use Rattle.object_machine.specs.State.{SourceState}
use Rattle.object_machine.specs.Runs.{Steps}
use Rattle.object_machine.specs.Paired.{at_start}
use Rattle.simulation.specs.Laws.{EndsAlike, Keeps}
use Rattle.simulation.proofs.PairedRuns.{paired_first}
use Rattle.result_laws.specs.HomeLaws.{program_in, source_start, file_start}
use Rattle.result_laws.specs.ResultLaws.{most_steps}
use Rattle.result_laws.specs.Walks.{IsNoFault}
use Rattle.compare_runner.specs.declared.comparing.Comparison.{Comparison}
use Rattle.compare_runner.specs.declared.comparing.Comparison.TheVariants.{Differs}
use Rattle.compare_runner.specs.Comparing.{RunsUntil, IsFar, AreAlike, Reports, JudgesRun}
use Rattle.compare_runner.specs.Laws.{ComparesFiles, KeptNeverDiffers, KeptRunsNeverDiffer, GoesOnFor, KeptGoesOn, KeptRunsGoOn}
use Rattle.compare_runner.proofs.SplitRuns.{steps_between, going_before}
use Rattle.compare_runner.proofs.UntilLemmas.{not_past, holds_at}

-- ---- runs and lists

-- nothing was added to a list that is no longer
nothing_more : (xs ys more : List ℕ) → xs ≡ ys ++ more → length xs ≤ length ys → ys ≡ xs
nothing_more xs ys more e short =
    let long = ap length e ∙ length-append ys more in
    let none : more ≡ [] = nil_from_length more (omega (arith, short, long)) in
    sym (e ∙ (ap (λ (zs : List ℕ). ys ++ zs) none ∙ append-nil ys))

-- ---- where the result is looked at

module _ (one : OneInstruction) (most : ℕ) (start t u : State) (m j : ℕ) (within : j ≤ most) (ran : flat_runs.Steps j start u) where
  -- it is run far enough, and no further than to a state in which it is
  reached : (o : Outcome) (n : ℕ) → IsFar o n u → RunsUntil State flat_runs.Steps (IsFar o n) most start m t → IsFar o n t × flat_runs.Steps (j - m) t u
  reached o n far until =
      let past = not_past State flat_runs.Steps (IsFar o n) (flat_lemmas.one_run one) most start m t j u until ran far in (
        holds_at State flat_runs.Steps (IsFar o n) (flat_lemmas.one_run one) most start m t j u until within ran far,
        steps_between m j start t u past until.ran ran,
      )

  -- one that has caught up has written no more than one that wrote the same
  caught_up : (k : ℕ) (xs : List ℕ) → flat_runs.Steps k t u → u.output ≡ xs → flat_runs.HasEnded t.outcome ⊎ (length xs ≤ length t.output) → t.output ≡ xs
  caught_up k xs rest e (inl over) = ap (λ (x : State). x.output) (sym (flat_lemmas.ended_steps k t u over rest)) ∙ e
  caught_up k xs rest e (inr short) =
      let more = steps_extend k t u rest in nothing_more xs t.output more.0 (sym e ∙ more.1) short

  -- one that has ended stays
  stays : (k : ℕ) → flat_runs.Steps k t u → flat_runs.HasEnded t.outcome ⊎ ⊥ → u ≡ t
  stays k rest (inl over) = flat_lemmas.ended_steps k t u over rest
  stays k rest (inr none) = absurd none

  -- where it ends as its program did, it is like that where it is looked at
  pub alike_by : (o : Outcome) (s : SourceState) → IsNoFault o → EndsAlike o s u → RunsUntil State flat_runs.Steps (IsFar o (length s.output)) most start m t → AreAlike o s.output t.outcome t.output
  alike_by GoesOn s no_fault ends until =
      let long = ap length ends.1 in
      let short : length s.output ≤ length u.output = omega (arith, long) in
      let there = reached GoesOn (length s.output) (inr short) until in
      ([], caught_up (j - m) s.output there.1 ends.1 there.0 ∙ sym (append-nil s.output))
  alike_by (Exited code) s no_fault ends until =
      let there = reached (Exited code) (length s.output) (inl (subst flat_runs.HasEnded (sym ends.0) tt)) until in
      subst (λ (x : State). (x.outcome ≡ flat.Exited code) × (x.output ≡ s.output)) (stays (j - m) there.1 there.0) ends
  alike_by (Trapped pc) s no_fault ends until =
      let there = reached (Trapped pc) (length s.output) (inl (subst flat_runs.HasEnded (sym ends.0.1) tt)) until in
      subst (λ (x : State). ((a : ℕ) × (x.outcome ≡ flat.Trapped a)) × (x.output ≡ s.output)) (stays (j - m) there.1 there.0) ends
  alike_by (AddressFault pc why) s no_fault ends until = absurd no_fault

-- ---- the laws

judged_by : (o : Outcome) (judges : Comparison → Type 0) (at : ℕ) → Reports o judges (Differs at) → IsNoFault o × judges (Differs at)
judged_by GoesOn judges at told = (tt, told)
judged_by (Exited code) judges at told = (tt, told)
judged_by (Trapped pc) judges at told = (tt, told)
judged_by (AddressFault pc why) judges at told = absurd (cc)

-- what is kept of each number of steps within `n` is no difference
never_by : OneInstruction → (file out : List ℕ) (board : Board) (g : Graph) (input : List ℕ) (n at : ℕ) → ((k : ℕ) (s : SourceState) → k ≤ n → Steps (program_in file board g) k (source_start file board g input) s → Keeps k ((k + 1) * most_steps board) s (file_start out board input)) → ComparesFiles file out board g input n (Differs at) → ⊥
never_by one file out board g input n at keeps compares =
    let k = compares.0 in
    let s = compares.1.0 in
    let ends = compares.1.1.0 in
    let start = file_start out board input in
    let most = (k + 1) * most_steps board in
    let kept = keeps k s ends.within ends.ran in
    let told = judged_by s.outcome (JudgesRun board k s start) at compares.1.1.1 in
    let run = told.1 in
    run.1.1.1.0 (alike_by one most start run.1.0 kept.1.0 run.0 kept.0 kept.1.1.0.most kept.1.1.1.0 s.outcome s told.0 kept.1.1.1.1 run.1.1.0)

pub never_differs : OneInstruction → KeptNeverDiffers
never_differs one file out board g input n at keeps graph bytes paired compares =
    never_by one file out board g input n at
    (λ k s within ran.
    keeps g input k s graph bytes
    (paired_first one (program_in file board g) n k (source_start file board g input) paired.0 s at_start within paired.1 ran))
    compares

pub runs_never_differ : OneInstruction → KeptRunsNeverDiffer
runs_never_differ one file out board g input n at keeps graph bytes compares =
    never_by one file out board g input n at (λ k s within ran. keeps g input k s graph bytes ran) compares

-- ---- where the program goes on

goes_for : (out : List ℕ) (board : Board) (input : List ℕ) (n bound : ℕ) (s : SourceState) → s.outcome ≡ GoesOn → Keeps n bound s (file_start out board input) → GoesOnFor out board input n
goes_for out board input n bound s going keeps j t few steps =
    let k = keeps.0 in
    let u = keeps.1.0 in
    let long = keeps.1.1.0.least going in
    let ends : EndsAlike GoesOn s u = subst (λ (o : Outcome). EndsAlike o s u) going keeps.1.1.1.1 in
    going_before j k (file_start out board input) t u (omega (arith, few, long)) steps keeps.1.1.1.0 ends.0

pub kept_goes_on : KeptGoesOn
kept_goes_on file out board g input n s keeps graph bytes steps going =
    goes_for out board input n ((n + 1) * most_steps board) s going (keeps g input n s graph bytes steps)

pub kept_runs_go_on : KeptRunsGoOn
kept_runs_go_on file out board g input n s keeps graph bytes steps going =
    goes_for out board input n ((n + 1) * most_steps board) s going (keeps g input n s graph bytes steps)

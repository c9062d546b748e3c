-- There is one comparison.
use Rattle.std.proofs.Common.{◌≡◌, ℕ, ◌+◌, ◌*◌, List, length, sym, ◌∙◌, ap, subst}
use Rattle.rv32im.specs.Table.{OneInstruction}
use Rattle.board_config.specs.declared.board.Board.{Board}
use Rattle.flat_machine.specs.State.{State}
use Rattle.flat_machine.specs.Runs as flat_runs
use Rattle.flat_machine.specs.declared.events.FlatOutcome.{FlatOutcome}
use Rattle.flat_machine.proofs.Runs as flat_lemmas
use Rattle.object_machine.specs.declared.events.Outcome.{Outcome}
use Rattle.object_machine.specs.declared.events.Outcome.TheVariants.{GoesOn, Exited, Trapped, AddressFault}
use Rattle.object_machine.specs.Program.{Program}
use Rattle.object_machine.specs.State.{SourceState}
use Rattle.object_machine.specs.Runs.{Steps}
use Rattle.object_machine.proofs.RunLemmas.{one_run}
use Rattle.result_laws.specs.ResultLaws.{most_steps}
use Rattle.compare_runner.specs.declared.comparing.Comparison.{Comparison}
use Rattle.compare_runner.specs.declared.comparing.Comparison.TheVariants.{Same, Differs, SourceFault}
use Rattle.compare_runner.specs.Comparing.{IsOver, IsFar, Judges, Reports, JudgesRun, Compares}
use Rattle.compare_runner.proofs.UntilLemmas.{until_same}
use Rattle.compare_runner.proofs.DifferenceLemmas.{one_place}

one_judgement : (o : Outcome) (xs : List ℕ) (other : FlatOutcome) (ys : List ℕ) (c d : Comparison) → Judges o xs other ys c → Judges o xs other ys d → c ≡ d
one_judgement o xs other ys (Same told) (Same said) a b = ap Same (a.0 ∙ sym b.0)
one_judgement o xs other ys (Same told) (Differs at) a b = absurd (b.0 a.1)
one_judgement o xs other ys (Differs at) (Same told) a b = absurd (a.0 b.1)
one_judgement o xs other ys (Differs at) (Differs k) a b = ap Differs (one_place xs ys at k a.1 b.1)
one_judgement o xs other ys (SourceFault pc why) d a b = absurd a
one_judgement o xs other ys c (SourceFault pc why) a b = absurd b

one_answer : (o : Outcome) (judges : Comparison → Type 0) → ((c d : Comparison) → judges c → judges d → c ≡ d) → (c d : Comparison) → Reports o judges c → Reports o judges d → c ≡ d
one_answer GoesOn judges one c d a b = one c d a b
one_answer (Exited code) judges one c d a b = one c d a b
one_answer (Trapped pc) judges one c d a b = one c d a b
one_answer (AddressFault pc why) judges one c d a b = a ∙ sym b

one_run_judged : OneInstruction → (board : Board) (k : ℕ) (s : SourceState) (start : State) (c d : Comparison) → JudgesRun board k s start c → JudgesRun board k s start d → c ≡ d
one_run_judged one board k s start c d a b =
    let end = until_same State flat_runs.Steps (IsFar s.outcome (length s.output)) (flat_lemmas.one_run one) ((k + 1) * most_steps board) start a.0 a.1.0 b.0 b.1.0 a.1.1.0 b.1.1.0 in
    one_judgement s.outcome s.output b.1.0.outcome b.1.0.output c d
    (subst (λ (t : State). Judges s.outcome s.output t.outcome t.output c) end.1 a.1.1.1) b.1.1.1

pub one_comparison : OneInstruction → (p : Program) (board : Board) (n : ℕ) (s : SourceState) (t : State) (c d : Comparison) → Compares p board n s t c → Compares p board n s t d → c ≡ d
one_comparison one p board n s t c d a b =
    let end = until_same SourceState (Steps p) IsOver (one_run one p) n s a.0 a.1.0 b.0 b.1.0 a.1.1.0 b.1.1.0 in
    let told : Reports b.1.0.outcome (JudgesRun board a.0 b.1.0 t) c =
    subst (λ (x : SourceState). Reports x.outcome (JudgesRun board a.0 x t) c) end.1 a.1.1.1 in
    let here : Reports b.1.0.outcome (JudgesRun board b.0 b.1.0 t) c =
    subst (λ (k : ℕ). Reports b.1.0.outcome (JudgesRun board k b.1.0 t) c) end.0 told in
    one_answer b.1.0.outcome (JudgesRun board b.0 b.1.0 t) (one_run_judged one board b.0 b.1.0 t) c d here b.1.1.1

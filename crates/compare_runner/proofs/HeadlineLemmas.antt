-- A file and its result show the same, since both do what the program does.
use Rattle.std.proofs.Common.{◌≡◌, inl, inr, ℕ, ◌+◌, ◌*◌, ◌<◌, ◌≤◌, Bool, true, false, List, [], ◌∷◌, ◌++◌, append_assoc, refl, sym, ◌∙◌, ap, subst, arith}
use Rattle.rv32im.proofs.Meaning.{same_instruction}
use Rattle.elf_reader.specs.File.{view_in}
use Rattle.board_config.specs.declared.board.Board.{Board}
use Rattle.flat_machine.specs.State.{State}
use Rattle.flat_machine.specs.Runs as flat_runs
use Rattle.flat_machine.specs.declared.events.FlatOutcome.{FlatOutcome}
use Rattle.flat_machine.proofs.Runs.{one_run}
use Rattle.flat_machine.specs.declared.events.FlatOutcome.TheVariants as flat
use Rattle.object_graph.specs.Graphs.{IsGraph}
use Rattle.object_graph.specs.declared.parts.Graph.{Graph}
use Rattle.object_machine.specs.declared.events.Outcome.{Outcome}
use Rattle.object_machine.specs.declared.events.Outcome.TheVariants.{GoesOn, Exited, Trapped, AddressFault}
use Rattle.object_machine.specs.State.{SourceState}
use Rattle.object_machine.specs.Runs.{HasEnded}
use Rattle.object_machine.specs.Paired.{at_start}
use Rattle.simulation.specs.Laws.{EndsAlike, Keeps}
use Rattle.simulation.proofs.PairedRuns.{is_run}
use Rattle.relocator.specs.declared.items.Item.{Item}
use Rattle.result_laws.specs.HomeLaws.{program_in, source_start, file_start}
use Rattle.result_laws.specs.ResultLaws.{most_steps, KeepsRuns}
use Rattle.result_laws.specs.Walks.{IsNoFault}
use Rattle.result_laws.proofs.Absolute.{absolute_runs_are_paired}
use Rattle.relink_core.specs.Placed.{Taken}
use Rattle.relink_core.specs.Choices.{KeepsFor}
use Rattle.relink_core.specs.Keeps.{KeepsPaired, UnmovedFileKeeps}
use Rattle.compare_runner.specs.declared.comparing.Comparison.TheVariants.{Same}
use Rattle.compare_runner.specs.Comparing.{Judges, Reports, JudgesRun}
use Rattle.compare_runner.specs.Headline.{Exits, Traps, NeverEnds, Writes, ShowsAllOf, IsPairedFaultFree, RunsSafely}
use Rattle.compare_runner.specs.HeadlineLaws.{IsKept, SameEnd, KeptDoesWhatFileDoes, KeptRunsStepByStep, AbsoluteIsPaired, EndedIsFaultFree, ComparedIsFaultFree, WhatIsSeenIsOne}
use Rattle.compare_runner.proofs.SplitRuns.{going_before, first_steps, one_end, grown, ended_is_fine, ended_is_paired}

-- ---- what is seen

exit_ended : (t : State) (code : ℕ) → t.outcome ≡ flat.Exited code → flat_runs.HasEnded t.outcome
exit_ended t code is = subst flat_runs.HasEnded (sym is) tt

trap_ended : (t : State) (pc : ℕ) → t.outcome ≡ flat.Trapped pc → flat_runs.HasEnded t.outcome
trap_ended t pc is = subst flat_runs.HasEnded (sym is) tt

-- what was written begins with what had been written before, and that with some bytes
begins : (whole before text more : List ℕ) → before ≡ text ++ more → (rest : List ℕ) × (whole ≡ before ++ rest) → (rest : List ℕ) × (whole ≡ text ++ rest)
begins whole before text more is behind =
    (more ++ behind.0, behind.1 ∙ (ap (λ (xs : List ℕ). xs ++ behind.0) is ∙ append_assoc text more behind.0))

-- a run that goes on for ever goes on after each number of steps
goes_there : (start t : State) (k : ℕ) → NeverEnds start → flat_runs.Steps k start t → t.outcome ≡ flat.GoesOn
goes_there start t k never ran =
    let there = never k in
    let same : t ≡ there.0 = one_run same_instruction k start t there.0 ran there.1.0 in
    ap (λ (x : State). x.outcome) same ∙ there.1.1

-- an ended run has written all that is ever written
wrote_all : (start t : State) (j : ℕ) (text : List ℕ) → flat_runs.HasEnded t.outcome → flat_runs.Steps j start t → Writes start text → (more : List ℕ) × (t.output ≡ text ++ more)
wrote_all start t j text ended ran (k, (u, (other, (more, is)))) =
    begins t.output u.output text more is (grown k j start u t (λ _. ended) other ran)

pub what_is_seen_is_one : WhatIsSeenIsOne
what_is_seen_is_one =
    record {
      of_exit = λ start code written exits.
          let t = exits.1.0 in
          let ran = exits.1.1.0 in
          let is = exits.1.1.1.0 in
          let ended = exit_ended t code is in
          record {
            code_is = λ other text (k, (u, (steps, (exited, wrote)))).
                let same : u ≡ t = one_end exits.0 k start t u ended (exit_ended u other exited) ran steps in
                let outcome = ap (λ (x : State). x.outcome) same in
                let output = ap (λ (x : State). x.output) same in
                (cc, sym wrote ∙ (output ∙ exits.1.1.1.1));
            no_trap = λ text (k, (u, (steps, ((pc, trapped), wrote)))).
                let same : u ≡ t = one_end exits.0 k start t u ended (trap_ended u pc trapped) ran steps in
                let outcome = ap (λ (x : State). x.outcome) same in
                absurd (cc);
            ends = λ never. let goes = goes_there start t exits.0 never ran in absurd (cc);
            wrote = λ text writes.
                subst (λ (xs : List ℕ). (more : List ℕ) × (xs ≡ text ++ more)) exits.1.1.1.1 (wrote_all start t exits.0 text ended ran writes);
          };
      of_trap = λ start written traps.
          let t = traps.1.0 in
          let ran = traps.1.1.0 in
          let is = traps.1.1.1.0.1 in
          let ended = trap_ended t traps.1.1.1.0.0 is in
          record {
            text_is = λ text (k, (u, (steps, ((pc, trapped), wrote)))).
                let same : u ≡ t = one_end traps.0 k start t u ended (trap_ended u pc trapped) ran steps in
                sym wrote ∙ (ap (λ (x : State). x.output) same ∙ traps.1.1.1.1);
            ends = λ never. let goes = goes_there start t traps.0 never ran in absurd (cc);
            wrote = λ text writes.
                subst (λ (xs : List ℕ). (more : List ℕ) × (xs ≡ text ++ more)) traps.1.1.1.1 (wrote_all start t traps.0 text ended ran writes);
          };
    }

-- ---- two runs that keep one program

-- after each number of steps of a program that meets no fault, both do what it does
abbrev Beside : State → State → Type 0
Beside start other =
    (n : ℕ) → (bound : ℕ) × ((s : SourceState) × (IsNoFault s.outcome × (Keeps n bound s start × Keeps n bound s other)))

-- `k` steps from the one start and `m` from the other lead to states that are like that of the program after `j`
record StandBeside (start other : State) (j : ℕ) (o : Outcome) : Type 0 where
  s : SourceState
  k : ℕ
  t : State
  ran : flat_runs.Steps k start t
  m : ℕ
  u : State
  other_ran : flat_runs.Steps m other u
  fine : IsNoFault o
  least : o ≡ GoesOn → (j ≤ k) × (j ≤ m)
  alike : EndsAlike o s t
  other_alike : EndsAlike o s u

stand_beside : (start other : State) → Beside start other → (j : ℕ) → (o : Outcome) × StandBeside start other j o
stand_beside start other beside j =
    let both = (beside j).1 in
    let kept = both.1.1.0 in
    let other_kept = both.1.1.1 in (
      both.0.outcome,
      record {
        s = both.0;
        k = kept.0;
        t = kept.1.0;
        ran = kept.1.1.1.0;
        m = other_kept.0;
        u = other_kept.1.0;
        other_ran = other_kept.1.1.1.0;
        fine = both.1.0;
        least = λ going. (kept.1.1.0.least going, other_kept.1.1.0.least going);
        alike = kept.1.1.1.1;
        other_alike = other_kept.1.1.1.1;
      },
    )

module _ (start other : State) (j : ℕ) where
  exits_at : (o : Outcome) (code : ℕ) (written : List ℕ) (v : State) → StandBeside start other j o → flat_runs.Steps j start v → v.outcome ≡ flat.Exited code → v.output ≡ written → Exits other code written
  exits_at GoesOn code written v b ran is wrote =
      let goes = going_before j b.k start v b.t (b.least refl).0 ran b.ran b.alike.0 in absurd (cc)
  exits_at (Exited c) code written v b ran is wrote =
      let same : b.t ≡ v = one_end j b.k start v b.t (exit_ended v code is) (exit_ended b.t c b.alike.0) ran b.ran in
      let outcome = ap (λ (x : State). x.outcome) same in
      let output = ap (λ (x : State). x.output) same in
      let alike = b.alike.0 in
      let other_alike = b.other_alike.0 in
      (b.m, (b.u, (b.other_ran, (cc, b.other_alike.1 ∙ (sym b.alike.1 ∙ (output ∙ wrote))))))
  exits_at (Trapped pc) code written v b ran is wrote =
      let same : b.t ≡ v = one_end j b.k start v b.t (exit_ended v code is) (trap_ended b.t b.alike.0.0 b.alike.0.1) ran b.ran in
      let outcome = ap (λ (x : State). x.outcome) same in
      let alike = b.alike.0.1 in
      absurd (cc)
  exits_at (AddressFault pc why) code written v b ran is wrote = absurd b.fine

  traps_at : (o : Outcome) (at : ℕ) (written : List ℕ) (v : State) → StandBeside start other j o → flat_runs.Steps j start v → v.outcome ≡ flat.Trapped at → v.output ≡ written → Traps other written
  traps_at GoesOn at written v b ran is wrote =
      let goes = going_before j b.k start v b.t (b.least refl).0 ran b.ran b.alike.0 in absurd (cc)
  traps_at (Exited c) at written v b ran is wrote =
      let same : b.t ≡ v = one_end j b.k start v b.t (trap_ended v at is) (exit_ended b.t c b.alike.0) ran b.ran in
      let outcome = ap (λ (x : State). x.outcome) same in
      let alike = b.alike.0 in
      absurd (cc)
  traps_at (Trapped pc) at written v b ran is wrote =
      let same : b.t ≡ v = one_end j b.k start v b.t (trap_ended v at is) (trap_ended b.t b.alike.0.0 b.alike.0.1) ran b.ran in
      let output = ap (λ (x : State). x.output) same in
      (b.m, (b.u, (b.other_ran, (b.other_alike.0, b.other_alike.1 ∙ (sym b.alike.1 ∙ (output ∙ wrote))))))
  traps_at (AddressFault pc why) at written v b ran is wrote = absurd b.fine

  goes_at : (o : Outcome) → StandBeside start other j o → NeverEnds start → (v : State) × (flat_runs.Steps j other v × (v.outcome ≡ flat.GoesOn))
  goes_at GoesOn b never =
      let least = (b.least refl).1 in
      let first = first_steps j b.m other b.u least b.other_ran in
      (first.0, (first.1, going_before j b.m other first.0 b.u least first.1 b.other_ran b.other_alike.0))
  goes_at (Exited code) b never =
      let goes = goes_there start b.t b.k never b.ran in let alike = b.alike.0 in absurd (cc)
  goes_at (Trapped pc) b never =
      let goes = goes_there start b.t b.k never b.ran in let alike = b.alike.0.1 in absurd (cc)
  goes_at (AddressFault pc why) b never = absurd b.fine

  -- where it doesn't go on as long, it has ended
  over_at : (o : Outcome) → (b : StandBeside start other j o) → (b.k < j → flat_runs.HasEnded b.t.outcome) × (b.u.output ≡ b.t.output)
  over_at GoesOn b =
      let least = (b.least refl).0 in (λ less. absurd (omega (arith, least, less)), b.other_alike.1 ∙ sym b.alike.1)
  over_at (Exited code) b = (λ _. exit_ended b.t code b.alike.0, b.other_alike.1 ∙ sym b.alike.1)
  over_at (Trapped pc) b = (λ _. trap_ended b.t b.alike.0.0 b.alike.0.1, b.other_alike.1 ∙ sym b.alike.1)
  over_at (AddressFault pc why) b = absurd b.fine

  writes_at : (o : Outcome) (text more : List ℕ) (v : State) → StandBeside start other j o → flat_runs.Steps j start v → v.output ≡ text ++ more → Writes other text
  writes_at o text more v b ran is =
      let over = over_at o b in
      let there = begins b.t.output v.output text more is (grown j b.k start v b.t over.0 ran b.ran) in
      (b.m, (b.u, (b.other_ran, (there.0, over.1 ∙ there.1))))

pub shows_all : (start other : State) → Beside start other → ShowsAllOf start other
shows_all start other beside =
    record {
      exits = λ code written (j, (v, (ran, (is, wrote)))).
          let b = stand_beside start other beside j in exits_at start other j b.0 code written v b.1 ran is wrote;
      traps = λ written (j, (v, (ran, ((at, is), wrote)))).
          let b = stand_beside start other beside j in traps_at start other j b.0 at written v b.1 ran is wrote;
      never_ends = λ never j.
          let b = stand_beside start other beside j in goes_at start other j b.0 b.1 never;
      writes = λ text (j, (v, (ran, (more, is)))).
          let b = stand_beside start other beside j in writes_at start other j b.0 text more v b.1 ran is;
    }

-- ---- a file and its result

pub absolute_is_paired : AbsoluteIsPaired
absolute_is_paired file board g input graph absolute free n =
    let run = free n in
    (run.0, (absolute_runs_are_paired (view_in file) board g input n run.0 graph absolute run.1.0, run.1.1))

safely_paired : (file : List ℕ) (board : Board) (g : Graph) (input : List ℕ) → IsGraph (view_in file) board g → RunsSafely file board g input → IsPairedFaultFree file board g input
safely_paired file board g input graph (inl safe) = absolute_is_paired file board g input graph safe.0 safe.1
safely_paired file board g input graph (inr paired) = paired

runs_paired : (file out : List ℕ) (board : Board) → KeepsRuns file out board → KeepsPaired file out board
runs_paired file out board keeps g input n s graph bytes steps =
    keeps g input n s graph bytes (is_run (program_in file board g) n (source_start file board g input) s at_start steps)

paired_for : (on : Bool) (items : List Item) (file out : List ℕ) (board : Board) → KeepsFor on items file out board → KeepsPaired file out board
paired_for false [] file out board keeps = keeps.0
paired_for false (i ∷ is) file out board keeps = runs_paired file out board keeps
paired_for true items file out board keeps = runs_paired file out board keeps

module _ (unmoved : UnmovedFileKeeps) (taken : Taken) (file out : List ℕ) (board : Board) (kept : IsKept taken file out board) where
  keeps_itself : KeepsPaired file file board
  keeps_itself = unmoved file board kept.bytes kept.lawful kept.no_fault

  result_keeps : KeepsPaired file out board
  result_keeps = paired_for taken.on taken.items file out board kept.keeps

pub kept_does_what_file_does : UnmovedFileKeeps → KeptDoesWhatFileDoes
kept_does_what_file_does unmoved taken file out board kept g input graph bytes safe =
    let free = safely_paired file board g input graph safe in
    let home = keeps_itself unmoved taken file out board kept in
    let result = result_keeps unmoved taken file out board kept in
    let bound : ℕ → ℕ = λ n. (n + 1) * most_steps board in
    let one : Beside (file_start file board input) (file_start out board input) =
    λ n. let run = free n in (bound n, (run.0, (run.1.1, (home g input n run.0 graph bytes run.1.0, result g input n run.0 graph bytes run.1.0)))) in
    let other : Beside (file_start out board input) (file_start file board input) =
    λ n. let run = free n in (bound n, (run.0, (run.1.1, (result g input n run.0 graph bytes run.1.0, home g input n run.0 graph bytes run.1.0)))) in
    record {
      there = shows_all (file_start file board input) (file_start out board input) one;
      back = shows_all (file_start out board input) (file_start file board input) other;
    }

-- ---- step by step

same_end : (o : Outcome) (s : SourceState) (t u : State) → IsNoFault o → EndsAlike o s t → EndsAlike o s u → SameEnd t.outcome u.outcome × (u.output ≡ t.output)
same_end GoesOn s t u fine a b = (subst (λ x. SameEnd x u.outcome) (sym a.0) b.0, b.1 ∙ sym a.1)
same_end (Exited code) s t u fine a b = (subst (λ x. SameEnd x u.outcome) (sym a.0) b.0, b.1 ∙ sym a.1)
same_end (Trapped pc) s t u fine a b = (subst (λ x. SameEnd x u.outcome) (sym a.0.1) b.0, b.1 ∙ sym a.1)
same_end (AddressFault pc why) s t u fine a b = absurd fine

ended_alike : (o : Outcome) (s : SourceState) (t : State) → IsNoFault o → EndsAlike o s t → HasEnded o → flat_runs.HasEnded t.outcome
ended_alike GoesOn s t fine a ended = absurd ended
ended_alike (Exited code) s t fine a ended = exit_ended t code a.0
ended_alike (Trapped pc) s t fine a ended = trap_ended t a.0.0 a.0.1
ended_alike (AddressFault pc why) s t fine a ended = absurd fine

pub kept_runs_step_by_step : UnmovedFileKeeps → KeptRunsStepByStep
kept_runs_step_by_step unmoved taken file out board g input n s kept graph bytes steps fine =
    let one = keeps_itself unmoved taken file out board kept g input n s graph bytes steps in
    let other = result_keeps unmoved taken file out board kept g input n s graph bytes steps in
    let ends = same_end s.outcome s one.1.0 other.1.0 fine one.1.1.1.1 other.1.1.1.1 in
    record {
      count = one.0;
      state = one.1.0;
      steps = one.1.1.1.0;
      other_count = other.0;
      other_state = other.1.0;
      other_steps = other.1.1.1.0;
      within = one.1.1.0.most;
      other_within = other.1.1.0.most;
      output = ends.1;
      end = ends.0;
      goes_on = λ going. (
        (subst (λ (o : Outcome). EndsAlike o s one.1.0) going one.1.1.1.1).0,
        (one.1.1.0.least going, other.1.1.0.least going),
      );
      ended = ended_alike s.outcome s one.1.0 fine one.1.1.1.1;
    }

-- ---- where a program meets no fault

pub ended_is_fault_free : EndedIsFaultFree
ended_is_fault_free file board g input n s steps ended fine =
    let p = program_in file board g in
    let start = source_start file board g input in
    ended_is_paired p n start s at_start steps (is_run p n start s at_start steps) ended fine

-- what is judged to be the same is the program's own outcome
judged_outcome : (o outcome : Outcome) (xs : List ℕ) (other : FlatOutcome) (ys : List ℕ) → Judges o xs other ys (Same outcome) → outcome ≡ o
judged_outcome GoesOn outcome xs other ys j = j.0
judged_outcome (Exited code) outcome xs other ys j = j.0
judged_outcome (Trapped pc) outcome xs other ys j = j.0
judged_outcome (AddressFault pc why) outcome xs other ys j = j.0

judged_fine : (o outcome : Outcome) (board : Board) (k : ℕ) (s : SourceState) (start : State) → s.outcome ≡ o → Reports o (JudgesRun board k s start) (Same outcome) → (outcome ≡ s.outcome) × IsNoFault o
judged_fine GoesOn outcome board k s start is told = (judged_outcome s.outcome outcome s.output told.1.0.outcome told.1.0.output told.1.1.1, tt)
judged_fine (Exited code) outcome board k s start is told = (judged_outcome s.outcome outcome s.output told.1.0.outcome told.1.0.output told.1.1.1, tt)
judged_fine (Trapped pc) outcome board k s start is told = (judged_outcome s.outcome outcome s.output told.1.0.outcome told.1.0.output told.1.1.1, tt)
judged_fine (AddressFault pc why) outcome board k s start is told = absurd (cc)

pub compared_is_fault_free : ComparedIsFaultFree
compared_is_fault_free file out board g input n outcome compares ended =
    let k = compares.0 in
    let s = compares.1.0 in
    let judged = judged_fine s.outcome outcome board k s (file_start out board input) refl compares.1.1.1 in
    ended_is_fine (program_in file board g) k (source_start file board g input) s compares.1.1.0.ran
    (subst HasEnded judged.0 ended) judged.1

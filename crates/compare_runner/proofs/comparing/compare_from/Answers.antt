use Rattle.std.proofs.Common.{sym, ◌∙◌, refl, subst}
use Rattle.elf_reader.specs.File.{segments_of}
use Rattle.board_config.specs.Board.{mapped_ranges}
use Rattle.flat_machine.specs.Start as flat_start
use Rattle.object_machine.specs.declared.events.Outcome.{Outcome}
use Rattle.object_machine.specs.Machine.{state_of}
use Rattle.compare_runner.specs.declared.comparing.Comparison.TheVariants.{SourceFault}
use Rattle.compare_runner.specs.Comparing.{Reports, JudgesRun}
use Rattle.compare_runner.proofs.FarLemmas.{started, judged_run, judged_told}
use Rattle.compare_runner.proofs.comparing.compare_from.Goals as goal

pub returns-in-AddressFault : goal.returns-in-AddressFault
returns-in-AddressFault c = λ p is s at.
    let end = state_of p c.run_source.new.source in
    let ends = started p c.args.n _ _ c.in_ok-taken.taken end at (c.in_ok-taken.ensures p is).1 in
    let fault = c.in-AddressFault in
    let start = flat_start.start_of c.args.relinked.now.entry (segments_of c.args.relinked.now) (mapped_ranges c.args.board.now) c.args.input.now in
    let told = subst (λ (o : Outcome). Reports o (JudgesRun c.args.board.now c.in_ok-taken.taken end start) (SourceFault fault.pc fault.why)) (sym fault.is ∙ c.outcome-outcome.ensures p) refl in
    (c.in_ok-taken.taken, (end, (ends, told)))

pub returns : goal.returns
returns c = λ p is s at.
    let end = state_of p c.run_source.new.source in
    let ends = started p c.args.n _ _ c.in_ok-taken.taken end at (c.in_ok-taken.ensures p is).1 in
    let outcome = c.outcome-outcome.ensures p in
    let written = c.output-written in
    let ending = c.in_ok-other.ensures in
    let judged = judged_run c.args.board.now c.in_ok-taken.taken c.most_steps-most.result ending.run.0 end _ _ _ c.outcome-outcome.result written.result.now c.output.result.now c.in_ok-other.other c.judge.result outcome (written.ensures p) c.most_steps-most.ensures c.in_ok-machine.ensures ending.run.1 ending.outcome c.output.ensures c.judge.ensures in
    let told = judged_told end.outcome _ c.judge.result (λ pc why fault. c.in_default.not-AddressFault pc why (outcome ∙ fault)) judged in
    (c.in_ok-taken.taken, (end, (ends, told)))

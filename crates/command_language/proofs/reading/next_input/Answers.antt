use Rattle.std.proofs.Common.{sym, ◌∙◌, arith}
use Rattle.command_language.specs.Lines.{names_of, plain_input}
use Rattle.command_language.proofs.StepLemmas.{breaks_full, breaks_unended, breaks_line, steps_over}
use Rattle.command_language.proofs.reading.next_input.Goals as goal

pub returns-then-count-ge-MOST_LINES : goal.returns-then-count-ge-MOST_LINES
returns-then-count-ge-MOST_LINES c = breaks_full (names_of c.args.written.now) c.args.count c.args.text.now c.requires (omega arith)

pub returns-in_err-end : goal.returns-in_err-end
returns-in_err-end c =
    rw c.from_residual.ensures (breaks_unended (names_of c.args.written.now) c.args.count c.args.text.now c.requires (sym c.newline_place.ensures ∙ c.in_err-end.was))

pub returns-in_err-input : goal.returns-in_err-input
returns-in_err-input c =
    rw c.from_residual-in_err-input.ensures
    (breaks_line (names_of c.args.written.now) c.args.count c.args.text.now c.in_ok-end.end (sym c.newline_place.ensures ∙ c.in_ok-end.was) c.in_err-input.ensures)

pub returns : goal.returns
returns c =
    steps_over (names_of c.args.written.now) c.args.count c.args.text.now c.in_ok-end.end (plain_input c.in_ok-input.input) (omega arith)
    (sym c.newline_place.ensures ∙ c.in_ok-end.was) c.in_ok-input.ensures.0 c.in_ok-input.ensures.1

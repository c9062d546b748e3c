use Rattle.std.proofs.Common.{sym, ◌∙◌}
use Rattle.std.proofs.lemmas.Result.{err_from_is_err_and}
use Rattle.hex_image.specs.Reading.{lines_of, contents_of, hex_fault}
use Rattle.hex_image.specs.declared.fault.HexFault.TheVariants.{Memory}
use Rattle.hex_image.proofs.LineLemmas.{told_fault, contents_at_end}
use Rattle.hex_image.proofs.reading.read_lines.Goals as goal

pub returns-in_err-is_end-clause-fault : goal.returns-in_err-is_end-clause-fault
returns-in_err-is_end-clause-fault c =
    let p = err_from_is_err_and c.from_residual.result c.from_residual.ensures.1 in
    rw (p.1, p.2) (told_fault _ Memory c.loop-now.line (contents_of c.loop-now.reading) c.in-Some.now.now c.in-Some.behind.now (lines_of c.loop-now.rest.now) (hex_fault c.args.text.now) c.in-Some.ensures.lines c.loop-now.invariant.fault c.in_err-is_end.ensures.fault)

pub returns-then-is_end-clause-contents : goal.returns-then-is_end-clause-contents
returns-then-is_end-clause-contents c =
    c.in_ok-is_end.ensures.contents
    ∙ sym (contents_at_end c.saturating_add-line.result (contents_of c.loop-now.reading) c.in-Some.now.now c.in-Some.behind.now (lines_of c.loop-now.rest.now) c.in-Some.ensures.lines c.in_ok-check_nothing.ensures)
    ∙ c.loop-now.invariant.contents

use Rattle.std.proofs.Common.{sym, ◌∙◌}
use Rattle.hex_image.proofs.LineLemmas.{first_line, unended_text}
use Rattle.hex_image.proofs.reading.split_line.Goals as goal

pub returns-in_err-end-clause-none : goal.returns-in_err-end-clause-none
returns-in_err-end-clause-none c = rw c.from_residual.ensures (unended_text c.args.text.now (sym c.newline_place.ensures ∙ c.in_err-end.was))

pub returns-clause-lines : goal.returns-clause-lines
returns-clause-lines c = first_line c.args.text.now c.in_ok-end.end (sym c.newline_place.ensures ∙ c.in_ok-end.was)

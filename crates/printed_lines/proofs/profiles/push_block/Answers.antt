use Rattle.std.proofs.Common.{rules}
use Rattle.printed_lines.proofs.Lines.{line_started}
use Rattle.printed_lines.proofs.profiles.push_block.Goals as goal

pub returns : goal.returns
returns c = rw (line_started c.args.start c.args.arrivals c.if-arrivals-eq0.false) (search rules)

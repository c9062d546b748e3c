use Rattle.std.proofs.Common.{string_bytes}
use Rattle.elf_reader.specs.File.{plain_view}
use Rattle.relinking.proofs.Analysed.{may_state}
use Rattle.command_line.proofs.Tracing.{tells_lines}
use Rattle.command_line.proofs.trace_file.view_trace.Goals as goal

pub trace-requires-clause-read : goal.trace-requires-clause-read
trace-requires-clause-read c = (may_state c.requires.opened.0 c.args.opened.now.board c.args.opened.now.analysis c.requires.opened.1).read

pub trace-requires-clause-graph : goal.trace-requires-clause-graph
trace-requires-clause-graph c = (may_state c.requires.opened.0 c.args.opened.now.board c.args.opened.now.analysis c.requires.opened.1).graph

pub trace-requires-clause-code : goal.trace-requires-clause-code
trace-requires-clause-code c = (may_state c.requires.opened.0 c.args.opened.now.board c.args.opened.now.analysis c.requires.opened.1).code

pub trace-requires-clause-lawful : goal.trace-requires-clause-lawful
trace-requires-clause-lawful c = c.requires.opened.1.lawful

pub trace-requires-clause-entry : goal.trace-requires-clause-entry
trace-requires-clause-entry c = (may_state c.requires.opened.0 c.args.opened.now.board c.args.opened.now.analysis c.requires.opened.1).entry

pub trace-requires-clause-regions : goal.trace-requires-clause-regions
trace-requires-clause-regions c = c.requires.opened.1.regions.is_formed.one_each

pub returns : goal.returns
returns c =
    tells_lines c.args.opened.now (plain_view c.args.view.now) c.args.units.now c.args.input.now c.args.count c.traced_steps-most.result c.in_ok-traced.traced (string_bytes c.in_ok-line.line)
    c.traced_steps-most.ensures c.in_ok-traced.ensures c.in_ok-line.ensures

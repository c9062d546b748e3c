use Rattle.std.proofs.Common.{◌≡◌, true, sym, ap, subst}
use Rattle.elf_reader.specs.File.{plain_view}
use Rattle.cell_values.specs.Objects.{IsGrain}
use Rattle.code_blocks.specs.Leaders.{is_leader}
use Rattle.object_machine.specs.State.{SourceState}
use Rattle.program_explanations.proofs.Analysed.{is_read, is_graph, is_code, is_lawful, begins}
use Rattle.program_explanations.proofs.subject.Subject.machine.Goals as goal

pub new-requires-clause-read : goal.new-requires-clause-read
new-requires-clause-read c = let s = c.args.self.now in is_read s.board.now s.analysis.now s.analysed

pub new-requires-clause-graph : goal.new-requires-clause-graph
new-requires-clause-graph c = let s = c.args.self.now in is_graph s.board.now s.analysis.now s.analysed

pub new-requires-clause-code : goal.new-requires-clause-code
new-requires-clause-code c = let s = c.args.self.now in is_code s.board.now s.analysis.now s.analysed

pub new-requires-clause-lawful : goal.new-requires-clause-lawful
new-requires-clause-lawful c = let s = c.args.self.now in is_lawful s.board.now s.analysis.now s.analysed

pub new-requires-clause-grain : goal.new-requires-clause-grain
new-requires-clause-grain c =
    let s = c.args.self.now in
    subst IsGrain (sym (is_graph s.board.now s.analysis.now s.analysed).grain) (is_lawful s.board.now s.analysis.now s.analysed).grain

pub new-requires-clause-entry : goal.new-requires-clause-entry
new-requires-clause-entry c = let s = c.args.self.now in begins s.board.now s.analysis.now s.analysed

pub returns-in-Ok : goal.returns-in-Ok
returns-in-Ok c =
    let s = c.args.self.now in
    let v = plain_view s.analysis.now.view in
    let start = c.in-Ok.ensures.start in (
      v,
      (
        s.board.now,
        record {
          program = c.in-Ok.ensures.program;
          code = is_code s.board.now s.analysis.now s.analysed;
          going = ap (λ (t : SourceState). t.outcome) start;
          begins = subst (λ a. is_leader v a ≡ true) (sym (ap (λ (t : SourceState). t.pc) start)) (begins s.board.now s.analysis.now s.analysed);
        },
      ),
    )

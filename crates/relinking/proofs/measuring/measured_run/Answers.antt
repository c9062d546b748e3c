use Rattle.std.proofs.Common.{◌≡◌, true, Ok, Err, refl, sym, ap, subst}
use Rattle.std.proofs.lemmas.Result.{err_from_is_err_and}
use Rattle.elf_reader.specs.File.{plain_view}
use Rattle.cell_values.specs.Objects.{IsGrain}
use Rattle.code_blocks.specs.Leaders.{is_leader}
use Rattle.object_machine.specs.Program.{program_of}
use Rattle.object_machine.specs.State.{SourceState}
use Rattle.object_machine.specs.Machine.{state_of}
use Rattle.relinking.proofs.Counting.{told_counts, ends_so, no_memory}
use Rattle.relinking.proofs.Analysed.{may_state}
use Rattle.relinking.proofs.measuring.measured_run.Goals as goal

pub new-requires-clause-read : goal.new-requires-clause-read
new-requires-clause-read g c = (may_state c.requires.0 c.args.board.now c.args.analysis.now c.requires.1).read

pub new-requires-clause-graph : goal.new-requires-clause-graph
new-requires-clause-graph g c = (may_state c.requires.0 c.args.board.now c.args.analysis.now c.requires.1).graph

pub new-requires-clause-code : goal.new-requires-clause-code
new-requires-clause-code g c = (may_state c.requires.0 c.args.board.now c.args.analysis.now c.requires.1).code

pub new-requires-clause-lawful : goal.new-requires-clause-lawful
new-requires-clause-lawful g c = c.requires.1.lawful

pub new-requires-clause-grain : goal.new-requires-clause-grain
new-requires-clause-grain g c = subst IsGrain (sym c.requires.1.graph.grain) c.requires.1.lawful.grain

pub new-requires-clause-entry : goal.new-requires-clause-entry
new-requires-clause-entry g c = (may_state c.requires.0 c.args.board.now c.args.analysis.now c.requires.1).entry

pub profile-requires-clause-started : goal.profile-requires-clause-started
profile-requires-clause-started g c =
    let v = plain_view c.args.analysis.now.view in
    let may = may_state c.requires.0 c.args.board.now c.args.analysis.now c.requires.1 in
    let start = c.in_ok-source.ensures.start in (
      v,
      (
        c.args.board.now,
        record {
          program = c.in_ok-source.ensures.program;
          code = may.code;
          going = ap (λ (s : SourceState). s.outcome) start;
          begins = subst (λ a. is_leader v a ≡ true) (sym (ap (λ (s : SourceState). s.pc) start)) may.entry;
        },
      ),
    )

pub profile-requires-clause-regions : goal.profile-requires-clause-regions
profile-requires-clause-regions g c = c.requires.1.regions.is_formed.one_each

pub profile-requires-clause-some : goal.profile-requires-clause-some
profile-requires-clause-some g c = c.requires.1.lawful.least_steps

pub returns-in_err-source-clause-err : goal.returns-in_err-source-clause-err
returns-in_err-source-clause-err g c =
    let q = err_from_is_err_and c.from_residual.result c.from_residual.ensures.1 in
    rw (q.1, q.2) (no_memory (plain_view c.args.analysis.now.view) c.args.board.now c.args.analysis.now.graph c.args.analysis.now.code c.args.analysis.now.regions c.args.input.now)

pub returns-in-Ok-clause-ok : goal.returns-in-Ok-clause-ok
returns-in-Ok-clause-ok g c =
    let analysis = c.args.analysis.now in
    let p = program_of (plain_view analysis.view) c.args.board.now analysis.graph in
    told_counts (plain_view analysis.view) c.args.board.now analysis.graph analysis.code analysis.regions c.args.input.now (state_of p c.in_ok-source.source) (state_of p c.profile.new.source) (Ok c.in-Ok.profile)
    c.in_ok-source.ensures.start (c.in-Ok.ensures.run p c.in_ok-source.ensures.program)

pub returns-in-Ok-clause-end : goal.returns-in-Ok-clause-end
returns-in-Ok-clause-end g c =
    let analysis = c.args.analysis.now in
    let p = program_of (plain_view analysis.view) c.args.board.now analysis.graph in
    ends_so (plain_view analysis.view) c.args.board.now analysis.graph analysis.code analysis.regions c.args.input.now (state_of p c.in_ok-source.source) (state_of p c.profile.new.source) c.in-Ok.profile _
    c.in_ok-source.ensures.start (c.in-Ok.ensures.run p c.in_ok-source.ensures.program) refl refl (c.at.ensures p)

pub returns-clause-err : goal.returns-clause-err
returns-clause-err g c =
    let analysis = c.args.analysis.now in
    let p = program_of (plain_view analysis.view) c.args.board.now analysis.graph in
    told_counts (plain_view analysis.view) c.args.board.now analysis.graph analysis.code analysis.regions c.args.input.now (state_of p c.in_ok-source.source) (state_of p c.profile.new.source) (Err c.in-Err.fault)
    c.in_ok-source.ensures.start (c.in-Err.ensures.run p c.in_ok-source.ensures.program)

use Rattle.std.proofs.Common.{◌≡◌, List, ℕ, None, string_bytes, sym, subst, arith}
use Rattle.std.proofs.lemmas.Result.{err_from_is_err_and}
use Rattle.elf_reader.specs.File.{plain_view, IsFile}
use Rattle.elf_reader.specs.Faults.{first_fault}
use Rattle.loaded_file.proofs.WordLemmas.{same_view}
use Rattle.placement_programme.specs.Views.{plain_programme, plain_choice}
use Rattle.relink_core.specs.Placed.{taken_of}
use Rattle.relink_core.specs.declared.unit_forms.UnitAt.{UnitAt}
use Rattle.command_line.specs.TraceFile.{TellsLines}
use Rattle.command_line.proofs.Paying.{choice_for, elf_rejected, bytes_read}
use Rattle.command_line.proofs.Tracing.{realised, in_order, may_start, makes_trace}
use Rattle.command_line.proofs.trace_file.made_trace.Goals as goal

pub realise_units-requires-clause-choice : goal.realise_units-requires-clause-choice
realise_units-requires-clause-choice c =
    choice_for c.requires.opened.0 c.args.input.now c.args.opened.now c.args.measured.now (plain_choice c.args.choice.now) c.requires.opened.1 c.requires.counts c.requires.feasible

pub returns-in_err-view-clause-err : goal.returns-in_err-view-clause-err
returns-in_err-view-clause-err c =
    let p = err_from_is_err_and c.from_residual-in_err-view.result c.from_residual-in_err-view.ensures.1 in
    let o = c.args.opened.now in
    let programme = plain_programme c.args.measured.now.programme in
    let choice = plain_choice c.args.choice.now in
    let made = c.in_ok-made.made in
    rw (p.1, p.2)
    (λ file is. elf_rejected file o programme choice made.bytes.items _
    (realised file o.board o.analysis.graph o.analysis.code o.analysis.regions (taken_of programme choice) made.bytes.items made.units.items (c.in_ok-made.ensures file is))
    (rw (sym c.deref.ensures.value) c.in_err-view.ensures.fault))

pub view_trace-requires-clause-ordered : goal.view_trace-requires-clause-ordered
view_trace-requires-clause-ordered c =
    let o = c.args.opened.now in
    let made = c.in_ok-made.made in
    rw c.deref-2.ensures.value
    (in_order c.requires.opened.0 o.board o.analysis.graph o.analysis.code o.analysis.regions (taken_of (plain_programme c.args.measured.now.programme) (plain_choice c.args.choice.now)) made.bytes.items made.units.items
    (c.in_ok-made.ensures c.requires.opened.0 c.requires.opened.1))

pub view_trace-requires-clause-starts : goal.view_trace-requires-clause-starts
view_trace-requires-clause-starts c =
    let file = c.requires.opened.0 in
    let is = c.requires.opened.1 in
    let o = c.args.opened.now in
    let made = c.in_ok-made.made in
    let view = c.in_ok-view.view in
    let is_file : IsFile made.bytes.items view = subst (λ (bs : List ℕ). IsFile bs view) c.deref.ensures.value c.in_ok-view.ensures.file in
    rw c.deref-2.ensures.value
    (may_start file o (plain_programme c.args.measured.now.programme) (plain_choice c.args.choice.now) c.args.input.now made.bytes.items made.units.items is (c.in_ok-made.ensures file is) (plain_view view) (same_view made.bytes.items view is_file)
    c.results_start.ensures (bytes_read c.args.input.now (λ i. omega (arith, c.type_inv.input i))))

pub returns-in-Ok-clause-ok : goal.returns-in-Ok-clause-ok
returns-in-Ok-clause-ok c file is =
    let o = c.args.opened.now in
    let made = c.in_ok-made.made in
    let view = c.in_ok-view.view in
    let lines = c.in-Ok.lines in
    let is_file : IsFile made.bytes.items view = subst (λ (bs : List ℕ). IsFile bs view) c.deref.ensures.value c.in_ok-view.ensures.file in
    makes_trace file o (plain_programme c.args.measured.now.programme) (plain_choice c.args.choice.now) c.args.input.now made.bytes.items made.units.items is (c.in_ok-made.ensures file is) (plain_view view) (same_view made.bytes.items view is_file)
    c.args.count lines.text.items (string_bytes lines.line) (subst (λ (bs : List ℕ). first_fault bs ≡ None) c.deref.ensures.value c.in_ok-view.ensures.fault)
    (subst (λ (us : List UnitAt). TellsLines o (plain_view view) us c.args.input.now c.args.count lines.text.items (string_bytes lines.line)) c.deref-2.ensures.value c.in-Ok.ensures)

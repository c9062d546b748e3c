use Rattle.std.proofs.Common.{◌≡◌, ℕ, List, None, string_bytes, sym, subst}
use Rattle.std.proofs.lemmas.Result.{err_from_is_err_and}
use Rattle.elf_reader.specs.File.{PlainView, IsFile}
use Rattle.elf_reader.specs.Faults.{first_fault}
use Rattle.board_config.specs.Board.{mapped_ranges}
use Rattle.flat_machine.specs.Start.{start_of}
use Rattle.loaded_file.proofs.WordLemmas.{same_view}
use Rattle.placement_programme.specs.Views.{plain_programme, plain_choice}
use Rattle.command_line.specs.PaidFile.{TellsRun}
use Rattle.command_line.proofs.Paying.{choice_for, elf_rejected}
use Rattle.command_line.proofs.paid_file.made_lines.Goals as goal

pub realise-requires-clause-choice : goal.realise-requires-clause-choice
realise-requires-clause-choice c =
    choice_for c.requires.opened.0 c.args.input.now c.args.opened.now c.args.measured.now (plain_choice c.args.choice.now) c.requires.opened.1 c.requires.counts c.requires.feasible

pub returns-in_err-view-clause-err : goal.returns-in_err-view-clause-err
returns-in_err-view-clause-err c =
    let p = err_from_is_err_and c.from_residual-in_err-view.result c.from_residual-in_err-view.ensures.1 in
    rw (p.1, p.2)
    (λ file is. elf_rejected file c.args.opened.now (plain_programme c.args.measured.now.programme) (plain_choice c.args.choice.now) c.in_ok-made.made.bytes.items _ (c.in_ok-made.ensures.realises file is)
    (rw (sym c.deref.ensures.value) c.in_err-view.ensures.fault))

pub returns-in-Ok-clause-ok : goal.returns-in-Ok-clause-ok
returns-in-Ok-clause-ok c file is =
    let o = c.args.opened.now in
    let view = c.in_ok-view.view in
    let out = c.in_ok-made.made.bytes.items in
    let is_file : IsFile out view = subst (λ (bs : List ℕ). IsFile bs view) c.deref.ensures.value c.in_ok-view.ensures.file in
    record {
      out = out;
      realises = c.in_ok-made.ensures.realises file is;
      sound = subst (λ (bs : List ℕ). first_fault bs ≡ None) c.deref.ensures.value c.in_ok-view.ensures.fault;
      tells = subst (λ (v : PlainView). TellsRun o c.args.measured.now (plain_choice c.args.choice.now) (start_of v.entry v.segments (mapped_ranges o.board) c.args.input.now) (string_bytes c.in-Ok.lines)) (same_view out view is_file) c.in-Ok.ensures;
    }

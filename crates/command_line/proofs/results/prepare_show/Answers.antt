use Rattle.std.proofs.Common.{[], refl, ℕ, List, sym, subst}
use Rattle.command_language.specs.Command.{show_command}
use Rattle.command_line.specs.Measured.{measures_none}
use Rattle.command_line.specs.Meaning.{RejectsInputs, shows}
use Rattle.command_line.proofs.CommandFaults.{show_rejected}
use Rattle.command_line.proofs.TextContents.{contents_of_two}
use Rattle.command_line.proofs.results.prepare_show.Goals as goal

pub returns-in_ok-printed-in-Ok-clause-ok : goal.returns-in_ok-printed-in-Ok-clause-ok
returns-in_ok-printed-in-Ok-clause-ok c f b =
    let are = contents_of_two c.args.texts.now c.index-texts-0.result c.index-texts-1.result _ _ c.requires c.index-texts-0.is c.index-texts-1.is c.deref.ensures.value c.deref-2.ensures.value in
    let made = c.in_ok-printed-in-Ok.ensures in
    record {
      outputs = [];
      yields = rw made.text (shows f b _ _ refl (sym are) refl c.in-Ok.ensures.ok);
      prepared_outputs = made.outputs;
      print_fault = made.print_fault;
      measured = measures_none refl made.measured;
    }

pub returns-in-Err-clause-err : goal.returns-in-Err-clause-err
returns-in-Err-clause-err c f b =
    let are = contents_of_two c.args.texts.now c.index-texts-0.result c.index-texts-1.result _ _ c.requires c.index-texts-0.is c.index-texts-1.is c.deref.ensures.value c.deref-2.ensures.value in
    subst (λ (ts : List (List ℕ)). RejectsInputs (show_command f b) ts c.in-Err.fault) are (show_rejected _ _ _ c.in-Err.ensures.err f b)

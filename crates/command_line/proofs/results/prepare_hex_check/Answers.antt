use Rattle.std.proofs.Common.{[], refl, ℕ, List, sym, subst}
use Rattle.command_language.specs.Command.{hex_check_command}
use Rattle.command_line.specs.Measured.{measures_none}
use Rattle.command_line.specs.Meaning.{RejectsInputs, agrees}
use Rattle.command_line.proofs.CommandFaults.{check_rejected}
use Rattle.command_line.proofs.TextContents.{contents_of_two}
use Rattle.command_line.proofs.results.prepare_hex_check.Goals as goal

pub returns-in_ok-printed-in-Ok-clause-ok : goal.returns-in_ok-printed-in-Ok-clause-ok
returns-in_ok-printed-in-Ok-clause-ok c f h =
    let are = contents_of_two c.args.texts.now c.index-texts-0.result c.index-texts-1.result _ _ c.requires c.index-texts-0.is c.index-texts-1.is c.deref.ensures.value c.deref-2.ensures.value in
    let checked = c.in-Ok.ensures.ok in
    record {
      outputs = [];
      yields = rw (c.in_ok-printed-in-Ok.ensures.text, c.plain-text.ensures, c.into_bytes.ensures.value) (agrees f h _ _ refl (sym are) checked.0 checked.1 refl c.in_ok-line-in-Ok.ensures.ok);
      prepared_outputs = c.in_ok-printed-in-Ok.ensures.outputs;
      print_fault = c.in_ok-printed-in-Ok.ensures.print_fault;
      measured = measures_none refl c.in_ok-printed-in-Ok.ensures.measured;
    }

pub returns-in-Err-clause-err : goal.returns-in-Err-clause-err
returns-in-Err-clause-err c f h =
    let are = contents_of_two c.args.texts.now c.index-texts-0.result c.index-texts-1.result _ _ c.requires c.index-texts-0.is c.index-texts-1.is c.deref.ensures.value c.deref-2.ensures.value in
    subst (λ (ts : List (List ℕ)). RejectsInputs (hex_check_command f h) ts c.in-Err.fault) are (check_rejected _ _ _ c.in-Err.ensures.err f h)

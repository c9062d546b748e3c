use Rattle.std.proofs.Common.{[], refl, ℕ, List, sym, subst}
use Rattle.command_language.specs.Command.{compare_command}
use Rattle.command_line.specs.Measured.{measures_none}
use Rattle.command_line.specs.Meaning.{RejectsInputs, compares}
use Rattle.command_line.proofs.CommandFaults.{compare_rejected}
use Rattle.command_line.proofs.TextContents.{contents_of_four}
use Rattle.command_line.proofs.results.prepare_compare.Goals as goal

pub returns-in_ok-printed-in-Ok-clause-ok : goal.returns-in_ok-printed-in-Ok-clause-ok
returns-in_ok-printed-in-Ok-clause-ok c f r b i =
    let are = contents_of_four c.args.texts.now c.index-texts-0.result c.index-texts-1.result c.index-texts-2.result c.index-texts-3.result _ _ _ _ c.requires c.index-texts-0.is c.index-texts-1.is c.index-texts-2.is c.index-texts-3.is c.deref.ensures.value c.deref-2.ensures.value c.deref-3.ensures.value c.deref-4.ensures.value in
    let made = c.in_ok-printed-in-Ok.ensures in
    record {
      outputs = [];
      yields = rw (made.text, c.plain-text.ensures) (compares f r b i _ _ _ _ refl (sym are) refl c.in-Ok.ensures.ok);
      prepared_outputs = made.outputs;
      print_fault = made.print_fault;
      measured = measures_none refl made.measured;
    }

pub returns-in-Err-clause-err : goal.returns-in-Err-clause-err
returns-in-Err-clause-err c f r b i =
    let are = contents_of_four c.args.texts.now c.index-texts-0.result c.index-texts-1.result c.index-texts-2.result c.index-texts-3.result _ _ _ _ c.requires c.index-texts-0.is c.index-texts-1.is c.index-texts-2.is c.index-texts-3.is c.deref.ensures.value c.deref-2.ensures.value c.deref-3.ensures.value c.deref-4.ensures.value in
    subst (λ (ts : List (List ℕ)). RejectsInputs (compare_command f r b i) ts c.in-Err.fault) are (compare_rejected _ _ _ _ _ c.in-Err.ensures.err f r b i)

use Rattle.std.proofs.Common.{◌∷◌, [], refl, ℕ, List, sym, subst}
use Rattle.command_language.specs.Command.{run_command}
use Rattle.command_line.specs.Measured.{measures_none}
use Rattle.command_line.specs.Meaning.{RejectsInputs, runs}
use Rattle.command_line.proofs.CommandFaults.{run_rejected}
use Rattle.command_line.proofs.TextContents.{contents_of_three}
use Rattle.command_line.proofs.results.prepare_run.Goals as goal

pub returns-in_ok-written-in-Ok-clause-ok : goal.returns-in_ok-written-in-Ok-clause-ok
returns-in_ok-written-in-Ok-clause-ok c f b i =
    let are = contents_of_three c.args.texts.now c.index-texts-0.result c.index-texts-1.result c.index-texts-2.result _ _ _ c.requires c.index-texts-0.is c.index-texts-1.is c.index-texts-2.is c.deref.ensures.value c.deref-2.ensures.value c.deref-3.ensures.value in
    record {
      outputs = c.in-Ok.run'.output.items ∷ [];
      yields = rw (c.in_ok-written-in-Ok.ensures.text, c.into_bytes-line.ensures.value) (runs f b i _ _ _ _ _ refl (sym are) refl c.in-Ok.ensures.ok);
      prepared_outputs = c.in_ok-written-in-Ok.ensures.outputs;
      print_fault = c.in_ok-written-in-Ok.ensures.print_fault;
      measured = measures_none refl c.in_ok-written-in-Ok.ensures.measured;
    }

pub returns-in-Err-clause-err : goal.returns-in-Err-clause-err
returns-in-Err-clause-err c f b i =
    let are = contents_of_three c.args.texts.now c.index-texts-0.result c.index-texts-1.result c.index-texts-2.result _ _ _ c.requires c.index-texts-0.is c.index-texts-1.is c.index-texts-2.is c.deref.ensures.value c.deref-2.ensures.value c.deref-3.ensures.value in
    subst (λ (ts : List (List ℕ)). RejectsInputs (run_command f b i c.args.out.now) ts c.in-Err.fault) are (run_rejected _ _ _ _ c.in-Err.ensures.err f b i _)

use Rattle.std.proofs.Common.{[], inl, refl, ℕ, List, sym, subst}
use Rattle.std.proofs.lemmas.Result.{err_from_is_err_and}
use Rattle.command_language.specs.Command.{profile_command}
use Rattle.command_line.specs.Measured.{profile_ends}
use Rattle.command_line.specs.Meaning.{RejectsInputs, profiles}
use Rattle.command_line.proofs.CommandFaults.{profile_rejected}
use Rattle.command_line.proofs.TextContents.{contents_of_three}
use Rattle.command_line.proofs.results.prepare_profile.Goals as goal

pub returns-in_ok-printed-in-Ok-clause-ok : goal.returns-in_ok-printed-in-Ok-clause-ok
returns-in_ok-printed-in-Ok-clause-ok g c f b i =
    let are = contents_of_three c.args.texts.now c.index-texts-0.result c.index-texts-1.result c.index-texts-2.result _ _ _ c.requires c.index-texts-0.is c.index-texts-1.is c.index-texts-2.is c.deref.ensures.value c.deref-2.ensures.value c.deref-3.ensures.value in
    let made = c.in_ok-printed-in-Ok.ensures in
    record {
      outputs = [];
      yields = rw made.text (profiles f b i _ _ _ refl (sym are) refl c.in-Ok.ensures.ok);
      prepared_outputs = made.outputs;
      print_fault = made.print_fault;
      measured = profile_ends f b i _ _ _ _ refl (sym are) made.measured c.in-Ok.ensures.end;
    }

pub returns-in-Err-clause-err : goal.returns-in-Err-clause-err
returns-in-Err-clause-err g c f b i =
    let are = contents_of_three c.args.texts.now c.index-texts-0.result c.index-texts-1.result c.index-texts-2.result _ _ _ c.requires c.index-texts-0.is c.index-texts-1.is c.index-texts-2.is c.deref.ensures.value c.deref-2.ensures.value c.deref-3.ensures.value in
    subst (λ (ts : List (List ℕ)). RejectsInputs (profile_command f b i) ts c.in-Err.fault) are (profile_rejected _ _ _ _ c.in-Err.ensures.err f b i)

pub returns-in_err-printed-in-Ok-clause-err : goal.returns-in_err-printed-in-Ok-clause-err
returns-in_err-printed-in-Ok-clause-err g c =
    let p = err_from_is_err_and c.from_residual.result c.from_residual.ensures.1 in
    rw (p.1, p.2) (λ f b i. inl refl)

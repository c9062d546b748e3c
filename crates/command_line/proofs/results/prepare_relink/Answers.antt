use Rattle.std.proofs.Common.{◌∷◌, [], refl, ℕ, List, sym, subst, inl, ◌∙◌}
use Rattle.std.proofs.lemmas.Result.{err_from_is_err_and}
use Rattle.command_language.specs.Command.{relink_command}
use Rattle.command_line.specs.Measured.{relink_ends}
use Rattle.command_line.specs.Meaning.{RejectsInputs, relinks}
use Rattle.command_line.proofs.CommandFaults.{relink_rejected}
use Rattle.command_line.proofs.TextContents.{contents_of_three}
use Rattle.command_line.proofs.results.prepare_relink.Goals as goal

pub returns-in_ok-relinked-in-Ok-clause-ok : goal.returns-in_ok-relinked-in-Ok-clause-ok
returns-in_ok-relinked-in-Ok-clause-ok g c f b i =
    let are = contents_of_three c.args.texts.now c.index-texts-0.result c.index-texts-1.result c.index-texts-2.result _ _ _ c.requires c.index-texts-0.is c.index-texts-1.is c.index-texts-2.is c.deref.ensures.value c.deref-2.ensures.value c.deref-3.ensures.value in
    let made = c.in-Ok.made in
    let end = c.in-Ok.ensures.end in
    let prepared = c.in_ok-relinked-in-Ok.ensures in
    record {
      outputs = made.certificate.items ∷ made.file.items ∷ [];
      yields = rw prepared.text (relinks f b i _ _ _ _ _ _ _ refl (sym are) refl c.in-Ok.ensures.ok);
      prepared_outputs = prepared.outputs;
      print_fault = prepared.print_fault;
      measured = relink_ends f b i _ _ _ _ _ end.0 refl (sym are) (prepared.measured ∙ end.1.0) end.1.1;
    }

pub returns-in-Err-clause-err : goal.returns-in-Err-clause-err
returns-in-Err-clause-err g c f b i =
    let are = contents_of_three c.args.texts.now c.index-texts-0.result c.index-texts-1.result c.index-texts-2.result _ _ _ c.requires c.index-texts-0.is c.index-texts-1.is c.index-texts-2.is c.deref.ensures.value c.deref-2.ensures.value c.deref-3.ensures.value in
    subst (λ (ts : List (List ℕ)). RejectsInputs (relink_command f b i c.args.out.now c.args.cert.now) ts c.in-Err.fault) are (relink_rejected _ _ _ _ c.in-Err.ensures.err f b i _ _)

pub returns-in_err-relinked-in-Ok-clause-err : goal.returns-in_err-relinked-in-Ok-clause-err
returns-in_err-relinked-in-Ok-clause-err g c =
    let p = err_from_is_err_and c.from_residual.result c.from_residual.ensures.1 in
    rw (p.1, p.2) (λ f b i. inl refl)

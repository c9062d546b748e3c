use Rattle.std.proofs.Common.{◌∷◌, [], inl, refl, ℕ, List, sym, subst}
use Rattle.std.proofs.lemmas.Result.{err_from_is_err_and}
use Rattle.command_language.specs.Command.{trace_command}
use Rattle.command_line.specs.Measured.{trace_ends}
use Rattle.command_line.specs.Meaning.{RejectsInputs, traces}
use Rattle.command_line.proofs.CommandFaults.{trace_rejected}
use Rattle.command_line.proofs.TextContents.{contents_of_four}
use Rattle.command_line.proofs.results.prepare_trace.Goals as goal

pub returns-in_ok-written-in-Ok-clause-ok : goal.returns-in_ok-written-in-Ok-clause-ok
returns-in_ok-written-in-Ok-clause-ok c f b i k =
    let are = contents_of_four c.args.texts.now c.index-texts-0.result c.index-texts-1.result c.index-texts-2.result c.index-texts-3.result _ _ _ _ c.requires c.index-texts-0.is c.index-texts-1.is c.index-texts-2.is c.index-texts-3.is c.deref.ensures.value c.deref-2.ensures.value c.deref-3.ensures.value c.deref-4.ensures.value in
    let written = c.in_ok-written-in-Ok.ensures in
    record {
      outputs = c.in-Ok.traced.text.items ∷ [];
      yields = rw (written.text, c.into_bytes-line.ensures.value) (traces f b i k c.args.count c.args.out.now _ _ _ _ _ refl (sym are) refl c.in-Ok.ensures.ok);
      prepared_outputs = written.outputs;
      print_fault = written.print_fault;
      measured = trace_ends f b i k c.args.count c.args.out.now _ _ _ _ _ refl (sym are) written.measured c.in-Ok.ensures.end;
    }

pub returns-in_err-written-in-Ok-clause-err : goal.returns-in_err-written-in-Ok-clause-err
returns-in_err-written-in-Ok-clause-err c =
    let p = err_from_is_err_and c.from_residual.result c.from_residual.ensures.1 in
    rw (p.1, p.2) (λ f b i k. inl refl)

pub returns-in-Err-clause-err : goal.returns-in-Err-clause-err
returns-in-Err-clause-err c f b i k =
    let are = contents_of_four c.args.texts.now c.index-texts-0.result c.index-texts-1.result c.index-texts-2.result c.index-texts-3.result _ _ _ _ c.requires c.index-texts-0.is c.index-texts-1.is c.index-texts-2.is c.index-texts-3.is c.deref.ensures.value c.deref-2.ensures.value c.deref-3.ensures.value c.deref-4.ensures.value in
    subst (λ (ts : List (List ℕ)). RejectsInputs (trace_command f b i k c.args.count c.args.out.now) ts c.in-Err.fault) are (trace_rejected _ _ _ _ _ c.in-Err.ensures.err f b i k c.args.count c.args.out.now)

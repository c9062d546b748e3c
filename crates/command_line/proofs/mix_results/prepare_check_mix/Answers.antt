use Rattle.std.proofs.Common.{◌≡◌, [], ℕ, List, None, map, sym, subst, ◌∙◌, arith}
use Rattle.std.proofs.lemmas.List.{length-map}
use Rattle.command_language.specs.Lines.{plain_input, broken_at, mix_lines}
use Rattle.command_language.specs.FaultLine.{mix_command_fault}
use Rattle.command_line.specs.Listing.{third, RejectsLines}
use Rattle.command_files.specs.Reading.{contents}
use Rattle.command_line.proofs.ListedNames.{lines_rejected, lists_of}
use Rattle.command_line.proofs.MixResults.{third_of, check_mix_broken}
use Rattle.command_line.proofs.mix_results.prepare_check_mix.Goals as goal

pub checked_result-requires-clause-listed : goal.checked_result-requires-clause-listed
checked_result-requires-clause-listed g c =
    let size = c.requires.texts in
    let text = third_of c.args.inputs.now.texts.now c.index-inputs-2.result c.deref.result.now (omega (arith, size)) c.index-inputs-2.is c.deref.ensures.value in
    lists_of [] (third (contents c.args.inputs.now.texts.now)) _
    (subst (λ (t : List ℕ). broken_at [] t ≡ None) (sym text) c.in-Ok.ensures.ok.0)
    (subst (λ (t : List ℕ). map plain_input c.in-Ok.lines.items ≡ mix_lines t) (sym text) c.in-Ok.ensures.ok.1) c.requires.listed

pub returns-clause-err : goal.returns-clause-err
returns-clause-err g c f b m k =
    let size = c.requires.texts in
    let text = third_of c.args.inputs.now.texts.now c.index-inputs-2.result c.deref.result.now (omega (arith, size)) c.index-inputs-2.is c.deref.ensures.value in
    rw c.from.ensures
    (check_mix_broken f b m k (contents c.args.inputs.now.texts.now) (contents c.args.inputs.now.listed.now) _ (length-map c.args.inputs.now.texts.now (λ t. t.items) ∙ size)
    (subst (λ (t : List ℕ). RejectsLines [] t (mix_command_fault c.in-Err.fault)) (sym text) (lines_rejected [] c.deref.result.now c.in-Err.fault c.in-Err.ensures.err)))

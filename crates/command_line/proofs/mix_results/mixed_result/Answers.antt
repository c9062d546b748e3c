use Rattle.std.proofs.Common.{◌∷◌, [], ◌++◌, ℕ, List, map, refl, sym, subst, ap, ◌∙◌, inl}
use Rattle.std.proofs.lemmas.Result.{err_from_is_err_and}
use Rattle.command_language.specs.Lines.{plain_input}
use Rattle.relinking.specs.MixOfRuns.{WeightedInput}
use Rattle.relinking.specs.MixOfRuns as together
use Rattle.command_language.specs.Command.{mix_command}
use Rattle.command_line.specs.Listing.{third}
use Rattle.command_line.specs.Measured.{measures_none}
use Rattle.command_line.specs.Meaning.{RejectsInputs, mixes}
use Rattle.command_line.specs.MixFile.{inputs_of, MixesTo, RejectsRuns}
use Rattle.command_files.specs.Reading.{contents}
use Rattle.command_line.proofs.MixResults.{three_with_third, inputs_listed, some_listed, mix_rejected}
use Rattle.printed_lines.specs.Texts.{text_of}
use Rattle.command_line.proofs.mix_results.mixed_result.Goals as goal

pub mix_file-requires : goal.mix_file-requires
mix_file-requires g c =
    let are = ap (map together.plain_input) c.deref-4.ensures.value ∙ c.in_ok-inputs.ensures
    ∙ (λ i. inputs_of (map plain_input (c.deref.ensures.value i)) (contents c.args.listed.now.texts.now)) in
    some_listed (c.args.cert.now ∷ c.args.out.now ∷ []) (third (contents c.args.texts.now)) c.args.listed.now _ c.requires.listed are

pub returns-in-Ok-clause-ok : goal.returns-in-Ok-clause-ok
returns-in-Ok-clause-ok g c f b m =
    let mix = third (contents c.args.texts.now) in
    let listed = contents c.args.listed.now.texts.now in
    let are = ap (map together.plain_input) c.deref-4.ensures.value ∙ c.in_ok-inputs.ensures
    ∙ (λ i. inputs_of (map plain_input (c.deref.ensures.value i)) (contents c.args.listed.now.texts.now)) in
    let inputs = inputs_listed (c.args.cert.now ∷ c.args.out.now ∷ []) mix c.args.listed.now _ c.requires.listed are in
    let file = c.deref-2.result.now in
    let board = c.deref-3.result.now in
    let texts = three_with_third c.args.texts.now c.index-texts-0.result c.index-texts-1.result file board c.requires.texts c.index-texts-0.is c.index-texts-1.is c.deref-2.ensures.value c.deref-3.ensures.value in
    let mixed = c.in-Ok.made in
    let is = subst (λ (ps : List WeightedInput). MixesTo file board ps mixed.certificate.items mixed.file.items (text_of mixed.report)) inputs c.in-Ok.ensures.ok in
    let made = c.in_ok-relinked-in-Ok.ensures in
    record {
      outputs = mixed.certificate.items ∷ mixed.file.items ∷ [];
      yields = rw made.text (mixes f b m _ _ file board mix _ _ listed refl (ap (λ ts. ts ++ listed) (sym texts)) refl c.requires.listed.unbroken is);
      prepared_outputs = made.outputs;
      print_fault = made.print_fault;
      measured = measures_none refl (made.measured ∙ c.in-Ok.ensures.end);
    }

pub returns-clause-err : goal.returns-clause-err
returns-clause-err g c f b m =
    let mix = third (contents c.args.texts.now) in
    let listed = contents c.args.listed.now.texts.now in
    let are = ap (map together.plain_input) c.deref-4.ensures.value ∙ c.in_ok-inputs.ensures
    ∙ (λ i. inputs_of (map plain_input (c.deref.ensures.value i)) (contents c.args.listed.now.texts.now)) in
    let inputs = inputs_listed (c.args.cert.now ∷ c.args.out.now ∷ []) mix c.args.listed.now _ c.requires.listed are in
    let file = c.deref-2.result.now in
    let board = c.deref-3.result.now in
    let texts = three_with_third c.args.texts.now c.index-texts-0.result c.index-texts-1.result file board c.requires.texts c.index-texts-0.is c.index-texts-1.is c.deref-2.ensures.value c.deref-3.ensures.value in
    let fault = c.in-Err.fault in
    subst (λ (ts : List (List ℕ)). RejectsInputs (mix_command f b m c.args.out.now c.args.cert.now) (ts ++ listed) fault) texts
    (mix_rejected f b m c.args.out.now c.args.cert.now file board mix listed fault c.requires.listed.unbroken
    (subst (λ (ps : List WeightedInput). RejectsRuns board file ps fault) inputs c.in-Err.ensures.err))

pub returns-in_err-relinked-in-Ok-clause-err : goal.returns-in_err-relinked-in-Ok-clause-err
returns-in_err-relinked-in-Ok-clause-err g c =
    let p = err_from_is_err_and c.from_residual-in_err-relinked-in-Ok.result c.from_residual-in_err-relinked-in-Ok.ensures.1 in
    rw (p.1, p.2) (λ f b m. inl refl)

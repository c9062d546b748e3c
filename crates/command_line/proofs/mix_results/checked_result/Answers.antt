use Rattle.std.proofs.Common.{[], ◌++◌, ℕ, List, map, inl, refl, sym, subst, ap, ◌∙◌, string_bytes}
use Rattle.std.proofs.lemmas.Result.{err_from_is_err_and}
use Rattle.command_language.specs.Lines.{plain_input}
use Rattle.relinking.specs.MixOfRuns.{WeightedInput}
use Rattle.relinking.specs.MixOfRuns as together
use Rattle.command_language.specs.Command.{check_mix_command}
use Rattle.command_line.specs.Listing.{third}
use Rattle.command_line.specs.Measured.{measures_none}
use Rattle.command_line.specs.Meaning.{RejectsInputs, checks_mix}
use Rattle.command_line.specs.MixFile.{inputs_of, ChecksMixTo, RejectsCheckedRuns}
use Rattle.command_files.specs.Reading.{contents}
use Rattle.command_line.proofs.MixResults.{four_with_third, inputs_listed, some_listed, check_mix_rejected}
use Rattle.command_line.proofs.mix_results.checked_result.Goals as goal

pub check_mix_file-requires : goal.check_mix_file-requires
check_mix_file-requires g c =
    let are = ap (map together.plain_input) c.deref-4.ensures.value ∙ c.in_ok-inputs.ensures
    ∙ (λ i. inputs_of (map plain_input (c.deref.ensures.value i)) (contents c.args.listed.now.texts.now)) in
    some_listed [] (third (contents c.args.texts.now)) c.args.listed.now _ c.requires.listed are

pub returns-in-Ok-clause-ok : goal.returns-in-Ok-clause-ok
returns-in-Ok-clause-ok g c f b m k =
    let mix = third (contents c.args.texts.now) in
    let listed = contents c.args.listed.now.texts.now in
    let are = ap (map together.plain_input) c.deref-4.ensures.value ∙ c.in_ok-inputs.ensures
    ∙ (λ i. inputs_of (map plain_input (c.deref.ensures.value i)) (contents c.args.listed.now.texts.now)) in
    let inputs = inputs_listed [] mix c.args.listed.now _ c.requires.listed are in
    let file = c.deref-2.result.now in
    let board = c.deref-3.result.now in
    let cert = c.deref-5.result.now in
    let texts = four_with_third c.args.texts.now c.index-texts-0.result c.index-texts-1.result c.index-texts-3.result file board cert c.requires.texts c.index-texts-0.is c.index-texts-1.is c.index-texts-3.is c.deref-2.ensures.value c.deref-3.ensures.value c.deref-5.ensures.value in
    let is = subst (λ (ps : List WeightedInput). ChecksMixTo file board ps cert (string_bytes c.in-Ok.checked.report)) inputs c.in-Ok.ensures.ok in
    let made = c.in_ok-printed-in-Ok.ensures in
    record {
      outputs = [];
      yields = rw (made.text, c.plain-text.ensures, c.into_bytes.ensures.value) (checks_mix f b m k file board mix cert listed refl (ap (λ ts. ts ++ listed) (sym texts)) refl c.requires.listed.unbroken is);
      prepared_outputs = made.outputs;
      print_fault = made.print_fault;
      measured = measures_none refl made.measured;
    }

pub returns-clause-err : goal.returns-clause-err
returns-clause-err g c f b m k =
    let mix = third (contents c.args.texts.now) in
    let listed = contents c.args.listed.now.texts.now in
    let are = ap (map together.plain_input) c.deref-4.ensures.value ∙ c.in_ok-inputs.ensures
    ∙ (λ i. inputs_of (map plain_input (c.deref.ensures.value i)) (contents c.args.listed.now.texts.now)) in
    let inputs = inputs_listed [] mix c.args.listed.now _ c.requires.listed are in
    let file = c.deref-2.result.now in
    let board = c.deref-3.result.now in
    let cert = c.deref-5.result.now in
    let texts = four_with_third c.args.texts.now c.index-texts-0.result c.index-texts-1.result c.index-texts-3.result file board cert c.requires.texts c.index-texts-0.is c.index-texts-1.is c.index-texts-3.is c.deref-2.ensures.value c.deref-3.ensures.value c.deref-5.ensures.value in
    let fault = c.in-Err.fault in
    subst (λ (ts : List (List ℕ)). RejectsInputs (check_mix_command f b m k) (ts ++ listed) fault) texts
    (check_mix_rejected f b m k file board mix cert listed fault c.requires.listed.unbroken
    (subst (λ (ps : List WeightedInput). RejectsCheckedRuns board file ps cert fault) inputs c.in-Err.ensures.err))

pub returns-in_err-printed-in-Ok-clause-err : goal.returns-in_err-printed-in-Ok-clause-err
returns-in_err-printed-in-Ok-clause-err g c =
    let p = err_from_is_err_and c.from_residual-in_err-printed-in-Ok.result c.from_residual-in_err-printed-in-Ok.ensures.1 in
    rw (p.1, p.2) (λ f b m k. inl refl)

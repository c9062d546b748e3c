use Rattle.std.proofs.Common.{◌≡◌, ◌∷◌, [], List, ℕ, sym, ap, subst, length, ◌∙◌, arith}
use Rattle.std.proofs.lemmas.List.{length-map}
use Rattle.command_line.specs.Listing.{listed_names, RejectsLines}
use Rattle.command_files.specs.Reading.{contents}
use Rattle.command_line.proofs.MixResults.{third_text, mix_list_rejected, check_mix_list_rejected}
use Rattle.command_line.proofs.mix_inputs.listed_names.Goals as goal

pub returns-in-Ok-clause-ok : goal.returns-in-Ok-clause-ok
returns-in-Ok-clause-ok c =
    let size : length c.args.texts.now ≡ 3 = rw c.in-Mix.is at c.requires in
    let text = third_text c.args.texts.now c.index-texts-2.result c.deref.result.now (omega (arith, size)) c.index-texts-2.is c.deref.ensures.value in
    rw c.in-Mix.is (c.in-Ok.ensures.ok ∙ ap (listed_names (c.in-Mix.cert.now ∷ c.in-Mix.out.now ∷ [])) (sym text))

pub returns-in-Err-clause-err : goal.returns-in-Err-clause-err
returns-in-Err-clause-err c =
    let size : length c.args.texts.now ≡ 3 = rw c.in-Mix.is at c.requires in
    let text = third_text c.args.texts.now c.index-texts-2.result c.deref.result.now (omega (arith, size)) c.index-texts-2.is c.deref.ensures.value in
    let written = c.in-Mix.cert.now ∷ c.in-Mix.out.now ∷ [] in
    rw c.in-Mix.is
    (mix_list_rejected c.in-Mix.file.now c.in-Mix.board.now c.in-Mix.mix.now c.in-Mix.out.now c.in-Mix.cert.now (contents c.args.texts.now) c.in-Err.fault (length-map c.args.texts.now (λ t. t.items) ∙ size)
    (subst (λ (t : List ℕ). RejectsLines written t c.in-Err.fault) (sym text) c.in-Err.ensures.err))

pub returns-in-Ok-names_in-clause-ok : goal.returns-in-Ok-names_in-clause-ok
returns-in-Ok-names_in-clause-ok c =
    let size : length c.args.texts.now ≡ 4 = rw c.in-CheckMix.is at c.requires in
    let text = third_text c.args.texts.now c.index-texts-2-in-CheckMix.result c.deref-in-CheckMix.result.now (omega (arith, size)) c.index-texts-2-in-CheckMix.is c.deref-in-CheckMix.ensures.value in
    rw c.in-CheckMix.is (c.in-Ok-names_in.ensures.ok ∙ ap (listed_names []) (sym text))

pub returns-in-Err-names_in-clause-err : goal.returns-in-Err-names_in-clause-err
returns-in-Err-names_in-clause-err c =
    let size : length c.args.texts.now ≡ 4 = rw c.in-CheckMix.is at c.requires in
    let text = third_text c.args.texts.now c.index-texts-2-in-CheckMix.result c.deref-in-CheckMix.result.now (omega (arith, size)) c.index-texts-2-in-CheckMix.is c.deref-in-CheckMix.ensures.value in
    rw c.in-CheckMix.is
    (check_mix_list_rejected c.in-CheckMix.file.now c.in-CheckMix.board.now c.in-CheckMix.mix.now c.in-CheckMix.cert.now (contents c.args.texts.now) c.in-Err-names_in.fault (length-map c.args.texts.now (λ t. t.items) ∙ size)
    (subst (λ (t : List ℕ). RejectsLines [] t c.in-Err-names_in.fault) (sym text) c.in-Err-names_in.ensures.err))
